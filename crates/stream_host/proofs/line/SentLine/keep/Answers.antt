use Rattle.std.proofs.Common.{◌∙◌, arith}
use Rattle.stream_host.proofs.Kept.{room_for, no_room, not_long, is_long}
use Rattle.stream_host.proofs.line.SentLine.keep.Goals as goal

pub returns-then-len-lt127-clause-kept : goal.returns-then-len-lt127-clause-kept
returns-then-len-lt127-clause-kept c = λ all is.
    c.push.ensures.items ∙ (room_for 127 c.args.self.now.kept.items all c.args.byte is (omega (arith, c.if-len-lt127.true, c.len.ensures.value))).0

pub returns-then-len-lt127-clause-long : goal.returns-then-len-lt127-clause-long
returns-then-len-lt127-clause-long c = λ all is.
    not_long c.args.self.now.long 127 c.args.self.now.kept.items all c.args.byte is (omega (arith, c.if-len-lt127.true, c.len.ensures.value))

pub returns-else-len-lt127-clause-kept : goal.returns-else-len-lt127-clause-kept
returns-else-len-lt127-clause-kept c = λ all is.
    (no_room 127 c.args.self.now.kept.items all c.args.byte is (omega (arith, c.if-len-lt127.false, c.len.ensures.value))).0

pub returns-else-len-lt127-clause-long : goal.returns-else-len-lt127-clause-long
returns-else-len-lt127-clause-long c = λ all is.
    is_long c.args.self.now.long 127 c.args.self.now.kept.items all c.args.byte is (omega (arith, c.if-len-lt127.false, c.len.ensures.value))
