use Rattle.std.proofs.Common.{◌+◌, take, ap, ◌∙◌, arith}
use Rattle.gcode_words.proofs.Placing.{over_another, behind_last}
use Rattle.gcode_words.proofs.put.Goals as goal

pub returns-then-place-len-clause-front : goal.returns-then-place-len-clause-front
returns-then-place-len-clause-front c =
    let there = c.if-place-len.true in
    let many = c.len.ensures.value in
    over_another c.args.words.now.items c.deref_mut.result.now c.args.place c.args.word c.deref_mut.ensures.value (omega (arith, there, many))

pub returns-else-place-len-clause-front : goal.returns-else-place-len-clause-front
returns-else-place-len-clause-front c =
    let behind = c.if-place-len.false in
    let many = c.len.ensures.value in
    ap (take (c.args.place + 1)) c.push.ensures.items
    ∙ behind_last c.args.words.now.items c.args.place c.args.word (omega (arith, behind, many, c.requires.within))
