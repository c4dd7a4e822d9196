use Rattle.std.proofs.Common.{◌≡◌, length, decimal, ap, arith, rules}
use Rattle.std.proofs.lemmas.Fmt.{decimal_digit}
use Rattle.step_record.proofs.Appended.{digit_behind}
use Rattle.step_record.proofs.writing.push_count.Goals as goal

pub push-requires-then-n-lt10 : goal.push-requires-then-n-lt10
push-requires-then-n-lt10 g c = let one : length (decimal c.args.n) ≡ 1 = ap length (decimal_digit c.args.n c.if-n-lt10.true) in (search rules, omega (arith, one, c.push.ensures.len))

pub returns-then-n-lt10-clause-text : goal.returns-then-n-lt10-clause-text
returns-then-n-lt10-clause-text g c = digit_behind _ _ _ c.args.n _ c.if-n-lt10.true (omega arith) c.push.ensures.items c.push-then-n-lt10.ensures.items

pub returns-then-n-lt10-clause-room : goal.returns-then-n-lt10-clause-room
returns-then-n-lt10-clause-room g c = let one : length (decimal c.args.n) ≡ 1 = ap length (decimal_digit c.args.n c.if-n-lt10.true) in omega (arith, one, c.push.ensures.len, c.push-then-n-lt10.ensures.len)
