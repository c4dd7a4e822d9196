use Rattle.std.proofs.Common.{sym, arith}
use Rattle.line_words.proofs.Places.{first_is, none_is}
use Rattle.line_words.proofs.line.Line.read.Goals as goal

pub loop-place-init : goal.loop-place-init
loop-place-init c = record { index = c.new-index.ensures c.args.words.now; passed = λ k h. absurd (omega arith) }

pub returns-in-Some-clause-refusal : goal.returns-in-Some-clause-refusal
returns-in-Some-clause-refusal c =
    first_is c.args.words.now c.loop-place.place c.in-Some.code c.loop-place-test.true c.loop-place.invariant.passed (sym c.in-Some.ensures.refusal)

pub returns-clause-none : goal.returns-clause-none
returns-clause-none c = none_is c.args.words.now (λ i h. c.loop-place.invariant.passed i (omega (arith, h, c.loop-place-test.false)))
