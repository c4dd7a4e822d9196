use Rattle.std.proofs.Common.{◌∙◌, rules, w8, FitsSigned, to_z-of_z}
use Rattle.smooth_step.proofs.Fine.{goes_over, stays_under, steps_over, rests_under}
use Rattle.smooth_step.proofs.axis.Axis.next.Goals as goal

pub returns-then-part-self-clause-bit : goal.returns-then-part-self-clause-bit
returns-then-part-self-clause-bit c = λ d t is.
    rests_under c.args.self.now.left c.args.self.now.count c.args.n t c.args.width d is.count is.counter c.requires.some c.if-part-self.true

pub returns-then-part-self-clause-next : goal.returns-then-part-self-clause-next
returns-then-part-self-clause-next c = λ d t is. record {
  count = is.count;
  step = is.step;
  counter = stays_under c.args.self.now.left c.args.self.now.count c.args.n t c.args.width is.counter c.requires.some c.if-part-self.true;
}

pub returns-clause-bit : goal.returns-clause-bit
returns-clause-bit c = λ d t is.
    let fits : FitsSigned w8 c.args.self.now.step = search rules in
    to_z-of_z fits
    ∙ steps_over c.args.self.now.left c.args.self.now.count c.args.n t c.args.width d c.args.self.now.step c.requires.width is.count is.step is.counter c.if-part-self.false

pub returns-clause-next : goal.returns-clause-next
returns-clause-next c = λ d t is. record {
  count = is.count;
  step = is.step;
  counter = goes_over c.args.self.now.left c.args.self.now.count c.args.n t c.args.width c.requires.width is.counter c.if-part-self.false;
}
