use Rattle.std.proofs.Common.{ℕ, subst}
use Rattle.reset_work.specs.Tapes.{IsTape}
use Rattle.reset_work.proofs.Taped.{not_empty}
use Rattle.reset_work.proofs.tests.TapeBoardPort.byte.Goals as goal

pub returns-then-self-eq0-clause-marked : goal.returns-then-self-eq0-clause-marked
returns-then-self-eq0-clause-marked c rest l t past = let s = c.args.self.now in not_empty 3 s.ticks s.done l (subst (λ (n : ℕ). IsTape 3 n s.ticks s.done l) c.if-self-eq0.true t) past
