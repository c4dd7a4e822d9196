use Rattle.std.proofs.Common.{ℕ, subst, sym}
use Rattle.std.specs.declared.option.Option.{Option}
use Rattle.run_audit.proofs.Under.{reset_untold}
use Rattle.run_audit.proofs.ResetSteps.{MakesReset}
use Rattle.run_audit.proofs.auditor.Auditor.make_reset.Goals as goal

pub returns-in-None-clause-so_far : goal.returns-in-None-clause-so_far
returns-in-None-clause-so_far c = λ lines few job console steps jt ct st u.
    reset_untold c.args.self.now c.pass_reset.new.self _ job console steps jt ct st c.pass_reset.ensures.sending c.pass_reset.ensures.listening c.pass_reset.ensures.recorded c.pass_reset.ensures.broken u

pub returns-in-None-clause-stands : goal.returns-in-None-clause-stands
returns-in-None-clause-stands c =
    subst (λ (m : Option ℕ). MakesReset c.args.self.now c.pass_reset.new.self m c.args.dropped c.args.alarm c.pass_reset.result) (sym c.in-None.is)
    (λ later behind calm cause resets same lines count last job console steps. c.pass_reset.ensures.stands later calm cause resets same lines count last job console steps)

pub returns-in-Some-clause-stands : goal.returns-in-Some-clause-stands
returns-in-Some-clause-stands c =
    subst (λ (m : Option ℕ). MakesReset c.args.self.now c.take_reset.new.self m c.args.dropped c.args.alarm c.take_reset.result) (sym c.in-Some.is)
    (λ later behind calm cause resets same lines count last job console steps. c.take_reset.ensures.stands later behind calm cause resets same lines count last job console steps)
