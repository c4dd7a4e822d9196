use Rattle.std.proofs.Common.{[], refl, sym, None, Some}
use Rattle.run_rules.specs.declared.State.{State}
use Rattle.run_rules.specs.Outcomes.{refused, told}
use Rattle.line_interpreter.specs.Desks.{standing}
use Rattle.line_interpreter.proofs.Judging.{by_setting, accepted_begun}
use Rattle.line_interpreter.proofs.desk.Desk.set.Goals as goal

pub returns-in-Ok-clause-begun : goal.returns-in-Ok-clause-begun
returns-in-Ok-clause-begun c = λ since.
    let b = standing c.args.self.now since in
    let next : State = record { parser = c.args.self.now.state.parser; settings = c.apply_setting.new.settings } in (
      told next [],
      by_setting b _ _ _ None (told next []) (sym c.in-Ok.ensures.passed) (record { outcome = refl; settings = c.in-Ok.ensures.values }),
      accepted_begun c.args.self.now _ next c.begin.ensures.same,
    )

pub returns-in-Err-clause-begun : goal.returns-in-Err-clause-begun
returns-in-Err-clause-begun c = λ since.
    let b = standing c.args.self.now since in (
      refused b c.in-Err.code.0,
      by_setting b _ _ _ (Some c.in-Err.code) _ (sym c.in-Err.ensures.refused) refl,
      rw c.in-Err.ensures.unchanged at (c.refuse.ensures.begun since),
    )
