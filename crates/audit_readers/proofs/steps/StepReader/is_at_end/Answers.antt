use Rattle.std.proofs.Common.{◌≡◌, refl, ap, subst, length, arith}
use Rattle.std.proofs.lemmas.List.{nil_from_length}
use Rattle.std.proofs.lemmas.Bool.Decides.{nat_tests}
use Rattle.audit_readers.specs.Steps.{StepsRead, IsWhereItWas}
use Rattle.audit_readers.proofs.Stepping.{none_waits}
use Rattle.audit_readers.proofs.steps.StepReader.is_at_end.Goals as goal

pub returns : goal.returns
returns g c =
    let now : StepsRead = record { window = c.fill_up.new.self; form = c.self.inside.form; last = c.self.inside.last; place = c.self.inside.place } in
    let filled = c.in_ok-fill_up.ensures.filled in
    let length_is : length c.waiting.result.now ≡ length c.fill_up.new.self.waiting = ap length c.waiting.ensures in (
      subst (λ (s : StepsRead). IsWhereItWas s now (g.S.Source.state c.args.source.now) (g.S.Source.state c.fill_up.new.source)) c.self.view_is
          (record { stays = filled.stays; place = refl; last = refl; form = refl }),
      λ text e.
          let waits = none_waits c.self.inside.window c.fill_up.new.self (g.S.Source.state c.args.source.now) (g.S.Source.state c.fill_up.new.source) text filled e in (
            λ is. let none : length c.fill_up.new.self.waiting ≡ 0 = grind (arith, nat_tests) in waits.0 (nil_from_length c.fill_up.new.self.waiting none),
            λ is. let none : length c.fill_up.new.self.waiting ≡ 0 = ap length (waits.1 is) in grind (arith, nat_tests),
          ),
      filled.same,
    )
