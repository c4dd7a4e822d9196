use Rattle.std.proofs.Common.{rules, ◌≡◌, map, IfOk, subst, sym}
use Rattle.std.specs.String.{string_bytes}
use Rattle.command_line.specs.Command.{Refuses}
use Rattle.grbl_app.specs.Ends.{HasNotBegun}
use Rattle.grbl_app.specs.declared.Status.TheVariants.{Usage}
use Rattle.grbl.proofs.run.Goals as goal

pub returns-in-Ok-as_strs-clause-refused : goal.returns-in-Ok-as_strs-clause-refused
returns-in-Ok-as_strs-clause-refused g c =
    let same : map (λ w. w.now) c.as_slice-in-Ok-as_strs.result.now ≡ map (λ w. string_bytes w) c.in-Ok.owned.items = search rules in
    subst (λ words. IfOk words (λ owned. Refuses (map (λ w. string_bytes w) owned.items) → HasNotBegun c.run_grbl.result)) (sym c.in-Ok.is)
    (λ refuses. c.run_grbl.ensures.refused (subst Refuses (sym same) refuses))

pub returns-in-Ok-as_strs-clause-usage : goal.returns-in-Ok-as_strs-clause-usage
returns-in-Ok-as_strs-clause-usage g c =
    let same : map (λ w. w.now) c.as_slice-in-Ok-as_strs.result.now ≡ map (λ w. string_bytes w) c.in-Ok.owned.items = search rules in
    subst (λ words. IfOk words (λ owned. c.run_grbl.result ≡ Usage → Refuses (map (λ w. string_bytes w) owned.items))) (sym c.in-Ok.is)
    (λ usage. subst Refuses same (c.run_grbl.ensures.usage usage))
