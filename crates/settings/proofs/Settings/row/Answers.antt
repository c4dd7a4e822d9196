use Rattle.std.proofs.Common.{◌≡◌, Some, slice_get, slice_index_or, sym, subst}
use Rattle.std.proofs.lemmas.Option.{slice_get-get_or}
use Rattle.settings.specs.Numbers.{values}
use Rattle.settings.proofs.Settings.row.Goals as goal

pub returns : goal.returns
returns c =
    let all = values c.args.self.now in
    subst (λ rows. slice_get all c.args.place ≡ Some (slice_index_or rows c.args.place (0, 0))) (sym c.rows.ensures) (slice_get-get_or all c.args.place (0, 0) c.requires)
