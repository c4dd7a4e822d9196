use Rattle.std.proofs.Common.{◌≡◌, true, arith}
use Rattle.std.proofs.lemmas.List.Elements.{recursion_from_All, All-from_recursion}
use Rattle.settings.specs.Numbers.{Setting, rows, can_have}
use Rattle.settings.proofs.Ranges.{settings_from_rows, rows_from_settings}
use Rattle.settings.proofs.laws.ranges_are_those_of_the_rows.Goals as goal

pub returns : goal.returns
returns c s small =
    ((λ h. All-from_recursion (λ (row : Setting). can_have row (row.value s) ≡ true) rows (rows_from_settings s (omega arith) h)), (λ h. settings_from_rows s (recursion_from_All (λ (row : Setting). can_have row (row.value s) ≡ true) rows h)))
