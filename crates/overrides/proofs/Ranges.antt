-- Percentages stay in their ranges.
use Rattle.std.proofs.Common.{ℕ, ◌≤◌, Bool, true, false, List, [], ◌∷◌, arith}
use Rattle.std.specs.List.{fold}
use Rattle.code_table.specs.declared.flags.Ovr.{Ovr}
use Rattle.overrides.specs.declared.Overrides.{Overrides}
use Rattle.overrides.specs.Percents.{IsOverrides, rapid_after, taken}

rapid_within : (present : ℕ) (whole half quarter : Bool) → 25 ≤ present → present ≤ 100 → (25 ≤ rapid_after present whole half quarter) × (rapid_after present whole half quarter ≤ 100)
rapid_within present whole half true low high = (omega arith, omega arith)
rapid_within present whole true false low high = (omega arith, omega arith)
rapid_within present true false false low high = (omega arith, omega arith)
rapid_within present false false false low high = (low, high)

pub taken_within : (o : Overrides) (flags : Ovr) → IsOverrides o → IsOverrides (taken o flags)
unfolding taken
taken_within o flags is =
    let rapid = rapid_within o.rapid _ _ _ is.rapid_low is.rapid_high in
    record { feed_low = omega arith; feed_high = omega arith; rapid_low = rapid.0; rapid_high = rapid.1; spindle_low = omega arith; spindle_high = omega arith }

pub all_taken_within : (o : Overrides) (words : List Ovr) → IsOverrides o → IsOverrides (fold taken o words)
all_taken_within o [] is = is
all_taken_within o (flags ∷ words) is = all_taken_within (taken o flags) words (taken_within o flags is)
