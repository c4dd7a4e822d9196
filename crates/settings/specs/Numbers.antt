-- The settings by their numbers.
use Rattle.std.specs.Prelude.{ℕ, ◌+◌, ◌/◌, ◌≤◌, Bool, true, false, not, ◌&&◌, ◌==◌, nat_le, if◌then◌else◌, List, [], ◌∷◌, ◌++◌, map, find, is_some, pos, int_lt, nat_abs}
use Rattle.std.specs.Option.{option_map_or}
use Rattle.std.specs.declared.option.Option.{Option}
use Rattle.units.specs.Truths.{one_if}
use Rattle.units.specs.declared.Decimal.{Decimal}
use Rattle.units.specs.declared.Per3.{Per3}
use Rattle.units.specs.Limits.{OnEachAxis, IsLimits}
use Rattle.code_table.specs.Refusals.{first_refusal}
use Rattle.code_table.specs.Tables.{Row}
use Rattle.code_table.specs.declared.Code.{Code}
use Rattle.settings.specs.declared.Keeping.{Keeping}
use Rattle.settings.specs.declared.Keeping.TheVariants.{Whole, Switch, Thousandths}
use Rattle.settings.specs.declared.Settings.{Settings}

-- a setting: its number, how its value is kept, its default, the lowest and the highest value that it takes, and the
-- value that settings have for it; a value that is kept in thousandths is given in these
pub record Setting : Type 0 where
  pub number : ℕ
  pub keeping : Keeping
  pub default : ℕ
  pub low : ℕ
  pub high : ℕ
  pub value : Settings → ℕ

abbrev pub setting : ℕ → Keeping → ℕ → ℕ → ℕ → (Settings → ℕ) → Setting
setting n keeping default low high value = record { number = n; keeping = keeping; default = default; low = low; high = high; value = value }

-- the settings of X, Y and Z, in thousandths
abbrev pub on_axes : ℕ → ℕ → ℕ → ℕ → (Settings → Per3) → List Setting
on_axes n default low high values =
    setting n Thousandths default low high (λ s. (values s).x)
    ∷ setting (n + 1) Thousandths default low high (λ s. (values s).y)
    ∷ setting (n + 2) Thousandths default low high (λ s. (values s).z)
    ∷ []

-- the settings in the order of their numbers
abbrev pub rows : List Setting
rows =
    -- report mask
    setting 10 Whole 1 0 255 (λ s. s.report)
    -- junction deviation, mm
    ∷ setting 11 Thousandths 10 0 10000 (λ s. s.deviation)
    -- soft limits
    ∷ setting 20 Switch 0 0 255 (λ s. one_if s.soft)
    -- steps per mm
    ∷ on_axes 100 250000 1000 10000000 (λ s. s.limits.per_mm)
    -- greatest rate, mm per minute
    ++ on_axes 110 500000 1000 1000000000 (λ s. s.limits.rate)
    -- acceleration, mm per s²
    ++ on_axes 120 10000 1000 1000000000 (λ s. s.limits.accel)
    -- travel, mm
    ++ on_axes 130 200000 1000 10000000 (λ s. s.travel)

-- the setting with a number
abbrev pub row_of : ℕ → Option Setting
row_of n = find (λ row. n == row.number) rows

-- the number of each setting, with its value
abbrev pub values : Settings → List Row
values s = map (λ row. (row.number, row.value s)) rows

abbrev pub defaults : List Row
defaults = map (λ row. (row.number, row.default)) rows

-- what counts of a value: its whole part, or three decimals
abbrev pub kept : Keeping → Decimal → ℕ
kept Whole v = nat_abs v.micro / 1000000
kept Switch v = nat_abs v.micro / 1000000
kept Thousandths v = nat_abs v.micro / 1000

-- whether the whole part counts alone
abbrev pub is_kept_whole : Keeping → Bool
is_kept_whole Whole = true
is_kept_whole Switch = true
is_kept_whole Thousandths = false

-- the setting with a number is a whole number
abbrev pub is_whole : ℕ → Bool
is_whole n = option_map_or (λ row. is_kept_whole row.keeping) (row_of n) false

-- what the setting is then: a switch is on if the number isn't 0
abbrev pub shown : Keeping → ℕ → ℕ
shown Whole n = n
shown Switch n = if n == 0 then 0 else 1
shown Thousandths n = n

abbrev pub takes : Setting → Decimal → Bool
takes row v = nat_le row.low (kept row.keeping v) && nat_le (kept row.keeping v) row.high

-- the first that holds: the value is negative, no setting has the number, or it doesn't take the value
abbrev pub set_refusal : ℕ → Decimal → Option Code
set_refusal n v = first_refusal (
    (4, int_lt v.micro (pos 0))
    ∷ (3, not (is_some (row_of n)))
    ∷ (3, not (option_map_or (λ row. takes row v) (row_of n) false))
    ∷ [])

-- what the setting with a number has after it took a value
abbrev pub value_set : ℕ → Decimal → ℕ
value_set n v = option_map_or (λ row. shown row.keeping (kept row.keeping v)) (row_of n) 0

-- the setting with a number has this value; each other has what it had
abbrev pub with_value : ℕ → ℕ → Settings → List Row
with_value n value s = map (λ row. (row.number, if n == row.number then value else row.value s)) rows

-- whether a setting can have a value
abbrev pub can_have : Setting → ℕ → Bool
can_have row value = nat_le row.low value && nat_le value row.high && (shown row.keeping value == value)

abbrev pub can_have_at : ℕ → ℕ → Bool
can_have_at n value = option_map_or (λ row. can_have row value) (row_of n) false

-- a junction deviation, in µm
abbrev pub IsDeviation : ℕ → Type 0
IsDeviation deviation = deviation ≤ 10000

-- a travel, in µm
abbrev pub IsTravel : ℕ → Type 0
IsTravel travel = (1000 ≤ travel) × (travel ≤ 10000000)

-- each value is in its range
pub record IsSettings (s : Settings) : Type 0 where
  pub deviation : IsDeviation s.deviation
  pub limits : IsLimits s.limits
  pub travel : OnEachAxis IsTravel s.travel
