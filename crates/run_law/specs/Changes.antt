-- Changes of overrides: each is by a word of flags, and each flag of it by a byte.
use Rattle.std.specs.Prelude.{◌≡◌, ℕ, ◌⊎◌, Bool, true, false, List, [], ◌∷◌, Some, None}
use Rattle.std.specs.Int.{bit_at}
use Rattle.std.specs.List.{list_any}
use Rattle.std.specs.declared.option.Option.{Option}
use Rattle.code_table.specs.Flags.{ovr_bits}
use Rattle.code_table.specs.declared.flags.Ovr.{Ovr}
use Rattle.overrides.specs.declared.Overrides.{Overrides}
use Rattle.overrides.specs.Percents.{taken}
use Rattle.planner_runs.specs.declared.Action.{Action}
use Rattle.planner_runs.specs.declared.Action.TheVariants.{Override}
use Rattle.planner_runs.specs.Runs.{normal_overrides}
use Rattle.realtime_flags.specs.Bits.{is_flag}
use Rattle.realtime_flags.specs.Bytes.{flag_of_byte}
use Rattle.realtime_flags.specs.declared.words.Flag.{Flag}
use Rattle.realtime_flags.specs.declared.words.Flag.TheVariants as flags
use Rattle.board_journal.specs.Ports.{PortStep, BoardLog}
use Rattle.board_journal.specs.Ports.PortStep.{took_ovr}

-- a byte raises the flag at this place of the word of changes
abbrev pub is_change_at : ℕ → Option Flag → Bool
is_change_at place None = false
is_change_at place (Some f) = is_flag (flags.Override place) f

abbrev pub raises_change : ℕ → ℕ → Bool
raises_change place b = is_change_at place (flag_of_byte b)

-- each flag of a word is one that some of these bytes raises
abbrev pub IsAskedIn : List ℕ → Ovr → Type 0
IsAskedIn bytes word = (place : ℕ) → bit_at (ovr_bits word) place ≡ 1 → list_any (raises_change place) bytes ≡ true

-- it is one of these
abbrev pub IsAmong : List Ovr → Ovr → Type 0
IsAmong [] word = ⊥
IsAmong (w ∷ words) word = (word ≡ w) ⊎ IsAmong words word

-- each of these words is asked for by these bytes
abbrev pub AreAskedIn : List ℕ → List Ovr → Type 0
AreAskedIn bytes words = (word : Ovr) → IsAmong words word → IsAskedIn bytes word

-- overrides become others: each is set to 100 percent, or they come to that by one of some words
abbrev pub IsChange : (Ovr → Type 0) → Overrides → Overrides → Type 0
IsChange May before after = (after ≡ normal_overrides) ⊎ ((word : Ovr) × May word × (after ≡ taken before word))

-- each time that a plan is made for other overrides, they change so, from these on
abbrev pub AreChanges : (Ovr → Type 0) → Overrides → List Action → Type 0
AreChanges May o [] = Unit {0}
AreChanges May o (Override next ∷ rest) = IsChange May o next × AreChanges May next rest
AreChanges May o (_ ∷ rest) = AreChanges May o rest

-- ---- of a board

abbrev pub words_at : PortStep → List Ovr → List Ovr
words_at (took_ovr word) words = word ∷ words
words_at e words = words

-- the words of changes that it took
abbrev pub words_in : BoardLog → List Ovr
words_in [] = []
words_in (e ∷ l) = words_at e (words_in l)
