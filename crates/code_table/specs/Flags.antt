-- The flags that realtime bytes raise.
use Rattle.std.specs.Prelude.{ℕ, ◌-◌, ◌^◌, Bool, false, ◌==◌, nat_lt, if◌then◌else◌, List, [], ◌∷◌, codes, option_map}
use Rattle.std.specs.Option.{option_map_or}
use Rattle.std.specs.declared.option.Option.{Option}
use Rattle.std.specs.Int.RustNames.{bit_and}
use Rattle.code_table.specs.declared.flags.Exec.{Exec}
use Rattle.code_table.specs.declared.flags.Ovr.{Ovr}
use Rattle.code_table.specs.Tables.{value_of, rows_of_bytes}

-- the bits of a set of flags, as a number
abbrev pub exec_bits : Exec → ℕ
exec_bits flags = flags.0

abbrev pub ovr_bits : Ovr → ℕ
ovr_bits flags = flags.0

-- a flag: a bit of the word of requests, or one of the word of overrides
pub data Flag : Type 0 where
  in_exec : ℕ → Flag
  in_ovr : ℕ → Flag

-- the flag of a row's number
abbrev pub flag_at : ℕ → Flag
flag_at n = if nat_lt n 16 then in_exec n else in_ovr (n - 16)

-- the flag that a byte raises; a byte without a row raises none
abbrev pub flag_of : ℕ → Option Flag
flag_of byte = option_map flag_at (value_of byte rows_of_bytes)

-- the set, in its word, of one flag
abbrev pub set_of : Flag → ℕ
set_of (in_exec bit) = 2 ^ bit
set_of (in_ovr bit) = 2 ^ bit

-- the set of the flag that a byte raises, if it raises one
abbrev pub raised_by : ℕ → ℕ
raised_by byte = option_map_or set_of (flag_of byte) 0

-- whether a word of flags holds the one that a byte raises there
abbrev pub has_flag : ℕ → ℕ → Bool
has_flag flags byte = option_map_or (λ flag. bit_and flags (set_of flag) == set_of flag) (flag_of byte) false

-- the names of the requests
abbrev pub exec_flags : List (List ℕ × ℕ)
exec_flags =
    (codes "REPORT", raised_by 0x3f)
    ∷ (codes "HOLD", raised_by 0x21)
    ∷ (codes "START", raised_by 0x7e)
    ∷ (codes "RESET", raised_by 0x18)
    ∷ (codes "CANCEL", raised_by 0x85)
    ∷ []

-- the names of the changes of overrides
abbrev pub ovr_flags : List (List ℕ × ℕ)
ovr_flags =
    (codes "FEED_100", raised_by 0x90)
    ∷ (codes "FEED_UP_10", raised_by 0x91)
    ∷ (codes "FEED_DOWN_10", raised_by 0x92)
    ∷ (codes "FEED_UP_1", raised_by 0x93)
    ∷ (codes "FEED_DOWN_1", raised_by 0x94)
    ∷ (codes "RAPID_100", raised_by 0x95)
    ∷ (codes "RAPID_50", raised_by 0x96)
    ∷ (codes "RAPID_25", raised_by 0x97)
    ∷ (codes "SPINDLE_100", raised_by 0x99)
    ∷ (codes "SPINDLE_UP_10", raised_by 0x9a)
    ∷ (codes "SPINDLE_DOWN_10", raised_by 0x9b)
    ∷ (codes "SPINDLE_UP_1", raised_by 0x9c)
    ∷ (codes "SPINDLE_DOWN_1", raised_by 0x9d)
    ∷ []
