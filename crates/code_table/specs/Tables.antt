-- Tables of rows, and the four that the program has.
use Rattle.std.specs.Prelude.{◌≡◌, ℕ, ◌+◌, ◌*◌, Bool, true, ◌&&◌, nat_eq, nat_lt, List, [], ◌∷◌, length, zip}
use Rattle.std.specs.declared.option.Option.{Option}
use Rattle.std.specs.List.Sorted.{IsPermutation, IsNonDecreasing}
use Rattle.std.specs.Map.{lookup}

-- a key and its value
abbrev pub Row : Type 0
Row = ℕ × ℕ

-- the value of the row with a key
abbrev pub value_of : ℕ → List Row → Option ℕ
value_of key rows = lookup (nat_eq key) rows

-- both have the same keys, and the same value for each
abbrev pub AnswersAs : List Row → List Row → Type 0
AnswersAs rows others = (key : ℕ) → value_of key rows ≡ value_of key others

-- each key is below the next
abbrev pub is_below_first : ℕ → List ℕ → Bool
is_below_first key [] = true
is_below_first key (next ∷ keys) = nat_lt key next

abbrev pub rises : List ℕ → Bool
rises [] = true
rises (key ∷ keys) = is_below_first key keys && rises keys

-- these columns hold the same rows, in the order of their keys
pub record IsReordered (rows : List Row) (keys values : List ℕ) : Type 0 where
  pub same_rows : IsPermutation rows (zip keys values)
  pub in_order : IsNonDecreasing keys
  pub whole : length values ≡ length keys

-- the groups of the G codes, in which a line may have one code each
abbrev pub no_mode_group : ℕ
no_mode_group = 0

abbrev pub motion_group : ℕ
motion_group = 1

abbrev pub plane_group : ℕ
plane_group = 2

abbrev pub distance_group : ℕ
distance_group = 3

abbrev pub arc_distance_group : ℕ
arc_distance_group = 4

abbrev pub feed_mode_group : ℕ
feed_mode_group = 5

abbrev pub units_group : ℕ
units_group = 6

abbrev pub cutter_group : ℕ
cutter_group = 7

abbrev pub tool_length_group : ℕ
tool_length_group = 8

abbrev pub system_group : ℕ
system_group = 12

abbrev pub path_group : ℕ
path_group = 13

-- the groups of the M codes
abbrev pub flow_group : ℕ
flow_group = 20

abbrev pub spindle_group : ℕ
spindle_group = 21

abbrev pub coolant_group : ℕ
coolant_group = 22

-- the key of a code is ten times its number: code 28 1 is G28.1
abbrev pub code : ℕ → ℕ → ℕ
code whole tenth = 10 * whole + tenth

-- the G codes, each with its group
abbrev pub g_rows : List Row
g_rows =
    (code 0 0, motion_group)
    ∷ (code 1 0, motion_group)
    ∷ (code 4 0, no_mode_group)
    ∷ (code 10 0, no_mode_group)
    ∷ (code 17 0, plane_group)
    ∷ (code 18 0, plane_group)
    ∷ (code 19 0, plane_group)
    ∷ (code 20 0, units_group)
    ∷ (code 21 0, units_group)
    ∷ (code 28 0, no_mode_group)
    ∷ (code 28 1, no_mode_group)
    ∷ (code 30 0, no_mode_group)
    ∷ (code 30 1, no_mode_group)
    ∷ (code 40 0, cutter_group)
    ∷ (code 49 0, tool_length_group)
    ∷ (code 53 0, no_mode_group)
    ∷ (code 54 0, system_group)
    ∷ (code 55 0, system_group)
    ∷ (code 56 0, system_group)
    ∷ (code 57 0, system_group)
    ∷ (code 58 0, system_group)
    ∷ (code 59 0, system_group)
    ∷ (code 61 0, path_group)
    ∷ (code 80 0, motion_group)
    ∷ (code 90 0, distance_group)
    ∷ (code 91 0, distance_group)
    ∷ (code 91 1, arc_distance_group)
    ∷ (code 92 0, no_mode_group)
    ∷ (code 92 1, no_mode_group)
    ∷ (code 94 0, feed_mode_group)
    ∷ []

-- the M codes, each with its group
abbrev pub m_rows : List Row
m_rows =
    (code 0 0, flow_group)
    ∷ (code 1 0, flow_group)
    ∷ (code 2 0, flow_group)
    ∷ (code 3 0, spindle_group)
    ∷ (code 4 0, spindle_group)
    ∷ (code 5 0, spindle_group)
    ∷ (code 8 0, coolant_group)
    ∷ (code 9 0, coolant_group)
    ∷ (code 30 0, flow_group)
    ∷ []

-- keys with the numbers from n on
abbrev pub numbered_from : ℕ → List ℕ → List Row
numbered_from n [] = []
numbered_from n (key ∷ keys) = (key, n) ∷ numbered_from (n + 1) keys

-- the numbers of the settings, each with its place among them
abbrev pub rows_of_settings : List Row
rows_of_settings = numbered_from 0 (10 ∷ 11 ∷ 20 ∷ 100 ∷ 101 ∷ 102 ∷ 110 ∷ 111 ∷ 112 ∷ 120 ∷ 121 ∷ 122 ∷ 130 ∷ 131 ∷ 132 ∷ [])

-- a bit of the word of requests, and one of the word of overrides
abbrev pub exec_bit : ℕ → ℕ
exec_bit bit = bit

abbrev pub override_bit : ℕ → ℕ
override_bit bit = bit + 16

-- `?`, which asks for a report
abbrev pub query : ℕ
query = 0x3f

-- the realtime bytes, each with its bit
abbrev pub rows_of_bytes : List Row
rows_of_bytes =
    -- soft reset
    (0x18, exec_bit 3)
    -- `!` feed hold, `?` status report, `~` cycle start or resume
    ∷ (0x21, exec_bit 1)
    ∷ (0x3f, exec_bit 0)
    ∷ (0x7e, exec_bit 2)
    -- jog cancel
    ∷ (0x85, exec_bit 4)
    -- feed: 100 percent, ten more, ten less, one more, one less
    ∷ (0x90, override_bit 0)
    ∷ (0x91, override_bit 1)
    ∷ (0x92, override_bit 2)
    ∷ (0x93, override_bit 3)
    ∷ (0x94, override_bit 4)
    -- rapids: 100, 50, 25 percent
    ∷ (0x95, override_bit 5)
    ∷ (0x96, override_bit 6)
    ∷ (0x97, override_bit 7)
    -- spindle: 100 percent, ten more, ten less, one more, one less
    ∷ (0x99, override_bit 8)
    ∷ (0x9a, override_bit 9)
    ∷ (0x9b, override_bit 10)
    ∷ (0x9c, override_bit 11)
    ∷ (0x9d, override_bit 12)
    ∷ []
