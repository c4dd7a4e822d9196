-- G and M codes among words.
use Rattle.std.specs.Prelude.{ℕ, ◌/◌, ◌%◌, Bool, false, not, ◌&&◌, ◌||◌, ◌==◌, if◌then◌else◌, List, [], find, pos, int_lt, nat_abs, Some, None, option_and_then}
use Rattle.std.specs.List.{list_any}
use Rattle.std.specs.declared.option.Option.{Option}
use Rattle.units.specs.declared.Decimal.{Decimal}
use Rattle.gcode_words.specs.declared.Word.{Word}
use Rattle.code_table.specs.Tables.{Row, value_of, g_rows, m_rows}
use Rattle.line_words.specs.Letters.{G, M}

-- a number is one of a list
abbrev pub is_one_of : List ℕ → ℕ → Bool
is_one_of numbers n = list_any (λ m. m == n) numbers

abbrev pub is_negative : Decimal → Bool
is_negative v = int_lt v.micro (pos 0)

abbrev pub is_whole : Decimal → Bool
is_whole v = nat_abs v.micro % 1000000 == 0

abbrev pub whole_part : Decimal → ℕ
whole_part v = nat_abs v.micro / 1000000

-- ten times a number, which is the key of a code: that of 28.1 is 281
abbrev pub key_of : Decimal → Option ℕ
key_of v = if not (is_negative v) && (nat_abs v.micro % 100000 == 0) then Some (nat_abs v.micro / 100000) else None

abbrev pub is_key : ℕ → Option ℕ → Bool
is_key key None = false
is_key key (Some k) = k == key

-- G or M
abbrev pub is_command_letter : ℕ → Bool
is_command_letter letter = (letter == G) || (letter == M)

-- the codes that a letter has
abbrev pub rows_of : ℕ → List Row
rows_of letter = if letter == G then g_rows else if letter == M then m_rows else []

-- the modal group of a G or M word that has a row
unfoldable pub group_of : Word → Option ℕ
group_of w = option_and_then (λ key. value_of key (rows_of w.letter)) (key_of w.value)

abbrev pub is_of_group : ℕ → Word → Bool
is_of_group group w = is_key group (group_of w)

-- the word is the code of this letter and this key
abbrev pub is_code : ℕ → ℕ → Word → Bool
is_code letter key w = (w.letter == letter) && is_key key (key_of w.value)

-- the key of the line's code in a group, which is that of its first word of the group
unfoldable pub code_in : ℕ → List Word → Option ℕ
code_in group ws = option_and_then (λ w. key_of w.value) (find (is_of_group group) ws)

-- the code stands among the words
abbrev pub has : ℕ → ℕ → List Word → Bool
has letter key ws = list_any (is_code letter key) ws

abbrev pub has_g : ℕ → List Word → Bool
has_g key ws = has G key ws

abbrev pub has_m : ℕ → List Word → Bool
has_m key ws = has M key ws
