-- What refuses a word, by the words before it.
use Rattle.std.specs.Prelude.{◌≡◌, ℕ, ◌*◌, ◌<◌, Bool, false, not, ◌&&◌, ◌||◌, ◌==◌, List, [], ◌∷◌, length, take, slice_get, pos, int_lt, Some, None, is_some, is_none, option_and_then}
use Rattle.std.specs.List.{list_any}
use Rattle.std.specs.declared.option.Option.{Option}
use Rattle.units.specs.declared.Decimal.{Decimal}
use Rattle.gcode_words.specs.declared.Word.{Word}
use Rattle.code_table.specs.Tables.{value_of, g_rows, code}
use Rattle.code_table.specs.Refusals.{first_refusal, first_below}
use Rattle.code_table.specs.declared.Code.{Code}
use Rattle.line_words.specs.Letters.{F, G, M, N, P, S, T}
use Rattle.line_words.specs.Codes.{is_one_of, is_negative, is_whole, whole_part, is_command_letter, group_of, is_of_group, is_code}
use Rattle.line_words.specs.Given.{is_value_letter, stands}

abbrev pub is_command : Word → Bool
is_command w = is_command_letter w.letter

-- the whole part is the number of a G code that has no neighbour behind a point
abbrev pub is_lone_g_number : Decimal → Bool
is_lone_g_number v =
    not (is_negative v)
    && is_some (value_of (10 * whole_part v) g_rows)
    && not (is_one_of (28 ∷ 30 ∷ 49 ∷ 61 ∷ 90 ∷ 91 ∷ 92 ∷ []) (whole_part v))

-- a fraction where a command has a whole number: behind M, and behind such a number of G
abbrev pub command_not_whole : Word → Bool
command_not_whole w = not (is_whole w.value) && ((w.letter == M) || ((w.letter == G) && is_lone_g_number w.value))

-- a command that is in no table, or a letter that begins no word
abbrev pub unsupported_command : Word → Bool
unsupported_command w = (is_command w && is_none (group_of w)) || not (is_command w || is_value_letter w.letter)

-- G0, G1, G10, G28, G30 and G92, which take the axis words
abbrev pub is_axis_command : Word → Bool
is_axis_command w =
    is_code G (code 0 0) w || is_code G (code 1 0) w || is_code G (code 10 0) w
    || is_code G (code 28 0) w || is_code G (code 30 0) w || is_code G (code 92 0) w

abbrev pub second_axis_command : List Word → Word → Bool
second_axis_command before w = is_axis_command w && list_any is_axis_command before

abbrev pub group_stands : Option ℕ → List Word → Bool
group_stands None ws = false
group_stands (Some group) ws = list_any (is_of_group group) ws

-- a command of the same modal group stood before it
abbrev pub modal_group_violation : List Word → Word → Bool
modal_group_violation before w = group_stands (group_of w) before

-- T over 255
abbrev pub tool_out_of_range : Word → Bool
tool_out_of_range w = (w.letter == T) && int_lt (pos 255000000) w.value.micro

-- a value's letter stood before it
abbrev pub repeated_word : List Word → Word → Bool
repeated_word before w = not (is_command w) && stands w.letter before

abbrev pub negative_value : Word → Bool
negative_value w = is_one_of (F ∷ N ∷ P ∷ S ∷ T ∷ []) w.letter && is_negative w.value

-- the errors of a word, in their order
abbrev pub word_rows : List Word → Word → List (ℕ × Bool)
word_rows before w =
    (23, command_not_whole w)
    ∷ (20, unsupported_command w)
    ∷ (24, second_axis_command before w)
    ∷ (21, modal_group_violation before w)
    ∷ (38, tool_out_of_range w)
    ∷ (25, repeated_word before w)
    ∷ (4, negative_value w)
    ∷ []

unfoldable pub word_refusal : List Word → Word → Option Code
word_refusal before w = first_refusal (word_rows before w)

-- what refuses the word at a place
unfoldable pub refusal_at : List Word → ℕ → Option Code
refusal_at ws place = option_and_then (word_refusal (take place ws)) (slice_get ws place)

-- the first place at which a word is refused has the answer
unfoldable pub words_refusal : List Word → Option Code
words_refusal ws = first_below (length ws) (refusal_at ws)

-- a word is refused at a place, and none before it is
pub record IsFirstRefused (ws : List Word) (code : Code) : Type 0 where
  pub place : ℕ
  pub stands : place < length ws
  pub passed : (k : ℕ) → k < place → refusal_at ws k ≡ None
  pub refused : refusal_at ws place ≡ Some code
