-- The values that words give.
use Rattle.std.specs.Prelude.{◌≡◌, ℕ, ◌<◌, ◌≤◌, Bool, true, false, ◌||◌, ◌==◌, nat_lt, List, [], ◌∷◌, find, nat_abs, Some, None, option_map}
use Rattle.std.specs.List.{list_any}
use Rattle.std.specs.declared.option.Option.{Option}
use Rattle.units.specs.declared.Decimal.{Decimal}
use Rattle.gcode_words.specs.declared.Word.{Word}
use Rattle.line_words.specs.Letters.{F, I, J, K, L, N, P, R, S, T, X, Y, Z}
use Rattle.line_words.specs.Codes.{is_one_of, is_negative, whole_part}

-- the letters of values
abbrev pub is_value_letter : ℕ → Bool
is_value_letter letter = is_one_of (F ∷ I ∷ J ∷ K ∷ L ∷ N ∷ P ∷ R ∷ S ∷ T ∷ X ∷ Y ∷ Z ∷ []) letter

-- a word of this letter stands
abbrev pub stands : ℕ → List Word → Bool
stands letter ws = list_any (λ w. w.letter == letter) ws

-- the value behind a letter
abbrev pub given : ℕ → List Word → Option Decimal
given letter ws = option_map (λ w. w.value) (find (λ w. w.letter == letter) ws)

-- its whole part
abbrev pub whole_given : ℕ → List Word → Option ℕ
whole_given letter ws = option_map whole_part (given letter ws)

abbrev pub exceeds : ℕ → Option ℕ → Bool
exceeds bound None = false
exceeds bound (Some n) = nat_lt bound n

-- N over 10,000,000
abbrev pub line_number_out_of_range : List Word → Bool
line_number_out_of_range ws = exceeds 10000000 (whole_given N ws)

abbrev pub names_axis : List Word → Bool
names_axis ws = stands X ws || stands Y ws || stands Z ws

-- a value of a word that passes: of magnitude below 1,000,000,000; not negative behind F, N, P, S and T; and behind T
-- at most 255
pub record IsSoundValue (letter : ℕ) (v : Decimal) : Type 0 where
  pub small : nat_abs v.micro < 1000000000000000
  pub sign : is_one_of (F ∷ N ∷ P ∷ S ∷ T ∷ []) letter ≡ true → is_negative v ≡ false
  pub tool : letter ≡ T → nat_abs v.micro ≤ 255000000
