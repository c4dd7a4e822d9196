-- The limit on the size of files, as a text of a process's limits tells it.
use Rattle.std.specs.Prelude.{◌≡◌, ◌⊎◌, ℕ, ◌<◌, ◌^◌, ◌==◌, List, [], ◌∷◌, ◌++◌, length, codes, Option, Some, None}
use Rattle.std.specs.Char.{is_whitespace, is_not_whitespace}
use Rattle.std.specs.List.{slice_split}
use Rattle.std.specs.Str.{NoCharPasses, EmptyOrStartsWithPassing}
use Rattle.std.specs.Str.Parse.{IsNumeral, digits_value, without_leading_plus}

-- the name of that limit, with which its line begins
abbrev pub limit_name : List ℕ
limit_name = codes "Max file size"

-- a text has no word: all of it is white space
abbrev pub HasNoWord : List ℕ → Type 0
HasNoWord text = NoCharPasses is_not_whitespace text

-- the first word of a text: white space comes before it, and behind it, where anything does
pub record IsFirstWord (text word : List ℕ) : Type 0 where
  pub gap : List ℕ
  pub behind : List ℕ
  pub whole : text ≡ gap ++ (word ++ behind)
  pub blank : NoCharPasses is_not_whitespace gap
  pub some : 0 < length word
  pub solid : NoCharPasses is_whitespace word
  pub more : List ℕ
  pub ends : EmptyOrStartsWithPassing is_whitespace behind more

-- the number that a word is, where it is one of 64 bits
abbrev pub IsNumberOf : List ℕ → Option ℕ → Type 0
IsNumberOf word (Some n) = IsNumeral 10 (without_leading_plus word) × (digits_value 10 (without_leading_plus word) < 2 ^ 64) × (n ≡ digits_value 10 (without_leading_plus word))
IsNumberOf word None = ¬ (IsNumeral 10 (without_leading_plus word) × (digits_value 10 (without_leading_plus word) < 2 ^ 64))

-- the number that a text begins with, where its first word is one
abbrev pub IsFirstNumber : List ℕ → Option ℕ → Type 0
IsFirstNumber text told = ((word : List ℕ) × IsFirstWord text word × IsNumberOf word told) ⊎ (HasNoWord text × (told ≡ None))

-- a line begins with the name, and then with this
abbrev pub IsNamed : (line limits : List ℕ) → Type 0
IsNamed line limits = line ≡ limit_name ++ limits

-- the number behind the name in the first line that begins with it
abbrev pub IsLimitIn : List (List ℕ) → Option ℕ → Type 0
IsLimitIn [] told = told ≡ None
IsLimitIn (line ∷ lines) told =
    ((limits : List ℕ) × IsNamed line limits × IsFirstNumber limits told) ⊎ (((limits : List ℕ) → ¬ IsNamed line limits) × IsLimitIn lines told)

-- that, in a text of lines
abbrev pub TellsLimit : List ℕ → Option ℕ → Type 0
TellsLimit text told = IsLimitIn (slice_split (λ b. b == 10) text) told
