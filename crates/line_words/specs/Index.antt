-- Words by the slots that they fill: a value the slot of its letter, a command that of its group.
use Rattle.std.specs.Prelude.{◌≡◌, ℕ, ◌+◌, ◌-◌, ◌*◌, ◌/◌, ◌<◌, Bool, true, false, ◌==◌, List, ℤ, nat_abs, Some, None, option_map, IfSome}
use Rattle.std.specs.List.{list_any}
use Rattle.std.specs.declared.option.Option.{Option}
use Rattle.code_table.specs.Tables.{value_of}
use Rattle.gcode_words.specs.declared.Word.{Word}
use Rattle.line_words.specs.Codes.{is_command_letter, rows_of, is_of_group, has}
use Rattle.line_words.specs.Given.{is_value_letter, stands, given, IsSoundValue}
use Rattle.line_words.specs.Slots.{is_filled, value_in}
use Rattle.line_words.specs.declared.slots.Slots.{Slots}

abbrev pub value_slot : ℕ → ℕ
value_slot letter = letter - 65

abbrev pub group_slot : ℕ → ℕ
group_slot group = 26 + group

abbrev pub is_number : ℕ → Option ℤ → Bool
is_number n None = false
is_number n (Some z) = nat_abs z == n

-- the key of the code with a value in millionths
abbrev pub key_held : Option ℤ → Option ℕ
key_held held = option_map (λ z. nat_abs z / 100000) held

-- the slot of a letter that is that of a value
abbrev pub IsValueSlot : ℕ → Option ℕ → Type 0
IsValueSlot letter None = is_value_letter letter ≡ false
IsValueSlot letter (Some slot) = (is_value_letter letter ≡ true) × (slot ≡ value_slot letter) × (slot < 26)

-- The slots tell of some words what the definitions say of them. The words that fill the slots stand among all words.
pub record IsIndex (slots : Slots) (all ws : List Word) : Type 0 where
  pub letters : (letter : ℕ) → is_value_letter letter ≡ true → is_filled slots (value_slot letter) ≡ stands letter ws
  pub values : (letter : ℕ) → is_value_letter letter ≡ true → value_in slots all (value_slot letter) ≡ option_map (λ v. v.micro) (given letter ws)
  pub sound : (letter : ℕ) → is_value_letter letter ≡ true → IfSome (given letter ws) (IsSoundValue letter)
  pub no_other_letter : (letter : ℕ) → is_value_letter letter ≡ false → is_command_letter letter ≡ false → stands letter ws ≡ false
  pub groups : (group : ℕ) → group < 23 → is_filled slots (group_slot group) ≡ list_any (is_of_group group) ws
  pub commands : (letter key group : ℕ) → value_of key (rows_of letter) ≡ Some group → has letter key ws ≡ is_number (key * 100000) (value_in slots all (group_slot group))
