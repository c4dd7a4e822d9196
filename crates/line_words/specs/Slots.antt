-- Slots that words fill.
use Rattle.std.specs.Prelude.{ℕ, Bool, ◌==◌, if◌then◌else◌, List, ℤ, None, slice_get, slice_index, option_map}
use Rattle.std.specs.declared.option.Option.{Option}
use Rattle.std.specs.Int.{bit_at}
use Rattle.gcode_words.specs.declared.Word.{Word}
use Rattle.line_words.specs.declared.slots.Slots.{Slots}

unfoldable pub is_filled : Slots → ℕ → Bool
is_filled s slot = bit_at s.filled slot == 1

-- the value of the word that fills a slot
unfoldable pub value_in : Slots → List Word → ℕ → Option ℤ
value_in s words slot = if is_filled s slot then option_map (λ w. w.value.micro) (slice_get words (slice_index s.places slot)) else None
