-- Places in mm, as texts.
use Rattle.std.specs.Prelude.{ℕ, List, [], ◌∷◌}
use Rattle.std.specs.List.{join_with_byte}
use Rattle.units.specs.declared.Nm3.{Nm3}
use Rattle.units.specs.Fixed.{fixed3}
use Rattle.units.specs.Lengths.{thousandths_of_nm}

-- texts with commas between them
abbrev pub listed : List (List ℕ) → List ℕ
listed texts = join_with_byte 44 texts

-- a place in thousandths of a mm, on each axis, with three decimals
abbrev pub place_text : Nm3 → List ℕ
place_text at = listed (fixed3 at.x ∷ fixed3 at.y ∷ fixed3 at.z ∷ [])

-- a place in nm, to the nearest thousandths of a mm
abbrev pub in_thousandths : Nm3 → Nm3
in_thousandths at = record { x = thousandths_of_nm at.x; y = thousandths_of_nm at.y; z = thousandths_of_nm at.z }
