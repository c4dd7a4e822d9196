-- What the laws of verdicts speak of.
use Rattle.std.specs.Prelude.{◌≡◌, ℕ, IfSome, Bool, List, [], ◌∷◌}
use Rattle.std.specs.List.{list_any}
use Rattle.units.specs.Lengths.{minus}
use Rattle.units.specs.declared.Nm3.{Nm3}
use Rattle.units.specs.declared.Steps3.{Steps3}
use Rattle.modal_state.specs.declared.Parser.{Parser}
use Rattle.modal_state.specs.Modes.{offset_of}
use Rattle.line_words.specs.declared.axes.Lengths.{Lengths}
use Rattle.gcode_check.specs.Items.{is_move}
use Rattle.gcode_check.specs.declared.Item.{Item}
use Rattle.gcode_check.specs.declared.Item.TheVariants.{Spindle, Coolant, Dwell, Move, Pause, ProgramEnd}
use Rattle.gcode_check.specs.declared.Verdict.{Verdict}
use Rattle.gcode_check.specs.declared.Verdict.TheVariants.{Accept, Refuse, Limit}

-- the state behind a line: what an accepted line leaves, and else the state before
abbrev pub parser_behind : Parser → Verdict → Parser
parser_behind p (Accept a) = a.next
parser_behind p (Refuse code) = p
parser_behind p Limit = p

-- a line gives a move
abbrev pub moves_axes : List Item → Bool
moves_axes items = list_any is_move items

-- from a place, a move that begins there leads to its end, and any other item stays
abbrev pub LeadsOn : Item → Steps3 → (Steps3 → Type 0) → Type 0
LeadsOn (Spindle mode speed) from rest = rest from
LeadsOn (Coolant on) from rest = rest from
LeadsOn (Dwell ms) from rest = rest from
LeadsOn (Move way rate) from rest = (way.from ≡ from) × rest way.to
LeadsOn Pause from rest = rest from
LeadsOn ProgramEnd from rest = rest from

-- the moves among items join: the first begins at a place, each other where the one before ends, and the last ends at
-- a place
abbrev pub Join : Steps3 → List Item → Steps3 → Type 0
Join from [] to = from ≡ to
Join from (item ∷ items) to = LeadsOn item from (λ at. Join at items to)

-- what the position reads in a system: less the system's offset and that of G92
abbrev pub reading : Parser → ℕ → Nm3
reading p system = minus (minus p.pos_nm (offset_of p.offsets system)) p.offsets.g92

-- a point has the lengths that are said, on the axes that are named
pub record IsAsSaid (said : Lengths) (at : Nm3) : Type 0 where
  pub x : IfSome said.x (λ v. at.x ≡ v)
  pub y : IfSome said.y (λ v. at.y ≡ v)
  pub z : IfSome said.z (λ v. at.z ≡ v)
