-- What a parser keeps from one line to the next.
use Rattle.std.specs.Prelude.{ℕ, ◌≤◌, ◌<◌, ◌-◌, List, [], ◌∷◌, false, get_or, pos, ◌+ℤ◌, nat_abs}
use Rattle.units.specs.declared.Nm3.{Nm3}
use Rattle.units.specs.declared.Steps3.{Steps3}
use Rattle.units.specs.declared.Per3.{Per3}
use Rattle.units.specs.Lengths.{IsPlace, nm_of}
use Rattle.units.specs.Limits.{IsFeed}
use Rattle.modal_state.specs.declared.MotionMode.TheVariants.{G0, G1}
use Rattle.modal_state.specs.declared.SpindleMode.TheVariants.{Off}
use Rattle.modal_state.specs.declared.Modal.{Modal}
use Rattle.modal_state.specs.declared.Offsets.{Offsets}
use Rattle.modal_state.specs.declared.Parser.{Parser}

-- the origin of the machine, in nm
abbrev pub origin_nm : Nm3
origin_nm = record { x = pos 0; y = pos 0; z = pos 0 }

abbrev pub plus : Nm3 → Nm3 → Nm3
plus a b = record { x = a.x +ℤ b.x; y = a.y +ℤ b.y; z = a.z +ℤ b.z }

-- G0, G17, G21, G90, G54, M5, M9, and zero everywhere else
abbrev pub opening_parser : Parser
opening_parser = record {
  modal = record { motion = G0; plane = 17; inch = false; relative = false; system = 1; spindle = Off; flood = false };
  offsets = record { s1 = origin_nm; s2 = origin_nm; s3 = origin_nm; s4 = origin_nm; s5 = origin_nm; s6 = origin_nm; home28 = origin_nm; home30 = origin_nm; g92 = origin_nm };
  pos_nm = origin_nm;
  pos_steps = record { x = pos 0; y = pos 0; z = pos 0 };
  feed = pos 0;
  rpm = 0;
  tool = 0;
}

-- the offsets of G54 to G59
abbrev pub systems : Offsets → List Nm3
systems offsets = offsets.s1 ∷ offsets.s2 ∷ offsets.s3 ∷ offsets.s4 ∷ offsets.s5 ∷ offsets.s6 ∷ []

-- the offset of a system, counted from 1
abbrev pub offset_of : Offsets → ℕ → Nm3
offset_of offsets system = get_or (systems offsets) (system - 1) origin_nm

-- the selected system's offset and the G92 offset together
abbrev pub wco_of : Parser → Nm3
wco_of p = plus (offset_of p.offsets p.modal.system) p.offsets.g92

-- a place in steps, in nm
abbrev pub point_of : Steps3 → Per3 → Nm3
point_of at per_mm = record { x = nm_of at.x per_mm.x; y = nm_of at.y per_mm.y; z = nm_of at.z per_mm.z }

-- the position is a place; all else stays
abbrev pub rebased : Parser → Steps3 → Per3 → Parser
rebased p at per_mm = record p { pos_steps = at; pos_nm = point_of at per_mm }

-- G1, G17, G90, G54, M5 and M9; all else stays
abbrev pub program_ended : Parser → Parser
program_ended p = record p { modal = record p.modal { motion = G1; plane = 17; relative = false; system = 1; spindle = Off; flood = false } }

-- each coordinate has at most this magnitude
pub record IsWithin (bound : ℕ) (at : Nm3) : Type 0 where
  pub x : nat_abs at.x ≤ bound
  pub y : nat_abs at.y ≤ bound
  pub z : nat_abs at.z ≤ bound

-- how far from zero a parser's offsets and position are at most, in nm
abbrev pub farthest : ℕ
farthest = 100000000000000

-- G54 to G59
abbrev pub IsSystem : ℕ → Type 0
IsSystem system = (1 ≤ system) × (system ≤ 6)

-- G17 to G19
abbrev pub IsPlane : ℕ → Type 0
IsPlane plane = (17 ≤ plane) × (plane ≤ 19)

pub record IsModal (m : Modal) : Type 0 where
  pub plane : IsPlane m.plane
  pub system : IsSystem m.system

pub record IsOffsets (o : Offsets) : Type 0 where
  pub s1 : IsWithin farthest o.s1
  pub s2 : IsWithin farthest o.s2
  pub s3 : IsWithin farthest o.s3
  pub s4 : IsWithin farthest o.s4
  pub s5 : IsWithin farthest o.s5
  pub s6 : IsWithin farthest o.s6
  pub home28 : IsWithin farthest o.home28
  pub home30 : IsWithin farthest o.home30
  pub g92 : IsWithin farthest o.g92

-- a state that a parser can be in
pub record IsParser (p : Parser) : Type 0 where
  pub modal : IsModal p.modal
  pub offsets : IsOffsets p.offsets
  pub pos_nm : IsWithin farthest p.pos_nm
  pub pos_steps : IsPlace p.pos_steps
  pub feed : IsFeed p.feed
  pub rpm : p.rpm < 1000000000
