-- What a block's segments have in common while it goes at its nominal speed.
use Rattle.std.specs.Prelude.{◌≡◌, ℕ, ◌+◌, ◌*◌, ◌/◌, ◌<◌, max, List, [], ◌∷◌}
use Rattle.units.specs.Roots.{root_of}
use Rattle.line_geom.specs.declared.Block.{Block}
use Rattle.overrides.specs.declared.Overrides.{Overrides}
use Rattle.plan_passes.specs.declared.Pace.{Pace}
use Rattle.plan_rules.specs.Blocks.{nominal_speed, top_of, left_of}
use Rattle.plan_rules.specs.Plans.{Planned}
use Rattle.plan_rules.specs.Segments.{IsGoing, pace_of, cycles_of}

-- the cycles from one event to the next, where n events of a block keep the speed w
abbrev pub cycles_at : Overrides → Block → ℕ → ℕ → ℕ
cycles_at o b w n = cycles_of b (pace_of b (nominal_speed o b) w w n)

-- a segment at the nominal speed, of a block of which more events are left
pub record IsPaceOf (o : Overrides) (b : Block) (s : Pace) : Type 0 where
  pub top : s.w ≡ top_of o b
  pub events : s.n ≡ max 1 (root_of (s.w + b.geom.q) * 10 * b.geom.n / b.geom.length)
  pub cycles : s.cycles ≡ cycles_at o b s.w s.n
  pub some : 0 < s.cycles

-- the tail's; a pace of no events says nothing
abbrev pub IsPaceOfTail : Overrides → List Block → Pace → Type 0
IsPaceOfTail o [] s = s.n ≡ 0
IsPaceOfTail o (b ∷ bs) s = 0 < s.n → IsPaceOf o b s

-- the next segment, in mode Go, has as many events as s and keeps the present speed; more of the tail's are left
pub record IsSteady (p : Planned) (b : Block) (s : Pace) : Type 0 where
  pub going : IsGoing p b s.n s.w
  pub speed : p.speed ≡ s.w
  pub cycles : s.cycles ≡ cycles_at p.overrides b s.w s.n
  pub some : (0 < s.n) × (0 < s.cycles)
  pub left : s.n < left_of b

abbrev pub IsSteadyOf : Planned → List Block → Pace → Type 0
IsSteadyOf p [] s = ⊥
IsSteadyOf p (b ∷ bs) s = IsSteady p b s
