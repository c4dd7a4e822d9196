-- The segment that a plan gives next, in each mode.
use Rattle.std.specs.Prelude.{◌≡◌, ℕ, List, [], ◌∷◌}
use Rattle.step_line.specs.declared.Segment.{Segment}
use Rattle.line_geom.specs.declared.Block.{Block}
use Rattle.plan_rules.specs.Blocks.{nominal_speed}
use Rattle.plan_rules.specs.Plans.{Planned}
use Rattle.plan_rules.specs.Segments.{IsGoing, IsHolding, pace_of, cycles_of}
use Rattle.plan_rules.specs.declared.Mode.{Mode}
use Rattle.plan_rules.specs.declared.Mode.TheVariants.{Go, Hold}

-- n events, and the squared speed v after them, are those of the mode's rule
abbrev pub ByMode : Planned → Block → Mode → ℕ → ℕ → Type 0
ByMode p b Go n v = IsGoing p b n v
ByMode p b Hold n v = IsHolding p b n v

-- s is the segment that a plan with the tail b gives in a mode
pub record IsTaken (p : Planned) (b : Block) (mode : Mode) (s : Segment) : Type 0 where
  pub line : s.line ≡ b.line
  pub mv : s.mv ≡ b.mv
  pub first : s.first ≡ b.prepared
  pub rule : ByMode p b mode s.n s.w_out
  pub w_in : s.w_in ≡ p.speed
  pub cycles : s.cycles ≡ cycles_of b (pace_of b (nominal_speed p.overrides b) s.w_in s.w_out s.n)

abbrev pub IsTakenOf : Planned → List Block → Mode → Segment → Type 0
IsTakenOf p [] mode s = ⊥
IsTakenOf p (b ∷ bs) mode s = IsTaken p b mode s

-- s is the segment that a plan gives next in a mode: its tail's
abbrev pub IsNext : Planned → Mode → Segment → Type 0
IsNext p mode s = IsTakenOf p p.blocks mode s
