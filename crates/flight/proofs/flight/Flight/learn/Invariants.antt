use Rattle.std.proofs.Common.{◌≤◌, ℕ, List, length, max}
use Rattle.step_line.specs.declared.Piece.{Piece}
use Rattle.flight.specs.Flights.{Flies}
use Rattle.flight.proofs.flight.Flight.learn.Given as goal
use Rattle.units.specs.declared.Steps3.{Steps3}

abbrev pub invariant-loop-self : goal.invariant-loop-self
invariant-loop-self l = (l.fn.self.known ≤ l.self.known) × (l.self.known ≤ max l.fn.self.known l.done) × ((start : Steps3) (published : List Piece) (known : ℕ) → Flies start l.fn.self published known → Flies start l.self published l.self.known)

abbrev pub decreases-loop-self : goal.decreases-loop-self
decreases-loop-self l = length l.self.kept
