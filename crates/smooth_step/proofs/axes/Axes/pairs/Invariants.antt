use Rattle.std.proofs.Common.{◌≡◌, ℕ, ◌+◌, ◌-◌, ◌*◌, ◌++◌, length}
use Rattle.units.specs.declared.Move.{Move}
use Rattle.units.specs.Counting.{events_of}
use Rattle.smooth_step.specs.Subticks.{parts_after}
use Rattle.smooth_step.specs.Counters.{AreAxes, CanAllStep}
use Rattle.smooth_step.proofs.axes.Axes.pairs.Given as goal

-- the parts so far and those that are left
abbrev pub invariant-loop-made : goal.invariant-loop-made
invariant-loop-made l = record {
  can : CanAllStep l.self l.n;
  room : length l.parts.items ≡ 2 * l._made;
  same : (m : Move) (t : ℕ) → l.n ≡ events_of m → AreAxes l.initial.self m t →
      l.parts.items ++ parts_after m (t + l.width * (2 * l._made)) l.width (2 * l.count - 2 * l._made) ≡ parts_after m t l.width (2 * l.count);
  axes : (m : Move) (t : ℕ) → l.n ≡ events_of m → AreAxes l.initial.self m t → AreAxes l.self m (t + l.width * (2 * l._made));
}
