use Rattle.std.proofs.Common.{◌≡◌, drop}
use Rattle.step_line.specs.declared.Bits.{Bits}
use Rattle.step_line.specs.Logs.{NewestFirst}
use Rattle.smooth_step.specs.Pinned.{pinned}
use Rattle.smooth_step.proofs.pins.hand_out.Given as goal

-- the pins were handed the subticks so far, and get the rest
abbrev pub invariant-loop-bits : goal.invariant-loop-bits
invariant-loop-bits g l = record {
  pins : (made : NewestFirst Bits) → g.O.Pins.stands l.initial.pins made
      → (so_far : NewestFirst Bits) × g.O.Pins.stands l.pins so_far × (pinned (drop l.bits-index l.bits-items) so_far ≡ pinned l.bits-items made);
}
