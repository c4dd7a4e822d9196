use Rattle.std.proofs.Common.{◌∙◌, sym, ap}
use Rattle.motion_pulse.specs.declared.pulse.Stepping.{Stepping}
use Rattle.motion_pulse.specs.Pulses.{pins_of}
use Rattle.actor_turns.proofs.world.World.pins.Goals as goal

pub returns : goal.returns
returns g c = let v = sym c.self.view_is in rw v (λ hist h. c.pins.ensures hist.pulse hist.puts h.pulse ∙ ap (λ (s : Stepping). pins_of s hist.puts) h.stepping)
