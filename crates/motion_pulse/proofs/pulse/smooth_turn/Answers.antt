use Rattle.smooth_step.specs.Counts.{subticks_in}
use Rattle.smooth_step.specs.Pulses.{handed}
use Rattle.motion_pulse.proofs.Tallied.{tallied}
use Rattle.motion_pulse.proofs.pulse.smooth_turn.Goals as goal

pub returns-clause-logs : goal.returns-clause-logs
returns-clause-logs g c rest back h k stands out fits count =
    let t = c.turn.ensures.logs rest back h k stands out fits in (
      t.0,
      t.1,
      t.2,
      t.3,
      t.4,
      tallied c.args.pins.now.count c.turn.new.pins.count (subticks_in k) (subticks_in t.1) (handed c.args.pulse.now c.turn.new.self) count t.6 c.turn.ensures.pins,
      t.5,
    )
