use Rattle.std.proofs.Common.{◌<◌, arith}
use Rattle.step_line.specs.Counting.{events_of}
use Rattle.pulse_engine.proofs.Ticks.{is_made}
use Rattle.smooth_step.proofs.pulse.next_event.Goals as goal

pub returns-clause-event : goal.returns-clause-event
returns-clause-event c =
    let t = c.args.tracer.now in
    let more : t.done < events_of t.mv = omega (arith, c.requires) in
    is_made t.mv t.done c.step.result c.step.ensures.event more
