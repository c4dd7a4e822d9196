use Rattle.std.proofs.Common.{◌≡◌, subst}
use Rattle.pulse_engine.specs.Turns.{PulseFits}
use Rattle.motion_pulse.specs.declared.pulse.MotionPulse.{MotionPulse}
use Rattle.motion_pulse.specs.declared.pulse.MotionPulse.TheVariants.{Plain, Smooth}
use Rattle.motion_pulse.specs.Pulses.{StepsFit, seen_of}
use Rattle.motion_pulse.proofs.pulse.MotionPulse.turn.Goals as goal

pub returns-in-Plain-clause-logs : goal.returns-in-Plain-clause-logs
returns-in-Plain-clause-logs g c rest back h k stands out fits =
    let same : c.args.self.now ≡ Plain c.in-Plain.pulse = c.in-Plain.is in
    let t = c.turn.ensures.logs rest back h k stands out (subst (λ (p : MotionPulse). PulseFits (seen_of p) h k) same fits.pulse) in
    (t.0, t.1, t.2, t.3, record { pulse = t.4; steps = tt }, t.5)

pub returns-in-Smooth-clause-logs : goal.returns-in-Smooth-clause-logs
returns-in-Smooth-clause-logs g c rest back h k stands out fits =
    let same : c.args.self.now ≡ Smooth c.in-Smooth.pulse c.in-Smooth.pins = c.in-Smooth.is in
    let steps = subst (λ (p : MotionPulse). StepsFit p h k) same fits.steps in
    let t = c.smooth_turn.ensures.logs rest back h k stands out steps.0 steps.1 in
    (t.0, t.1, t.2, t.3, record { pulse = t.4.pulse; steps = (t.4, t.5) }, t.6)
