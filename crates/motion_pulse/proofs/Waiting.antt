-- A pulse that finds no piece.
use Rattle.std.proofs.Common.{◌∷◌, false}
use Rattle.pulse_engine.specs.Logs.{PieceLog, RecordLog}
use Rattle.pulse_engine.specs.Logs.PieceEvent.{asked, none}
use Rattle.pulse_engine.specs.Steps.{Pulsing}
use Rattle.pulse_engine.specs.Turns.{PulseFits}
use Rattle.smooth_step.specs.Pulses.{SmoothPulsing, SmoothFits, pulse_of}
use Rattle.motion_pulse.specs.declared.pulse.MotionPulse.{MotionPulse}
use Rattle.motion_pulse.specs.declared.pulse.MotionPulse.TheVariants.{Plain, Smooth}
use Rattle.motion_pulse.specs.Pulses.{MotionFits, StepsFit, seen_of}

pulse_fits : (p : Pulsing) (h : PieceLog) (k : RecordLog) → PulseFits p h k → PulseFits p (none ∷ (asked false ∷ h)) k
pulse_fits p h k f = record { turns = f.turns; records = f.records; waits = f.waits; ticks = f.ticks; left = f.left; reach = f.reach; end = f.end; last = f.last }

smooth_fits : (p : SmoothPulsing) (h : PieceLog) (k : RecordLog) → SmoothFits p h k → SmoothFits p (none ∷ (asked false ∷ h)) k
smooth_fits p h k f = record { pulse = pulse_fits (pulse_of p) h k f.pulse; level = f.level; left = f.left; whole = f.whole }

steps_fit : (p : MotionPulse) (h : PieceLog) (k : RecordLog) → StepsFit p h k → StepsFit p (none ∷ (asked false ∷ h)) k
steps_fit (Plain p) h k f = tt
steps_fit (Smooth p pins) h k f = (smooth_fits p h k f.0, f.1)

pub fits_none : (p : MotionPulse) (h : PieceLog) (k : RecordLog) → MotionFits p h k → MotionFits p (none ∷ (asked false ∷ h)) k
fits_none p h k f = record { pulse = pulse_fits (seen_of p) h k f.pulse; steps = steps_fit p h k f.steps }
