-- What callers see of the pulse of a run, and what it has done.
use Rattle.std.specs.Prelude.{◌≡◌, ℕ, ◌-◌, ◌^◌, min, List}
use Rattle.step_line.specs.declared.Record.{Record}
use Rattle.pulse_engine.specs.Logs.{PieceLog, RecordLog}
use Rattle.pulse_engine.specs.Steps.{Pulsing}
use Rattle.pulse_engine.specs.Turns.{PulseFits}
use Rattle.smooth_step.specs.Counts.{subticks_in, subticks_of_heads}
use Rattle.smooth_step.specs.Pulses.{pulse_of, SmoothFits}
use Rattle.motion_pulse.specs.declared.pulse.MotionPulse.{MotionPulse}
use Rattle.motion_pulse.specs.declared.pulse.MotionPulse.TheVariants.{Plain, Smooth}
use Rattle.motion_pulse.specs.declared.pulse.Stepping.{Stepping}
use Rattle.motion_pulse.specs.declared.pulse.Stepping.TheVariants.{Events, Subticks}

-- what callers see of any pulse
abbrev pub seen_of : MotionPulse → Pulsing
seen_of (Plain p) = p
seen_of (Smooth p pins) = pulse_of p

-- its kind
abbrev pub stepping_of : MotionPulse → Stepping
stepping_of (Plain p) = Events
stepping_of (Smooth p pins) = Subticks

-- a count stops at the largest number that 64 bits hold
abbrev pub capped : ℕ → ℕ
capped n = min n (2 ^ 64 - 1)

-- how many subticks a pulse of this kind has handed out that has tried these records
abbrev pub pins_of : Stepping → RecordLog → ℕ
pins_of Events k = 0
pins_of Subticks k = capped (subticks_in k)

-- how many one of this kind has handed out for records that were all put, with the events of each head behind it
abbrev pub pins_by_heads : Stepping → List Record → ℕ
pins_by_heads Events records = 0
pins_by_heads Subticks records = capped (subticks_of_heads records)

-- what one that hands out subticks has besides
abbrev pub StepsFit : MotionPulse → PieceLog → RecordLog → Type 0
StepsFit (Plain p) h k = Unit {0}
StepsFit (Smooth p pins) h k = SmoothFits p h k × (pins.count ≡ capped (subticks_in k))

-- a pulse that has done this
pub record MotionFits (p : MotionPulse) (h : PieceLog) (k : RecordLog) : Type 0 where
  pub pulse : PulseFits (seen_of p) h k
  pub steps : StepsFit p h k
