-- The subticks that were handed out, by the heads that were put.
use Rattle.std.proofs.Common.{◌≡◌, [], refl, ap}
use Rattle.pulse_engine.specs.Logs.{PieceLog, RecordLog, halts_of, records_put}
use Rattle.smooth_step.specs.Counts.{subticks_in, subticks_of_heads}
use Rattle.smooth_step.specs.Pulses.{SmoothPulsing, SmoothFits, pulse_of}
use Rattle.motion_pulse.specs.declared.pulse.MotionPulse.{MotionPulse}
use Rattle.motion_pulse.specs.declared.pulse.MotionPulse.TheVariants.{Plain, Smooth}
use Rattle.motion_pulse.specs.Pulses.{MotionFits, StepsFit, capped, pins_of, pins_by_heads, seen_of, stepping_of}

-- by the law of pulses that hand out subticks
module _ (law : (p : SmoothPulsing) (h : PieceLog) (k : RecordLog) → SmoothFits p h k → halts_of h ≡ [] → (pulse_of p).waiting ≡ [] → subticks_in k ≡ subticks_of_heads (records_put k)) where
  by_kind : (p : MotionPulse) (h : PieceLog) (k : RecordLog) → StepsFit p h k → halts_of h ≡ [] → (seen_of p).waiting ≡ [] → pins_of (stepping_of p) k ≡ pins_by_heads (stepping_of p) (records_put k)
  by_kind (Plain p) h k steps unhalted nothing = refl
  by_kind (Smooth p pins) h k steps unhalted nothing = ap capped (law p h k steps.0 unhalted nothing)

  pub by_heads : (p : MotionPulse) (h : PieceLog) (k : RecordLog) → MotionFits p h k → halts_of h ≡ [] → (seen_of p).waiting ≡ [] → pins_of (stepping_of p) k ≡ pins_by_heads (stepping_of p) (records_put k)
  by_heads p h k fits unhalted nothing = by_kind p h k fits.steps unhalted nothing
