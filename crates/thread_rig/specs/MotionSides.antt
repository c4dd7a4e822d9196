-- What the threads of a pulse and of a recorder have done at their ends.
use Rattle.std.specs.Prelude.{◌≡◌, true, []}
use Rattle.outside.specs.Causes.{SinkState}
use Rattle.rtrb.specs.Ring.{sent, received}
use Rattle.motion_ring.specs.Ends.{ring_of_in}
use Rattle.pulse_engine.specs.Logs.{PieceLog, RecordLog}
use Rattle.motion_pulse.specs.Pulses.{MotionFits, seen_of, stepping_of}
use Rattle.step_record.specs.Taking.{Log}
use Rattle.step_record.specs.Recording.{RecorderFits, Rests}
use Rattle.motion_ports.specs.Ports.{HasGot, HasPut, HasTaken}
use Rattle.thread_rig.specs.declared.motion.PulseSide.{PulseSide}
use Rattle.thread_rig.specs.declared.motion.RecorderSide.{RecorderSide}

-- no turn was made
pub record PulseIsNew (side : PulseSide) : Type 0 where
  pub got : HasGot side.pieces.end (ring_of_in side.pieces.end) []
  pub put : sent side.records.end ≡ []
  pub fits : MotionFits side.pulse [] []

pub record RecorderIsNew (side : RecorderSide) : Type 0 where
  pub taken : received side.records.end ≡ []
  pub fits : (now : SinkState) → RecorderFits side.recorder.form side.recorder [] now now

-- The pulse has: of the pieces that its end got it put the records, and counted the ticks. It is of the kind that it was.
pub record PulseRunsAt (was is : PulseSide) : Type 0 where
  pub got : PieceLog
  pub put : RecordLog
  pub pieces : HasGot is.pieces.end (ring_of_in was.pieces.end) got
  pub records : HasPut is.records.end was.records.end put
  pub fits : MotionFits is.pulse got put
  pub stepping : stepping_of is.pulse ≡ stepping_of was.pulse

-- The recorder has: the steps took the text of the records that its end took, in its form, as far as it does not wait.
pub record RecorderRunsAt (steps_was steps_is : SinkState) (was is : RecorderSide) : Type 0 where
  pub log : Log
  pub records : HasTaken is.records.end was.records.end log
  pub fits : RecorderFits was.recorder.form is.recorder log steps_was steps_is

-- they have, and the actor is done
pub record PulseRanAt (was is : PulseSide) : Type 0 where
  pub runs : PulseRunsAt was is
  pub done : (seen_of is.pulse).over ≡ true

pub record RecorderRanAt (steps_was steps_is : SinkState) (was is : RecorderSide) : Type 0 where
  pub runs : RecorderRunsAt steps_was steps_is was is
  pub done : Rests is.recorder
