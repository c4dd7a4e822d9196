-- The order of turns that the words name.
use Rattle.std.specs.Prelude.{◌≡◌, ℕ, ◌-◌, Bool, false, List}
use Rattle.outside.specs.Causes.{SinkState}
use Rattle.run_law.specs.declared.RunEnd.{RunEnd}
use Rattle.epoch_law.specs.Devices.{Devices, devices, HasRun}
use Rattle.command_line.specs.declared.Buffers.TheVariants.{Standard}
use Rattle.command_line.specs.declared.Order.{Order}
use Rattle.motion_pulse.specs.declared.pulse.Stepping.{Stepping}
use Rattle.command_line.specs.declared.Order.TheVariants.{Threads, Lockstep, Paced}
use Rattle.command_line.specs.declared.StreamOptions.{StreamOptions}
use Rattle.step_record.specs.declared.forms.Form.{Form}
use Rattle.step_record.specs.declared.forms.Form.TheVariants.{One}
use Rattle.demo_job.specs.Jobs.{job_text}
use Rattle.run_status.specs.declared.Status.{Status}
use Rattle.run_status.specs.Ends.{status_of}
use Rattle.outside.specs.Writing.{Took}
use Rattle.run_status.specs.Demos.{demo_text, keeps_nothing, generated}
use Rattle.actor_turns.specs.Orders.{IsCountedRun, IsLockstepRun, IsPacedRun}
use Rattle.grbl_app.specs.Sizes.{room_of, slots_of}

-- A run of a job over a link and a plan of these sizes, whose steps have this form, and whose turns came in this order: of a seed, or at
-- a pace, with a pulse of this kind. Threads take them in any.
abbrev pub GoesInOrder : (attended : Bool) (room slots : ℕ) → Form → Stepping → Order → Devices → Devices → RunEnd → Type 0
GoesInOrder attended room slots form stepping Threads was now end = HasRun attended room (slots - 1) form was now end
GoesInOrder attended room slots form stepping (Lockstep seed) was now end = IsLockstepRun attended room slots form stepping seed was now end
GoesInOrder attended room slots form stepping Paced was now end = IsPacedRun attended room slots form stepping was now end

-- as the options say
abbrev pub GoesBy : (room slots : ℕ) → StreamOptions → Devices → Devices → RunEnd → Type 0
GoesBy room slots options was now end = GoesInOrder options.attended room slots options.form options.stepping options.order was now end

-- that, by the options of a stream, and its status
pub record EndsInOrder (options : StreamOptions) (was now : Devices) (status : Status) : Type 0 where
  pub end : RunEnd
  pub goes : GoesBy (room_of options.buffers) (slots_of options.buffers) options was now end
  pub status_is : status ≡ status_of end

-- A run of the generated job of n moves in the order that n gives as a seed, with steps of form 1, a pulse of this kind and a console
-- that keeps nothing. Its status is that of the run, and of the console that takes the line on it: of as many subticks as the pulse of
-- that run handed out.
pub record IsOrderedDemo (n : ℕ) (stepping : Stepping) (console_was console_is steps_was steps_is : SinkState) (status : Status) : Type 0 where
  pub end : RunEnd
  pub left : List ℕ
  pub subticks : ℕ
  pub goes : IsCountedRun false (room_of Standard) (slots_of Standard) One stepping n (devices (generated (job_text n)) keeps_nothing steps_was) (devices (generated left) keeps_nothing steps_is) end subticks
  pub console_failed : Bool
  pub console : Took console_was console_is console_failed (demo_text stepping n subticks)
  pub status_is : status ≡ status_of (record end { console_failed = console_failed })
