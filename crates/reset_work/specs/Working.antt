-- What the fields of a reset's work say of what was done, and what a turn of it adds.
use Rattle.std.specs.Prelude.{◌≡◌, ◌⊎◌, ℕ, ◌+◌, ◌-◌, ◌<◌, true, false, List, [], ◌∷◌, ◌++◌, length}
use Rattle.std.specs.List.{list_any}
use Rattle.outside.specs.declared.Turn.{Turn}
use Rattle.outside.specs.declared.Turn.TheVariants.{Did, Wait}
use Rattle.outside.specs.declared.On.{On}
use Rattle.outside.specs.declared.On.TheVariants as on
use Rattle.run_rules.specs.declared.State.{State}
use Rattle.status_report.specs.Answering.{lfs_in}
use Rattle.step_line.specs.Logs.{NewestFirst}
use Rattle.board_journal.specs.Ports.{BoardLog, taken_in, known_in}
use Rattle.board_journal.specs.Steps.{Step, Journal, port_log}
use Rattle.board_journal.specs.Steps.Step.{turned}
use Rattle.board_rules.specs.Turns.{this_turn, moving, ends_turn}
use Rattle.board_epochs.specs.Bounds.{loaded_mark}
use Rattle.board_epochs.specs.Epochs.{Closed, AreEpochs, closed_log, last_line, log_behind, log_of, opening_behind}
use Rattle.board_epochs.specs.Epochs.Epochs.{resets}
use Rattle.board_epochs.specs.Work.{Work, IsWorked, Stage as WorkStage, stage_of, dropping, worked_in, halted_in, requests_dropped, changes_dropped}
use Rattle.board_epochs.specs.Work.Stage.{drops_changes, awaits_mark, stops, awaits_halt, awaits_done, over}
use Rattle.reset_work.specs.declared.reset.ResetWork.{ResetWork}
use Rattle.reset_work.specs.declared.reset.Stage.{Stage}
use Rattle.reset_work.specs.declared.reset.Stage.TheVariants.{DropsChanges, AwaitsMark, Stops, AwaitsHalt, Drops, AwaitsDone, Over}
use Rattle.reset_work.specs.declared.reset.Words.{Words}
use Rattle.reset_work.specs.declared.reset.Words.TheVariants.{Both, Requests, None}

-- ---- what the fields say

-- the stage of the work
abbrev pub stage_in : Stage → WorkStage
stage_in DropsChanges = drops_changes
stage_in AwaitsMark = awaits_mark
stage_in (Stops left) = stops left
stage_in (AwaitsHalt left) = awaits_halt left
stage_in (Drops left) = dropping left
stage_in AwaitsDone = awaits_done
stage_in Over = over

-- which words of flags were taken since the work began, or since anything was waited for
abbrev pub AreDropped : Words → Work → Type 0
AreDropped Both w = Unit {0}
AreDropped Requests w = changes_dropped w ≡ true
AreDropped None w = (changes_dropped w ≡ true) × (requests_dropped w ≡ true)

-- the number of the mark that was worked last, and then that of the new one
abbrev pub mark_known : BoardLog → Stage → ℕ
mark_known l DropsChanges = worked_in l
mark_known l AwaitsMark = worked_in l
mark_known l _ = (loaded_mark l).0

-- how many bytes before the new mark are not taken
abbrev pub bytes_left : BoardLog → ℕ
bytes_left l = (loaded_mark l).1 - length (taken_in l)

-- so many are left until they are dropped
abbrev pub AreLeft : BoardLog → Stage → Type 0
AreLeft l (Stops left) = left ≡ bytes_left l
AreLeft l (AwaitsHalt left) = left ≡ bytes_left l
AreLeft l (Drops left) = left ≡ bytes_left l
AreLeft l _ = Unit {0}

-- so many ticks are made once the work is over
abbrev pub AreMade : BoardLog → Stage → ℕ → Type 0
AreMade l Over ticks = ticks ≡ known_in l
AreMade l _ ticks = Unit {0}

-- words of flags are left to be dropped only where a turn has waited: for the host's mark, for the halt, or for the reset's mark
abbrev pub HasWaited : Stage → Words → Type 0
HasWaited AwaitsMark words = Unit {0}
HasWaited (AwaitsHalt left) words = Unit {0}
HasWaited AwaitsDone words = Unit {0}
HasWaited _ words = words ≡ None

-- What the fields keep of a reset's work behind what was done at the port before it, where its mark has this number.
pub record IsWorking (it : ResetWork) (number : ℕ) (before : BoardLog) (w : Work) : Type 0 where
  pub stage_is : stage_of before w ≡ stage_in it.stage
  pub words_are : AreDropped it.words w
  pub waited : HasWaited it.stage it.words
  pub number_is : it.number ≡ number
  pub mark_is : it.mark ≡ mark_known (port_log w ++ before) it.stage
  pub left_are : AreLeft (port_log w ++ before) it.stage
  pub taken_is : it.taken ≡ length (taken_in (port_log w ++ before))
  pub dropped_is : it.dropped ≡ lfs_in (taken_in (port_log w))
  pub halted_is : it.halted ≡ halted_in w
  pub made_are : AreMade (port_log w ++ before) it.stage it.ticks

-- A reset is worked between two turns behind these epochs: the port stands for all that was done, which the rules allow.
pub record IsBetween (stands : BoardLog → Type 0) (it : ResetWork) (blocks : ℕ) (state : State) (es : NewestFirst Closed) (h : Journal) (w : Work) : Type 0 where
  pub port : stands (log_of (resets es h w))
  pub epochs : AreEpochs blocks state (resets es h w)
  pub working : IsWorking it (last_line (opening_behind blocks state es) h) (log_behind (closed_log es) h) w
  pub between : this_turn w ≡ []

-- ---- a turn

-- so much of the work's number is left for what a board counts in the next epoch
abbrev pub number_left : ℕ
number_left = 32

-- It falls from stage to stage, but where the last byte is dropped, or the mark is published: then something moves.
abbrev pub number_at : Stage → ℕ
number_at DropsChanges = 12
number_at AwaitsMark = 9
number_at (Stops left) = 6
number_at (AwaitsHalt left) = 3
number_at AwaitsDone = number_left + 1
number_at _ = 0

-- how many words are to be dropped before the work goes on
abbrev pub words_left : Words → ℕ
words_left Both = 2
words_left Requests = 1
words_left None = 0

-- It falls in each turn that answers Did and moves nothing.
abbrev pub number_of : ResetWork → ℕ
number_of it = number_at it.stage + words_left it.words

-- A turn adds what was done in it, which ends no other turn, and its answer; where that is Did, something moves, or the work's number
-- falls. Before the last turn it is above what is left of it.
pub record WorkTurned (before : BoardLog) (t : Turn) (was is : ResetWork) (w next : Work) : Type 0 where
  pub steps : List Step
  pub are : next ≡ turned t ∷ (steps ++ w)
  pub inner : list_any ends_turn steps ≡ false
  pub moves : t ≡ Did → (list_any moving (this_turn (steps ++ w)) ≡ true) ⊎ (number_of is < number_of was)
  pub ends : IsWorked before next → number_left < number_of was

-- what a turn leaves: a longer work, and the port stands for it
abbrev pub WorksOn : (stands : BoardLog → Type 0) → Turn → (was is : ResetWork) → (blocks : ℕ) → State → NewestFirst Closed → Journal → Work → Type 0
WorksOn stands t was is blocks state es h w = (next : Work) × IsBetween stands is blocks state es h next × WorkTurned (log_behind (closed_log es) h) t was is w next

-- it did something, or waits for this
abbrev pub IsAnswered : On → Turn → Type 0
IsAnswered on t = (t ≡ Did) ⊎ (t ≡ Wait on)

-- it did something, or waits for the host's mark, for the halt, or for the reset's mark
abbrev pub IsAnsweredByWork : Turn → Type 0
IsAnsweredByWork t = (t ≡ Did) ⊎ ((t ≡ Wait on.Reset) ⊎ ((t ≡ Wait on.Halt) ⊎ (t ≡ Wait on.Motion)))
