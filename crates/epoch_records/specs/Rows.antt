-- Worked epochs: what is put of some pieces, and what is not.
use Rattle.std.specs.Prelude.{ℕ, true, false, List, [], ◌∷◌, ◌++◌, pos}
use Rattle.flight.specs.Places.{origin}
use Rattle.run_rules.specs.Work.{Outcome}
use Rattle.run_rules.specs.Work.Kind.{of_code, of_jog}
use Rattle.run_rules.specs.Work.Task.{ask, tell}
use Rattle.run_rules.specs.declared.State.{State}
use Rattle.run_texts.specs.Courses.{Reset}
use Rattle.run_texts.specs.Parts.{Part}
use Rattle.run_texts.specs.Parts.Ending.{by_cut, by_reset, by_end}
use Rattle.run_texts.specs.Rows.{first_two}
use Rattle.status_report.specs.declared.Reply.TheVariants.{Ok}
use Rattle.step_line.specs.Asking.Asked.{a_move, a_mark, a_rest}
use Rattle.step_line.specs.declared.Mark.TheVariants.{Dwell, Cut, Reset as ResetMark}
use Rattle.step_line.specs.declared.planned_move.PlannedMove.{PlannedMove}
use Rattle.step_line.specs.declared.Piece.{Piece}
use Rattle.step_line.specs.declared.Piece.TheVariants as pieces
use Rattle.step_line.specs.declared.Record.TheVariants as kinds
use Rattle.units.specs.declared.Steps3.{Steps3}
use Rattle.epoch_records.specs.Epochs.{Epoch, ArePut}
use Rattle.epoch_records.specs.Runs.{AreRun}

abbrev pub on_axis : ℕ → Steps3
on_axis x = record { x = pos x; y = pos 0; z = pos 0 }

-- five events of line 1, which goes 100 mm, behind the first so many
abbrev pub five_from : ℕ → Piece
five_from first = pieces.Segment (record { line = 1; mv = record { «from» = on_axis 0; to = on_axis 25000 }; first = first; n = 5; w_in = 0; w_out = 0; cycles = 320000 })

-- two segments are published, so many ticks are made, and a reset follows; nothing comes behind it
abbrev pub stopped_at : ℕ → List Epoch
stopped_at done =
    record { pieces = five_from 0 ∷ five_from 5 ∷ []; done = done; closing = pieces.Mark (ResetMark 1) }
    ∷ record { pieces = []; done = 0; closing = pieces.End }
    ∷ []

-- three of the first head's five events are missing, and of the second segment nothing is put
abbrev pub StoppedBehindTwo : Type 0
StoppedBehindTwo = ArePut (stopped_at 2) (first_two ++ kinds.Mark (ResetMark 1) ∷ kinds.End ∷ [])

-- nothing is put, or the first head alone
abbrev pub StoppedBeforeAll : Type 0
StoppedBeforeAll = ArePut (stopped_at 0) (kinds.Mark (ResetMark 1) ∷ kinds.End ∷ [])

-- ---- what is not put

-- an event more than the ticks that were made
abbrev pub OneTooMany : Type 0
OneTooMany = ArePut (stopped_at 1) (first_two ++ kinds.Mark (ResetMark 1) ∷ kinds.End ∷ [])

-- no mark of the reset
abbrev pub NoMark : Type 0
NoMark = ArePut (stopped_at 2) (first_two ++ kinds.End ∷ [])

-- ---- parts that are run: a jog is cut before its first step, a dwell is made, and a reset breaks off a jog that is begun

-- a jog that asks for a move, and a line of G-code that asks for a dwell
abbrev pub jog_line : State → PlannedMove → Outcome
jog_line s m = record { work = ask (a_move m) ∷ tell Ok ∷ []; answer = Ok; settles = false; kind = of_jog; next = s }

abbrev pub dwell_line : State → Outcome
dwell_line s = record { work = ask a_rest ∷ ask (a_mark (Dwell 0)) ∷ ask a_rest ∷ tell Ok ∷ []; answer = Ok; settles = true; kind = of_code; next = s }

abbrev pub breaking : Reset
breaking = record { number = 3; dropped = 0; alarm = false; locked = false; at = origin }

abbrev pub three_parts : State → PlannedMove → List Part
three_parts s m =
    record { lines = jog_line s m ∷ []; begun = []; ending = by_cut 1 origin }
    ∷ record { lines = dwell_line s ∷ []; begun = jog_line s m ∷ []; ending = by_reset breaking }
    ∷ record { lines = []; begun = []; ending = by_end }
    ∷ []

-- the mark of the cut is published, and that of the dwell, and both are done
abbrev pub their_epochs : List Epoch
their_epochs =
    record { pieces = pieces.Mark (Cut 1) ∷ pieces.Mark (Dwell 0) ∷ []; done = 2; closing = pieces.Mark (ResetMark 3) }
    ∷ record { pieces = []; done = 0; closing = pieces.End }
    ∷ []

abbrev pub ThreePartsAreRun : State → PlannedMove → Type 0
ThreePartsAreRun s m = AreRun (three_parts s m) origin their_epochs

-- if the dwell is not done, the line that asks for it can't be answered
abbrev pub EarlyAnswer : State → PlannedMove → Type 0
EarlyAnswer s m =
    AreRun (three_parts s m) origin
    (record { pieces = pieces.Mark (Cut 1) ∷ pieces.Mark (Dwell 0) ∷ []; done = 1; closing = pieces.Mark (ResetMark 3) }
    ∷ record { pieces = []; done = 0; closing = pieces.End }
    ∷ [])
