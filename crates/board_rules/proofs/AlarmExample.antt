-- A whole run of a board that a soft limit ends: behind a line whose move is queued, and has not started, comes one that is beyond the
-- travel, as `G0X9` is where soft limits are on. The machine stands, so it is in alarm at once; the queued move is dropped, the alarm
-- is told, and the run is closed.
use Rattle.std.proofs.Common.{[], ◌∷◌, inl, inr, refl, arith}
use Rattle.feed_hold.specs.declared.Motion.TheVariants as motions
use Rattle.feed_hold.specs.Motions.Call.{on_limit}
use Rattle.outside.specs.declared.Turn.TheVariants.{Did, Done}
use Rattle.run_rules.specs.declared.State.{State}
use Rattle.run_rules.specs.declared.machine.Machine.TheVariants.{Stands}
use Rattle.run_rules.specs.Finding.{Found}
use Rattle.run_rules.specs.Outcomes.{start, after, limited}
use Rattle.run_rules.specs.Work.{Outcome}
use Rattle.status_report.specs.declared.Message.TheVariants.{ResetToContinue}
use Rattle.status_report.specs.declared.Reply.TheVariants.{Alarm, Message, Bye}
use Rattle.step_line.specs.declared.Piece.TheVariants as pieces
use Rattle.step_line.specs.declared.Segment.{Segment}
use Rattle.step_line.specs.declared.planned_move.PlannedMove.{PlannedMove}
use Rattle.board_journal.specs.Openings.{first_opening}
use Rattle.board_journal.specs.Ports.PortStep.{answered, published, loaded}
use Rattle.board_journal.specs.Steps.{Journal}
use Rattle.board_journal.specs.Steps.Step.{at_port, began, made_end, became, halted, closing, turned}
use Rattle.board_rules.specs.Conduct.{Conducted}
use Rattle.board_rules.proofs.Example.{ends, nothing, no_changes, under, elsewhere}
use Rattle.board_rules.proofs.MovingExample.{IsOneSegment, moved, j7, c7}
use Rattle.board_rules.proofs.Taking.{line_taken, words_taken, may_take_line, may_take_words}
use Rattle.planner_runs.specs.Runs.{most_blocks}

-- what becomes of the second line
abbrev pub beyond : State → State → PlannedMove → Outcome
beyond first last m = limited (after (start first) (moved m last))

-- the first line is accepted, and the second is beyond the travel
pub record IsBeyondBehind (first last : State) (m : PlannedMove) (s : Segment) : Type 0 where
  pub one : IsOneSegment first last m s
  pub beyond : Found Stands (after (start first) (moved m last)) (71 ∷ 48 ∷ 88 ∷ 57 ∷ []) (beyond first last m)

abbrev h8 : State → State → PlannedMove → Segment → Journal
h8 first last m s = line_taken (71 ∷ 48 ∷ 88 ∷ 57 ∷ []) (j7 last m s)

a8 : (first last : State) (m : PlannedMove) (s : Segment) → IsBeyondBehind first last m s → Conducted (first_opening most_blocks first) (h8 first last m s)
a8 first last m s p = may_take_line (first_opening most_blocks first) (71 ∷ 48 ∷ 88 ∷ 57 ∷ []) (j7 last m s) (c7 first last m s p.one) refl (record { once = refl; calm = refl; all_done = refl; partial = refl; unclosed = refl }) refl (under _ _ refl)

abbrev h9 : State → State → PlannedMove → Segment → Journal
h9 first last m s = words_taken no_changes nothing motions.Idle (h8 first last m s)

a9 : (first last : State) (m : PlannedMove) (s : Segment) → IsBeyondBehind first last m s → Conducted (first_opening most_blocks first) (h9 first last m s)
a9 first last m s p = may_take_words (first_opening most_blocks first) no_changes nothing motions.Idle (h8 first last m s) (a8 first last m s p) refl refl refl refl refl refl refl refl (λ e. inl refl)

abbrev h10 : State → State → PlannedMove → Segment → Journal
h10 first last m s = at_port (loaded 0) ∷ h9 first last m s

a10 : (first last : State) (m : PlannedMove) (s : Segment) → IsBeyondBehind first last m s → Conducted (first_opening most_blocks first) (h10 first last m s)
a10 first last m s p = (record { later = omega arith; below = omega arith; few = omega arith }, a9 first last m s p)

abbrev h11 : State → State → PlannedMove → Segment → Journal
h11 first last m s = became on_limit motions.Alarm ∷ began (beyond first last m) ∷ h10 first last m s

a11 : (first last : State) (m : PlannedMove) (s : Segment) → IsBeyondBehind first last m s → Conducted (first_opening most_blocks first) (h11 first last m s)
a11 first last m s p = ((refl, record { alarmed = refl; next = refl; unlimited = refl }), (record { calm = refl; free = refl; going = refl; whole = refl; becomes = p.beyond; begins = refl; flags = refl; obeyed = refl; unowed = refl; load = refl; idle = λ d. refl; starts = λ w. refl; tried = refl; few = omega arith }, a10 first last m s p))

abbrev h12 : State → State → PlannedMove → Segment → Journal
h12 first last m s = turned Did ∷ at_port (answered (Alarm 2)) ∷ halted ∷ h11 first last m s

a12 : (first last : State) (m : PlannedMove) (s : Segment) → IsBeyondBehind first last m s → Conducted (first_opening most_blocks first) (h12 first last m s)
a12 first last m s p = (ends _ _ (λ w. elsewhere _ w.stands refl) refl refl refl refl refl refl, (record { once = refl; next = refl; plain = refl; unowed = refl; empty = λ e. absurd cc; unlocked = refl }, (record { next = refl; alarm = refl; still = refl; empty = refl; done = refl }, a11 first last m s p)))

abbrev h13 : State → State → PlannedMove → Segment → Journal
h13 first last m s = turned Did ∷ closing ∷ at_port (answered (Message ResetToContinue)) ∷ h12 first last m s

a13 : (first last : State) (m : PlannedMove) (s : Segment) → IsBeyondBehind first last m s → Conducted (first_opening most_blocks first) (h13 first last m s)
a13 first last m s p = (ends _ _ (λ w. elsewhere _ w.stands refl) refl refl refl refl refl refl, (record { free = refl; going = refl; begun = refl; closed = inr refl }, (record { once = refl; next = refl; plain = refl; unowed = refl; empty = λ e. absurd cc; unlocked = refl }, a12 first last m s p)))

abbrev h14 : State → State → PlannedMove → Segment → Journal
h14 first last m s = turned Did ∷ at_port (published pieces.End) ∷ made_end ∷ h13 first last m s

a14 : (first last : State) (m : PlannedMove) (s : Segment) → IsBeyondBehind first last m s → Conducted (first_opening most_blocks first) (h14 first last m s)
a14 first last m s p = (ends _ _ (λ w. elsewhere _ w.stands refl) refl refl refl refl refl refl, ((refl, tt, λ owed. absurd cc), (record { next = refl; drained = record { plan = record { blocks = refl; speed = refl }; hand = refl; done = refl }; stands = refl; closes = λ e. absurd cc }, a13 first last m s p)))

abbrev h15 : State → State → PlannedMove → Segment → Journal
h15 first last m s = turned Did ∷ at_port (answered Bye) ∷ h14 first last m s

a15 : (first last : State) (m : PlannedMove) (s : Segment) → IsBeyondBehind first last m s → Conducted (first_opening most_blocks first) (h15 first last m s)
a15 first last m s p = (ends _ _ (λ w. elsewhere _ w.stands refl) refl refl refl refl refl refl, (record { once = refl; next = refl; plain = refl; unowed = refl; empty = λ e. refl; unlocked = refl }, a14 first last m s p))

abbrev pub h16 : State → State → PlannedMove → Segment → Journal
h16 first last m s = turned Done ∷ h15 first last m s

pub a16 : (first last : State) (m : PlannedMove) (s : Segment) → IsBeyondBehind first last m s → Conducted (first_opening most_blocks first) (h16 first last m s)
a16 first last m s p = (record { finished = record { left = refl; closed = refl }; still = refl }, a15 first last m s p)
