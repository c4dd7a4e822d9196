-- A whole run of a board to which one line comes that moves the machine by one segment, as `G0X.004` does by one step: the
-- rules allow it.
use Rattle.std.proofs.Common.{◌≡◌, ℕ, ◌≤◌, Bool, cond, [], ◌∷◌, inl, true, false, refl, sym, ap, ◌∙◌, arith}
use Rattle.std.specs.List.{Contains}
use Rattle.feed_hold.specs.declared.Motion.TheVariants as motions
use Rattle.feed_hold.specs.Motions.Call.{on_start, on_drained}
use Rattle.outside.specs.declared.On.{On}
use Rattle.outside.specs.declared.On.TheVariants as on
use Rattle.outside.specs.declared.Turn.TheVariants.{Did, Wait, Done}
use Rattle.plan_rules.specs.Segments.{advanced}
use Rattle.planner_runs.specs.declared.Action.TheVariants.{Add, Take}
use Rattle.planner_runs.specs.Runs.{MayAdd, IsAtRest, fresh_plan, with_move, most_blocks}
use Rattle.plan_rules.specs.Taking.{IsNext}
use Rattle.plan_rules.specs.declared.Mode.TheVariants.{Go}
use Rattle.run_rules.specs.declared.State.{State}
use Rattle.run_rules.specs.declared.machine.Machine.TheVariants.{Stands}
use Rattle.run_rules.specs.Finding.{Found}
use Rattle.run_rules.specs.Outcomes.{start}
use Rattle.run_rules.specs.Work.{Outcome}
use Rattle.run_rules.specs.Work.Kind.{of_code}
use Rattle.run_rules.specs.Work.Task.{ask, tell}
use Rattle.status_report.specs.declared.Reply.TheVariants.{Banner, Ok, Bye}
use Rattle.step_line.specs.Asking.Asked.{a_move}
use Rattle.step_line.specs.declared.Piece.TheVariants as pieces
use Rattle.step_line.specs.declared.Segment.{Segment}
use Rattle.step_line.specs.declared.planned_move.PlannedMove.{PlannedMove}
use Rattle.step_line.specs.Finishing.{ticks_together}
use Rattle.board_journal.specs.Openings.{first_opening}
use Rattle.board_journal.specs.Ports.PortStep.{found_empty, found_closed, answered, published, loaded}
use Rattle.board_journal.specs.Steps.{Journal}
use Rattle.board_journal.specs.Steps.Step.{at_port, began, did, made_end, became, closing, turned}
use Rattle.board_rules.specs.Turns.{has_blocks}
use Rattle.board_rules.specs.Conduct.{Conducted}
use Rattle.board_rules.proofs.Example.{opens, ends, nothing, no_changes, under, untrue, elsewhere}
use Rattle.board_rules.proofs.Taking.{line_taken, words_taken, may_take_line, may_take_words}

-- what becomes of the line: its move, and `ok`
abbrev pub moved : PlannedMove → State → Outcome
moved m last = record { work = ask (a_move m) ∷ tell Ok ∷ []; answer = Ok; settles = false; kind = of_code; next = last }

-- The line is accepted. Its move may be added to the fresh plan, which gives it in one segment, and is at rest behind that.
pub record IsOneSegment (first last : State) (m : PlannedMove) (s : Segment) : Type 0 where
  pub becomes : Found Stands (start first) (71 ∷ 48 ∷ 88 ∷ 46 ∷ 48 ∷ 48 ∷ 52 ∷ []) (moved m last)
  pub add : MayAdd most_blocks fresh_plan m
  pub taken : IsNext (with_move fresh_plan m) Go s
  pub rests : IsAtRest (advanced (with_move fresh_plan m) s.n s.w_out)

no_blocks : (m : PlannedMove) (s : Segment) → IsAtRest (advanced (with_move fresh_plan m) s.n s.w_out) → has_blocks (advanced (with_move fresh_plan m) s.n s.w_out).blocks ≡ true → ⊥
no_blocks m s rests some = absurd (let e = sym some ∙ ap has_blocks rests.blocks in cc)

one_unfinished : (is : Bool) → cond {A = ℕ} is 1 0 ≤ 5
one_unfinished true = omega arith
one_unfinished false = omega arith

none_in : (o : On) → Contains [] o → ⊥
none_in o c = absurd (let f = c.1 in omega arith)

abbrev j0 : State → PlannedMove → Segment → Journal
j0 last m s = []

c0 : (first last : State) (m : PlannedMove) (s : Segment) → IsOneSegment first last m s → Conducted (first_opening most_blocks first) (j0 last m s)
c0 first last m s p = opens first

abbrev j1 : State → PlannedMove → Segment → Journal
j1 last m s = turned Did ∷ at_port (answered Banner) ∷ j0 last m s

c1 : (first last : State) (m : PlannedMove) (s : Segment) → IsOneSegment first last m s → Conducted (first_opening most_blocks first) (j1 last m s)
c1 first last m s p = (ends _ _ (λ w. untrue w.blocks) refl refl refl refl refl refl, (record { once = refl; next = refl; plain = refl; unowed = refl; empty = λ e. absurd cc; unlocked = refl }, c0 first last m s p))

abbrev j2 : State → PlannedMove → Segment → Journal
j2 last m s = line_taken (71 ∷ 48 ∷ 88 ∷ 46 ∷ 48 ∷ 48 ∷ 52 ∷ []) (j1 last m s)

c2 : (first last : State) (m : PlannedMove) (s : Segment) → IsOneSegment first last m s → Conducted (first_opening most_blocks first) (j2 last m s)
c2 first last m s p = may_take_line (first_opening most_blocks first) (71 ∷ 48 ∷ 88 ∷ 46 ∷ 48 ∷ 48 ∷ 52 ∷ []) (j1 last m s) (c1 first last m s p) refl (record { once = refl; calm = refl; all_done = refl; partial = refl; unclosed = refl }) refl (under _ _ refl)

abbrev j3 : State → PlannedMove → Segment → Journal
j3 last m s = words_taken no_changes nothing motions.Idle (j2 last m s)

c3 : (first last : State) (m : PlannedMove) (s : Segment) → IsOneSegment first last m s → Conducted (first_opening most_blocks first) (j3 last m s)
c3 first last m s p = may_take_words (first_opening most_blocks first) no_changes nothing motions.Idle (j2 last m s) (c2 first last m s p) refl refl refl refl refl refl refl refl (λ e. inl refl)

abbrev j4 : State → PlannedMove → Segment → Journal
j4 last m s = at_port (loaded 0) ∷ j3 last m s

c4 : (first last : State) (m : PlannedMove) (s : Segment) → IsOneSegment first last m s → Conducted (first_opening most_blocks first) (j4 last m s)
c4 first last m s p = (record { later = omega arith; below = omega arith; few = omega arith }, c3 first last m s p)

abbrev j5 : State → PlannedMove → Segment → Journal
j5 last m s = began (moved m last) ∷ j4 last m s

c5 : (first last : State) (m : PlannedMove) (s : Segment) → IsOneSegment first last m s → Conducted (first_opening most_blocks first) (j5 last m s)
c5 first last m s p = (record { calm = refl; free = refl; going = refl; whole = refl; becomes = p.becomes; begins = refl; flags = refl; obeyed = refl; unowed = refl; load = refl; idle = λ d. refl; starts = λ w. untrue w.blocks; tried = refl; few = omega arith }, c4 first last m s p)

abbrev j6 : State → PlannedMove → Segment → Journal
j6 last m s = turned Did ∷ did (Add m) [] ∷ j5 last m s

c6 : (first last : State) (m : PlannedMove) (s : Segment) → IsOneSegment first last m s → Conducted (first_opening most_blocks first) (j6 last m s)
c6 first last m s p = (ends _ _ (λ w. refl) refl refl refl refl refl refl, ((refl, (p.add, refl)), c5 first last m s p))

abbrev pub j7 : State → PlannedMove → Segment → Journal
j7 last m s = turned Did ∷ at_port (answered Ok) ∷ j6 last m s

pub c7 : (first last : State) (m : PlannedMove) (s : Segment) → IsOneSegment first last m s → Conducted (first_opening most_blocks first) (j7 last m s)
c7 first last m s p = (ends _ _ (λ w. refl) refl refl refl refl refl refl, (record { once = refl; next = refl; plain = refl; unowed = refl; empty = λ e. absurd cc; unlocked = refl }, c6 first last m s p))

abbrev j8 : State → PlannedMove → Segment → Journal
j8 last m s = became (on_start false) motions.Run ∷ at_port found_empty ∷ j7 last m s

c8 : (first last : State) (m : PlannedMove) (s : Segment) → IsOneSegment first last m s → Conducted (first_opening most_blocks first) (j8 last m s)
c8 first last m s p = ((refl, record { goes = refl; blocks = refl; called = refl; jogs = refl }), (record { once = refl; calm = refl; all_done = refl; partial = refl; unclosed = refl }, c7 first last m s p))

abbrev j9 : State → PlannedMove → Segment → Journal
j9 last m s = turned (Wait on.Byte) ∷ j8 last m s

c9 : (first last : State) (m : PlannedMove) (s : Segment) → IsOneSegment first last m s → Conducted (first_opening most_blocks first) (j9 last m s)
c9 first last m s p = (record { ends = ends _ _ (λ w. elsewhere _ w.stands refl) refl refl refl refl refl refl; cause = record { poll = refl; free = refl; partial = refl; unowed = refl }; still = refl; flags = refl; obeyed = refl; unowed = λ owed. absurd cc; round = λ due c. none_in on.Byte c }, c8 first last m s p)

abbrev j10 : State → PlannedMove → Segment → Journal
j10 last m s = words_taken no_changes nothing motions.Run (j9 last m s)

c10 : (first last : State) (m : PlannedMove) (s : Segment) → IsOneSegment first last m s → Conducted (first_opening most_blocks first) (j10 last m s)
c10 first last m s p = may_take_words (first_opening most_blocks first) no_changes nothing motions.Run (j9 last m s) (c9 first last m s p) refl refl refl refl refl refl refl refl (λ e. absurd cc)

abbrev j11 : State → PlannedMove → Segment → Journal
j11 last m s = turned Did ∷ at_port (published (pieces.Segment s)) ∷ did (Take Go) (pieces.Segment s ∷ []) ∷ j10 last m s

c11 : (first last : State) (m : PlannedMove) (s : Segment) → IsOneSegment first last m s → Conducted (first_opening most_blocks first) (j11 last m s)
c11 first last m s p = (ends _ _ (λ w. elsewhere _ w.stands refl) refl refl refl refl refl refl, ((refl, refl, λ owed. absurd cc), ((record { goes = refl; empty = refl; obeyed = refl }, (p.taken, refl)), c10 first last m s p)))

abbrev j12 : State → PlannedMove → Segment → Journal
j12 last m s = at_port found_empty ∷ j11 last m s

c12 : (first last : State) (m : PlannedMove) (s : Segment) → IsOneSegment first last m s → Conducted (first_opening most_blocks first) (j12 last m s)
c12 first last m s p = (record { once = refl; calm = refl; all_done = refl; partial = refl; unclosed = refl }, c11 first last m s p)

abbrev j13 : State → PlannedMove → Segment → Journal
j13 last m s = became on_drained motions.Idle ∷ at_port (loaded (ticks_together (pieces.Segment s ∷ []))) ∷ j12 last m s

c13 : (first last : State) (m : PlannedMove) (s : Segment) → IsOneSegment first last m s → Conducted (first_opening most_blocks first) (j13 last m s)
c13 first last m s p = ((refl, record { plan = p.rests; hand = refl; done = refl }), (record { later = omega arith; below = omega arith; few = one_unfinished _ }, c12 first last m s p))

abbrev j14 : State → PlannedMove → Segment → Journal
j14 last m s = turned (Wait on.Byte) ∷ j13 last m s

c14 : (first last : State) (m : PlannedMove) (s : Segment) → IsOneSegment first last m s → Conducted (first_opening most_blocks first) (j14 last m s)
c14 first last m s p = (record { ends = ends _ _ (λ w. absurd (no_blocks m s p.rests w.blocks)) refl refl refl refl refl refl; cause = record { poll = refl; free = refl; partial = refl; unowed = refl }; still = refl; flags = refl; obeyed = refl; unowed = λ owed. absurd cc; round = λ due. absurd cc }, c13 first last m s p)

abbrev j15 : State → PlannedMove → Segment → Journal
j15 last m s = words_taken no_changes nothing motions.Idle (j14 last m s)

c15 : (first last : State) (m : PlannedMove) (s : Segment) → IsOneSegment first last m s → Conducted (first_opening most_blocks first) (j15 last m s)
c15 first last m s p = may_take_words (first_opening most_blocks first) no_changes nothing motions.Idle (j14 last m s) (c14 first last m s p) refl refl refl refl refl refl refl refl (λ e. inl refl)

abbrev j16 : State → PlannedMove → Segment → Journal
j16 last m s = closing ∷ at_port found_closed ∷ j15 last m s

c16 : (first last : State) (m : PlannedMove) (s : Segment) → IsOneSegment first last m s → Conducted (first_opening most_blocks first) (j16 last m s)
c16 first last m s p = (record { free = refl; going = refl; begun = refl; closed = inl refl }, (record { once = refl; calm = refl; all_done = refl; partial = refl; unclosed = refl }, c15 first last m s p))

abbrev j17 : State → PlannedMove → Segment → Journal
j17 last m s = turned Did ∷ at_port (published pieces.End) ∷ made_end ∷ j16 last m s

c17 : (first last : State) (m : PlannedMove) (s : Segment) → IsOneSegment first last m s → Conducted (first_opening most_blocks first) (j17 last m s)
c17 first last m s p = (ends _ _ (λ w. absurd (no_blocks m s p.rests w.blocks)) refl refl refl refl refl refl, ((refl, tt, λ owed. absurd cc), (record { next = refl; drained = record { plan = p.rests; hand = refl; done = refl }; stands = refl; closes = λ e. absurd cc }, c16 first last m s p)))

abbrev j18 : State → PlannedMove → Segment → Journal
j18 last m s = turned Did ∷ at_port (answered Bye) ∷ j17 last m s

c18 : (first last : State) (m : PlannedMove) (s : Segment) → IsOneSegment first last m s → Conducted (first_opening most_blocks first) (j18 last m s)
c18 first last m s p = (ends _ _ (λ w. absurd (no_blocks m s p.rests w.blocks)) refl refl refl refl refl refl, (record { once = refl; next = refl; plain = refl; unowed = refl; empty = λ e. refl; unlocked = refl }, c17 first last m s p))

abbrev j19 : State → PlannedMove → Segment → Journal
j19 last m s = turned Done ∷ j18 last m s

pub c19 : (first last : State) (m : PlannedMove) (s : Segment) → IsOneSegment first last m s → Conducted (first_opening most_blocks first) (j19 last m s)
c19 first last m s p = (record { finished = record { left = refl; closed = refl }; still = refl }, c18 first last m s p)
