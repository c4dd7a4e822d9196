-- A whole run of a board to which one jog comes, `$J=X.004F9`, which starts at once and moves the machine by one segment: the
-- rules allow it.
use Rattle.std.proofs.Common.{pos, ◌≡◌, ℕ, ◌≤◌, Bool, cond, [], ◌∷◌, inl, true, false, refl, sym, ap, ◌∙◌, arith}
use Rattle.feed_hold.specs.declared.Motion.TheVariants as motions
use Rattle.feed_hold.specs.Motions.Call.{on_start, on_drained}
use Rattle.outside.specs.declared.On.TheVariants as on
use Rattle.outside.specs.declared.Turn.TheVariants.{Did, Wait, Done}
use Rattle.plan_rules.specs.Segments.{advanced}
use Rattle.planner_runs.specs.declared.Action.TheVariants.{Add, Take}
use Rattle.planner_runs.specs.Runs.{MayAdd, IsAtRest, fresh_plan, with_move, most_blocks}
use Rattle.plan_rules.specs.Taking.{IsNext}
use Rattle.plan_rules.specs.declared.Mode.TheVariants.{Go}
use Rattle.gcode_words.specs.Words.{words_within, first_word}
use Rattle.jog.specs.Jogs.{jog_error, jog_of}
use Rattle.line_words.specs.Codes.{group_of, code_in}
use Rattle.line_words.specs.Targets.{target}
use Rattle.line_words.specs.WordRefusals.{words_refusal, word_refusal, refusal_at}
use Rattle.modal_state.specs.Modes.{opening_parser}
use Rattle.settings.specs.declared.Settings.{Settings}
use Rattle.step_line.specs.Counting.{events_of}
use Rattle.system_lines.specs.Commands.{kind_of}
use Rattle.units.specs.Decimals.{front_number, digits_say}
use Rattle.units.specs.Reading.{decimal_from}
use Rattle.units.specs.Rounding.{rounded_quotient}
use Rattle.units.specs.declared.Move.{Move as Way}
use Rattle.units.specs.declared.Nm3.{Nm3}
use Rattle.units.specs.declared.Rate.TheVariants as rates
use Rattle.units.specs.declared.Steps3.{Steps3}
use Rattle.run_rules.specs.Asks.{planned}
use Rattle.run_rules.specs.declared.State.{State}
use Rattle.run_rules.specs.declared.machine.Machine.TheVariants.{Stands}
use Rattle.run_rules.specs.Finding.{Found}
use Rattle.run_rules.specs.Outcomes.{start}
use Rattle.run_rules.specs.Work.{Outcome}
use Rattle.run_rules.specs.Work.Kind.{of_jog}
use Rattle.run_rules.specs.Work.Task.{ask, tell}
use Rattle.status_report.specs.declared.Reply.TheVariants.{Banner, Ok, Bye}
use Rattle.step_line.specs.Asking.Asked.{a_move}
use Rattle.step_line.specs.declared.Piece.TheVariants as pieces
use Rattle.step_line.specs.declared.Segment.{Segment}
use Rattle.step_line.specs.declared.planned_move.PlannedMove.{PlannedMove}
use Rattle.step_line.specs.Finishing.{ticks_together}
use Rattle.board_journal.specs.Openings.{first_opening}
use Rattle.board_journal.specs.Ports.PortStep.{found_empty, found_closed, answered, published, loaded}
use Rattle.board_journal.specs.Steps.{Journal}
use Rattle.board_journal.specs.Steps.Step.{at_port, began, did, made_end, became, closing, turned}
use Rattle.board_rules.specs.Turns.{has_blocks}
use Rattle.board_rules.specs.Conduct.{Conducted}
use Rattle.board_rules.proofs.Example.{opens, ends, nothing, no_changes, under, untrue, elsewhere}
use Rattle.board_rules.proofs.Taking.{line_taken, words_taken, may_take_line, may_take_words}

-- what becomes of the line: its move, and `ok`
abbrev pub jog : PlannedMove → State → Outcome
jog m last = record { work = ask (a_move m) ∷ tell Ok ∷ []; answer = Ok; settles = false; kind = of_jog; next = last }

-- The line is accepted where the machine stands. Its move may be added to the fresh plan, which gives it in one segment, and
-- is at rest behind that.
pub record IsOneJog (first last : State) (m : PlannedMove) (s : Segment) : Type 0 where
  pub becomes : Found Stands (start first) (36 ∷ 74 ∷ 61 ∷ 88 ∷ 46 ∷ 48 ∷ 48 ∷ 52 ∷ 70 ∷ 57 ∷ []) (jog m last)
  pub add : MayAdd most_blocks fresh_plan m
  pub taken : IsNext (with_move fresh_plan m) Go s
  pub rests : IsAtRest (advanced (with_move fresh_plan m) s.n s.w_out)

-- the settings of the generic machine, and the state before the first line
abbrev pub machine : Settings
machine = record {
  report = 1;
  deviation = 10;
  soft = false;
  limits = record { per_mm = record { x = 250000; y = 250000; z = 250000 }; rate = record { x = 500000; y = 500000; z = 500000 }; accel = record { x = 10000; y = 10000; z = 10000 } };
  travel = record { x = 200000; y = 200000; z = 200000 };
}

abbrev pub opening : State
opening = record { parser = opening_parser; settings = machine }

-- the jog's target is one step away
abbrev target_nm : Nm3
target_nm = record { x = pos 4000; y = pos 0; z = pos 0 }

abbrev pub target_steps : Steps3
target_steps = record { x = pos 1; y = pos 0; z = pos 0 }

abbrev pub way : Way
way = record { from = record { x = pos 0; y = pos 0; z = pos 0 }; to = target_steps }

abbrev pub behind_jog : State
behind_jog = record { parser = record opening_parser { pos_nm = target_nm; pos_steps = target_steps }; settings = machine }

-- so it is accepted from the first line on: it goes there at 9 mm a minute, and the position is there from then on
pub jog_is : Found Stands (start opening) (36 ∷ 74 ∷ 61 ∷ 88 ∷ 46 ∷ 48 ∷ 48 ∷ 52 ∷ 70 ∷ 57 ∷ []) (jog (planned 1 machine way (rates.Jog (pos 9000000))) behind_jog)
unfolding kind_of words_within first_word decimal_from front_number digits_say words_refusal word_refusal refusal_at group_of code_in target jog_error jog_of rounded_quotient events_of
jog_is = refl

no_blocks : (m : PlannedMove) (s : Segment) → IsAtRest (advanced (with_move fresh_plan m) s.n s.w_out) → has_blocks (advanced (with_move fresh_plan m) s.n s.w_out).blocks ≡ true → ⊥
no_blocks m s rests some = absurd (let e = sym some ∙ ap has_blocks rests.blocks in cc)

pub one_unfinished : (is : Bool) → cond {A = ℕ} is 1 0 ≤ 5
one_unfinished true = omega arith
one_unfinished false = omega arith

abbrev j0 : State → PlannedMove → Segment → Journal
j0 last m s = []

c0 : (first last : State) (m : PlannedMove) (s : Segment) → IsOneJog first last m s → Conducted (first_opening most_blocks first) (j0 last m s)
c0 first last m s p = opens first

abbrev j1 : State → PlannedMove → Segment → Journal
j1 last m s = turned Did ∷ at_port (answered Banner) ∷ j0 last m s

c1 : (first last : State) (m : PlannedMove) (s : Segment) → IsOneJog first last m s → Conducted (first_opening most_blocks first) (j1 last m s)
c1 first last m s p = (ends _ _ (λ w. untrue w.blocks) refl refl refl refl refl refl, (record { once = refl; next = refl; plain = refl; unowed = refl; empty = λ e. absurd cc; unlocked = refl }, c0 first last m s p))

abbrev j2 : State → PlannedMove → Segment → Journal
j2 last m s = line_taken (36 ∷ 74 ∷ 61 ∷ 88 ∷ 46 ∷ 48 ∷ 48 ∷ 52 ∷ 70 ∷ 57 ∷ []) (j1 last m s)

c2 : (first last : State) (m : PlannedMove) (s : Segment) → IsOneJog first last m s → Conducted (first_opening most_blocks first) (j2 last m s)
c2 first last m s p = may_take_line (first_opening most_blocks first) (36 ∷ 74 ∷ 61 ∷ 88 ∷ 46 ∷ 48 ∷ 48 ∷ 52 ∷ 70 ∷ 57 ∷ []) (j1 last m s) (c1 first last m s p) refl (record { once = refl; calm = refl; all_done = refl; partial = refl; unclosed = refl }) refl (under _ _ refl)

abbrev j3 : State → PlannedMove → Segment → Journal
j3 last m s = words_taken no_changes nothing motions.Idle (j2 last m s)

c3 : (first last : State) (m : PlannedMove) (s : Segment) → IsOneJog first last m s → Conducted (first_opening most_blocks first) (j3 last m s)
c3 first last m s p = may_take_words (first_opening most_blocks first) no_changes nothing motions.Idle (j2 last m s) (c2 first last m s p) refl refl refl refl refl refl refl refl (λ e. inl refl)

abbrev j4 : State → PlannedMove → Segment → Journal
j4 last m s = at_port (loaded 0) ∷ j3 last m s

c4 : (first last : State) (m : PlannedMove) (s : Segment) → IsOneJog first last m s → Conducted (first_opening most_blocks first) (j4 last m s)
c4 first last m s p = (record { later = omega arith; below = omega arith; few = omega arith }, c3 first last m s p)

abbrev j5 : State → PlannedMove → Segment → Journal
j5 last m s = began (jog m last) ∷ j4 last m s

c5 : (first last : State) (m : PlannedMove) (s : Segment) → IsOneJog first last m s → Conducted (first_opening most_blocks first) (j5 last m s)
c5 first last m s p = (record { calm = refl; free = refl; going = refl; whole = refl; becomes = p.becomes; begins = refl; flags = refl; obeyed = refl; unowed = refl; load = refl; idle = λ d. refl; starts = λ w. untrue w.blocks; tried = refl; few = omega arith }, c4 first last m s p)

abbrev j6 : State → PlannedMove → Segment → Journal
j6 last m s = turned Did ∷ became (on_start true) motions.Jog ∷ did (Add m) [] ∷ j5 last m s

c6 : (first last : State) (m : PlannedMove) (s : Segment) → IsOneJog first last m s → Conducted (first_opening most_blocks first) (j6 last m s)
c6 first last m s p = (ends _ _ (λ w. elsewhere _ w.stands refl) refl refl refl refl refl refl, ((refl, record { goes = refl; blocks = refl; called = refl; jogs = refl }), ((refl, (p.add, refl)), c5 first last m s p)))

abbrev pub j7 : State → PlannedMove → Segment → Journal
j7 last m s = turned Did ∷ at_port (answered Ok) ∷ j6 last m s

pub c7 : (first last : State) (m : PlannedMove) (s : Segment) → IsOneJog first last m s → Conducted (first_opening most_blocks first) (j7 last m s)
c7 first last m s p = (ends _ _ (λ w. elsewhere _ w.stands refl) refl refl refl refl refl refl, (record { once = refl; next = refl; plain = refl; unowed = refl; empty = λ e. absurd cc; unlocked = refl }, c6 first last m s p))

abbrev j8 : State → PlannedMove → Segment → Journal
j8 last m s = turned Did ∷ at_port (published (pieces.Segment s)) ∷ did (Take Go) (pieces.Segment s ∷ []) ∷ j7 last m s

c8 : (first last : State) (m : PlannedMove) (s : Segment) → IsOneJog first last m s → Conducted (first_opening most_blocks first) (j8 last m s)
c8 first last m s p = (ends _ _ (λ w. elsewhere _ w.stands refl) refl refl refl refl refl refl, ((refl, refl, λ owed. absurd cc), ((record { goes = refl; empty = refl; obeyed = refl }, (p.taken, refl)), c7 first last m s p)))

abbrev j9 : State → PlannedMove → Segment → Journal
j9 last m s = at_port found_empty ∷ j8 last m s

c9 : (first last : State) (m : PlannedMove) (s : Segment) → IsOneJog first last m s → Conducted (first_opening most_blocks first) (j9 last m s)
c9 first last m s p = (record { once = refl; calm = refl; all_done = refl; partial = refl; unclosed = refl }, c8 first last m s p)

abbrev j10 : State → PlannedMove → Segment → Journal
j10 last m s = became on_drained motions.Idle ∷ at_port (loaded (ticks_together (pieces.Segment s ∷ []))) ∷ j9 last m s

c10 : (first last : State) (m : PlannedMove) (s : Segment) → IsOneJog first last m s → Conducted (first_opening most_blocks first) (j10 last m s)
c10 first last m s p = ((refl, record { plan = p.rests; hand = refl; done = refl }), (record { later = omega arith; below = omega arith; few = one_unfinished _ }, c9 first last m s p))

abbrev j11 : State → PlannedMove → Segment → Journal
j11 last m s = turned (Wait on.Byte) ∷ j10 last m s

c11 : (first last : State) (m : PlannedMove) (s : Segment) → IsOneJog first last m s → Conducted (first_opening most_blocks first) (j11 last m s)
c11 first last m s p = (record { ends = ends _ _ (λ w. absurd (no_blocks m s p.rests w.blocks)) refl refl refl refl refl refl; cause = record { poll = refl; free = refl; partial = refl; unowed = refl }; still = refl; flags = refl; obeyed = refl; unowed = λ owed. absurd cc; round = λ due. absurd cc }, c10 first last m s p)

abbrev j12 : State → PlannedMove → Segment → Journal
j12 last m s = words_taken no_changes nothing motions.Idle (j11 last m s)

c12 : (first last : State) (m : PlannedMove) (s : Segment) → IsOneJog first last m s → Conducted (first_opening most_blocks first) (j12 last m s)
c12 first last m s p = may_take_words (first_opening most_blocks first) no_changes nothing motions.Idle (j11 last m s) (c11 first last m s p) refl refl refl refl refl refl refl refl (λ e. inl refl)

abbrev j13 : State → PlannedMove → Segment → Journal
j13 last m s = closing ∷ at_port found_closed ∷ j12 last m s

c13 : (first last : State) (m : PlannedMove) (s : Segment) → IsOneJog first last m s → Conducted (first_opening most_blocks first) (j13 last m s)
c13 first last m s p = (record { free = refl; going = refl; begun = refl; closed = inl refl }, (record { once = refl; calm = refl; all_done = refl; partial = refl; unclosed = refl }, c12 first last m s p))

abbrev j14 : State → PlannedMove → Segment → Journal
j14 last m s = turned Did ∷ at_port (published pieces.End) ∷ made_end ∷ j13 last m s

c14 : (first last : State) (m : PlannedMove) (s : Segment) → IsOneJog first last m s → Conducted (first_opening most_blocks first) (j14 last m s)
c14 first last m s p = (ends _ _ (λ w. absurd (no_blocks m s p.rests w.blocks)) refl refl refl refl refl refl, ((refl, tt, λ owed. absurd cc), (record { next = refl; drained = record { plan = p.rests; hand = refl; done = refl }; stands = refl; closes = λ e. absurd cc }, c13 first last m s p)))

abbrev j15 : State → PlannedMove → Segment → Journal
j15 last m s = turned Did ∷ at_port (answered Bye) ∷ j14 last m s

c15 : (first last : State) (m : PlannedMove) (s : Segment) → IsOneJog first last m s → Conducted (first_opening most_blocks first) (j15 last m s)
c15 first last m s p = (ends _ _ (λ w. absurd (no_blocks m s p.rests w.blocks)) refl refl refl refl refl refl, (record { once = refl; next = refl; plain = refl; unowed = refl; empty = λ e. refl; unlocked = refl }, c14 first last m s p))

abbrev j16 : State → PlannedMove → Segment → Journal
j16 last m s = turned Done ∷ j15 last m s

pub c16 : (first last : State) (m : PlannedMove) (s : Segment) → IsOneJog first last m s → Conducted (first_opening most_blocks first) (j16 last m s)
c16 first last m s p = (record { finished = record { left = refl; closed = refl }; still = refl }, c15 first last m s p)
