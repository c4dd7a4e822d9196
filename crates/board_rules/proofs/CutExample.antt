-- A board to which two jogs come, `$J=X.004F9` and `$J=X.008F9`. The first runs by one segment; the second is begun, and waits
-- to be added, while a cancel comes: it is cut, and answered, and the machine stands where the first has brought it. The rules
-- allow it.
use Rattle.std.proofs.Common.{pos, ◌≡◌, ℕ, suc, ◌+◌, ◌≤◌, ◌<◌, Bool, cond, nat_lt, [], ◌∷◌, true, false, refl, sym, arith}
use Rattle.code_table.specs.declared.flags.Exec.{Exec}
use Rattle.code_table.specs.Flags.{raised_by}
use Rattle.feed_hold.specs.declared.Motion.TheVariants as motions
use Rattle.feed_hold.specs.Motions.{cancel_byte}
use Rattle.feed_hold.specs.Motions.Call.{on_exec, on_stopped}
use Rattle.flight.specs.Places.{end_of}
use Rattle.outside.specs.declared.Turn.TheVariants.{Did}
use Rattle.plan_rules.specs.Segments.{advanced}
use Rattle.planner_runs.specs.declared.Action.TheVariants.{Take}
use Rattle.planner_runs.specs.Runs.{fresh_plan, with_move, most_blocks}
use Rattle.plan_rules.specs.declared.Mode.TheVariants.{Go}
use Rattle.gcode_words.specs.Words.{words_within, first_word}
use Rattle.jog.specs.Jogs.{jog_error, jog_of}
use Rattle.line_words.specs.Codes.{group_of, code_in}
use Rattle.line_words.specs.Targets.{target}
use Rattle.line_words.specs.WordRefusals.{words_refusal, word_refusal, refusal_at}
use Rattle.modal_state.specs.Modes.{opening_parser}
use Rattle.step_line.specs.Counting.{events_of}
use Rattle.step_line.specs.declared.Mark.TheVariants as marks
use Rattle.step_line.specs.declared.Piece.TheVariants as pieces
use Rattle.step_line.specs.declared.Segment.{Segment}
use Rattle.step_line.specs.declared.planned_move.PlannedMove.{PlannedMove}
use Rattle.step_line.specs.Finishing.{tick_count, ticks_together}
use Rattle.step_line.proofs.Finished.{together_both}
use Rattle.system_lines.specs.Commands.{kind_of}
use Rattle.units.specs.Decimals.{front_number, digits_say}
use Rattle.units.specs.Reading.{decimal_from}
use Rattle.units.specs.Rounding.{rounded_quotient}
use Rattle.units.specs.declared.Move.{Move as Way}
use Rattle.units.specs.declared.Rate.TheVariants as rates
use Rattle.run_rules.specs.Asks.{planned}
use Rattle.run_rules.specs.declared.State.{State}
use Rattle.run_rules.specs.declared.machine.Machine.TheVariants.{Jogs}
use Rattle.run_rules.specs.Finding.{Found}
use Rattle.run_rules.specs.Outcomes.{start, after}
use Rattle.status_report.specs.declared.Reply.TheVariants.{Ok}
use Rattle.board_journal.specs.Openings.{first_opening}
use Rattle.board_journal.specs.Ports.PortStep.{answered, took_exec, published, loaded}
use Rattle.board_journal.specs.Steps.{Journal, before_of, left_of, plan_of}
use Rattle.board_journal.specs.Steps.Step.{at_port, began, did, became, cut, turned}
use Rattle.board_rules.specs.Turns.{has_blocks}
use Rattle.board_rules.specs.Conduct.{Conducted}
use Rattle.board_rules.proofs.Example.{ends, nothing, no_changes, under, untrue, elsewhere}
use Rattle.board_rules.proofs.JogExample.{IsOneJog, jog, machine, opening, behind_jog, target_steps, way, one_unfinished, j7, c7}
use Rattle.board_rules.proofs.Taking.{line_taken, words_taken, may_take_line, may_take_words}

abbrev cancel : Exec
cancel = record { 0 = raised_by cancel_byte }

-- the first is accepted where the machine stands, and the second while that jogs; the first has a tick
pub record AreTwoJogs (first next last : State) (m n : PlannedMove) (s : Segment) : Type 0 where
  pub one : IsOneJog first next m s
  pub some : 0 < ticks_together (pieces.Segment s ∷ [])
  pub becomes : Found Jogs (after (start first) (jog m next)) (36 ∷ 74 ∷ 61 ∷ 88 ∷ 46 ∷ 48 ∷ 48 ∷ 56 ∷ 70 ∷ 57 ∷ []) (jog n last)

-- the second goes one step further
abbrev further : Way
further = record { from = target_steps; to = record { x = pos 2; y = pos 0; z = pos 0 } }

abbrev behind_both : State
behind_both = record { parser = record opening_parser { pos_nm = record { x = pos 8000; y = pos 0; z = pos 0 }; pos_steps = further.to }; settings = machine }

-- so it is accepted behind the first
pub second_is : Found Jogs (after (start opening) (jog (planned 1 machine way (rates.Jog (pos 9000000))) behind_jog)) (36 ∷ 74 ∷ 61 ∷ 88 ∷ 46 ∷ 48 ∷ 48 ∷ 56 ∷ 70 ∷ 57 ∷ [])
    (jog (planned 2 machine further (rates.Jog (pos 9000000))) behind_both)
unfolding kind_of words_within first_word decimal_from front_number digits_say words_refusal word_refusal refusal_at group_of code_in target jog_error jog_of rounded_quotient events_of
second_is = refl

-- whether a block is queued behind the first jog's segment
abbrev queued : PlannedMove → Segment → Bool
queued m s = has_blocks (advanced (with_move fresh_plan m) s.n s.w_out).blocks

abbrev all_ticks : Segment → ℕ
all_ticks s = ticks_together (pieces.Segment s ∷ [])

both_ticks : (s : Segment) → ticks_together (pieces.Segment s ∷ pieces.Mark (marks.Cut 2) ∷ []) ≡ all_ticks s + 1
both_ticks s = together_both (pieces.Segment s ∷ []) (pieces.Mark (marks.Cut 2) ∷ [])

two_unfinished : (first second : Bool) → cond {A = ℕ} first (suc (cond second 1 0)) (cond second 1 0) ≤ 5
two_unfinished true true = omega arith
two_unfinished true false = omega arith
two_unfinished false true = omega arith
two_unfinished false false = omega arith

abbrev k8 : State → State → PlannedMove → PlannedMove → Segment → Journal
k8 next last m n s = turned Did ∷ at_port (published (pieces.Segment s)) ∷ did (Take Go) (pieces.Segment s ∷ []) ∷ j7 next m s

d8 : (first next last : State) (m n : PlannedMove) (s : Segment) → AreTwoJogs first next last m n s → Conducted (first_opening most_blocks first) (k8 next last m n s)
d8 first next last m n s p = (ends _ _ (λ w. elsewhere _ w.stands refl) refl refl refl refl refl refl, ((refl, refl, λ owed. absurd cc), ((record { goes = refl; empty = refl; obeyed = refl }, (p.one.taken, refl)), c7 first next m s p.one)))

abbrev k9 : State → State → PlannedMove → PlannedMove → Segment → Journal
k9 next last m n s = line_taken (36 ∷ 74 ∷ 61 ∷ 88 ∷ 46 ∷ 48 ∷ 48 ∷ 56 ∷ 70 ∷ 57 ∷ []) (k8 next last m n s)

d9 : (first next last : State) (m n : PlannedMove) (s : Segment) → AreTwoJogs first next last m n s → Conducted (first_opening most_blocks first) (k9 next last m n s)
d9 first next last m n s p = may_take_line (first_opening most_blocks first) (36 ∷ 74 ∷ 61 ∷ 88 ∷ 46 ∷ 48 ∷ 48 ∷ 56 ∷ 70 ∷ 57 ∷ []) (k8 next last m n s) (d8 first next last m n s p) refl (record { once = refl; calm = refl; all_done = refl; partial = refl; unclosed = refl }) refl (under _ _ refl)

abbrev k10 : State → State → PlannedMove → PlannedMove → Segment → Journal
k10 next last m n s = words_taken no_changes nothing motions.Jog (k9 next last m n s)

d10 : (first next last : State) (m n : PlannedMove) (s : Segment) → AreTwoJogs first next last m n s → Conducted (first_opening most_blocks first) (k10 next last m n s)
d10 first next last m n s p = may_take_words (first_opening most_blocks first) no_changes nothing motions.Jog (k9 next last m n s) (d9 first next last m n s p) refl refl refl refl refl refl refl refl (λ e. absurd cc)

abbrev k11 : State → State → PlannedMove → PlannedMove → Segment → Journal
k11 next last m n s = at_port (loaded 0) ∷ k10 next last m n s

d11 : (first next last : State) (m n : PlannedMove) (s : Segment) → AreTwoJogs first next last m n s → Conducted (first_opening most_blocks first) (k11 next last m n s)
d11 first next last m n s p = (record { later = omega arith; below = omega arith; few = one_unfinished (nat_lt 0 (tick_count (pieces.Segment s))) }, d10 first next last m n s p)

abbrev k12 : State → State → PlannedMove → PlannedMove → Segment → Journal
k12 next last m n s = began (jog n last) ∷ k11 next last m n s

d12 : (first next last : State) (m n : PlannedMove) (s : Segment) → AreTwoJogs first next last m n s → Conducted (first_opening most_blocks first) (k12 next last m n s)
d12 first next last m n s p = (record { calm = refl; free = refl; going = refl; whole = refl; becomes = p.becomes; begins = refl; flags = refl; obeyed = refl; unowed = refl; load = refl; idle = λ d. absurd (let e = d.done in let some = p.some in omega (arith, e, some)); starts = λ w. elsewhere _ w.stands refl; tried = refl; few = omega arith }, d11 first next last m n s p)

abbrev k13 : State → State → PlannedMove → PlannedMove → Segment → Journal
k13 next last m n s = at_port (took_exec cancel) ∷ k12 next last m n s

d13 : (first next last : State) (m n : PlannedMove) (s : Segment) → AreTwoJogs first next last m n s → Conducted (first_opening most_blocks first) (k13 next last m n s)
d13 first next last m n s p = (record { greeted = refl; obeyed = refl; few = λ e. absurd cc }, d12 first next last m n s p)

abbrev k14 : State → State → PlannedMove → PlannedMove → Segment → Journal
k14 next last m n s = became (on_exec cancel (queued m s)) motions.Cancelling ∷ k13 next last m n s

d14 : (first next last : State) (m n : PlannedMove) (s : Segment) → AreTwoJogs first next last m n s → Conducted (first_opening most_blocks first) (k14 next last m n s)
d14 first next last m n s p = ((refl, record { next = refl; reported = λ owed. absurd cc; blocks = refl; looked = λ slowed. absurd (let b = slowed.slows in cc); stopped = λ stopped. absurd (let b = stopped.slowed.slows in cc); jog = refl; halts = λ e. untrue e }), d13 first next last m n s p)

abbrev k15 : State → State → PlannedMove → PlannedMove → Segment → Journal
k15 next last m n s = at_port (loaded (all_ticks s)) ∷ k14 next last m n s

d15 : (first next last : State) (m n : PlannedMove) (s : Segment) → AreTwoJogs first next last m n s → Conducted (first_opening most_blocks first) (k15 next last m n s)
d15 first next last m n s p = (record { later = omega arith; below = omega arith; few = one_unfinished _ }, d14 first next last m n s p)

abbrev k16 : State → State → PlannedMove → PlannedMove → Segment → Journal
k16 next last m n s = cut 2 ∷ k15 next last m n s

d16 : (first next last : State) (m n : PlannedMove) (s : Segment) → AreTwoJogs first next last m n s → Conducted (first_opening most_blocks first) (k16 next last m n s)
d16 first next last m n s p = (record { calm = refl; cancelled = refl; uncut = refl; stopped = record { slowed = record { slows = refl; speed = p.one.rests.speed; empty = refl }; done = refl }; load = refl; number = refl; mark = omega arith }, d15 first next last m n s p)

abbrev k17 : State → State → PlannedMove → PlannedMove → Segment → Journal
k17 next last m n s = turned Did ∷ k16 next last m n s

d17 : (first next last : State) (m n : PlannedMove) (s : Segment) → AreTwoJogs first next last m n s → Conducted (first_opening most_blocks first) (k17 next last m n s)
d17 first next last m n s p = (ends _ _ (λ w. elsewhere _ w.stands refl) refl refl refl refl refl refl, d16 first next last m n s p)

abbrev k18 : State → State → PlannedMove → PlannedMove → Segment → Journal
k18 next last m n s = turned Did ∷ at_port (published (pieces.Mark (marks.Cut 2))) ∷ at_port (loaded (all_ticks s)) ∷ k17 next last m n s

d18 : (first next last : State) (m n : PlannedMove) (s : Segment) → AreTwoJogs first next last m n s → Conducted (first_opening most_blocks first) (k18 next last m n s)
d18 first next last m n s p = (ends _ _ (λ w. elsewhere _ w.stands refl) refl refl refl refl refl refl, ((refl, (refl, refl), λ owed. absurd cc), (record { later = omega arith; below = omega arith; few = one_unfinished _ }, d17 first next last m n s p)))

abbrev k19 : State → State → PlannedMove → PlannedMove → Segment → Journal
k19 next last m n s = turned Did ∷ at_port (answered Ok) ∷ k18 next last m n s

d19 : (first next last : State) (m n : PlannedMove) (s : Segment) → AreTwoJogs first next last m n s → Conducted (first_opening most_blocks first) (k19 next last m n s)
d19 first next last m n s p = (ends _ _ (λ w. elsewhere _ w.stands refl) refl refl refl refl refl refl, (record { once = refl; next = refl; plain = refl; unowed = refl; empty = λ e. absurd cc; unlocked = refl }, d18 first next last m n s p))

abbrev k20 : State → State → PlannedMove → PlannedMove → Segment → Journal
k20 next last m n s = at_port (loaded (all_ticks s + 1)) ∷ k19 next last m n s

d20 : (first next last : State) (m n : PlannedMove) (s : Segment) → AreTwoJogs first next last m n s → Conducted (first_opening most_blocks first) (k20 next last m n s)
d20 first next last m n s p = (record { later = omega arith; below = (let e = both_ticks s in omega (arith, e)); few = two_unfinished _ _ }, d19 first next last m n s p)

abbrev pub k21 : State → State → PlannedMove → PlannedMove → Segment → Journal
k21 next last m n s = turned Did ∷ became on_stopped motions.Idle ∷ k20 next last m n s

pub d21 : (first next last : State) (m n : PlannedMove) (s : Segment) → AreTwoJogs first next last m n s → Conducted (first_opening most_blocks first) (k21 next last m n s)
d21 first next last m n s p = (ends _ _ (λ w. untrue w.blocks) refl refl refl refl refl refl, ((refl, record { stopped = record { slowed = record { slows = refl; speed = refl; empty = refl }; done = sym (both_ticks s) }; cut_is = λ e. refl; load = λ e. refl }), d20 first next last m n s p))

-- the position is where the first jog's segment has led, and nothing is left to do or to run
pub place_is : (first next last : State) (m n : PlannedMove) (s : Segment) → AreTwoJogs first next last m n s → (before_of (first_opening most_blocks first) (k21 next last m n s)).state.parser.pos_steps ≡ end_of (pieces.Segment s ∷ [])
place_is first next last m n s p = refl

pub nothing_left : (first next last : State) (m n : PlannedMove) (s : Segment) → AreTwoJogs first next last m n s → (left_of (first_opening most_blocks first) (k21 next last m n s) ≡ []) × ((plan_of (k21 next last m n s)).blocks ≡ [])
nothing_left first next last m n s p = (refl, refl)
