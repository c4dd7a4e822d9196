-- A whole run of a board to which one line comes, `M8`, with a hold before it is begun, a resume, and then the link's end:
-- the rules allow it.
use Rattle.std.proofs.Common.{pos, inl, inr, List, [], ◌∷◌, ◌++◌, true, false, refl, arith, ℕ, ◌≤◌, ◌<◌, ◌≡◌, nat_lt, Bool, sym, ap, ◌∙◌}
use Rattle.feed_hold.specs.declared.Motion.{Motion}
use Rattle.std.specs.List.{count_by}
use Rattle.std.proofs.lemmas.Bool.Decides.{nat_tests}
use Rattle.code_table.specs.declared.flags.Exec.{Exec}
use Rattle.code_table.specs.declared.flags.Ovr.{Ovr}
use Rattle.code_table.specs.Flags.{raised_by}
use Rattle.feed_hold.specs.declared.Motion.TheVariants as motions
use Rattle.feed_hold.specs.Motions.{hold_byte, start_byte}
use Rattle.feed_hold.specs.Motions.Call.{on_exec}
use Rattle.outside.specs.declared.On.TheVariants as on
use Rattle.outside.specs.declared.Turn.TheVariants.{Did, Wait, Done}
use Rattle.planner_runs.specs.declared.Action.TheVariants.{Mark, Rest}
use Rattle.gcode_words.specs.declared.Word.{Word}
use Rattle.gcode_words.specs.Words.{words_within, first_word}
use Rattle.units.specs.Reading.{decimal_from}
use Rattle.units.specs.Decimals.{front_number, digits_say}
use Rattle.line_words.specs.WordRefusals.{words_refusal, word_refusal, refusal_at}
use Rattle.line_words.specs.Codes.{group_of, code_in}
use Rattle.line_words.specs.Slots.{is_filled, value_in}
use Rattle.line_words.specs.Targets.{targets}
use Rattle.gcode_check.specs.Conditions.{line_refusal}
use Rattle.gcode_check.specs.Effects.{parser_after}
use Rattle.gcode_check.specs.Items.{items_of}
use Rattle.gcode_check.specs.Verdicts.{verdict}
use Rattle.modal_state.specs.Modes.{opening_parser}
use Rattle.settings.specs.declared.Settings.{Settings}
use Rattle.run_rules.specs.declared.State.{State}
use Rattle.run_rules.specs.Asks.{at_rest}
use Rattle.run_rules.specs.declared.machine.Machine.TheVariants.{Stands}
use Rattle.run_rules.specs.Finding.{Found}
use Rattle.run_rules.specs.Outcomes.{start}
use Rattle.run_rules.specs.Work.{Outcome, Task}
use Rattle.run_rules.specs.Work.Kind.{of_code}
use Rattle.run_rules.specs.Work.Task.{tell, ask}
use Rattle.status_report.specs.declared.Reply.TheVariants.{Banner, Ok, Bye}
use Rattle.step_line.specs.Asking.Asked.{a_mark, a_move}
use Rattle.step_line.specs.declared.Mark.TheVariants as marks
use Rattle.step_line.specs.declared.Piece.TheVariants as pieces
use Rattle.board_journal.specs.Openings.{Opening, first_opening}
use Rattle.board_journal.specs.Ports.PortStep.{found_empty, found_closed, answered, took_exec, published, loaded}
use Rattle.board_journal.specs.Steps.{Journal, left_of}
use Rattle.board_journal.specs.Steps.Step.{at_port, began, did, made_end, became, closing, turned}
use Rattle.board_rules.specs.Turns.{this_turn, publishing, replans, takes_changes, unobeyed_of, halts_next, starts_cycle, tries_of, most_tries}
use Rattle.board_rules.specs.Conduct.{Conducted, MayOpen, EndsTurn, AreWaiting}
use Rattle.board_rules.proofs.Taking.{line_taken, words_taken, may_take_line, may_take_words}
use Rattle.step_line.specs.declared.planned_move.PlannedMove.{PlannedMove}
use Rattle.planner_runs.specs.Runs.{most_blocks}

-- what is found by computing
pub holds : (n m : ℕ) → nat_lt m n ≡ false → n ≤ m
holds n m e = grind (arith, nat_tests)

pub under : (n m : ℕ) → nat_lt n m ≡ true → n < m
under n m e = grind (arith, nat_tests)

pub untrue : {A : Type 0} → false ≡ true → A
untrue e = absurd cc

abbrev is_idle : Motion → Bool
is_idle motions.Idle = true
is_idle _ = false

pub elsewhere : {A : Type 0} (m : Motion) → m ≡ motions.Idle → is_idle m ≡ false → A
elsewhere m is other = untrue (sym other ∙ ap is_idle is)

abbrev pub next_is_move : List Task → Bool
next_is_move (ask (a_move m) ∷ ts) = true
next_is_move _ = false

pub no_move : {A : Type 0} (ts rest : List Task) (m : PlannedMove) → ts ≡ ask (a_move m) ∷ rest → next_is_move ts ≡ false → A
no_move ts rest m is other = untrue (sym other ∙ ap next_is_move is)

-- what a turn's end asks for, found by computing, but for what queued blocks wait for
pub ends : (first : Opening) (h : Journal) → (AreWaiting first h → starts_cycle first h ≡ false) → nat_lt 1 (count_by publishing (this_turn h)) ≡ false → nat_lt most_tries (tries_of first h) ≡ false
    → next_is_move (left_of first h) ≡ false → halts_next (left_of first h) ≡ false → unobeyed_of h ≡ [] → count_by replans (this_turn h) ≡ count_by takes_changes (this_turn h) → EndsTurn first h
ends first h starts once tries no_next no_halt obeyed changed = record {
  once = holds _ _ once;
  adds = λ m e. no_move _ _ m e no_next;
  starts = starts;
  tries = holds _ _ tries;
  obeyed = λ e. obeyed;
  changed = changed;
  halts = λ e. untrue (sym no_halt ∙ e);
}

-- what becomes of the line, where the coolant does not flow yet: its mark, at rest, and `ok`
abbrev flood : State → Outcome
flood next = record { work = at_rest (a_mark (marks.Coolant true) ∷ []) ++ tell Ok ∷ []; answer = Ok; settles = true; kind = of_code; next = next }

-- the state before the first line, with soft limits off
abbrev first_state : Settings → State
first_state s = record { parser = opening_parser; settings = record s { soft = false } }

abbrev words : List Word
words = record { letter = 77; value = record { micro = pos 8000000 } } ∷ []

abbrev next_state : Settings → State
next_state s = record { parser = parser_after opening_parser words [] []; settings = record s { soft = false } }

-- the line is accepted there, and becomes that
is_flood : (s : Settings) → Found Stands (start (first_state s)) (77 ∷ 56 ∷ []) (flood (next_state s))
unfolding words_within first_word decimal_from front_number digits_say words_refusal word_refusal refusal_at group_of code_in is_filled value_in targets line_refusal verdict items_of
is_flood s = refl

-- the words of requests of no byte, of `!` and of `~`, and that of changes of no byte
abbrev pub nothing : Exec
nothing = record { 0 = 0 }

abbrev hold : Exec
hold = record { 0 = raised_by hold_byte }

abbrev resume : Exec
resume = record { 0 = raised_by start_byte }

abbrev pub no_changes : Ovr
no_changes = record { 0 = 0 }

-- a run may open so
pub opens : (first : State) → MayOpen (first_opening most_blocks first)
opens first = record { stands = refl; greets = (record { answers = refl; reports = refl; parts = refl }, tt); banner = refl; few = holds _ _ refl; sized = (holds _ _ refl, holds _ _ refl) }

abbrev j0 : Settings → Journal
j0 s = []

c0 : (s : Settings) → Conducted (first_opening most_blocks (first_state s)) (j0 s)
c0 s = opens (first_state s)

abbrev j1 : Settings → Journal
j1 s = turned Did ∷ at_port (answered Banner) ∷ j0 s

c1 : (s : Settings) → Conducted (first_opening most_blocks (first_state s)) (j1 s)
c1 s = (ends _ _ (λ w. untrue w.blocks) refl refl refl refl refl refl, (record { once = refl; next = refl; plain = refl; unowed = refl; empty = λ e. absurd cc; unlocked = refl }, c0 s))

abbrev j2 : Settings → Journal
j2 s = line_taken (77 ∷ 56 ∷ []) (j1 s)

c2 : (s : Settings) → Conducted (first_opening most_blocks (first_state s)) (j2 s)
c2 s = may_take_line (first_opening most_blocks (first_state s)) (77 ∷ 56 ∷ []) (j1 s) (c1 s) refl (record { once = refl; calm = refl; all_done = refl; partial = refl; unclosed = refl }) refl (under _ _ refl)

abbrev j3 : Settings → Journal
j3 s = words_taken no_changes hold motions.Held (j2 s)

c3 : (s : Settings) → Conducted (first_opening most_blocks (first_state s)) (j3 s)
c3 s = may_take_words (first_opening most_blocks (first_state s)) no_changes hold motions.Held (j2 s) (c2 s) refl refl refl refl refl refl refl refl (λ e. absurd cc)

abbrev j4 : Settings → Journal
j4 s = became (on_exec nothing false) motions.Held ∷ at_port (took_exec nothing) ∷ j3 s

c4 : (s : Settings) → Conducted (first_opening most_blocks (first_state s)) (j4 s)
c4 s = ((refl, record { next = refl; reported = λ owed. absurd cc; blocks = refl; looked = λ s. absurd (let e = s.slows in cc); jog = refl; stopped = λ s. absurd (let e = s.slowed.slows in cc); halts = λ e. untrue e }), (record { greeted = refl; obeyed = refl; few = λ asks. absurd cc }, c3 s))

abbrev j5 : Settings → Journal
j5 s = turned (Wait on.Resume) ∷ j4 s

c5 : (s : Settings) → Conducted (first_opening most_blocks (first_state s)) (j5 s)
c5 s = (record { ends = ends _ _ (λ w. untrue w.blocks) refl refl refl refl refl refl; cause = record { held = refl; unasked = refl; held_up = refl }; still = refl; flags = refl; obeyed = refl; unowed = λ owed. absurd cc; round = λ due. absurd cc }, c4 s)

abbrev j6 : Settings → Journal
j6 s = words_taken no_changes resume motions.Idle (j5 s)

c6 : (s : Settings) → Conducted (first_opening most_blocks (first_state s)) (j6 s)
c6 s = may_take_words (first_opening most_blocks (first_state s)) no_changes resume motions.Idle (j5 s) (c5 s) refl refl refl refl refl refl refl refl (λ e. inr refl)

abbrev j7 : Settings → Journal
j7 s = at_port (loaded 0) ∷ j6 s

c7 : (s : Settings) → Conducted (first_opening most_blocks (first_state s)) (j7 s)
c7 s = (record { later = omega arith; below = omega arith; few = omega arith }, c6 s)

abbrev j8 : Settings → Journal
j8 s = began (flood (next_state s)) ∷ j7 s

c8 : (s : Settings) → Conducted (first_opening most_blocks (first_state s)) (j8 s)
c8 s = (record { calm = refl; free = refl; going = refl; whole = refl; becomes = is_flood s; begins = refl; flags = refl; obeyed = refl; unowed = refl; load = refl; idle = λ drained. refl; starts = λ w. untrue w.blocks; tried = refl; few = omega arith }, c7 s)

abbrev j9 : Settings → Journal
j9 s = did Rest [] ∷ j8 s

c9 : (s : Settings) → Conducted (first_opening most_blocks (first_state s)) (j9 s)
c9 s = ((record { next = refl; drained = record { plan = record { blocks = refl; speed = refl }; hand = refl; done = refl }; stands = refl }, (record { blocks = refl; speed = refl }, refl)), c8 s)

abbrev j10 : Settings → Journal
j10 s = turned Did ∷ at_port (published (pieces.Mark (marks.Coolant true))) ∷ did (Mark (marks.Coolant true)) (pieces.Mark (marks.Coolant true) ∷ []) ∷ j9 s

c10 : (s : Settings) → Conducted (first_opening most_blocks (first_state s)) (j10 s)
c10 s = (ends _ _ (λ w. untrue w.blocks) refl refl refl refl refl refl, ((refl, tt, λ owed. absurd cc), ((record { next = refl; empty = refl }, (refl, tt, record { blocks = refl; speed = refl }, refl)), c9 s)))

abbrev j11 : Settings → Journal
j11 s = at_port (loaded 0) ∷ j10 s

c11 : (s : Settings) → Conducted (first_opening most_blocks (first_state s)) (j11 s)
c11 s = (record { later = omega arith; below = omega arith; few = omega arith }, c10 s)

abbrev j12 : Settings → Journal
j12 s = turned (Wait on.Motion) ∷ j11 s

c12 : (s : Settings) → Conducted (first_opening most_blocks (first_state s)) (j12 s)
c12 s = (record { ends = ends _ _ (λ w. untrue w.blocks) refl refl refl refl refl refl; cause = record { load = refl; undone = omega arith; awaits = refl }; still = refl; flags = refl; obeyed = refl; unowed = λ owed. absurd cc; round = λ due. absurd cc }, c11 s)

abbrev j13 : Settings → Journal
j13 s = words_taken no_changes nothing motions.Idle (j12 s)

c13 : (s : Settings) → Conducted (first_opening most_blocks (first_state s)) (j13 s)
c13 s = may_take_words (first_opening most_blocks (first_state s)) no_changes nothing motions.Idle (j12 s) (c12 s) refl refl refl refl refl refl refl refl (λ e. inl refl)

abbrev j14 : Settings → Journal
j14 s = did Rest [] ∷ at_port (loaded 1) ∷ j13 s

c14 : (s : Settings) → Conducted (first_opening most_blocks (first_state s)) (j14 s)
c14 s = ((record { next = refl; drained = record { plan = record { blocks = refl; speed = refl }; hand = refl; done = refl }; stands = refl }, (record { blocks = refl; speed = refl }, refl)), (record { later = omega arith; below = omega arith; few = omega arith }, c13 s))

abbrev j15 : Settings → Journal
j15 s = turned Did ∷ at_port (answered Ok) ∷ j14 s

c15 : (s : Settings) → Conducted (first_opening most_blocks (first_state s)) (j15 s)
c15 s = (ends _ _ (λ w. untrue w.blocks) refl refl refl refl refl refl, (record { once = refl; next = refl; plain = refl; unowed = refl; empty = λ e. absurd cc; unlocked = refl }, c14 s))

abbrev j16 : Settings → Journal
j16 s = at_port found_empty ∷ j15 s

c16 : (s : Settings) → Conducted (first_opening most_blocks (first_state s)) (j16 s)
c16 s = (record { once = refl; calm = refl; all_done = refl; partial = refl; unclosed = refl }, c15 s)

abbrev j17 : Settings → Journal
j17 s = turned (Wait on.Byte) ∷ j16 s

c17 : (s : Settings) → Conducted (first_opening most_blocks (first_state s)) (j17 s)
c17 s = (record { ends = ends _ _ (λ w. untrue w.blocks) refl refl refl refl refl refl; cause = record { poll = refl; free = refl; partial = refl; unowed = refl }; still = refl; flags = refl; obeyed = refl; unowed = λ owed. absurd cc; round = λ due. absurd cc }, c16 s)

abbrev j18 : Settings → Journal
j18 s = words_taken no_changes nothing motions.Idle (j17 s)

c18 : (s : Settings) → Conducted (first_opening most_blocks (first_state s)) (j18 s)
c18 s = may_take_words (first_opening most_blocks (first_state s)) no_changes nothing motions.Idle (j17 s) (c17 s) refl refl refl refl refl refl refl refl (λ e. inl refl)

abbrev j19 : Settings → Journal
j19 s = closing ∷ at_port found_closed ∷ j18 s

c19 : (s : Settings) → Conducted (first_opening most_blocks (first_state s)) (j19 s)
c19 s = (record { free = refl; going = refl; begun = refl; closed = inl refl }, (record { once = refl; calm = refl; all_done = refl; partial = refl; unclosed = refl }, c18 s))

abbrev j20 : Settings → Journal
j20 s = turned Did ∷ at_port (published pieces.End) ∷ made_end ∷ j19 s

c20 : (s : Settings) → Conducted (first_opening most_blocks (first_state s)) (j20 s)
c20 s = (ends _ _ (λ w. untrue w.blocks) refl refl refl refl refl refl, ((refl, tt, λ owed. absurd cc), (record { next = refl; drained = record { plan = record { blocks = refl; speed = refl }; hand = refl; done = refl }; stands = refl; closes = λ e. absurd cc }, c19 s)))

abbrev j21 : Settings → Journal
j21 s = turned Did ∷ at_port (answered Bye) ∷ j20 s

c21 : (s : Settings) → Conducted (first_opening most_blocks (first_state s)) (j21 s)
c21 s = (ends _ _ (λ w. untrue w.blocks) refl refl refl refl refl refl, (record { once = refl; next = refl; plain = refl; unowed = refl; empty = λ e. refl; unlocked = refl }, c20 s))

abbrev j22 : Settings → Journal
j22 s = turned Done ∷ j21 s

pub c22 : (s : Settings) → Conducted (first_opening most_blocks (first_state s)) (j22 s)
c22 s = (record { finished = record { left = refl; closed = refl }; still = refl }, c21 s)
