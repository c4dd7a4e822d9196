-- One lemma a step at the port: a board keeps on what its fields say of what it has done.
use Rattle.std.proofs.Common.{◌≡◌, ℕ, inl, inr, List, [], ◌∷◌, ◌++◌, drop, Bool, true, false, cond, nat_lt, ◌&&◌, ◌||◌, sym, refl, ap, ◌∙◌, subst, arith}
use Rattle.board_journal.specs.Openings.{Opening}
use Rattle.run_rules.specs.declared.State.{State}
use Rattle.run_rules.specs.Work.{Task}
use Rattle.run_rules.specs.Work.Task.{tell}
use Rattle.status_report.specs.declared.Reply.{Reply}
use Rattle.status_report.specs.declared.Reply.TheVariants.{Bye}
use Rattle.status_report.specs.Answering.{is_answer, is_banner, is_report}
use Rattle.status_report.specs.declared.reports.Report.{Report}
use Rattle.flight.specs.Flights.{Flying, Flies}
use Rattle.step_line.specs.declared.Piece.{Piece}
use Rattle.line_interpreter.specs.Interpreting.{Interpreting}
use Rattle.board_journal.specs.Ports.{MayBeDone, LacksPieceRoom}
use Rattle.board_journal.specs.Ports.PortStep.{found_empty, found_closed, answered, reported, no_reply_room, published, no_piece_room, loaded}
use Rattle.board_journal.specs.Steps.{Journal, port_log, published_of, before_of, left_of, given_of, hand_of, plan_of, motion_of}
use Rattle.board_journal.specs.Steps.Step.{at_port}
use Rattle.board_rules.specs.Turns.{owes_report, tells_next, are_many, tries_of}
use Rattle.board_rules.specs.Conduct.{IsNextTask, AsksForRoom, IsTimely, ReportsFirst, MayPoll, IsReportAt}
use Rattle.board_rules.specs.Within.{MayHaveLooked}
use Rattle.board_turns.specs.declared.board.Board.{Board}
use Rattle.board_machine.specs.declared.machine.Machine.{Machine}
use Rattle.board_machine.specs.Machines.{Runs}
use Rattle.board_turns.specs.Boards.{Keeps, Works}
use Rattle.board_rules.proofs.Tries.{takes_back}
use Rattle.board_turns.proofs.Known.{few_tried}

-- no report is owed, so none comes before a piece
pub reports_none : (h : Journal) → owes_report h ≡ false → ReportsFirst h
reports_none h unowed owed = absurd (let e = sym owed ∙ unowed in cc)

-- nor does a look change what comes before it
pub reports_looked : (h next : Journal) → MayHaveLooked h next → ReportsFirst h → ReportsFirst next
reports_looked h next (inl same) first = subst ReportsFirst (sym same) first
reports_looked h next (inr looked) first = subst ReportsFirst (sym looked.1) first

-- a piece is published
pub sent : {N : ℕ} (first : Opening) (c : Board N) (m : Machine N) (f : Flying) (p : Piece) (h : Journal) → Keeps first c h → hand_of h ≡ p ∷ [] → IsTimely p h → ReportsFirst h → Runs m (plan_of h) (motion_of first h) [] (given_of h)
    → ((known : ℕ) → Flies first.place c.flight (published_of h) known → Flies first.place f (published_of h ++ p ∷ []) known)
    → Keeps first (record c { machine = m; flight = f }) (at_port (published p) ∷ h)
sent first c m f p h k is timely owing runs flies = record {
  placed = k.placed;
  sized = k.sized;
  short = k.short;
  conducted = ((is ∙ ap (λ (ps : List Piece). p ∷ drop 1 ps) (sym is), timely, owing), k.conducted);
  machine = subst (λ (ps : List Piece). Runs m (plan_of h) (motion_of first h) (drop 1 ps) (given_of h)) (sym is) runs;
  lines = k.lines;
  input = k.input;
  flight = record { known = k.flight.known; found = k.flight.found; flies = flies k.flight.known k.flight.flies };
  owes_is = k.owes_is;
  resetting_is = k.resetting_is;
  taken_is = k.taken_is;
  answered_is = k.answered_is;
  greeted_is = k.greeted_is;
  prompt = (record { further = λ e. refl; waits = k.unready }, k.prompt);
  unready = λ may. absurd (let e = may.between in cc);
  jogged_is = k.jogged_is;
  cut_is = k.cut_is;
  going = k.going;
  closed = k.closed;
  limited = k.limited;
  alarmed_is = k.alarmed_is;
  unlocked = k.unlocked;
  tries = few_tried first c h k (λ none. absurd (let e = sym is ∙ none in cc));
}

-- it is handed back
pub not_sent : {N : ℕ} (first : Opening) (c : Board N) (done : ℕ) (h : Journal) → Keeps first c h → (hand_of h ≡ [] → ⊥) → ReportsFirst h → LacksPieceRoom done (port_log h) → Keeps first c (at_port (no_piece_room done) ∷ h)
not_sent first c done h k some owing full = record {
  placed = k.placed;
  sized = k.sized;
  short = k.short;
  conducted = (record { some = some; reported = owing; full = full }, k.conducted);
  machine = k.machine;
  lines = k.lines;
  input = k.input;
  flight = record { known = k.flight.known; found = k.flight.found; flies = k.flight.flies };
  owes_is = k.owes_is;
  resetting_is = k.resetting_is;
  taken_is = k.taken_is;
  answered_is = k.answered_is;
  greeted_is = k.greeted_is;
  prompt = (record { further = λ e. refl; waits = k.unready }, k.prompt);
  unready = λ may. absurd (let e = may.between in cc);
  jogged_is = k.jogged_is;
  cut_is = k.cut_is;
  going = k.going;
  closed = k.closed;
  limited = k.limited;
  alarmed_is = k.alarmed_is;
  unlocked = k.unlocked;
  tries = few_tried first c h k some;
}

-- so many ticks are found done
pub looked : {N : ℕ} (first : Opening) (c : Board N) (done : ℕ) (h : Journal) → Keeps first c h → MayBeDone done (port_log h) → Keeps first c (at_port (loaded done) ∷ h)
looked first c done h k may = record {
  placed = k.placed;
  sized = k.sized;
  short = k.short;
  conducted = (may, k.conducted);
  machine = k.machine;
  lines = k.lines;
  input = k.input;
  flight = record { known = k.flight.known; found = let a = k.flight.found in let b = may.later in omega (arith, a, b); flies = k.flight.flies };
  owes_is = k.owes_is;
  resetting_is = k.resetting_is;
  taken_is = k.taken_is;
  answered_is = k.answered_is;
  greeted_is = k.greeted_is;
  prompt = (record { further = λ e. refl; waits = k.unready }, k.prompt);
  unready = λ may. absurd (let e = may.between in cc);
  jogged_is = k.jogged_is;
  cut_is = k.cut_is;
  going = k.going;
  closed = k.closed;
  limited = k.limited;
  alarmed_is = k.alarmed_is;
  unlocked = k.unlocked;
  tries = k.tries;
}

-- a task less is left
pub one_less : {N : ℕ} (c : Board N) (i : Interpreting) (first : Opening) (h : Journal) → Works c.lines (left_of first h) (before_of first h) → i ≡ record c.lines { left = drop 1 c.lines.left }
    → Works i (drop 1 (left_of first h)) (before_of first h)
one_less c i first h w is = record {
  left_is = ap (λ (j : Interpreting). j.left) is ∙ ap (λ (ts : List Task). drop 1 ts) w.left_is;
  state_is = ap (λ (j : Interpreting). j.state) is ∙ w.state_is;
  number_is = ap (λ (j : Interpreting). j.number) is ∙ w.number_is;
}

-- a reply is told
pub told : {N : ℕ} (first : Opening) (c : Board N) (i : Interpreting) (s : State) (greeted : Bool) (r : Reply) (h : Journal) → Keeps first c h → IsNextTask first (tell r) h → AsksForRoom h → is_report r ≡ false → owes_report h ≡ false → (r ≡ Bye → hand_of h ≡ []) → i ≡ record c.lines { left = drop 1 c.lines.left }
    → s ≡ cond (is_answer r) c.lines.state c.answered → greeted ≡ (is_banner r || c.greeted) → Keeps first (record c { lines = i; answered = s; greeted = greeted }) (at_port (answered r) ∷ h)
told first c i s greeted r h k next once plain unowed empty is state greets = record {
  placed = k.placed;
  sized = k.sized;
  short = k.short;
  conducted = (record { once = once; next = next; plain = plain; unowed = unowed; empty = empty; unlocked = k.unlocked }, k.conducted);
  machine = k.machine;
  lines = one_less c i first h k.lines is;
  input = k.input;
  flight = record { known = k.flight.known; found = k.flight.found; flies = k.flight.flies };
  owes_is = k.owes_is;
  resetting_is = k.resetting_is;
  taken_is = k.taken_is;
  answered_is = state ∙ ap (λ (x : State). cond (is_answer r) x c.answered) k.lines.state_is ∙ ap (cond (is_answer r) (before_of first h).state) k.answered_is;
  greeted_is = greets ∙ ap (λ (t : Bool). is_banner r || t) k.greeted_is;
  prompt = (record { further = λ e. refl; waits = k.unready }, k.prompt);
  unready = λ may. absurd (let e = may.between in cc);
  jogged_is = k.jogged_is;
  cut_is = k.cut_is;
  going = k.going;
  closed = k.closed;
  limited = k.limited;
  alarmed_is = k.alarmed_is;
  unlocked = k.unlocked;
  tries = λ one. (let few = k.tries one in let fewer = takes_back (are_many (left_of first h) && nat_lt 1 (tries_of first h)) (tries_of first h) in omega (arith, few, fewer));
}

-- it is handed back
pub not_told : {N : ℕ} (first : Opening) (c : Board N) (h : Journal) → Keeps first c h → tells_next (left_of first h) ≡ true → AsksForRoom h → Keeps first c (at_port no_reply_room ∷ h)
not_told first c h k next once = record {
  placed = k.placed;
  sized = k.sized;
  short = k.short;
  conducted = ((ap (λ b. b || owes_report h) next, once), k.conducted);
  machine = k.machine;
  lines = k.lines;
  input = k.input;
  flight = record { known = k.flight.known; found = k.flight.found; flies = k.flight.flies };
  owes_is = k.owes_is;
  resetting_is = k.resetting_is;
  taken_is = k.taken_is;
  answered_is = k.answered_is;
  greeted_is = k.greeted_is;
  prompt = (record { further = λ e. refl; waits = k.unready }, k.prompt);
  unready = λ may. absurd (let e = may.between in cc);
  jogged_is = k.jogged_is;
  cut_is = k.cut_is;
  going = k.going;
  closed = k.closed;
  limited = k.limited;
  alarmed_is = k.alarmed_is;
  unlocked = k.unlocked;
  tries = k.tries;
}

-- a report is told
pub report_told : {N : ℕ} (first : Opening) (c : Board N) (r : Report) (h : Journal) (k : Keeps first c h) → IsReportAt first r h → Keeps first (record c { owes = false }) (at_port (reported r) ∷ h)
report_told first c r h k may = record {
  placed = k.placed;
  sized = k.sized;
  short = k.short;
  conducted = (may, k.conducted);
  machine = k.machine;
  lines = k.lines;
  input = k.input;
  flight = record { known = k.flight.known; found = k.flight.found; flies = k.flight.flies };
  owes_is = refl;
  resetting_is = k.resetting_is;
  taken_is = k.taken_is;
  answered_is = k.answered_is;
  greeted_is = k.greeted_is;
  prompt = (record { further = λ e. refl; waits = k.unready }, k.prompt);
  unready = λ may. absurd (let e = may.between in cc);
  jogged_is = k.jogged_is;
  cut_is = k.cut_is;
  going = k.going;
  closed = k.closed;
  limited = k.limited;
  alarmed_is = k.alarmed_is;
  unlocked = k.unlocked;
  tries = k.tries;
}

or_true : (a b : Bool) → b ≡ true → (a || b) ≡ true
or_true true b e = refl
or_true false b e = e

-- it is handed back
pub report_kept : {N : ℕ} (first : Opening) (c : Board N) (h : Journal) → Keeps first c h → owes_report h ≡ true → AsksForRoom h → Keeps first (record c { owes = true }) (at_port no_reply_room ∷ h)
report_kept first c h k owed once = record {
  placed = k.placed;
  sized = k.sized;
  short = k.short;
  conducted = ((or_true (tells_next (left_of first h)) (owes_report h) owed, once), k.conducted);
  machine = k.machine;
  lines = k.lines;
  input = k.input;
  flight = record { known = k.flight.known; found = k.flight.found; flies = k.flight.flies };
  owes_is = sym owed;
  resetting_is = k.resetting_is;
  taken_is = k.taken_is;
  answered_is = k.answered_is;
  greeted_is = k.greeted_is;
  prompt = (record { further = λ e. refl; waits = k.unready }, k.prompt);
  unready = λ may. absurd (let e = may.between in cc);
  jogged_is = k.jogged_is;
  cut_is = k.cut_is;
  going = k.going;
  closed = k.closed;
  limited = k.limited;
  alarmed_is = k.alarmed_is;
  unlocked = k.unlocked;
  tries = k.tries;
}

-- no byte is found
pub polled_empty : {N : ℕ} (first : Opening) (c : Board N) (h : Journal) → Keeps first c h → MayPoll first h → Keeps first c (at_port found_empty ∷ h)
polled_empty first c h k may = record {
  placed = k.placed;
  sized = k.sized;
  short = k.short;
  conducted = (may, k.conducted);
  machine = k.machine;
  lines = k.lines;
  input = k.input;
  flight = record { known = k.flight.known; found = k.flight.found; flies = k.flight.flies };
  owes_is = k.owes_is;
  resetting_is = k.resetting_is;
  taken_is = k.taken_is;
  answered_is = k.answered_is;
  greeted_is = k.greeted_is;
  prompt = (record { further = λ e. refl; waits = k.unready }, k.prompt);
  unready = λ may. absurd (let e = may.between in cc);
  jogged_is = k.jogged_is;
  cut_is = k.cut_is;
  going = k.going;
  closed = k.closed;
  limited = k.limited;
  alarmed_is = k.alarmed_is;
  unlocked = k.unlocked;
  tries = λ one. omega arith;
}

-- none is found, and the link is closed
pub polled_closed : {N : ℕ} (first : Opening) (c : Board N) (h : Journal) → Keeps first c h → MayPoll first h → Keeps first c (at_port found_closed ∷ h)
polled_closed first c h k may = record {
  placed = k.placed;
  sized = k.sized;
  short = k.short;
  conducted = (may, k.conducted);
  machine = k.machine;
  lines = k.lines;
  input = k.input;
  flight = record { known = k.flight.known; found = k.flight.found; flies = k.flight.flies };
  owes_is = k.owes_is;
  resetting_is = k.resetting_is;
  taken_is = k.taken_is;
  answered_is = k.answered_is;
  greeted_is = k.greeted_is;
  prompt = (record { further = λ e. refl; waits = k.unready }, k.prompt);
  unready = λ may. absurd (let e = may.between in cc);
  jogged_is = k.jogged_is;
  cut_is = k.cut_is;
  going = k.going;
  closed = k.closed;
  limited = k.limited;
  alarmed_is = k.alarmed_is;
  unlocked = k.unlocked;
  tries = λ one. omega arith;
}
