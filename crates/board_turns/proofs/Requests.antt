-- What a board keeps where it takes its words of flags, and obeys them.
use Rattle.std.proofs.Common.{ℕ, ◌≡◌, inl, inr, [], ◌∷◌, Bool, true, false, not, ◌&&◌, ap, sym, refl, ◌∙◌, subst, append-nil}
use Rattle.code_table.specs.declared.flags.Exec.{Exec}
use Rattle.code_table.specs.declared.flags.Ovr.{Ovr}
use Rattle.feed_hold.specs.Motions.{after_word}
use Rattle.feed_hold.specs.Motions.Call.{on_exec}
use Rattle.board_journal.specs.Openings.{Opening}
use Rattle.overrides.specs.Percents.{IsOverrides, taken}
use Rattle.planner_runs.specs.declared.Action.TheVariants.{Override}
use Rattle.board_journal.specs.Ports.{has_changes}
use Rattle.board_journal.specs.Ports.PortStep.{took_exec, took_ovr}
use Rattle.board_journal.specs.Steps.{Journal, has_limited, port_log, given_of, hand_of, plan_of, motion_of}
use Rattle.board_journal.specs.Steps.Step.{at_port, did, became}
use Rattle.board_rules.specs.Turns.{is_greeted, owes_report, has_blocks, is_alarm, is_locked}
use Rattle.feed_hold.specs.declared.Motion.{Motion as AnyMotion}
use Rattle.feed_hold.specs.declared.Motion.TheVariants as motions
use Rattle.feed_hold.proofs.Reaching.{StaysOrReaches, reached}
use Rattle.board_rules.specs.Conduct.{MayTakeRequests, MayObey}
use Rattle.board_epochs.specs.Resets.{has_reset}
use Rattle.board_turns.specs.declared.board.Board.{Board}
use Rattle.board_machine.specs.declared.machine.Machine.{Machine}
use Rattle.board_machine.specs.Machines.{Runs}
use Rattle.board_turns.specs.Boards.{Keeps}
use Rattle.board_rules.proofs.Uncut.{cut_obeyed}

-- a word of requests is taken
pub takes_word : {N : ℕ} (first : Opening) (c : Board N) (owes resetting : Bool) (word : Exec) (h : Journal) → Keeps first c h → MayTakeRequests word h → owes ≡ owes_report (at_port (took_exec word) ∷ h)
    → resetting ≡ has_reset (at_port (took_exec word) ∷ h) → Keeps first (record c { owes = owes; resetting = resetting }) (at_port (took_exec word) ∷ h)
takes_word first c owes resetting word h k may is asks = record {
  placed = k.placed;
  sized = k.sized;
  short = k.short;
  conducted = (may, k.conducted);
  machine = k.machine;
  lines = k.lines;
  input = k.input;
  flight = record { known = k.flight.known; found = k.flight.found; flies = k.flight.flies };
  owes_is = is;
  resetting_is = asks;
  taken_is = k.taken_is;
  answered_is = k.answered_is;
  greeted_is = k.greeted_is;
  prompt = (record { further = λ e. refl; waits = k.unready }, k.prompt);
  unready = λ may. absurd (let e = may.between in cc);
  jogged_is = k.jogged_is;
  cut_is = k.cut_is;
  going = k.going;
  closed = k.closed;
  limited = k.limited;
  alarmed_is = k.alarmed_is;
  unlocked = k.unlocked;
  tries = k.tries;
}

-- a word of requests leads to no alarm
word_alarms : (m was : AnyMotion) (word : Exec) (queued : Bool) → StaysOrReaches m (on_exec word queued) was → (awaits : Bool) → (is_alarm was && awaits) ≡ false → (is_alarm m && awaits) ≡ false
word_alarms m was word queued (inl same) awaits none = ap (λ (x : AnyMotion). is_alarm x && awaits) same ∙ none
word_alarms motions.Alarm was word queued (inr (inl idle)) awaits none = absurd (let e = idle.1 in cc)
word_alarms motions.Alarm was word queued (inr (inr stops)) awaits none = absurd (let e = stops.1 in cc)
word_alarms m was word queued (inr how) awaits none = refl

-- a word that was taken is obeyed
pub obeys : {N : ℕ} (first : Opening) (c : Board N) (m : Machine N) (word : Exec) (h : Journal) → Keeps first c h → MayObey first word (has_blocks (plan_of h).blocks) h
    → Runs m (plan_of h) (after_word word (has_blocks (plan_of h).blocks) (motion_of first h)) (hand_of h) (given_of h)
    → Keeps first (record c { machine = m }) (became (on_exec word (has_blocks (plan_of h).blocks)) (after_word word (has_blocks (plan_of h).blocks) (motion_of first h)) ∷ h)
obeys first c m word h k may runs = record {
  placed = k.placed;
  sized = k.sized;
  short = k.short;
  conducted = ((refl, may), k.conducted);
  machine = runs;
  lines = k.lines;
  input = k.input;
  flight = record { known = k.flight.known; found = k.flight.found; flies = k.flight.flies };
  owes_is = k.owes_is;
  resetting_is = k.resetting_is;
  taken_is = k.taken_is;
  answered_is = k.answered_is;
  greeted_is = k.greeted_is;
  prompt = (record { further = λ e. refl; waits = k.unready }, k.prompt);
  unready = λ may. absurd (let e = may.between in cc);
  jogged_is = k.jogged_is;
  cut_is = k.cut_is ∙ cut_obeyed first word (has_blocks (plan_of h).blocks) h k.conducted;
  going = k.going;
  closed = k.closed;
  limited = k.limited;
  alarmed_is = k.alarmed_is;
  unlocked = word_alarms (after_word word (has_blocks (plan_of h).blocks) (motion_of first h)) (motion_of first h) word (has_blocks (plan_of h).blocks) (reached (on_exec word (has_blocks (plan_of h).blocks)) (motion_of first h) (after_word word (has_blocks (plan_of h).blocks) (motion_of first h)) refl) (not (is_locked first h) && not (has_limited h)) k.unlocked;
  tries = k.tries;
}

-- a word of changes of overrides is taken
pub takes_changes : {N : ℕ} (first : Opening) (c : Board N) (word : Ovr) (h : Journal) → Keeps first c h → is_greeted h ≡ true → Keeps first c (at_port (took_ovr word) ∷ h)
takes_changes first c word h k greeted = record {
  placed = k.placed;
  sized = k.sized;
  short = k.short;
  conducted = (greeted, k.conducted);
  machine = k.machine;
  lines = k.lines;
  input = k.input;
  flight = record { known = k.flight.known; found = k.flight.found; flies = k.flight.flies };
  owes_is = k.owes_is;
  resetting_is = k.resetting_is;
  taken_is = k.taken_is;
  answered_is = k.answered_is;
  greeted_is = k.greeted_is;
  prompt = (record { further = λ e. refl; waits = k.unready }, k.prompt);
  unready = λ may. absurd (let e = may.between in cc);
  jogged_is = k.jogged_is;
  cut_is = k.cut_is;
  going = k.going;
  closed = k.closed;
  limited = k.limited;
  alarmed_is = k.alarmed_is;
  unlocked = k.unlocked;
  tries = k.tries;
}

-- it is planned for what a word makes of the overrides
pub changes : {N : ℕ} (first : Opening) (c : Board N) (m : Machine N) (word : Ovr) (h : Journal) → Keeps first c h → is_greeted h ≡ true → has_changes word ≡ true → IsOverrides m.overrides
    → Runs m (record (plan_of h) { overrides = taken (plan_of h).overrides word }) (motion_of first h) (hand_of h) (given_of h)
    → Keeps first (record c { machine = m }) (did (Override (taken (plan_of h).overrides word)) [] ∷ at_port (took_ovr word) ∷ h)
changes first c m word h k greeted some range runs = record {
  placed = k.placed;
  sized = k.sized;
  short = k.short;
  conducted = (
    (record { word = word; earlier = port_log h; last = refl; some = some; taken = refl }, (subst IsOverrides (sym runs.same) range, refl)),
    (greeted, k.conducted),
  );
  machine = rw (append-nil (hand_of h), append-nil (given_of h)) runs;
  lines = k.lines;
  input = k.input;
  flight = record { known = k.flight.known; found = k.flight.found; flies = k.flight.flies };
  owes_is = k.owes_is;
  resetting_is = k.resetting_is;
  taken_is = k.taken_is;
  answered_is = k.answered_is;
  greeted_is = k.greeted_is;
  prompt = (record { further = λ e. refl; waits = λ may. absurd (let e = may.between in cc) }, (record { further = λ e. refl; waits = k.unready }, k.prompt));
  unready = λ may. absurd (let e = may.between in cc);
  jogged_is = k.jogged_is;
  cut_is = k.cut_is;
  going = k.going;
  closed = k.closed;
  limited = k.limited;
  alarmed_is = k.alarmed_is;
  unlocked = k.unlocked;
  tries = k.tries;
}

-- a board that keeps the same of the banner keeps it told
pub still_greeted : {N : ℕ} (first : Opening) (was is : Board N) (h next : Journal) → Keeps first was h → Keeps first is next → is.greeted ≡ was.greeted → is_greeted h ≡ true → is_greeted next ≡ true
still_greeted first was is h next k n same greeted = sym n.greeted_is ∙ same ∙ k.greeted_is ∙ greeted
