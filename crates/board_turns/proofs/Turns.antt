-- The run is closed, turns end, and the room on the link is asked for; what is no part of what a board has done may change.
use Rattle.std.proofs.Common.{◌≡◌, ℕ, Bool, List, [], ◌∷◌, ◌++◌, true, false, refl, sym, ap, ◌∙◌}
use Rattle.outside.specs.declared.Turn.{Turn}
use Rattle.run_rules.specs.Work.Task.{tell, finish}
use Rattle.status_report.specs.declared.Reply.{Reply}
use Rattle.status_report.specs.declared.Reply.TheVariants.{Bye}
use Rattle.flight.specs.Flights.{Flying}
use Rattle.line_interpreter.specs.Interpreting.{Interpreting}
use Rattle.board_journal.specs.Openings.{Opening}
use Rattle.board_journal.specs.Ports.PortStep.{found_free}
use Rattle.board_journal.specs.Steps.{Journal}
use Rattle.board_journal.specs.Steps.Step.{at_port, closing, turned}
use Rattle.board_rules.specs.Conduct.{MayTurn, MayClose}
use Rattle.board_turns.specs.declared.board.Board.{Board}
use Rattle.board_turns.specs.declared.board.Flags.{Flags}
use Rattle.board_epochs.specs.Resets.{MayReset, has_reset}
use Rattle.board_turns.specs.Boards.{Keeps, KeepsBetween, IsFlown}

-- ---- the run and the turns

-- the run is being closed
pub closes : {N : ℕ} (first : Opening) (c : Board N) (i : Interpreting) (h : Journal) → Keeps first c h → has_reset h ≡ false → MayClose first h → i ≡ record c.lines { left = finish ∷ tell Bye ∷ [] }
    → Keeps first (record c { lines = i; closing = true }) (closing ∷ h)
closes first c i h k unreset may is = record {
  placed = k.placed;
  sized = k.sized;
  short = k.short;
  conducted = (may, k.conducted);
  machine = k.machine;
  lines = record {
    left_is = ap (λ (j : Interpreting). j.left) is;
    state_is = ap (λ (j : Interpreting). j.state) is ∙ k.lines.state_is;
    number_is = ap (λ (j : Interpreting). j.number) is ∙ k.lines.number_is;
  };
  input = k.input;
  flight = record { known = k.flight.known; found = k.flight.found; flies = k.flight.flies };
  owes_is = k.owes_is;
  resetting_is = k.resetting_is;
  taken_is = k.taken_is;
  answered_is = k.answered_is;
  greeted_is = k.greeted_is;
  prompt = (record { further = λ e. absurd (let f = sym e ∙ unreset in cc); waits = k.unready }, k.prompt);
  unready = λ may. absurd (let e = may.between in cc);
  jogged_is = k.jogged_is;
  cut_is = k.cut_is;
  going = λ e. absurd (cc);
  closed = λ e. ap (λ (rs : List Reply). rs ++ Bye ∷ []) may.going;
  limited = k.limited;
  alarmed_is = k.alarmed_is;
  unlocked = k.unlocked;
  tries = k.tries;
}

-- a turn ends
pub ends : {N : ℕ} (first : Opening) (c : Board N) (f : Flags) (t : Turn) (h : Journal) → Keeps first c h → MayTurn first t h → KeepsBetween first (record c { flags = f }) (turned t ∷ h)
ends first c f t h k may = record {
  placed = k.placed;
  sized = k.sized;
  short = k.short;
  conducted = (may, k.conducted);
  machine = k.machine;
  lines = k.lines;
  input = k.input;
  flight = record { known = k.flight.known; found = k.flight.found; flies = k.flight.flies };
  owes_is = k.owes_is;
  resetting_is = k.resetting_is;
  taken_is = k.taken_is;
  answered_is = k.answered_is;
  greeted_is = k.greeted_is;
  prompt = (record { further = λ e. refl; waits = k.unready }, k.prompt);
  jogged_is = k.jogged_is;
  cut_is = k.cut_is;
  going = k.going;
  closed = k.closed;
  limited = k.limited;
  alarmed_is = k.alarmed_is;
  unlocked = k.unlocked;
  tries = k.tries;
}

-- another begins, where no reset may be worked
pub begins_turn : {N : ℕ} (first : Opening) (c : Board N) (h : Journal) → KeepsBetween first c h → (MayReset first h → ⊥) → Keeps first c h
begins_turn first c h k unready = record {
  placed = k.placed;
  sized = k.sized;
  short = k.short;
  conducted = k.conducted;
  machine = k.machine;
  lines = k.lines;
  input = k.input;
  flight = record { known = k.flight.known; found = k.flight.found; flies = k.flight.flies };
  owes_is = k.owes_is;
  resetting_is = k.resetting_is;
  taken_is = k.taken_is;
  answered_is = k.answered_is;
  greeted_is = k.greeted_is;
  prompt = k.prompt;
  unready = unready;
  jogged_is = k.jogged_is;
  cut_is = k.cut_is;
  going = k.going;
  closed = k.closed;
  limited = k.limited;
  alarmed_is = k.alarmed_is;
  unlocked = k.unlocked;
  tries = k.tries;
}

-- the room on the link is asked for
pub room_found : {N : ℕ} (first : Opening) (c : Board N) (bytes : ℕ) (h : Journal) → Keeps first c h → Keeps first c (at_port (found_free bytes) ∷ h)
room_found first c bytes h k = record {
  placed = k.placed;
  sized = k.sized;
  short = k.short;
  conducted = (tt, k.conducted);
  machine = k.machine;
  lines = k.lines;
  input = k.input;
  flight = record { known = k.flight.known; found = k.flight.found; flies = k.flight.flies };
  owes_is = k.owes_is;
  resetting_is = k.resetting_is;
  taken_is = k.taken_is;
  answered_is = k.answered_is;
  greeted_is = k.greeted_is;
  prompt = (record { further = λ e. refl; waits = k.unready }, k.prompt);
  unready = λ may. absurd (let e = may.between in cc);
  jogged_is = k.jogged_is;
  cut_is = k.cut_is;
  going = k.going;
  closed = k.closed;
  limited = k.limited;
  alarmed_is = k.alarmed_is;
  unlocked = k.unlocked;
  tries = k.tries;
}

-- what the next turn begins with is no part of it, nor which words of flags it takes
pub other_published : {N : ℕ} (first : Opening) (c : Board N) (b : Bool) (h : Journal) → Keeps first c h → Keeps first (record c { published = b }) h
other_published first c b h k = record {
  placed = k.placed;
  sized = k.sized;
  short = k.short;
  conducted = k.conducted;
  machine = k.machine;
  lines = k.lines;
  input = k.input;
  flight = record { known = k.flight.known; found = k.flight.found; flies = k.flight.flies };
  owes_is = k.owes_is;
  resetting_is = k.resetting_is;
  taken_is = k.taken_is;
  answered_is = k.answered_is;
  greeted_is = k.greeted_is;
  prompt = k.prompt;
  unready = k.unready;
  jogged_is = k.jogged_is;
  cut_is = k.cut_is;
  going = k.going;
  closed = k.closed;
  limited = k.limited;
  alarmed_is = k.alarmed_is;
  unlocked = k.unlocked;
  tries = k.tries;
}

pub other_flags : {N : ℕ} (first : Opening) (c : Board N) (f : Flags) (h : Journal) → Keeps first c h → Keeps first (record c { flags = f }) h
other_flags first c f h k = record {
  placed = k.placed;
  sized = k.sized;
  short = k.short;
  conducted = k.conducted;
  machine = k.machine;
  lines = k.lines;
  input = k.input;
  flight = record { known = k.flight.known; found = k.flight.found; flies = k.flight.flies };
  owes_is = k.owes_is;
  resetting_is = k.resetting_is;
  taken_is = k.taken_is;
  answered_is = k.answered_is;
  greeted_is = k.greeted_is;
  prompt = k.prompt;
  unready = k.unready;
  jogged_is = k.jogged_is;
  cut_is = k.cut_is;
  going = k.going;
  closed = k.closed;
  limited = k.limited;
  alarmed_is = k.alarmed_is;
  unlocked = k.unlocked;
  tries = k.tries;
}

-- the flight may know of more ticks
pub other_flight : {N : ℕ} (first : Opening) (c : Board N) (f : Flying) (h : Journal) → Keeps first c h → IsFlown first f h → Keeps first (record c { flight = f }) h
other_flight first c f h k flown = record {
  placed = k.placed;
  sized = k.sized;
  short = k.short;
  conducted = k.conducted;
  machine = k.machine;
  lines = k.lines;
  input = k.input;
  flight = flown;
  owes_is = k.owes_is;
  resetting_is = k.resetting_is;
  taken_is = k.taken_is;
  answered_is = k.answered_is;
  greeted_is = k.greeted_is;
  prompt = k.prompt;
  unready = k.unready;
  jogged_is = k.jogged_is;
  cut_is = k.cut_is;
  going = k.going;
  closed = k.closed;
  limited = k.limited;
  alarmed_is = k.alarmed_is;
  unlocked = k.unlocked;
  tries = k.tries;
}
