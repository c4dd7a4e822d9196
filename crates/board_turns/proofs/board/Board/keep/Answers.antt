use Rattle.std.proofs.Common.{[], ◌∷◌, ◌+◌, ◌^◌, ◌≤◌, ◌<◌, length, length-append, ◌≡◌, ℕ, Bool, false, nat_eq, refl, arith, subst}
use Rattle.std.proofs.lemmas.Bool.Decides.{nat_tests}
use Rattle.board_journal.specs.Ports.PortStep.{took}
use Rattle.board_journal.specs.Steps.{Journal, taken_of, open_of, whole_of}
use Rattle.board_journal.specs.Steps.Step.{at_port}
use Rattle.board_lines.specs.Inputs.{Reads}
use Rattle.board_turns.proofs.board.Board.keep.Goals as goal

taken_more : (b : ℕ) (h : Journal) (n : ℕ) → n ≡ length (taken_of h) → n + 1 ≡ length (taken_of (at_port (took b) ∷ h))
taken_more b h n e = let a = length-append (taken_of h) (b ∷ []) in omega (arith, a, e)

few_more : (lines b : ℕ) (h : Journal) → lines + length (taken_of h) < 2 ^ 31 → lines + length (taken_of (at_port (took b) ∷ h)) ≤ 2 ^ 31
few_more lines b h few = let a = length-append (taken_of h) (b ∷ []) in omega (arith, a, few)

other : (b : ℕ) → (b ≡ 10 → ⊥) → nat_eq b 10 ≡ false
other b differs = grind (arith, nat_tests, differs)

pub returns-then-byte-eq10-clause-kept : goal.returns-then-byte-eq10-clause-kept
returns-then-byte-eq10-clause-kept g c = λ first h k may room. record {
  placed = k.placed;
  sized = k.sized;
  short = few_more first.lines c.args.byte h room;
  conducted = (may, k.conducted);
  machine = k.machine;
  lines = k.lines;
  input = rw c.if-byte-eq10.true (c.finish.ensures (open_of h) (whole_of h) k.input);
  flight = record { known = k.flight.known; found = k.flight.found; flies = k.flight.flies };
  owes_is = k.owes_is;
  resetting_is = k.resetting_is;
  taken_is = taken_more c.args.byte h c.args.self.now.taken k.taken_is;
  answered_is = k.answered_is;
  greeted_is = k.greeted_is;
  prompt = (record { further = λ e. refl; waits = k.unready }, k.prompt);
  unready = λ may. absurd (let e = may.between in cc);
  jogged_is = k.jogged_is;
  cut_is = k.cut_is;
  going = k.going;
  closed = k.closed;
  limited = k.limited;
  alarmed_is = k.alarmed_is;
  unlocked = k.unlocked;
  tries = λ one. omega arith;
}

pub returns-else-byte-eq10-clause-kept : goal.returns-else-byte-eq10-clause-kept
returns-else-byte-eq10-clause-kept g c = λ first h k may room. record {
  placed = k.placed;
  sized = k.sized;
  short = few_more first.lines c.args.byte h room;
  conducted = (may, k.conducted);
  machine = k.machine;
  lines = k.lines;
  input = rw (other c.args.byte c.if-byte-eq10.false) (c.push.ensures (open_of h) false (subst (λ (whole : Bool). Reads c.args.self.now.input (open_of h) whole) may.polls.partial k.input));
  flight = record { known = k.flight.known; found = k.flight.found; flies = k.flight.flies };
  owes_is = k.owes_is;
  resetting_is = k.resetting_is;
  taken_is = taken_more c.args.byte h c.args.self.now.taken k.taken_is;
  answered_is = k.answered_is;
  greeted_is = k.greeted_is;
  prompt = (record { further = λ e. refl; waits = k.unready }, k.prompt);
  unready = λ may. absurd (let e = may.between in cc);
  jogged_is = k.jogged_is;
  cut_is = k.cut_is;
  going = k.going;
  closed = k.closed;
  limited = k.limited;
  alarmed_is = k.alarmed_is;
  unlocked = k.unlocked;
  tries = λ one. omega arith;
}
