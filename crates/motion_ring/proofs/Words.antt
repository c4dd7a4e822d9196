-- The words of the ring, each stored alone.
use Rattle.std.proofs.Common.{◌≡◌, ◌≢◌, ℕ, ◌+◌, ◌<◌, List, length, get_or, set, ◌∙◌, arith, length-set}
use Rattle.std.proofs.lemmas.List.{get_or-set_same, get_or-set_other}
use Rattle.motion_ring.specs.declared.lists.Sent.{Sent}
use Rattle.motion_ring.specs.declared.lists.Taken.{Taken}
use Rattle.motion_ring.specs.Ticks.{head_word, done_word, stop_word, halted_word}
use Rattle.motion_ring.specs.Sides.{published_in, last_stop}
use Rattle.motion_ring.specs.Rule.{AreWords}

same : (words : List ℕ) (i new : ℕ) → i < length words → get_or (set words i new) i 0 ≡ new
same words i new lt = get_or-set_same words i new 0 lt

other : (words : List ℕ) (i j new : ℕ) → j ≢ i → get_or (set words i new) j 0 ≡ get_or words j 0
other words i j new apart = get_or-set_other words i j new 0 apart

above : (a b : ℕ) → b < a → a ≢ b
above a b lt e = omega arith

below : (a b : ℕ) → a < b → a ≢ b
below a b lt e = omega arith

module _ (words : List ℕ) (sent : Sent) (taken : Taken) (w : AreWords words sent taken) (new : ℕ) where
  pub head_stored : (s : Sent) → new ≡ length (published_in s) → last_stop s.stops ≡ last_stop sent.stops → AreWords (set words head_word new) s taken
  head_stored s e stops = let wide = w.wide in record {
    wide = length-set words head_word new ∙ w.wide;
    head = same words head_word new (omega arith) ∙ e;
    done = other words head_word done_word new (above done_word head_word (omega arith)) ∙ w.done;
    stop = (let a = other words head_word stop_word new (above stop_word head_word (omega arith)) in let b = w.stop in omega arith);
    halted = other words head_word halted_word new (above halted_word head_word (omega arith)) ∙ w.halted;
  }

  pub done_stored : (t : Taken) → new ≡ t.counted → length t.past ≡ length taken.past → AreWords (set words done_word new) sent t
  done_stored t e past = let wide = w.wide in record {
    wide = length-set words done_word new ∙ w.wide;
    head = other words done_word head_word new (below head_word done_word (omega arith)) ∙ w.head;
    done = same words done_word new (omega arith) ∙ e;
    stop = other words done_word stop_word new (above stop_word done_word (omega arith)) ∙ w.stop;
    halted = (let a = other words done_word halted_word new (above halted_word done_word (omega arith)) in let b = w.halted in omega arith);
  }

  pub stop_stored : (s : Sent) → new ≡ last_stop s.stops → length (published_in s) ≡ length (published_in sent) → AreWords (set words stop_word new) s taken
  stop_stored s e head = let wide = w.wide in record {
    wide = length-set words stop_word new ∙ w.wide;
    head = (let a = other words stop_word head_word new (below head_word stop_word (omega arith)) in let b = w.head in omega arith);
    done = other words stop_word done_word new (below done_word stop_word (omega arith)) ∙ w.done;
    stop = same words stop_word new (omega arith) ∙ e;
    halted = other words stop_word halted_word new (above halted_word stop_word (omega arith)) ∙ w.halted;
  }

  pub halt_stored : (t : Taken) → new ≡ length t.past → t.counted ≡ taken.counted → AreWords (set words halted_word new) sent t
  halt_stored t e counted = let wide = w.wide in record {
    wide = length-set words halted_word new ∙ w.wide;
    head = other words halted_word head_word new (below head_word halted_word (omega arith)) ∙ w.head;
    done = (let a = other words halted_word done_word new (below done_word halted_word (omega arith)) in let b = w.done in omega arith);
    stop = other words halted_word stop_word new (below stop_word halted_word (omega arith)) ∙ w.stop;
    halted = same words halted_word new (omega arith) ∙ e;
  }
