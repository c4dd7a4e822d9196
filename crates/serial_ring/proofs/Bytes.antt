-- The bytes through each step.
use Rattle.std.proofs.Common.{◌≡◌, ◌≢◌, ℕ, ◌+◌, ◌%◌, ◌^◌, ◌<◌, Bool, true, false, List, ◌∷◌, ◌++◌, length, get_or, set, sym, ap, ◌∙◌, subst, ⊎_elim, arith, length-append}
use Rattle.std.proofs.lemmas.List.{get_or-set_same, get_or-set_other}
use mathlib.Core.Option.{some, some-injective}
use Rattle.atomic_table.proofs.Lists.{one_turn}
use Rattle.shared_rings.specs.Placed.{placed}
use Rattle.shared_rings.proofs.Placed.{placed_below, placed_last, next_placed}
use Rattle.serial_ring.specs.Rule.{Bytes, head_word, tail_word, first_cell, all_words, cell_of, top_if}

-- a cell lies behind the words of heads and tails
pub cell_apart : (i cell : ℕ) → i < first_cell → first_cell + cell ≢ i
cell_apart i cell low e = omega arith

pub apart_from_cell : (i cell : ℕ) → i < first_cell → i ≢ first_cell + cell
apart_from_cell i cell low e = omega arith

same_cell : (a b : ℕ) → first_cell + a ≡ first_cell + b → a ≡ b
same_cell a b e = omega arith

pub below : (a b : ℕ) → a < b → a ≢ b
below a b lt e = omega arith

pub above : (a b : ℕ) → b < a → a ≢ b
above a b lt e = omega arith

module _ (room : ℕ) (words : List ℕ) (stored taken : List ℕ) (closed : Bool) (b : Bytes room words stored taken closed) where
  pub long : length stored ≡ length b.rest + length taken
  long = ap length b.fifo ∙ length-append b.rest taken

  -- another word changes
  pub bytes_stay : (i x : ℕ) → i < first_cell → head_word ≢ i → tail_word ≢ i → Bytes room (set words i x) stored taken closed
  bytes_stay i x low no_head no_tail = record {
    rest = b.rest;
    fifo = b.fifo;
    few = b.few;
    short = b.short;
    head = get_or-set_other words i head_word x 0 no_head ∙ b.head;
    tail = get_or-set_other words i tail_word x 0 no_tail ∙ b.tail;
    small = b.small;
    cells = λ k y there le. get_or-set_other words i (cell_of room k) x 0 (cell_apart i (k % room) low) ∙ b.cells k y there le;
  }

  -- a byte is written where there is room
  pub bytes_written : (i x : ℕ) → i ≡ cell_of room (length stored) → length stored < length taken + room → Bytes room (set words i x) stored taken closed
  bytes_written i x place free = record {
    rest = b.rest;
    fifo = b.fifo;
    few = b.few;
    short = b.short;
    head = get_or-set_other words i head_word x 0 (λ e. apart_from_cell head_word (length stored % room) (omega arith) (e ∙ place)) ∙ b.head;
    tail = get_or-set_other words i tail_word x 0 (λ e. apart_from_cell tail_word (length stored % room) (omega arith) (e ∙ place)) ∙ b.tail;
    small = b.small;
    cells = λ k y there le. let low : k < length stored = placed_below stored k y there in
        let apart : cell_of room k ≢ i = λ e. let o : k ≡ length stored = one_turn k (length stored) room (omega arith) (omega arith) (same_cell (k % room) (length stored % room) (e ∙ place)) in omega arith in
        get_or-set_other words i (cell_of room k) x 0 apart ∙ b.cells k y there le;
  }

  -- a byte is taken
  pub bytes_taken : (new x : ℕ) → length words ≡ all_words → placed stored (length taken) ≡ some x → new ≡ length taken + 1 → Bytes room (set words tail_word new) stored (x ∷ taken) closed
  bytes_taken new x wide there count =
      let low : length taken < length stored = placed_below stored (length taken) x there in
      let next = next_placed stored b.rest taken b.fifo low in
      let same : next.0 ≡ x = some-injective next.0 x (sym next.2 ∙ there) in
      let few = b.few in record {
        rest = next.1;
        fifo = next.3 ∙ ap (λ z. next.1 ++ z ∷ taken) same;
        few = (let m = next.4 in omega arith);
        short = b.short;
        head = get_or-set_other words tail_word head_word new 0 (below head_word tail_word (omega arith)) ∙ b.head;
        tail = get_or-set_same words tail_word new 0 (omega arith) ∙ (let c : new ≡ length (x ∷ taken) = omega arith in c);
        small = b.small;
        cells = λ k y at le. get_or-set_other words tail_word (cell_of room k) new 0 (cell_apart tail_word (k % room) (omega arith)) ∙ b.cells k y at (omega arith);
      }

-- a byte is stored
pub bytes_stored : (room : ℕ) (words stored taken : List ℕ) (b : Bytes room words stored taken false) (new x : ℕ) → length words ≡ all_words → get_or words (cell_of room (length stored)) 0 ≡ x → x < 256 → length stored < length taken + room → length stored < 2 ^ 31 → new ≡ length stored + 1
    → Bytes room (set words head_word new) (x ∷ stored) taken false
bytes_stored room words stored taken b new x wide cell small free short count =
    let l = long room words stored taken false b in record {
      rest = x ∷ b.rest;
      fifo = ap (λ l. x ∷ l) b.fifo;
      few = omega arith;
      short = omega arith;
      head = get_or-set_same words head_word new 0 (omega arith) ∙ (let c : new ≡ length (x ∷ stored) + top_if false = omega arith in c);
      tail = get_or-set_other words head_word tail_word new 0 (above tail_word head_word (omega arith)) ∙ b.tail;
      small = λ k y there. ⊎_elim (λ t. b.small k y t) (λ t. subst (λ z. z < 256) t.1 small) (placed_last stored x y k there);
      cells = λ k y there le. get_or-set_other words head_word (cell_of room k) new 0 (cell_apart head_word (k % room) (omega arith))
          ∙ ⊎_elim (λ t. b.cells k y t le) (λ t. ap (λ m. get_or words (cell_of room m) 0) t.0 ∙ (cell ∙ t.1)) (placed_last stored x y k there);
    }

-- the link is closed
pub bytes_closed : (room : ℕ) (words stored taken : List ℕ) (b : Bytes room words stored taken false) (new : ℕ) → length words ≡ all_words → new ≡ length stored + 2 ^ 63 → Bytes room (set words head_word new) stored taken true
bytes_closed room words stored taken b new wide count = record {
  rest = b.rest;
  fifo = b.fifo;
  few = b.few;
  short = b.short;
  head = get_or-set_same words head_word new 0 (omega arith) ∙ count;
  tail = get_or-set_other words head_word tail_word new 0 (above tail_word head_word (omega arith)) ∙ b.tail;
  small = b.small;
  cells = λ k y there le. get_or-set_other words head_word (cell_of room k) new 0 (cell_apart head_word (k % room) (omega arith)) ∙ b.cells k y there le;
}
