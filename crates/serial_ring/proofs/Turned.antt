-- What several steps of a side come to.
use Rattle.std.proofs.Common.{◌≡◌, ◌≢◌, ℕ, ◌%◌, ◌^◌, false, [], ◌∷◌, Some, None, ap, ◌∙◌}
use native.Mathlib.Decide.{ℕ_discrete}
use Rattle.std.specs.declared.option.Option.{Option}
use Rattle.atomic_table.specs.Table.{Me, rest}
use Rattle.status_report.specs.declared.Reply.{Reply}
use Rattle.serial_ring.specs.declared.view.LinkSight.{LinkSight}
use Rattle.serial_ring.specs.Marks.{Mark}
use Rattle.serial_ring.specs.Rule.{with_cell, with_stored, with_read, with_taken, with_slot, with_answered, with_got, with_back, with_head, with_over, beginning, without_taking, without_storing}

-- a cell was written and the head stored
pub byte_stored : (a b d : Me (Option Reply) LinkSight) (byte : ℕ) → b ≡ (with_cell a.0 byte, a.1) → ((k : ℕ) → b.0.cell ≡ Some k → d ≡ (with_stored b.0 k, b.1)) → d ≡ (with_stored a.0 byte, a.1)
byte_stored a b d byte wrote kept = kept byte (ap (λ m. m.0.cell) wrote) ∙ ap (λ m. (with_stored m.0 byte, m.1)) wrote

-- a cell was read and the tail stored
pub byte_taken : (a b d : Me (Option Reply) LinkSight) (byte : ℕ) → b ≡ (with_read a.0 byte, a.1) → ((k : ℕ) → b.0.read ≡ Some k → d ≡ (with_taken b.0 k, b.1)) → d ≡ (with_taken a.0 byte, a.1)
byte_taken a b d byte read kept = kept byte (ap (λ m. m.0.read) read) ∙ ap (λ m. (with_taken m.0 byte, m.1)) read

-- the tail of the replies was loaded and a slot taken, which was filled and given
pub reply_answered : (a b d e : Me (Option Reply) LinkSight) (taken at slot : ℕ) (r : Reply) → a.1 ≡ [] → b ≡ (with_slot a.0 taken, (at, None) ∷ a.1)
    → d ≡ (b.0, (slot, Some r) ∷ rest b.1) → ((k : ℕ) (s : Reply) → d.1 ≡ (k, Some s) ∷ [] → e ≡ (with_answered d.0 s, []))
    → e ≡ (with_answered (with_slot a.0 taken) r, [])
reply_answered a b d e taken at slot r bare reached wrote gave =
    let none_else : rest b.1 ≡ [] = ap (λ m. rest m.1) reached ∙ bare in
    gave slot r (ap (λ m. m.1) wrote ∙ ap (λ l. (slot, Some r) ∷ l) none_else)
    ∙ (ap (λ m. (with_answered m.0 r, [])) wrote ∙ ap (λ m. (with_answered m.0 r, [])) reached)

-- the head of the replies was loaded and a slot taken, which was emptied and given back
pub reply_got : (a b d e : Me (Option Reply) LinkSight) (shown at slot : ℕ) (r : Reply) (m : Mark) → a.1 ≡ [] → b ≡ (with_got a.0 shown r m, (at, Some r) ∷ a.1)
    → d ≡ (b.0, (slot, None) ∷ rest b.1) → e ≡ (with_back d.0, []) → e ≡ (with_back (with_got a.0 shown r m), [])
reply_got a b d e shown at slot r m bare grasped wrote gave =
    gave ∙ (ap (λ x. (with_back x.0, [])) wrote ∙ ap (λ x. (with_back x.0, [])) grasped)

-- what the two seats of a new link know
pub host_begins : (made host : Me (Option Reply) LinkSight) → made ≡ (beginning, []) → host ≡ (without_taking made.0, made.1) → host ≡ (without_taking beginning, [])
host_begins made host is left = left ∙ ap (λ m. (without_taking m.0, m.1)) is

pub board_begins : (made board : Me (Option Reply) LinkSight) → made ≡ (beginning, []) → board ≡ (without_storing made.0, []) → board ≡ (without_storing beginning, [])
board_begins made board is right = right ∙ ap (λ m. (without_storing m.0, [])) is

-- what the head shows that was loaded
pub head_shown : (a b : Me (Option Reply) LinkSight) (n full : ℕ) → (n ≡ full → b ≡ (with_over a.0 (n % 2 ^ 63), a.1)) → (n ≢ full → (b ≡ (with_head a.0 (n % 2 ^ 63), a.1)) × (a.0.over ≡ false)) → b.0.head ≡ n % 2 ^ 63
head_shown a b n full closed still = go (ℕ_discrete n full)
  where
    go : Dec (n ≡ full) → b.0.head ≡ n % 2 ^ 63
    go (yes d) = ap (λ m. m.0.head) (closed d)
    go (no d) = ap (λ m. m.0.head) (still d).0
