-- Which items settle.
use Rattle.std.proofs.Common.{◌≡◌, ℕ, zero, suc, ◌-◌, not, false, List, [], ◌∷◌, length, Some, None, refl, ap, arith}
use Rattle.std.specs.List.{slice_get}
use Rattle.gcode_check.specs.declared.Item.{Item}
use Rattle.gcode_check.specs.Items.{is_move, settling}

settled_at : (items : List Item) (k : ℕ) (item : Item) → suc k ≡ length items → slice_get items k ≡ Some item → settling items ≡ not (is_move item)
settled_at [] k item e at = absurd cc
settled_at (x ∷ []) zero item e at = let same : x ≡ item = cc in ap (λ (i : Item). not (is_move i)) same
settled_at (x ∷ []) (suc k) item e at = absurd (omega (arith, e))
settled_at (x ∷ y ∷ more) zero item e at = absurd (omega (arith, e))
settled_at (x ∷ y ∷ more) (suc k) item e at = settled_at (y ∷ more) k item (omega (arith, e)) at

pub settled_last : (items : List Item) (item : Item) → slice_get items (length items - 1) ≡ Some item → settling items ≡ not (is_move item)
settled_last [] item at = absurd cc
settled_last (x ∷ items) item at = settled_at (x ∷ items) (length (x ∷ items) - 1) item (omega arith) at

none_at : (x : Item) (items : List Item) (k : ℕ) → suc k ≡ length (x ∷ items) → slice_get (x ∷ items) k ≡ None → settling (x ∷ items) ≡ false
none_at x items zero e at = absurd cc
none_at x [] (suc k) e at = absurd (omega (arith, e))
none_at x (y ∷ more) (suc k) e at = none_at y more k (omega (arith, e)) at

pub none_last : (items : List Item) → slice_get items (length items - 1) ≡ None → settling items ≡ false
none_last [] at = refl
none_last (x ∷ items) at = none_at x items (length (x ∷ items) - 1) (omega arith) at
