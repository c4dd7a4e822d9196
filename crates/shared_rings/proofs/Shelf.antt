-- The slots of a ring through its steps.
use Rattle.std.proofs.Common.{◌≡◌, ◌≢◌, ℕ, zero, suc, ◌+◌, ◌%◌, ◌<◌, ◌≤◌, Bool, true, false, List, [], ◌∷◌, length, set, replicate, map, Some, None, sym, refl, ap, ◌∙◌, ⊎_elim, arith, length-set, lt_of_not-le}
use Rattle.std.specs.declared.option.Option.{Option}
use mathlib.Core.Option.{none, some}
use mathlib.Core.Option as maybe
use native.Mathlib.Decide.{dec_le}
use lib.ListN.{get_elem?}
use Rattle.atomic_table.proofs.Lists.{one_turn, set_else, set_here}
use Rattle.std.proofs.lemmas.List.{length-replicate, length-map}
use native.Mathlib.Nat.{mod-lt, add-mod_right}
use Rattle.shared_rings.specs.Placed.{placed}
use Rattle.shared_rings.specs.Shelf.{Shelf}
use Rattle.shared_rings.proofs.Placed.{placed_below, placed_last}

abbrev Homes : Type 0 → Type 0
Homes A = List (maybe.Option (Option A))

pub below_size : (k size : ℕ) → 0 < size → k % size < size
below_size k size slots = mod-lt k slots

around : (k size : ℕ) → (k + size) % size ≡ k % size
around k size = add-mod_right k size

last_or : (m g size : ℕ) {Q : Type 0} → m < g + 1 + size → (m ≡ g + size → Q) → (m < g + size → Q) → Q
last_or m g size {Q} lt last before = go (dec_le (g + size) m)
  where
    go : Dec (g + size ≤ m) → Q
    go (yes d) = last (omega arith)
    go (no d) = before (lt_of_not-le d)

module _ {A : Type 0} (size : ℕ) where
  -- the next slot goes out to be filled
  pub reach_home : (homes : Homes A) (sent got : List A) (given_back : ℕ) → Shelf size homes sent got given_back false → length sent < given_back + size
      → get_elem? homes (length sent % size) ≡ some (some None)
  reach_home homes sent got given_back s room = s.free (length sent) (omega arith) room (λ e. absurd cc)

  pub reach : (homes : Homes A) (sent got : List A) (given_back : ℕ) → Shelf size homes sent got given_back false → length sent < given_back + size
      → Shelf size (set homes (length sent % size) none) sent got given_back true
  reach homes sent got given_back s room = record {
    deep = length-set homes _ none ∙ s.deep;
    few = s.few;
    room = λ e. room;
    back = s.back;
    within = s.within;
    full = λ m x there le. let b = placed_below sent m x there in let g = s.back in
        let apart : m % size ≢ length sent % size = λ q. let o : m ≡ length sent = one_turn m (length sent) size (omega arith) (omega arith) q in omega arith in
        set_else homes (length sent % size) (m % size) none apart ∙ s.full m x there le;
    free = λ m le lt off. let ne = off refl in let g = s.back in let w = s.within in
        let apart : m % size ≢ length sent % size = λ q. let o : length sent ≡ m = one_turn (length sent) m size le (omega arith) (sym q) in ne (sym o) in
        set_else homes (length sent % size) (m % size) none apart ∙ s.free m le lt (λ e. absurd cc);
  }

  -- it comes back with an item
  pub fill : (homes : Homes A) (sent got : List A) (given_back : ℕ) (x : A) → Shelf size homes sent got given_back true
      → Shelf size (set homes (length sent % size) (some (Some x))) (x ∷ sent) got given_back false
  fill homes sent got given_back x s =
      let room = s.room refl in
      let deep = s.deep in record {
        deep = length-set homes _ _ ∙ s.deep;
        few = omega arith;
        room = λ e. absurd cc;
        back = s.back;
        within = (let w = s.within in omega arith);
        full = λ m y there le. let g = s.back in ⊎_elim
            (λ t. let b = placed_below sent m y t in
            let apart : m % size ≢ length sent % size = λ q. let o : m ≡ length sent = one_turn m (length sent) size (omega arith) (omega arith) q in omega arith in
            set_else homes (length sent % size) (m % size) (some (Some x)) apart ∙ s.full m y t le)
            (λ t. let low = below_size (length sent) size (omega arith) in
            ap (λ z. get_elem? (set homes (length sent % size) (some (Some x))) (z % size)) t.0 ∙ (set_here homes (length sent % size) (some (Some x)) (omega arith) ∙ ap (λ (z : A). some (some (Some z))) t.1))
            (placed_last sent x y m there);
        free = λ m le lt off. let g = s.back in let w = s.within in
            let apart : m % size ≢ length sent % size = λ q. let o : length sent ≡ m = one_turn (length sent) m size (omega arith) (omega arith) (sym q) in omega arith in
            set_else homes (length sent % size) (m % size) (some (Some x)) apart ∙ s.free m (omega arith) lt (λ e z. omega arith);
      }

  -- the slot of the next item goes out with it
  pub grasp_home : (homes : Homes A) (sent got : List A) (given_back : ℕ) (filling : Bool) (x : A) → Shelf size homes sent got given_back filling → placed sent (length got) ≡ some x
      → get_elem? homes (length got % size) ≡ some (some (Some x))
  grasp_home homes sent got given_back filling x s there = s.full (length got) x there (omega arith)

  pub grasp : (homes : Homes A) (sent got : List A) (given_back : ℕ) (filling : Bool) (x : A) → Shelf size homes sent got given_back filling → placed sent (length got) ≡ some x
      → Shelf size (set homes (length got % size) none) sent (x ∷ got) given_back filling
  grasp homes sent got given_back filling x s there =
      let low = placed_below sent (length got) x there in
      let few = s.few in
      let back = s.back in record {
        deep = length-set homes _ none ∙ s.deep;
        few = s.few;
        room = s.room;
        back = omega arith;
        within = omega arith;
        full = λ m y at le. let b = placed_below sent m y at in
            let apart : m % size ≢ length got % size = λ q. let o : length got ≡ m = one_turn (length got) m size (omega arith) (omega arith) (sym q) in omega arith in
            set_else homes (length got % size) (m % size) none apart ∙ s.full m y at (omega arith);
        free = λ m le lt off.
            let apart : m % size ≢ length got % size = λ q. let o : length got ≡ m = one_turn (length got) m size (omega arith) (omega arith) (sym q) in omega arith in
            set_else homes (length got % size) (m % size) none apart ∙ s.free m le lt off;
      }

  -- the first slot that is out comes back empty
  pub give : (homes : Homes A) (sent got : List A) (given_back : ℕ) (filling : Bool) → Shelf size homes sent got given_back filling → given_back < length got
      → Shelf size (set homes (given_back % size) (some None)) sent got (given_back + 1) filling
  give homes sent got given_back filling s out =
      let few = s.few in
      let within = s.within in
      let deep = s.deep in record {
        deep = length-set homes _ _ ∙ s.deep;
        few = omega arith;
        room = λ e. let r = s.room e in omega arith;
        back = omega arith;
        within = s.within;
        full = λ m y at le. let b = placed_below sent m y at in
            let apart : m % size ≢ given_back % size = λ q. let o : given_back ≡ m = one_turn given_back m size (omega arith) (omega arith) (sym q) in omega arith in
            set_else homes (given_back % size) (m % size) (some None) apart ∙ s.full m y at le;
        free = λ m le lt off. last_or m given_back size lt
            (λ q. let low = below_size given_back size (omega arith) in let again : m % size ≡ given_back % size = ap (λ z. z % size) q ∙ around given_back size in
            ap (λ z. get_elem? (set homes (given_back % size) (some None)) z) again ∙ set_here homes (given_back % size) (some None) (omega arith))
            (λ q. let apart : m % size ≢ given_back % size = λ r. let o : given_back ≡ m = one_turn given_back m size (omega arith) (omega arith) (sym r) in omega arith in
            set_else homes (given_back % size) (m % size) (some None) apart ∙ s.free m le q off);
      }

  abbrev no_item : Option A
  no_item = None

  vacant : (n i : ℕ) → i < n → get_elem? (map some (replicate n no_item)) i ≡ some (some None)
  vacant zero i lt = absurd (omega arith)
  vacant (suc n) zero lt = refl
  vacant (suc n) (suc i) lt = vacant n i (omega arith)

  pub empty : 0 < size → Shelf size (map some (replicate size no_item)) [] [] 0 false
  empty some_slots = record {
    deep = length-map (replicate size no_item) (λ (x : Option A). maybe.some x) ∙ length-replicate size no_item;
    few = omega arith;
    room = λ e. absurd cc;
    back = omega arith;
    within = omega arith;
    full = λ k x there le. absurd (let b = placed_below [] k x there in omega arith);
    free = λ k le lt off. vacant size (k % size) (below_size k size some_slots);
  }
