-- The first of a queue, and a queue without room.
use Rattle.std.proofs.Common.{◌≡◌, ℕ, ◌<◌, ◌≤◌, true, false, List, [], ◌∷◌, ◌++◌, length, drop, refl, rules, arith, Some, None, IfSome, Ok, Err, lt_of_not-le}
use native.Mathlib.Decide.{dec_le}
use Rattle.std.specs.declared.option.Option.{Option}
use Rattle.std.specs.declared.result.Result.{Result}
use Rattle.std.specs.Result.{is_ok, IsOk, OnOk, IfErr}
use Rattle.std.specs.List.{All, slice_get}
use Rattle.std.proofs.lemmas.List.Elements.{All-append}
use Rattle.circular_buffer.specs.Buffer.{Buffer, buffer}

-- a queue that gives its first is that and the others
pub first_is : {X : Type 0} (xs : List X) (x : X) → Some x ≡ slice_get xs 0 → xs ≡ x ∷ drop 1 xs
first_is [] x e = absurd cc
first_is (y ∷ ys) x e = let f : Some x ≡ Some y = e in cc

-- a queue that has an item gives one
pub some_first : {X : Type 0} (xs : List X) → 0 < length xs → None ≡ slice_get xs 0 → ⊥
some_first [] some e = omega arith
some_first (y ∷ ys) some e = let f : None ≡ Some y = e in cc

-- what holds of an item that is given
pub by_some : {X : Type 0} {Q : X → Type 0} (o : Option X) → ((x : X) → o ≡ Some x → Q x) → IfSome o Q
by_some None q = tt
by_some (Some x) q = q x refl

at_least : (n cap : ℕ) → (n < cap → ⊥) → Dec (cap ≤ n) → cap ≤ n
at_least n cap full (yes le) = le
at_least n cap full (no more) = absurd (full (lt_of_not-le more))

-- a push that hands its item back changes nothing, and there was no room
pub handed_back : {T E B : Type 0} (r : Result T E) (x : E) (new old : B) (n cap : ℕ) → is_ok r ≡ false → (n < cap → IsOk r) → IfErr r (λ y. (y ≡ x) × (new ≡ old)) → (new ≡ old) × (cap ≤ n)
handed_back (Ok t) x new old n cap bad room err = absurd cc
handed_back (Err y) x new old n cap bad room err = (err.1, at_least n cap (λ lt. let e : false ≡ true = room lt in cc) (dec_le cap n))

-- a push that keeps its item puts it behind the others
pub put_behind : {T E B : Type 0} (r : Result T E) (new v : B) → is_ok r ≡ true → OnOk r (new ≡ v) → new ≡ v
put_behind (Ok t) new v good ok = ok
put_behind (Err y) new v good ok = absurd cc

-- what holds of all items, and of the one that is pushed, holds of all behind it; the room stays
pub all_pushed : {X : Type 0} (P : X → Type 0) (r : Result (Unit {0}) X) (x : X) (new old : Buffer X) → All P old.items → P x
    → OnOk r (new ≡ buffer (old.items ++ x ∷ []) old.capacity) → IfErr r (λ y. (y ≡ x) × (new ≡ old)) → (new.capacity ≡ old.capacity) × All P new.items
all_pushed P (Ok t) x new old all one ok err = rw ok (refl, All-append P old.items (x ∷ []) all (search (rules, one)))
all_pushed P (Err y) x new old all one ok err = rw err.1 (refl, all)
