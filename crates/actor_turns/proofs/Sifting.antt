-- The numbers of the generator that give the host or the board a turn.
use Rattle.std.proofs.Common.{◌≡◌, ℕ, suc, ◌+◌, ◌/◌, ◌^◌, ◌≤◌, ◌<◌, Bool, true, false, List, [], ◌∷◌, ◌++◌, length, take, slice_set, nat_lt, refl, sym, subst, arith}
use Rattle.std.proofs.lemmas.List.{take_more_set, take-set}
use Rattle.std.proofs.lemmas.Bool.{ltb-true, ltb-false}
use mir.Val.{bool_byte}
use Rattle.actor_turns.specs.Lockstep.{state_after, Sifts}

-- one number more, which is passed over
sifts_past : (numbers : List ℕ) (from to next : ℕ) → Sifts from numbers to → next ≡ state_after to → 2 ≤ next / 2 ^ 62 → Sifts from numbers next
sifts_past [] from to next s is high = (suc s.0, (to, s.1, is, high))
sifts_past (x ∷ xs) from to next s is high = (s.0, s.1, s.2, s.3, s.4, sifts_past xs x to next s.5 is high)

-- one number more, which is kept
sifts_more : (numbers : List ℕ) (from to next : ℕ) → Sifts from numbers to → next ≡ state_after to → next / 2 ^ 62 < 2 → Sifts from (numbers ++ next ∷ []) next
sifts_more [] from to next s is low = (s.0, to, s.1, is, low, (0, refl))
sifts_more (x ∷ xs) from to next s is low = (s.0, s.1, s.2, s.3, s.4, sifts_more xs x to next s.5 is low)

-- a number is looked at, written behind those that are kept, and is one of them where it is low
by_bit : (numbers : List ℕ) (count from to next : ℕ) (b : Bool) → count < length numbers → Sifts from (take count numbers) to → next ≡ state_after to → (b ≡ true → next / 2 ^ 62 < 2) → (b ≡ false → 2 ≤ next / 2 ^ 62)
    → Sifts from (take (count + bool_byte b) (slice_set numbers count next)) next
by_bit numbers count from to next true room s is low high = subst (λ (l : List ℕ). Sifts from l next) (sym (take_more_set numbers count next room)) (sifts_more (take count numbers) from to next s is (low refl))
by_bit numbers count from to next false room s is low high =
    let e : count + 0 ≡ count = omega arith in
    rw e (subst (λ (l : List ℕ). Sifts from l next) (sym (take-set numbers count next)) (sifts_past (take count numbers) from to next s is (high refl)))

pub sifts_on : (numbers : List ℕ) (count more from to next : ℕ) → count < length numbers → Sifts from (take count numbers) to → next ≡ state_after to → more ≡ bool_byte (nat_lt (next / 2 ^ 62) 2)
    → Sifts from (take (count + more) (slice_set numbers count next)) next
sifts_on numbers count more from to next room s is more_is =
    rw more_is (by_bit numbers count from to next (nat_lt (next / 2 ^ 62) 2) room s is (ltb-true (next / 2 ^ 62) 2) (ltb-false (next / 2 ^ 62) 2))

pub at_most_one : (more : ℕ) (b : Bool) → more ≡ bool_byte b → more ≤ 1
at_most_one more true is = omega arith
at_most_one more false is = omega arith
