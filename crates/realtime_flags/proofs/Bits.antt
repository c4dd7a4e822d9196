-- What a raise and a take change of each flag.
use Rattle.std.proofs.Common.{◌≡◌, ◌≢◌, ℕ, ◌+◌, ◌^◌, ◌<◌, ◌≤◌, Bool, true, false, cond, ◌&&◌, not, nat_eq, ◌%◌, ◌⊎◌, bit_or, List, [], ◌∷◌, length, get_or, set, sym, refl, ap, ◌∙◌, arith}
use Rattle.std.proofs.lemmas.List.{get_or-set_same, get_or-set_other}
use Rattle.std.proofs.lemmas.Nat.Bits.{bit_at_or, bit_at-lt, bit_at-zero, bit_at-pow_same, bit_at-pow_other}
use Rattle.std.proofs.lemmas.Nat.{or_lt, pow_below}
use Rattle.std.specs.Int.{bit_at}
use Rattle.realtime_flags.specs.declared.words.Flag.{Flag}
use Rattle.realtime_flags.specs.declared.words.Flag.TheVariants as flags
use Rattle.realtime_flags.specs.declared.words.Raise.{Raise}
use Rattle.realtime_flags.specs.declared.words.Take.{Take}
use Rattle.realtime_flags.specs.Bits.{word_of, place_of, is_flag, counted, is_up, raises_of, raised_down, takes_with, word_taken, bits_taken, IsBalanced}

pub by_bool : {Q : Type 0} (b : Bool) → (b ≡ true → Q) → (b ≡ false → Q) → Q
by_bool true yes_it no_it = yes_it refl
by_bool false yes_it no_it = no_it refl

-- a bit of a word in which the bit k was raised
or_same : (n k j : ℕ) → j ≡ k → bit_at (bit_or n (2 ^ k)) j ≡ 1
or_same n k j e = let b = bit_at_or n (2 ^ k) j in let l = bit_at-lt n j in let o : bit_at (2 ^ k) j ≡ 1 = ap (bit_at (2 ^ k)) e ∙ bit_at-pow_same k in omega arith

or_other : (n k j : ℕ) → j ≢ k → bit_at (bit_or n (2 ^ k)) j ≡ bit_at n j
or_other n k j apart = let b = bit_at_or n (2 ^ k) j in let o = bit_at-pow_other k j apart in omega arith

same_place : (j k : ℕ) → nat_eq j k ≡ true → j ≡ k
same_place j k e = grind (arith, e)

other_place : (j k : ℕ) → nat_eq j k ≡ false → j ≢ k
other_place j k e p = grind (arith, e, p)

or_bit : (n k j : ℕ) → nat_eq (bit_at (bit_or n (2 ^ k)) j) 1 ≡ cond (nat_eq j k) true (nat_eq (bit_at n j) 1)
or_bit n k j = by_bool (nat_eq j k)
    (λ e. rw e (ap (λ b. nat_eq b 1) (or_same n k j (same_place j k e))))
    (λ e. rw e (ap (λ b. nat_eq b 1) (or_other n k j (other_place j k e))))

abbrev pub raised_words : List ℕ → Flag → List ℕ
raised_words words f = set words (word_of f) (bit_or (get_or words (word_of f) 0) (2 ^ place_of f))

zero_one : (a b : ℕ) → a ≡ 0 → b ≡ 1 → a ≢ b
zero_one a b p q e = omega arith

one_zero : (a b : ℕ) → a ≡ 1 → b ≡ 0 → a ≢ b
one_zero a b p q e = omega arith

pub raised_up : (words : List ℕ) (g f : Flag) → length words ≡ 2 → is_up g (raised_words words f) ≡ cond (is_flag g f) true (is_up g words)
raised_up words (flags.Exec j) (flags.Exec k) wide = ap (λ n. nat_eq (bit_at n j) 1) (get_or-set_same words 0 _ 0 (omega arith)) ∙ or_bit (get_or words 0 0) k j
raised_up words (flags.Override j) (flags.Override k) wide = ap (λ n. nat_eq (bit_at n j) 1) (get_or-set_same words 1 _ 0 (omega arith)) ∙ or_bit (get_or words 1 0) k j
raised_up words (flags.Exec j) (flags.Override k) wide = ap (λ n. nat_eq (bit_at n j) 1) (get_or-set_other words 1 0 _ 0 (zero_one 0 1 refl refl))
raised_up words (flags.Override j) (flags.Exec k) wide = ap (λ n. nat_eq (bit_at n j) 1) (get_or-set_other words 0 1 _ 0 (one_zero 1 0 refl refl))

pub same_flag : (g f : Flag) → is_flag g f ≡ true → g ≡ f
same_flag (flags.Exec j) (flags.Exec k) e = ap (λ n. flags.Exec n) (same_place j k e)
same_flag (flags.Override j) (flags.Override k) e = ap (λ n. flags.Override n) (same_place j k e)
same_flag (flags.Exec j) (flags.Override k) e = absurd cc
same_flag (flags.Override j) (flags.Exec k) e = absurd cc

where_same : (is : Bool) (was taken : ℕ) → was ≡ counted is taken → counted (not is && true) was ≡ taken + 1
where_same true was taken e = e
where_same false was taken e = ap (λ n. n + 1) e

where_other : (is : Bool) (was now : ℕ) → was ≡ now → counted (is && false) was ≡ now
where_other true was now e = e
where_other false was now e = e

-- a raise keeps the rule of the bits
pub raise_balances : (words : List ℕ) (raises : List Raise) (taken : List Take) (f : Flag) → length words ≡ 2 → IsBalanced words raises taken
    → IsBalanced (raised_words words f) (record { flag = f; down = not (is_up f words) } ∷ raises) taken
raise_balances words raises taken f wide balance g = by_bool (is_flag g f)
    (λ e. let b : is_up f words ≡ is_up g words = ap (λ (h : Flag). is_up h words) (sym (same_flag g f e)) in
    rw (raised_up words g f wide) (rw e (rw b (where_same (is_up g words) (raised_down g raises) (takes_with g taken) (balance g)))))
    (λ e. rw (raised_up words g f wide) (rw e (where_other (not (is_up f words)) (raised_down g raises) _ (balance g))))

-- a word is taken as a whole
pub take_balances : (words : List ℕ) (raises : List Raise) (taken : List Take) (t : Take) → length words ≡ 2 → word_taken t < 2 → bits_taken t ≡ get_or words (word_taken t) 0
    → IsBalanced words raises taken → IsBalanced (set words (word_taken t) 0) raises (t ∷ taken)
take_balances words raises taken t wide low bits balance g = by_bool (nat_eq (word_of g) (word_taken t))
    (λ e. let same = same_place (word_of g) (word_taken t) e in
    let down : is_up g (set words (word_taken t) 0) ≡ false = ap (λ i. nat_eq (bit_at (get_or (set words (word_taken t) 0) i 0) (place_of g)) 1) same
    ∙ (ap (λ n. nat_eq (bit_at n (place_of g)) 1) (get_or-set_same words (word_taken t) 0 0 (omega arith)) ∙ ap (λ n. nat_eq n 1) (bit_at-zero (place_of g))) in
    let stood : nat_eq (bit_at (bits_taken t) (place_of g)) 1 ≡ is_up g words = ap (λ n. nat_eq (bit_at n (place_of g)) 1) (bits ∙ ap (λ i. get_or words i 0) (sym same)) in
    rw down (rw e (rw stood (balance g))))
    (λ e. let other = other_place (word_of g) (word_taken t) e in
    let stays : is_up g (set words (word_taken t) 0) ≡ is_up g words = ap (λ n. nat_eq (bit_at n (place_of g)) 1) (get_or-set_other words (word_taken t) (word_of g) 0 0 other) in
    rw stays (rw e (balance g)))

among : (d b : Bool) (n m : ℕ) → n ≤ m → counted (d && b) n ≤ counted b m
among true true n m le = omega arith
among true false n m le = le
among false true n m le = omega arith
among false false n m le = le

-- no more raises found a flag down than there were
pub down_among : (f : Flag) (raises : List Raise) → raised_down f raises ≤ raises_of f raises
down_among f [] = omega arith
down_among f (r ∷ rs) = among r.down (is_flag f r.flag) (raised_down f rs) (raises_of f rs) (down_among f rs)

pub at_least : (is : Bool) (n : ℕ) → n ≤ counted is n
at_least true n = omega arith
at_least false n = omega arith

-- the flags that have names have room in their words
pub raised_small : (i k n : ℕ) → k < i → n < 2 ^ i → bit_or n (2 ^ k) < 2 ^ i
raised_small i k n low small = or_lt i n (2 ^ k) small (pow_below k i low)

-- a word that is cleared is small, and the other stays
pub zero_is : (words : List ℕ) (i j k : ℕ) → i < length words → get_or words j 0 < 2 ^ k → get_or (set words i 0) j 0 < 2 ^ k
zero_is words i j k low small = by_bool (nat_eq j i)
    (λ e. let same = same_place j i e in let z : get_or (set words i 0) j 0 ≡ 0 = ap (λ m. get_or (set words i 0) m 0) same ∙ get_or-set_same words i 0 0 low in omega arith)
    (λ e. rw (get_or-set_other words i j 0 0 (other_place j i e)) small)

pub named_low : (bit : ℕ) → bit < 16 → (bit < 5) ⊎ ((16 ≤ bit) × (bit < 29)) → bit % 16 < 5
named_low bit below low = omega (arith, low)

pub named_high : (bit : ℕ) → 16 ≤ bit → (bit < 5) ⊎ ((16 ≤ bit) × (bit < 29)) → bit % 16 < 13
named_high bit above low = omega (arith, low)

pub same_power : (j k : ℕ) → 2 ^ j ≡ 2 ^ k → j ≡ k
same_power j k e = by_bool (nat_eq j k) (λ t. same_place j k t) (λ f. let z : bit_at (2 ^ k) j ≡ 0 = bit_at-pow_other k j (other_place j k f) in
    let o : bit_at (2 ^ k) j ≡ 1 = ap (λ n. bit_at n j) (sym e) ∙ bit_at-pow_same j in absurd (omega arith))

-- a count that goes up where one test holds is at most one that goes up where another does, if that holds where the first does
pub one_more : (a t : Bool) (n q : ℕ) → (a ≡ true → t ≡ true) → n ≤ q → cond a (n + 1) n ≤ cond t (q + 1) q
one_more true true n q same le = omega arith
one_more true false n q same le = absurd (let s : false ≡ true = same refl in cc)
one_more false true n q same le = omega arith
one_more false false n q same le = le
