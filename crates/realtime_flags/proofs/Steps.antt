-- Each step keeps the rule.
use Rattle.std.proofs.Common.{◌≡◌, ℕ, ◌^◌, ◌<◌, ◌≤◌, Bool, true, not, nat_eq, bit_or, bit_and, List, [], ◌∷◌, length, get_or, set, sym, refl, ap, ◌∙◌, subst, ⊎_elim, arith, length-set}
use Rattle.std.proofs.lemmas.List.{set-get_or, get_or-set_same, get_or-set_other}
use mathlib.Core.Option.{some, none}
use lib.ListN.{get_elem?}
use Rattle.atomic_table.specs.Table.{State, step, Allows, Splits, Joins, opening}
use Rattle.atomic_table.specs.Table.Act.{keeps}
use Rattle.atomic_table.proofs.Lists.{at_set}
use Rattle.std.specs.Int.{bit_at}
use Rattle.std.specs.Int.Bits.{and_zero_r}
use Rattle.std.proofs.lemmas.Nat.Bits.{bit_at-zero}
use Rattle.shared_rings.proofs.Rights as rights
use Rattle.realtime_flags.specs.declared.words.Flag.{Flag}
use Rattle.realtime_flags.specs.declared.words.Flag.TheVariants as flags
use Rattle.realtime_flags.specs.declared.words.Raise.{Raise}
use Rattle.realtime_flags.specs.declared.words.Take.{Take}
use Rattle.realtime_flags.specs.declared.words.FlagSight.{FlagSight}
use Rattle.realtime_flags.specs.Bits.{word_of, place_of, is_flag, report_flag, IsNamed, counted, is_up, raises_of, takes_with, IsBalanced, word_taken, bits_taken}
use Rattle.realtime_flags.specs.Rule.{Kept, beginning, without_taking, without_raising, both_of, spent, with_raise, with_take, exec_taken, override_taken, raised, took_exec, took_override, balanced}
use Rattle.realtime_flags.proofs.Bits.{raised_words, raise_balances, take_balances, down_among, raised_small, zero_is, same_power, at_least, same_flag, by_bool}

abbrev may_raise : FlagSight → Bool
may_raise v = v.may_raise

abbrev may_take : FlagSight → Bool
may_take v = v.may_take

abbrev after : State ℕ FlagSight → List ℕ → ℕ → FlagSight → State ℕ FlagSight
after s words id w = record { words = words; homes = s.homes; views = set s.views id w }

raised_exec : (words : List ℕ) (f : Flag) → length words ≡ 2 → IsNamed f → get_or words 0 0 < 2 ^ 5 → get_or (raised_words words f) 0 0 < 2 ^ 5
raised_exec words (flags.Exec k) wide named small = rw (get_or-set_same words 0 (bit_or (get_or words 0 0) (2 ^ k)) 0 (omega arith)) (raised_small 5 k (get_or words 0 0) named small)
raised_exec words (flags.Override k) wide named small = rw (get_or-set_other words 1 0 (bit_or (get_or words 1 0) (2 ^ k)) 0 (λ e. omega arith)) small

raised_override : (words : List ℕ) (f : Flag) → length words ≡ 2 → IsNamed f → get_or words 1 0 < 2 ^ 13 → get_or (raised_words words f) 1 0 < 2 ^ 13
raised_override words (flags.Override k) wide named small = rw (get_or-set_same words 1 (bit_or (get_or words 1 0) (2 ^ k)) 0 (omega arith)) (raised_small 13 k (get_or words 1 0) named small)
raised_override words (flags.Exec k) wide named small = rw (get_or-set_other words 0 1 (bit_or (get_or words 0 0) (2 ^ k)) 0 (λ e. omega arith)) small

few_still : (f : Flag) (raises : List Raise) (found_down : Bool) → raises_of report_flag raises ≤ 2 ^ 31 → (f ≡ report_flag → raises_of report_flag raises < 2 ^ 31)
    → raises_of report_flag (record { flag = f; down = found_down } ∷ raises) ≤ 2 ^ 31
few_still f raises found_down few more = by_bool (is_flag report_flag f)
    (λ e. rw e (let m = more (sym (same_flag report_flag f e)) in omega arith))
    (λ e. rw e few)

-- the flag is told by its word and its bit
one_flag : (f g : Flag) → word_of f ≡ word_of g → 2 ^ place_of f ≡ 2 ^ place_of g → f ≡ g
one_flag (flags.Exec j) (flags.Exec k) w p = ap (λ n. flags.Exec n) (same_power j k p)
one_flag (flags.Override j) (flags.Override k) w p = ap (λ n. flags.Override n) (same_power j k p)
one_flag (flags.Exec j) (flags.Override k) w p = absurd (omega arith)
one_flag (flags.Override j) (flags.Exec k) w p = absurd (omega arith)

pub raises : (slots id i k : ℕ) (v : FlagSight) (c : List (ℕ × ℕ)) (f : Flag) → v.may_raise ≡ true → IsNamed f → i ≡ word_of f → k ≡ 2 ^ place_of f
    → (f ≡ report_flag → raises_of report_flag v.raises < 2 ^ 31)
    → Allows Kept slots id (v, c) i (λ n. bit_or n k) (raised (step slots i k 0 none) (v, c))
raises slots id i k v c f mine named word bit more s kept size at small =
    let own = kept.raising id v at mine in
    let n : ℕ = get_or s.words i 0 in
    let found_down : Bool = not (nat_eq (bit_at n (place_of f)) 1) in
    let r : Raise = record { flag = f; down = found_down } in
    let w : FlagSight = with_raise v f found_down in
    let words : set s.words i (bit_or n k) ≡ raised_words s.words f = λ j. set s.words (word j) (bit_or (get_or s.words (word j) 0) (bit j)) in
    let same : found_down ≡ not (is_up f s.words) = ap (λ j. not (nat_eq (bit_at (get_or s.words j 0) (place_of f)) 1)) word in
    let next : Kept (after s (raised_words s.words f) id w) = record {
      raises = r ∷ kept.raises;
      taken = kept.taken;
      raiser = kept.raiser;
      taker = kept.taker;
      wide = length-set s.words _ _ ∙ kept.wide;
      exec = raised_exec s.words f kept.wide named kept.exec;
      override = raised_override s.words f kept.wide named kept.override;
      balance = (let Q : Bool → Type 0 = λ d. IsBalanced (raised_words s.words f) (record { flag = f; down = d } ∷ kept.raises) kept.taken in
          subst Q (sym same) (raise_balances s.words kept.raises kept.taken f kept.wide kept.balance));
      few = few_still f kept.raises found_down kept.few (λ e. let m = more e in rw (sym own.1) m);
      raising = rights.steps_own may_raise s.views kept.raiser _ _ id w kept.raising own.0 (λ m. ap (λ (l : List Raise). r ∷ l) own.1);
      taking = rights.steps may_take s.views kept.taker _ _ id w kept.taking (λ m. kept.taking id v at m) (λ j u apart is known. known);
    } in (
      w,
      keeps,
      tt,
      (let Q : List ℕ → Type 0 = λ ws. Kept (after s ws id w) in subst Q (sym words) next),
      λ g iw kb. let e = one_flag f g (sym word ∙ iw) (sym bit ∙ kb) in ap (λ (h : Flag). (with_raise v h (not (nat_eq (bit_at n (place_of h)) 1)), c)) e,
    )

-- a word is taken
taken_state : (s : State ℕ FlagSight) (kept : Kept s) (id : ℕ) (v : FlagSight) (t : Take) → get_elem? s.views id ≡ some v → v.may_take ≡ true → word_taken t < 2 → bits_taken t ≡ get_or s.words (word_taken t) 0
    → Kept (after s (set s.words (word_taken t) 0) id (with_take v t))
taken_state s kept id v t at mine low bits =
    let own = kept.taking id v at mine in
    let w : FlagSight = with_take v t in record {
      raises = kept.raises;
      taken = t ∷ kept.taken;
      raiser = kept.raiser;
      taker = kept.taker;
      wide = length-set s.words _ _ ∙ kept.wide;
      exec = zero_is s.words (word_taken t) 0 5 (omega (arith, kept.wide)) kept.exec;
      override = zero_is s.words (word_taken t) 1 13 (omega (arith, kept.wide)) kept.override;
      balance = take_balances s.words kept.raises kept.taken t kept.wide low bits kept.balance;
      few = kept.few;
      raising = rights.steps may_raise s.views kept.raiser _ _ id w kept.raising (λ m. kept.raising id v at m) (λ j u apart is known. known);
      taking = rights.steps_own may_take s.views kept.taker _ _ id w kept.taking own.0 (λ m. ap (λ (l : List Take). t ∷ l) own.1);
    }

-- the report flag was taken no more often than it was raised
few_taken : (s : State ℕ FlagSight) (kept : Kept s) → takes_with report_flag kept.taken ≤ 2 ^ 31
few_taken s kept = let b = kept.balance report_flag in let l = at_least (is_up report_flag s.words) (takes_with report_flag kept.taken) in let d = down_among report_flag kept.raises in let f = kept.few in omega arith

cleared : (s : State ℕ FlagSight) (i id : ℕ) (w : FlagSight) (n : ℕ) → Kept (after s (set s.words i 0) id w) → Kept (after s (set s.words i (bit_and n 0)) id w)
cleared s i id w n kept = let Q : ℕ → Type 0 = λ z. Kept (after s (set s.words i z) id w) in subst Q (sym (and_zero_r n)) kept

pub takes_exec : (slots id : ℕ) (v : FlagSight) (c : List (ℕ × ℕ)) → v.may_take ≡ true → Allows Kept slots id (v, c) 0 (λ n. bit_and n 0) (took_exec (step slots 0 0 0 none) (v, c))
unfolding taken_state
takes_exec slots id v c mine s kept size at small =
    let n : ℕ = get_or s.words 0 0 in
    let next = taken_state s kept id v (exec_taken n) at mine (omega arith) refl in
    let own = kept.taking id v at mine in
    let few : takes_with report_flag (exec_taken n ∷ kept.taken) ≤ 2 ^ 31 = few_taken _ next in (
      with_take v (exec_taken n),
      keeps,
      tt,
      cleared s 0 id (with_take v (exec_taken n)) n next,
      (refl, kept.exec, (let Q : List Take → Type 0 = λ l. takes_with report_flag (exec_taken n ∷ l) ≤ 2 ^ 31 in subst Q (sym own.1) few)),
    )

pub takes_override : (slots id : ℕ) (v : FlagSight) (c : List (ℕ × ℕ)) → v.may_take ≡ true → Allows Kept slots id (v, c) 1 (λ n. bit_and n 0) (took_override (step slots 1 0 0 none) (v, c))
takes_override slots id v c mine s kept size at small =
    let n : ℕ = get_or s.words 1 0 in (
      with_take v (override_taken n),
      keeps,
      tt,
      cleared s 1 id (with_take v (override_taken n)) n (taken_state s kept id v (override_taken n) at mine (omega arith) refl),
      (refl, kept.override),
    )

pub balances : (slots id i : ℕ) (v : FlagSight) (c : List (ℕ × ℕ)) → v.may_raise ≡ true → v.may_take ≡ true → Allows Kept slots id (v, c) i (λ n. n) (balanced (step slots i 0 0 none) (v, c))
balances slots id i v c raising taking s kept size at small =
    let r = kept.raising id v at raising in
    let t = kept.taking id v at taking in (
      v,
      keeps,
      tt,
      (let Q : List ℕ → Type 0 = λ ws. Kept (after s ws id v) in subst Q (sym (set-get_or s.words i 0)) (record {
        raises = kept.raises;
        taken = kept.taken;
        raiser = kept.raiser;
        taker = kept.taker;
        wide = kept.wide;
        exec = kept.exec;
        override = kept.override;
        balance = kept.balance;
        few = kept.few;
        raising = rights.steps may_raise s.views kept.raiser _ _ id v kept.raising (λ m. r) (λ j u apart is known. known);
        taking = rights.steps may_take s.views kept.taker _ _ id v kept.taking (λ m. t) (λ j u apart is known. known);
      })),
      (refl, (s.words, (let Q : List Raise × List Take → Type 0 = λ z. IsBalanced s.words z.0 z.1 in subst Q (λ j. (sym r.1 j, sym t.1 j)) kept.balance))),
    )

pub starts : Kept (opening (0 ∷ 0 ∷ []) [] beginning)
starts = record {
  raises = [];
  taken = [];
  raiser = 0;
  taker = 0;
  wide = refl;
  exec = omega arith;
  override = omega arith;
  balance = λ f. nothing_up f;
  few = omega arith;
  raising = rights.starts may_raise _ beginning refl;
  taking = rights.starts may_take _ beginning refl;
}
  where
    nothing_up : (f : Flag) → 0 ≡ counted (is_up f (0 ∷ 0 ∷ [])) 0
    nothing_up (flags.Exec k) = rw (bit_at-zero k) refl
    nothing_up (flags.Override k) = rw (bit_at-zero k) refl

pub splits : (id : ℕ) (v : FlagSight) → v.may_raise ≡ true → v.may_take ≡ true → Splits Kept id v (without_taking v) (without_raising v)
splits id v raising taking s kept at =
    let r = kept.raising id v at raising in
    let t = kept.taking id v at taking in record {
      raises = kept.raises;
      taken = kept.taken;
      raiser = kept.raiser;
      taker = length (set s.views id (without_taking v));
      wide = kept.wide;
      exec = kept.exec;
      override = kept.override;
      balance = kept.balance;
      few = kept.few;
      raising = rights.splits_left may_raise s.views kept.raiser _ id (without_taking v) (without_raising v) kept.raising r.0 r.1 refl;
      taking = rights.splits_right may_take s.views kept.taker _ id (without_taking v) (without_raising v) kept.taking t.0 refl t.1;
    }

pub joins : (id other : ℕ) (v w : FlagSight) → v.may_raise ≡ true → w.may_take ≡ true → Joins Kept id v other w (both_of v w) spent
joins id other v w raising taking s kept at apart at_other =
    let was : get_elem? s.views other ≡ some w = ⊎_elim (λ a. absurd (apart a.0)) (λ a. a.1) (at_set s.views id other (both_of v w) w at_other) in
    let r = kept.raising id v at raising in
    let t = kept.taking other w was taking in record {
      raises = kept.raises;
      taken = kept.taken;
      raiser = kept.raiser;
      taker = id;
      wide = kept.wide;
      exec = kept.exec;
      override = kept.override;
      balance = kept.balance;
      few = kept.few;
      raising = rights.joins_left may_raise s.views kept.raiser _ id other (both_of v w) spent kept.raising r.0 r.1 refl;
      taking = rights.joins_right may_take s.views kept.taker _ id other (both_of v w) spent kept.taking t.0 t.1 refl;
    }
