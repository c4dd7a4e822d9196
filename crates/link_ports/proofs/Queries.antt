-- The raises of `?`.
use Rattle.std.proofs.Common.{◌≡◌, ℕ, ◌+◌, ◌^◌, ◌<◌, Bool, true, false, ◌&&◌, ◌||◌, not, cond, nat_eq, nat_lt, List, [], ◌∷◌, Some, None, refl, sym, ap, ◌∙◌, arith}
use Rattle.std.specs.declared.option.Option.{Option}
use Rattle.std.proofs.lemmas.Bool.Decides.{nat_tests}
use Rattle.code_table.specs.Tables.{Row, value_of, rows_of_bytes, query}
use Rattle.realtime_flags.specs.declared.words.Raise.{Raise}
use Rattle.realtime_flags.specs.Bits.{report_flag, is_flag, counted, raises_of}
use Rattle.realtime_flags.specs.Bytes.{flag_of_bit, flag_of_row, flag_of_byte}
use Rattle.host_journal.specs.Ports.{queries_in, TakesRaise}
use Rattle.host_journal.specs.Raises.{raised_to, raises_in}
use Rattle.host_journal.specs.Steps.{HostLog}
use Rattle.host_journal.specs.Steps.PortStep.{raised}

by_bool : {Q : Type 0} (b : Bool) → (b ≡ true → Q) → (b ≡ false → Q) → Q
by_bool true holds fails = holds refl
by_bool false holds fails = fails refl

same : (a b : ℕ) → nat_eq a b ≡ true → a ≡ b
same a b e = grind (arith, nat_tests)

-- each row with this value has this key
only : ℕ → ℕ → List Row → Bool
only v k [] = true
only v k (e ∷ es) = (not (nat_eq e.1 v) || nat_eq e.0 k) && only v k es

first_of : (a b : Bool) → (a && b) ≡ true → (a ≡ true) × (b ≡ true)
first_of true true e = (refl, refl)
first_of true false e = absurd cc
first_of false b e = absurd cc

key_of : (x k v : ℕ) → x ≡ v → (not (nat_eq x v) || nat_eq k 63) ≡ true → k ≡ 63
key_of x k v e o = grind (arith, nat_tests)

keyed : (b v : ℕ) (es : List Row) → only v 63 es ≡ true → value_of b es ≡ Some v → b ≡ 63
unfolding only
keyed b v [] o there = absurd cc
keyed b v (e ∷ es) o there =
    let both = first_of (not (nat_eq e.1 v) || nat_eq e.0 63) (only v 63 es) o in
    by_bool (nat_eq b e.0)
    (λ t. let found : Some e.1 ≡ Some v = sym (ap (λ c. cond c (Some e.1) (value_of b es)) t) ∙ there in
    let is : e.1 ≡ v = cc in same b e.0 t ∙ key_of e.1 e.0 v is both.0)
    (λ f. keyed b v es both.1 (sym (ap (λ c. cond c (Some e.1) (value_of b es)) f) ∙ there))

query_alone : (b : ℕ) → value_of b rows_of_bytes ≡ Some 0 → b ≡ 63
unfolding only
query_alone b there = keyed b 0 rows_of_bytes refl there

report_bit : (bit : ℕ) → is_flag report_flag (flag_of_bit bit) ≡ true → bit ≡ 0
report_bit bit e = by_bool (nat_lt bit 16)
    (λ t. grind (arith, nat_tests))
    (λ f. grind (arith, nat_tests))

counts : (b : ℕ) (found : Option ℕ) (down : Bool) (rs : List Raise) → value_of b rows_of_bytes ≡ found → (b ≡ 63 → ⊥) → raises_of report_flag (raised_to (flag_of_row found) down rs) ≡ raises_of report_flag rs
counts b None down rs e ne = refl
counts b (Some bit) down rs e ne = by_bool (is_flag report_flag (flag_of_bit bit))
    (λ t. absurd (ne (query_alone b (e ∙ ap (λ n. Some n) (report_bit bit t)))))
    (λ f. ap (λ c. counted c (raises_of report_flag rs)) f)

one_step : (b : ℕ) (down : Bool) (rs : List Raise) (n : ℕ) → raises_of report_flag rs ≡ n → raises_of report_flag (raised_to (flag_of_byte b) down rs) ≡ cond (nat_eq b query) (n + 1) n
one_step b down rs n e = by_bool (nat_eq b 63)
    (λ t. ap (λ m. raises_of report_flag (raised_to (flag_of_byte m) down rs)) (same b 63 t) ∙ (ap (λ m. m + 1) e ∙ sym (ap (λ c. cond c (n + 1) n) t)))
    (λ f. counts b (value_of b rows_of_bytes) down rs refl (λ is. let x : true ≡ false = sym (ap (λ m. nat_eq m 63) is) ∙ f in cc) ∙ (e ∙ sym (ap (λ c. cond c (n + 1) n) f)))

pub queries_raised : (h : HostLog) → raises_of report_flag (raises_in h) ≡ queries_in h
queries_raised [] = refl
queries_raised (raised b down ∷ h) = one_step b down (raises_in h) (queries_in h) (queries_raised h)
queries_raised (_ ∷ h) = queries_raised h

asks_report : (b : ℕ) (found : Option ℕ) → value_of b rows_of_bytes ≡ found → flag_of_row found ≡ Some report_flag → b ≡ 63
asks_report b None e is = absurd cc
asks_report b (Some bit) e is = let f : flag_of_bit bit ≡ report_flag = cc in query_alone b (e ∙ ap (λ n. Some n) (report_bit bit (ap (is_flag report_flag) f)))

-- what a raise needs
pub may_raise : (b : ℕ) (h : HostLog) (raises : List Raise) → raises_in h ≡ raises → TakesRaise b h → flag_of_byte b ≡ Some report_flag → raises_of report_flag raises < 2 ^ 31
may_raise b h raises are takes is =
    let few = takes (asks_report b (value_of b rows_of_bytes) refl is) in
    let q = queries_raised h in
    let a = ap (raises_of report_flag) are in omega arith
