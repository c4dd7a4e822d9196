-- Whether a part may end, by the last line that was entered.
use Rattle.std.proofs.Common.{◌≡◌, ◌↔◌, ◌⊎◌, inl, inr, ℕ, suc, ◌+◌, ◌-◌, ◌≤◌, Bool, true, false, cond, ◌||◌, List, [], ◌∷◌, ◌++◌, length, take, drop, length-append, append-nil, refl, ap, ◌∙◌, arith}
use Rattle.std.specs.List.{list_any}
use Rattle.std.proofs.lemmas.List.{take_all, take-append-le, take-append-drop, nil_from_length}
use Rattle.step_line.specs.Asking.{ticks_of_all, ticks_among}
use Rattle.step_line.specs.declared.Record.{Record}
use Rattle.run_rules.specs.Cuts.{ticks_asked_for, LosesJogsAlone}
use Rattle.run_rules.specs.Reports.{settles, settled_to}
use Rattle.run_rules.specs.Work.{Outcome, asks, accepted_jog}
use Rattle.run_texts.specs.Making.{Making, IsMade}
use Rattle.run_texts.specs.Recorded.{ticks_for_all, settled_ticks}
use Rattle.run_texts.proofs.Events.{ticks_on}

-- how many ticks some lines ask for
count : List Outcome → ℕ
count os = length (ticks_for_all os)

counted : (xs ys : List Outcome) → count (xs ++ ys) ≡ count xs + count ys
unfolding count
counted xs ys = ap length (ticks_on xs ys) ∙ length-append (ticks_for_all xs) (ticks_for_all ys)

one_counted : (o : Outcome) → count (o ∷ []) ≡ ticks_asked_for o
unfolding count
one_counted o = ap (λ asked. length (ticks_of_all asked)) (append-nil (asks o.work))

-- made and owed are all
all_counted : (since : List Outcome) (made : List Record) (m : Making) → IsMade since made m → count since ≡ length (ticks_among made) + length m.owed
unfolding count
all_counted since made m is = ap length is.ticks ∙ length-append (ticks_among made) m.owed

pub entered : (since : List Outcome) (made : List Record) (m : Making) → IsMade since made m → m.owed ≡ [] → length (ticks_for_all since) ≤ length (ticks_among made)
unfolding count
entered since made m is none =
    let all = all_counted since made m is in
    let owed : length m.owed ≡ 0 = ap length none in
    omega (arith, all, owed)

-- ---- a cut

first_lost : (x : Outcome) (os : List Outcome) → count (x ∷ os) ≡ ticks_asked_for x + count os
first_lost x os = counted (x ∷ []) os ∙ ap (λ (n : ℕ). n + count os) (one_counted x)

none_counted : count [] ≡ 0
unfolding count
none_counted = refl

loses : (os : List Outcome) (o : Outcome) (m n : ℕ) → count os + n ≡ m → LosesJogsAlone m (os ++ o ∷ []) ↔ ((accepted_jog o.kind ≡ true) ⊎ (ticks_asked_for o ≤ n))
loses [] o m n sum = (λ l. by l.0, λ e. (back e, tt)) where
  same : m ≡ n
  same = omega (arith, sum, none_counted)

  by : (accepted_jog o.kind ≡ true) ⊎ (ticks_asked_for o ≤ m) → (accepted_jog o.kind ≡ true) ⊎ (ticks_asked_for o ≤ n)
  by (inl jog) = inl jog
  by (inr few) = inr (omega (arith, few, same))

  back : (accepted_jog o.kind ≡ true) ⊎ (ticks_asked_for o ≤ n) → (accepted_jog o.kind ≡ true) ⊎ (ticks_asked_for o ≤ m)
  back (inl jog) = inl jog
  back (inr few) = inr (omega (arith, few, same))
loses (x ∷ os) o m n sum =
    let first = first_lost x os in
    let rest = loses os o (m - ticks_asked_for x) n (omega (arith, sum, first)) in
    let here : ticks_asked_for x ≤ m = omega (arith, sum, first) in
    (λ l. rest.0 l.1, λ e. (inr here, rest.1 e))

-- nothing is owed exactly if the last line's ticks are made
owed_tells : (before : List Outcome) (o : Outcome) (made : List Record) (m : Making) → IsMade (before ++ o ∷ []) made m → (n : ℕ) → count before + n ≡ length (ticks_among made)
    → (ticks_asked_for o ≤ n) ↔ (m.owed ≡ [])
owed_tells before o made m is n sum =
    let all = all_counted (before ++ o ∷ []) made m is in
    let both = counted before (o ∷ []) in
    let one = one_counted o in
    (λ few. nil_from_length m.owed (omega (arith, all, both, one, sum, few)), λ none. let owed : length m.owed ≡ 0 = ap length none in omega (arith, all, both, one, sum, owed))

cut_by : (before : List Outcome) (o : Outcome) (made : List Record) (m : Making) → IsMade (before ++ o ∷ []) made m → (left : ℕ) → count before + left ≡ length (ticks_among made)
    → LosesJogsAlone (length (ticks_among made)) (before ++ o ∷ []) ↔ ((accepted_jog o.kind ≡ true) ⊎ (m.owed ≡ []))
cut_by before o made m is left sum = (λ l. to (lost.0 l), λ e. lost.1 (from e)) where
  lost : LosesJogsAlone (length (ticks_among made)) (before ++ o ∷ []) ↔ ((accepted_jog o.kind ≡ true) ⊎ (ticks_asked_for o ≤ left))
  lost = loses before o (length (ticks_among made)) left sum

  to : (accepted_jog o.kind ≡ true) ⊎ (ticks_asked_for o ≤ left) → (accepted_jog o.kind ≡ true) ⊎ (m.owed ≡ [])
  to (inl jog) = inl jog
  to (inr few) = inr ((owed_tells before o made m is left sum).0 few)

  from : (accepted_jog o.kind ≡ true) ⊎ (m.owed ≡ []) → (accepted_jog o.kind ≡ true) ⊎ (ticks_asked_for o ≤ left)
  from (inl jog) = inl jog
  from (inr none) = inr ((owed_tells before o made m is left sum).1 none)

pub cut_tells : (before : List Outcome) (o : Outcome) (made : List Record) (m : Making) → IsMade (before ++ o ∷ []) made m → length (ticks_for_all before) ≤ length (ticks_among made)
    → LosesJogsAlone (length (ticks_among made)) (before ++ o ∷ []) ↔ ((accepted_jog o.kind ≡ true) ⊎ (m.owed ≡ []))
unfolding count
cut_tells before o made m is done = cut_by before o made m is (length (ticks_among made) - count before) (omega (arith, done))

-- ---- lines that settle

by_cond : (b : Bool) (n m : ℕ) → n ≤ m → cond b n 0 ≤ m
by_cond true n m few = few
by_cond false n m few = omega arith

settled_few : (os : List Outcome) (o : Outcome) → settles o ≡ false → settled_to (os ++ o ∷ []) ≤ length os
settled_few [] o e = let none : ◌≡◌ {A = ℕ} (cond (settles o || false) 1 0) 0 = ap (λ (b : Bool). cond {A = ℕ} (b || false) 1 0) e in omega (arith, none)
settled_few (x ∷ os) o e =
    let again = settled_few os o e in
    by_cond (list_any settles (x ∷ (os ++ o ∷ []))) (settled_to (os ++ o ∷ []) + 1) (suc (length os)) (omega (arith, again))

any_settles : (os : List Outcome) (o : Outcome) → settles o ≡ true → list_any settles (os ++ o ∷ []) ≡ true
any_settles [] o e = ap (λ (b : Bool). b || false) e
any_settles (x ∷ os) o e = by (settles x) (any_settles os o e) where
  by : (b : Bool) → list_any settles (os ++ o ∷ []) ≡ true → (b || list_any settles (os ++ o ∷ [])) ≡ true
  by true f = refl
  by false f = f

settled_all : (os : List Outcome) (o : Outcome) → settles o ≡ true → length os + 1 ≤ settled_to (os ++ o ∷ [])
settled_all [] o e = let one : ◌≡◌ {A = ℕ} (cond (settles o || false) 1 0) 1 = ap (λ (b : Bool). cond {A = ℕ} (b || false) 1 0) e in omega (arith, one)
settled_all (x ∷ os) o e =
    let again = settled_all os o e in
    let is : cond (list_any settles (x ∷ (os ++ o ∷ []))) (settled_to (os ++ o ∷ []) + 1) 0 ≡ settled_to (os ++ o ∷ []) + 1 =
    ap (λ (b : Bool). cond b (settled_to (os ++ o ∷ []) + 1) 0) (any_settles (x ∷ os) o e) in
    omega (arith, again, is)

front_counted : (n : ℕ) (os : List Outcome) → count (take n os) ≤ count os
front_counted n os =
    let both = counted (take n os) (drop n os) in
    let same : count (take n os ++ drop n os) ≡ count os = ap count (take-append-drop n os) in
    omega (arith, both, same)

pub settled_made : (lines : List Outcome) (made : List Record) → length (ticks_for_all lines) ≤ length (ticks_among made) → settled_ticks lines ≤ length (ticks_among made)
unfolding count
settled_made lines made done = let few = front_counted (settled_to lines) lines in omega (arith, done, few)

pub settled_tells : (before : List Outcome) (o : Outcome) (made : List Record) (m : Making) → IsMade (before ++ o ∷ []) made m → length (ticks_for_all before) ≤ length (ticks_among made)
    → (settled_ticks (before ++ o ∷ []) ≤ length (ticks_among made)) ↔ ((settles o ≡ false) ⊎ (m.owed ≡ []))
unfolding count
settled_tells before o made m is done = (to (settles o) refl, from) where
  all : count (before ++ o ∷ []) ≡ length (ticks_among made) + length m.owed
  all = all_counted (before ++ o ∷ []) made m is

  to : (b : Bool) → settles o ≡ b → settled_ticks (before ++ o ∷ []) ≤ length (ticks_among made) → (settles o ≡ false) ⊎ (m.owed ≡ [])
  to false e few = inl e
  to true e few =
      let long = length-append before (o ∷ []) in
      let whole : take (settled_to (before ++ o ∷ [])) (before ++ o ∷ []) ≡ before ++ o ∷ [] = take_all (settled_to (before ++ o ∷ [])) (before ++ o ∷ []) (omega (arith, long, settled_all before o e)) in
      let same : settled_ticks (before ++ o ∷ []) ≡ count (before ++ o ∷ []) = ap count whole in
      inr (nil_from_length m.owed (omega (arith, all, same, few)))

  from : (settles o ≡ false) ⊎ (m.owed ≡ []) → settled_ticks (before ++ o ∷ []) ≤ length (ticks_among made)
  from (inl e) =
      let n = settled_to (before ++ o ∷ []) in
      let front : take n (before ++ o ∷ []) ≡ take n before = take-append-le n before (o ∷ []) (settled_few before o e) in
      let same : settled_ticks (before ++ o ∷ []) ≡ count (take n before) = ap count front in
      let few = front_counted n before in
      omega (arith, same, few, done)
  from (inr none) = settled_made (before ++ o ∷ []) made (entered (before ++ o ∷ []) made m is none)
