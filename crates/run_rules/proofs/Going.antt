-- A run of lines goes on by one line, or by a cut.
use Rattle.std.proofs.Common.{◌≡◌, ℕ, suc, ◌+◌, ◌≤◌, inl, inr, Bool, true, false, List, [], ◌∷◌, ◌++◌, length, nat_eq, nat_lt, refl, sym, ap, subst, arith}
use Rattle.units.specs.declared.Steps3.{Steps3}
use Rattle.run_rules.specs.declared.State.{State}
use Rattle.run_rules.specs.Work.{Outcome}
use Rattle.run_rules.specs.Outcomes.{Before, IsBusy, IsBegun, IsCut, ByDollar, ByCode, ByKept, Becomes, Passed, Follows, NeverFall, start, after, at_place, became_of, cuts_of, either, most_kept}
use Rattle.run_rules.specs.Outcomes.Passed.{a_line, a_cut}

begins : (runs : Bool) (b : Before) (l : List ℕ) (o : Outcome) → b.alarmed ≡ false → Becomes runs b l o → IsBegun runs b l o
begins runs b l o free becomes = record { free = free; becomes = becomes }

begun_on : (runs : Bool) (b last : Before) (ls : List (List ℕ)) (ps : List Passed) (l : List ℕ) (o : Outcome)
    → Follows runs b ls ps last → IsBegun runs last l o → Follows runs b (ls ++ l ∷ []) (ps ++ a_line o ∷ []) (after last o)
begun_on runs b last [] [] l o run begun =
    let P : Before → Type 0 = λ u. IsBegun runs u l o in
    (subst P run begun, ap (λ u. after u o) run)
begun_on runs b last (m ∷ ls) (a_line x ∷ ps) l o run begun = (run.0, begun_on runs (after b x) last ls ps l o run.1 begun)
begun_on runs b last ls (a_cut k at ∷ ps) l o run begun = (run.0, begun_on runs (at_place at b) last ls ps l o run.1 begun)
begun_on runs b last [] (a_line x ∷ ps) l o run begun = absurd run
begun_on runs b last (m ∷ ls) [] l o run begun = absurd run

pub goes_on : (runs : Bool) (b last : Before) (ls : List (List ℕ)) (ps : List Passed) (l : List ℕ) (o : Outcome)
    → Follows runs b ls ps last → last.alarmed ≡ false → Becomes runs last l o → Follows runs b (ls ++ l ∷ []) (ps ++ a_line o ∷ []) (after last o)
goes_on runs b last ls ps l o run free becomes = begun_on runs b last ls ps l o run (begins runs last l o free becomes)

-- and by a cut, which takes no line
pub cut_goes_on : (runs : Bool) (b last : Before) (ls : List (List ℕ)) (ps : List Passed) (k : ℕ) (at : Steps3)
    → Follows runs b ls ps last → IsCut runs last k → Follows runs b ls (ps ++ a_cut k at ∷ []) (at_place at last)
cut_goes_on runs b last [] [] k at run is = (subst (λ (u : Before). IsCut runs u k) run is, ap (at_place at) run)
cut_goes_on runs b last (m ∷ ls) (a_line x ∷ ps) k at run is = (run.0, cut_goes_on runs (after b x) last ls ps k at run.1 is)
cut_goes_on runs b last ls (a_cut j there ∷ ps) k at run is = (run.0, cut_goes_on runs (at_place there b) last ls ps k at run.1 is)
cut_goes_on runs b last [] (a_line x ∷ ps) k at run is = absurd run
cut_goes_on runs b last (m ∷ ls) [] k at run is = absurd run

pub as_many : (runs : Bool) (b last : Before) (ls : List (List ℕ)) (ps : List Passed) → Follows runs b ls ps last → length (became_of ps) ≡ length ls
as_many runs b last [] [] run = refl
as_many runs b last (m ∷ ls) (a_line x ∷ ps) run = ap suc (as_many runs (after b x) last ls ps run.1)
as_many runs b last ls (a_cut k at ∷ ps) run = as_many runs (at_place at b) last ls ps run.1
as_many runs b last [] (a_line x ∷ ps) run = absurd run
as_many runs b last (m ∷ ls) [] run = absurd run

pub numbered : (runs : Bool) (b last : Before) (ls : List (List ℕ)) (ps : List Passed) → Follows runs b ls ps last → last.number ≡ b.number + length ls
numbered runs b last [] [] run = rw run (omega arith)
numbered runs b last (m ∷ ls) (a_line x ∷ ps) run =
    let on : last.number ≡ (b.number + 1) + length ls = numbered runs (after b x) last ls ps run.1 in
    omega (arith, on)
numbered runs b last ls (a_cut k at ∷ ps) run = numbered runs (at_place at b) last ls ps run.1
numbered runs b last [] (a_line x ∷ ps) run = absurd run
numbered runs b last (m ∷ ls) [] run = absurd run

below : (low more high : ℕ) (ns : List ℕ) → low ≤ more → NeverFall more ns high → NeverFall low ns high
below low more high [] less is = omega (arith, less, is)
below low more high (n ∷ ns) less is = ((let first = is.0 in omega (arith, less, first)), is.1)

-- the numbers of cuts never fall
cuts_never_fall : (runs : Bool) (b last : Before) (ls : List (List ℕ)) (ps : List Passed) (low : ℕ) → b.number ≡ low + 1 → Follows runs b ls ps last → NeverFall low (cuts_of ps) (low + length ls)
cuts_never_fall runs b last [] [] low number run = omega arith
cuts_never_fall runs b last (m ∷ ls) (a_line x ∷ ps) low number run =
    let rest : NeverFall (low + 1) (cuts_of ps) (low + 1 + length ls) = cuts_never_fall runs (after b x) last ls ps (low + 1) (omega (arith, number)) run.1 in
    let same : low + 1 + length ls ≡ low + length (m ∷ ls) = omega arith in
    below low (low + 1) (low + length (m ∷ ls)) (cuts_of ps) (omega arith) (subst (λ (high : ℕ). NeverFall (low + 1) (cuts_of ps) high) same rest)
cuts_never_fall runs b last ls (a_cut k at ∷ ps) low number run =
    let is : k ≡ low = (let e = run.0.number in omega (arith, number, e)) in
    subst (λ (n : ℕ). (low ≤ n) × NeverFall n (cuts_of ps) (low + length ls)) (sym is) (omega arith, cuts_never_fall runs (at_place at b) last ls ps low number run.1)
cuts_never_fall runs b last [] (a_line x ∷ ps) low number run = absurd run
cuts_never_fall runs b last (m ∷ ls) [] low number run = absurd run

pub cuts_from_start : (runs : Bool) (first : State) (last : Before) (ls : List (List ℕ)) (ps : List Passed) → Follows runs (start first) ls ps last → NeverFall 0 (cuts_of ps) (length ls)
cuts_from_start runs first last ls ps run =
    let same : 0 + length ls ≡ length ls = omega arith in
    subst (λ (high : ℕ). NeverFall 0 (cuts_of ps) high) same (cuts_never_fall runs (start first) last ls ps 0 refl run)

pub became_on : (ps qs : List Passed) → became_of (ps ++ qs) ≡ became_of ps ++ became_of qs
became_on [] qs = refl
became_on (a_line o ∷ ps) qs = ap (λ (xs : List Outcome). o ∷ xs) (became_on ps qs)
became_on (a_cut k at ∷ ps) qs = became_on ps qs

both_on : (t : Bool) (A B C D : Type 0) → (A → C) → (B → D) → either t A B → either t C D
both_on true A B C D f g x = f x
both_on false A B C D f g x = g x

second_on : (t : Bool) (A B C : Type 0) → (B → C) → either t A B → either t A C
second_on true A B C f x = x
second_on false A B C f x = f x

busy_on : (runs other : Bool) (b : Before) (kept : List ℕ) (o : Outcome) → (runs ≡ true → other ≡ true) → IsBusy runs b kept o → IsBusy other b kept o
busy_on runs other b kept o f x = record { cause = x.cause; found = f x.found; outcome = x.outcome }

dollar_on : (runs other : Bool) (b : Before) (kept : List ℕ) (o : Outcome) → (runs ≡ true → other ≡ true) → ByDollar runs b kept o → ByDollar other b kept o
dollar_on runs other b kept o f (inl x) = inl (busy_on runs other b kept o f x)
dollar_on runs other b kept o f (inr x) = inr x

code_on : (runs other : Bool) (b : Before) (kept : List ℕ) (o : Outcome) → (runs ≡ true → other ≡ true) → ByCode runs b kept o → ByCode other b kept o
code_on runs other b kept o f (inl x) = inl (record { cause = x.cause; found = f x.found; outcome = x.outcome })
code_on runs other b kept o f (inr x) = inr x

kept_on : (runs other : Bool) (b : Before) (kept : List ℕ) (o : Outcome) → (runs ≡ true → other ≡ true) → ByKept runs b kept o → ByKept other b kept o
kept_on runs other b [] o f x = x
kept_on runs other b (c ∷ cs) o f x = both_on (nat_eq c 36) _ _ _ _ (dollar_on runs other b (c ∷ cs) o f) (code_on runs other b (c ∷ cs) o f) x

-- what becomes of a line where less can be is what becomes of it where more can be
pub becomes_on : (runs other : Bool) (b : Before) (kept : List ℕ) (o : Outcome) → (runs ≡ true → other ≡ true) → Becomes runs b kept o → Becomes other b kept o
becomes_on runs other b kept o f x = second_on (nat_lt most_kept (length kept)) _ _ _ (kept_on runs other b kept o f) x

pub follows_on : (runs other : Bool) (b last : Before) (ls : List (List ℕ)) (ps : List Passed) → (runs ≡ true → other ≡ true) → Follows runs b ls ps last → Follows other b ls ps last
follows_on runs other b last [] [] f run = run
follows_on runs other b last (m ∷ ls) (a_line x ∷ ps) f run = (record { free = run.0.free; becomes = becomes_on runs other b m x f run.0.becomes }, follows_on runs other (after b x) last ls ps f run.1)
follows_on runs other b last ls (a_cut k at ∷ ps) f run = (record { free = run.0.free; number = run.0.number; cause = run.0.cause; found = f run.0.found }, follows_on runs other (at_place at b) last ls ps f run.1)
follows_on runs other b last [] (a_line x ∷ ps) f run = absurd run
follows_on runs other b last (m ∷ ls) [] f run = absurd run
