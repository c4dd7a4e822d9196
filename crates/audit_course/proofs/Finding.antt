-- A machine that is found by the error that is told of a line.
use Rattle.std.proofs.Common.{◌≡◌, ℕ, Bool, true, false, List, [], ◌∷◌, length, nat_eq, nat_lt, inl, inr, refl, sym, ◌∙◌}
use Rattle.system_lines.specs.Commands.{kind_of, refused_in_run}
use Rattle.run_rules.specs.declared.machine.Machine.TheVariants.{Runs, Jogs}
use Rattle.run_rules.specs.Finding.{refuses, ByKeptFound, Found}
use Rattle.run_rules.specs.Outcomes.{Before, Becomes, ByKept, ByDollar, ByCode, has_cause, begins_with_dollar, either, most_kept}
use Rattle.run_rules.specs.Work.{Outcome}

-- what holds of one choice holds of both
pub on_either : (t : Bool) (A B C D : Type 0) → (t ≡ true → A → C) → (t ≡ false → B → D) → either t A B → either t C D
on_either true A B C D f g x = f refl x
on_either false A B C D f g x = g refl x

pub chosen : (t : Bool) (A B : Type 0) → t ≡ true → either t A B → A
chosen true A B e x = x
chosen false A B e x = absurd cc

-- where no machine is found in motion it may still be
dollar_on : (b : Before) (kept : List ℕ) (o : Outcome) → ByDollar false b kept o → ByDollar true b kept o
dollar_on b kept o (inl here) = absurd (let e = here.found in cc)
dollar_on b kept o (inr is) = inr is

code_on : (b : Before) (kept : List ℕ) (o : Outcome) → ByCode false b kept o → ByCode true b kept o
code_on b kept o (inl here) = absurd (let e = here.found in cc)
code_on b kept o (inr is) = inr is

kept_on : (b : Before) (kept : List ℕ) (o : Outcome) → ByKept false b kept o → ByKept true b kept o
kept_on b [] o is = is
kept_on b (c ∷ cs) o is = on_either (nat_eq c 36) _ _ _ _ (λ e. dollar_on b (c ∷ cs) o) (λ e. code_on b (c ∷ cs) o) is

pub still_may : (b : Before) (kept : List ℕ) (o : Outcome) → Becomes false b kept o → Becomes true b kept o
still_may b kept o is = on_either (nat_lt most_kept (length kept)) _ _ _ _ (λ e x. x) (λ e. kept_on b kept o) is

-- error 8
busy_kept : (b : Before) (kept : List ℕ) (o : Outcome) → begins_with_dollar kept ≡ true → refused_in_run (kind_of kept) ≡ true → has_cause b (kind_of kept) ≡ true → ByKeptFound Runs b kept o → ByKept true b kept o
busy_kept b [] o dollar here cause is = absurd cc
busy_kept b (c ∷ cs) o dollar here cause is = on_either (nat_eq c 36) _ _ _ _
    (λ e found. inl (record { cause = cause; found = refl; outcome = chosen (refuses Runs (kind_of (c ∷ cs))) _ _ here found }))
    (λ e found. absurd (let f = sym dollar ∙ e in cc)) is

pub busy_becomes : (b : Before) (kept : List ℕ) (o : Outcome) → begins_with_dollar kept ≡ true → refused_in_run (kind_of kept) ≡ true → has_cause b (kind_of kept) ≡ true → Found Runs b kept o → Becomes true b kept o
busy_becomes b kept o dollar here cause is = on_either (nat_lt most_kept (length kept)) _ _ _ _ (λ e x. x) (λ e. busy_kept b kept o dollar here cause) is

-- error 9
locked_kept : (b : Before) (kept : List ℕ) (o : Outcome) → begins_with_dollar kept ≡ false → b.jogged ≡ true → ByKeptFound Jogs b kept o → ByKept true b kept o
locked_kept b [] o code cause is = is
locked_kept b (c ∷ cs) o code cause is = on_either (nat_eq c 36) _ _ _ _
    (λ e found. absurd (let f = sym code ∙ e in cc))
    (λ e found. inl (record { cause = cause; found = refl; outcome = found })) is

pub locked_becomes : (b : Before) (kept : List ℕ) (o : Outcome) → begins_with_dollar kept ≡ false → b.jogged ≡ true → Found Jogs b kept o → Becomes true b kept o
locked_becomes b kept o code cause is = on_either (nat_lt most_kept (length kept)) _ _ _ _ (λ e x. x) (λ e. locked_kept b kept o code cause) is
