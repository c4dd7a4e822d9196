-- Lines that raise an alarm: what causes it, and that nothing is passed behind them.
use Rattle.std.proofs.Common.{◌≡◌, ℕ, ◌+◌, ◌≤◌, ◌⊎◌, inl, inr, Bool, true, false, cond, List, [], ◌∷◌, ◌++◌, length, nat_eq, nat_lt, refl, sym, ap, ◌∙◌, subst, arith}
use Rattle.std.specs.declared.result.Result.{Result}
use Rattle.std.proofs.lemmas.Bool.Decides.{nat_tests}
use Rattle.std.proofs.lemmas.List.Sums.{sum_by-cons}
use Rattle.units.specs.Truths.{one_if}
use Rattle.gcode_check.specs.Verdicts.{verdict}
use Rattle.gcode_check.specs.declared.Verdict.{Verdict}
use Rattle.gcode_words.specs.declared.Word.{Word}
use Rattle.gcode_words.specs.declared.WordFault.{WordFault}
use Rattle.run_rules.specs.Work.{Outcome, is_limit}
use Rattle.run_rules.specs.Outcomes.{Before, IsLockedOut, ByVerdict, ByWords, ByCode, ByKept, Becomes, Passed, Follows, after, at_place, became_of, limited, most_kept}
use Rattle.run_rules.specs.Outcomes.Passed.{a_line, a_cut}
use Rattle.run_rules.specs.Limits.{IsBeyond}
use Rattle.run_rules.specs.Told.{limits_in}
use Rattle.run_rules.proofs.Each.{by_either, HoldsByCause, holds_by_cause}

-- what raises an alarm
pub beyond : (runs : Bool) (b : Before) (kept : List ℕ) (o : Outcome) → Becomes runs b kept o → is_limit o.answer ≡ true → IsBeyond b kept
beyond runs b kept o is =
    let each : HoldsByCause runs b kept (λ (o : Outcome). is_limit o.answer ≡ true → IsBeyond b kept) = record {
      refuses = λ n other e. absurd cc;
      busy = λ cause e. absurd cc;
      locked = λ cause e. absurd cc;
      tells = λ next body same kind e. absurd cc;
      executes = λ ws a found e. absurd cc;
      jogs = λ ws jog found e. absurd cc;
      limits = λ beyond e. beyond;
    } in
    holds_by_cause runs b kept (λ (o : Outcome). is_limit o.answer ≡ true → IsBeyond b kept) each o is

-- ---- and such a line does, if it is not refused with 9

abbrev HaltsOrLocked : Bool → Before → Outcome → Type 0
HaltsOrLocked runs b o = (o ≡ limited b) ⊎ IsLockedOut runs b o

code_halts : (runs : Bool) (b : Before) (kept : List ℕ) (o : Outcome) → IsBeyond b kept → ByCode runs b kept o → HaltsOrLocked runs b o
code_halts runs b kept o beyond (inl locked) = inr locked
code_halts runs b kept o beyond (inr is) =
    let read : ByVerdict b (verdict b.state.parser b.state.settings beyond.words) o = subst (λ (r : Result (List Word) WordFault). ByWords b r o) beyond.read is in
    inl (subst (λ (v : Verdict). ByVerdict b v o) beyond.limit read)

opposite : {A : Type 0} {t : Bool} → t ≡ true → t ≡ false → A
opposite e f = absurd (let g = sym e ∙ f in cc)

kept_halts : (runs : Bool) (b : Before) (kept : List ℕ) (o : Outcome) → IsBeyond b kept → ByKept runs b kept o → HaltsOrLocked runs b o
kept_halts runs b [] o beyond is = absurd (beyond.some refl)
kept_halts runs b (c ∷ cs) o beyond is = by_either (nat_eq c 36) _ _ _
    (λ dollar here. opposite dollar beyond.code) (λ other here. code_halts runs b (c ∷ cs) o beyond here) is

not_long : (kept : List ℕ) → length kept ≤ most_kept → nat_lt most_kept (length kept) ≡ false
not_long kept few = grind (arith, nat_tests)

pub halts_beyond : (runs : Bool) (b : Before) (kept : List ℕ) (o : Outcome) → IsBeyond b kept → Becomes runs b kept o → HaltsOrLocked runs b o
halts_beyond runs b kept o beyond is = by_either (nat_lt most_kept (length kept)) _ _ _
    (λ long here. opposite long (not_long kept beyond.few)) (λ short here. kept_halts runs b kept o beyond here) is

-- ---- nothing is passed behind an alarm

pub none_behind : (runs : Bool) (b last : Before) (ls : List (List ℕ)) (ps : List Passed) → Follows runs b ls ps last → b.alarmed ≡ true → (ls ≡ []) × (ps ≡ [])
none_behind runs b last [] [] run alarmed = (refl, refl)
none_behind runs b last (l ∷ ls) (a_line o ∷ ps) run alarmed = opposite alarmed run.0.free
none_behind runs b last ls (a_cut k at ∷ ps) run alarmed = opposite alarmed run.0.free
none_behind runs b last [] (a_line o ∷ ps) run alarmed = absurd run
none_behind runs b last (l ∷ ls) [] run alarmed = absurd run

pub alarm_is_last : (runs : Bool) (b last : Before) (ls : List (List ℕ)) (ps : List Passed) (o : Outcome) (more : List Passed)
    → Follows runs b ls (ps ++ a_line o ∷ more) last → is_limit o.answer ≡ true → more ≡ []
alarm_is_last runs b last [] [] o more run one = absurd run
alarm_is_last runs b last (l ∷ ls) [] o more run one = (none_behind runs (after b o) last ls more run.1 one).1
alarm_is_last runs b last [] (a_line x ∷ ps) o more run one = absurd run
alarm_is_last runs b last (l ∷ ls) (a_line x ∷ ps) o more run one = alarm_is_last runs (after b x) last ls ps o more run.1 one
alarm_is_last runs b last ls (a_cut k at ∷ ps) o more run one = alarm_is_last runs (at_place at b) last ls ps o more run.1 one

-- as many alarms as the state behind tells, which is one or none
alarms_are : (runs : Bool) (b last : Before) (ls : List (List ℕ)) (ps : List Passed) → Follows runs b ls ps last → limits_in (became_of ps) + one_if b.alarmed ≡ one_if last.alarmed
alarms_are runs b last [] [] run = let same : one_if last.alarmed ≡ one_if b.alarmed = ap (λ (u : Before). one_if u.alarmed) run in omega (arith, same)
alarms_are runs b last (l ∷ ls) (a_line o ∷ ps) run =
    let rest : limits_in (became_of ps) + one_if (is_limit o.answer) ≡ one_if last.alarmed = alarms_are runs (after b o) last ls ps run.1 in
    let all : limits_in (o ∷ became_of ps) ≡ one_if (is_limit o.answer) + limits_in (became_of ps) = sum_by-cons (λ (x : Outcome). cond (is_limit x.answer) 1 0) o (became_of ps) in
    let none : one_if b.alarmed ≡ 0 = ap one_if run.0.free in
    omega (arith, rest, all, none)
alarms_are runs b last ls (a_cut k at ∷ ps) run = alarms_are runs (at_place at b) last ls ps run.1
alarms_are runs b last [] (a_line o ∷ ps) run = absurd run
alarms_are runs b last (l ∷ ls) [] run = absurd run

pub alarms_from_start : (runs : Bool) (b last : Before) (ls : List (List ℕ)) (ps : List Passed) → b.alarmed ≡ false → Follows runs b ls ps last → limits_in (became_of ps) ≡ one_if last.alarmed
alarms_from_start runs b last ls ps free run =
    let all = alarms_are runs b last ls ps run in
    let none : one_if b.alarmed ≡ 0 = ap one_if free in
    omega (arith, all, none)
