-- What becomes of a line is determined by the state before it.
use Rattle.std.proofs.Common.{◌≡◌, ℕ, ◌⊎◌, inl, inr, Bool, true, false, cond, List, [], ◌∷◌, length, nat_eq, nat_lt, get_or, refl, sym, ap, ◌∙◌, Ok, Err, Some, None, subst}
use Rattle.std.specs.declared.option.Option.{Option}
use Rattle.std.specs.declared.result.Result.{Result}
use Rattle.units.specs.Truths.{one_if}
use Rattle.units.specs.declared.Decimal.{Decimal}
use Rattle.units.specs.declared.Per3.{Per3}
use Rattle.gcode_words.specs.declared.Word.{Word}
use Rattle.gcode_words.specs.declared.WordFault.{WordFault}
use Rattle.gcode_words.specs.Words.{words_of}
use Rattle.code_table.specs.declared.Code.{Code}
use Rattle.gcode_check.specs.Verdicts.{verdict}
use Rattle.gcode_check.specs.declared.Verdict.{Verdict}
use Rattle.gcode_check.specs.declared.Verdict.TheVariants.{Accept}
use Rattle.settings.specs.declared.Settings.{Settings}
use Rattle.code_table.specs.Tables.{Row}
use Rattle.settings.specs.Numbers.{values, set_refusal}
use Rattle.jog.specs.declared.JogMove.{JogMove}
use Rattle.jog.specs.Jogs.{jog_of}
use Rattle.system_lines.specs.Commands.{command_of, kind_of, jog_words, is_jog}
use Rattle.system_lines.specs.declared.Command.{Command}
use Rattle.system_lines.specs.declared.Command.TheVariants.{Set}
use Rattle.run_rules.specs.declared.State.{State}
use Rattle.run_rules.specs.States.{IsOpening}
use Rattle.run_rules.specs.Work.{Outcome}
use Rattle.run_rules.specs.Outcomes.{Before, HasSet, told, refused, either, ByVerdict, ByWords, BySetting, ByCommand, ByJogMove, ByJog, ByServed, ByDollar, ByCode, ByKept, Becomes, Passed, Follows, after, most_kept, motion_error}
use Rattle.run_rules.specs.Outcomes.Passed.{a_line, a_cut}

same_switch : (a b : Bool) → one_if a ≡ one_if b → a ≡ b
same_switch true true e = refl
same_switch true false e = absurd cc
same_switch false true e = absurd cc
same_switch false false e = refl

same_axes : (a b : Per3) → a.x ≡ b.x → a.y ≡ b.y → a.z ≡ b.z → a ≡ b
same_axes a b x y z = ap (λ n. record a { x = n }) x ∙ ap (λ n. record a { x = b.x; y = n }) y ∙ ap (λ n. record b { z = n }) z

abbrev value_at : ℕ → List Row → ℕ
value_at place rows = let row : Row = get_or rows place (0, 0) in row.1

-- the values of all settings are all that settings are
values_determine : (s t : Settings) → values s ≡ values t → s ≡ t
values_determine s t e =
    let at : (place : ℕ) → value_at place (values s) ≡ value_at place (values t) = λ place. ap (value_at place) e in
    let report : s.report ≡ t.report = at 0 in
    let deviation : s.deviation ≡ t.deviation = at 1 in
    let soft : s.soft ≡ t.soft = same_switch s.soft t.soft (at 2) in
    let per_mm : s.limits.per_mm ≡ t.limits.per_mm = same_axes s.limits.per_mm t.limits.per_mm (at 3) (at 4) (at 5) in
    let rate : s.limits.rate ≡ t.limits.rate = same_axes s.limits.rate t.limits.rate (at 6) (at 7) (at 8) in
    let accel : s.limits.accel ≡ t.limits.accel = same_axes s.limits.accel t.limits.accel (at 9) (at 10) (at 11) in
    let travel : s.travel ≡ t.travel = same_axes s.travel t.travel (at 12) (at 13) (at 14) in
    ap (λ n. record s { report = n }) report
    ∙ ap (λ n. record s { report = t.report; deviation = n }) deviation
    ∙ ap (λ b. record s { report = t.report; deviation = t.deviation; soft = b }) soft
    ∙ ap (λ l. record t { limits = record s.limits { per_mm = l }; travel = s.travel }) per_mm
    ∙ ap (λ l. record t { limits = record s.limits { per_mm = t.limits.per_mm; rate = l }; travel = s.travel }) rate
    ∙ ap (λ l. record t { limits = record t.limits { accel = l }; travel = s.travel }) accel
    ∙ ap (λ l. record t { travel = l }) travel

-- two outcomes that are the same third one
pub both : {A : Type 0} {a b c : A} → a ≡ c → b ≡ c → a ≡ b
both e f = e ∙ sym f

by_verdict : (s : Before) (v : Verdict) (a b : Outcome) → ByVerdict s v a → ByVerdict s v b → a ≡ b
by_verdict s (Accept x) a b e f = both e f
by_verdict s _ a b e f = both e f

by_words : (s : Before) (r : Result (List Word) WordFault) (a b : Outcome) → ByWords s r a → ByWords s r b → a ≡ b
by_words s (Err fault) a b e f = both e f
by_words s (Ok ws) a b e f = by_verdict s (verdict s.state.parser s.state.settings ws) a b e f

by_set : (s : State) (n : ℕ) (value : Decimal) (a b : Outcome) → HasSet s n value a → HasSet s n value b → a ≡ b
by_set s n value a b e f =
    let same : a.next.settings ≡ b.next.settings = values_determine a.next.settings b.next.settings (e.settings ∙ sym f.settings) in
    e.outcome ∙ ap (λ settings. told (record { parser = s.parser; settings = settings }) []) same ∙ sym f.outcome

by_setting : (s : Before) (n : ℕ) (value : Decimal) (r : Option Code) (a b : Outcome) → BySetting s n value r a → BySetting s n value r b → a ≡ b
by_setting s n value (Some code) a b e f = both e f
by_setting s n value None a b e f = by_set s.state n value a b e f

pub by_command : (s : Before) (r : Result Command Code) (a b : Outcome) → ByCommand s r a → ByCommand s r b → a ≡ b
by_command s (Ok (Set n value)) a b e f = by_setting s n value (set_refusal n value) a b e f
by_command s _ a b e f = both e f

by_jog_move : (s : Before) (r : Result JogMove Code) (a b : Outcome) → ByJogMove s r a → ByJogMove s r b → a ≡ b
by_jog_move s (Err code) a b e f = both e f
by_jog_move s (Ok jog) a b e f = both e f

by_jog : (s : Before) (r : Result (List Word) WordFault) (a b : Outcome) → ByJog s r a → ByJog s r b → a ≡ b
by_jog s (Err fault) a b e f = both e f
by_jog s (Ok ws) a b e f = by_jog_move s (jog_of s.state.parser s.state.settings ws) a b e f

one_of : (t : Bool) (A B : Outcome → Type 0) → ((a b : Outcome) → A a → A b → a ≡ b) → ((a b : Outcome) → B a → B b → a ≡ b)
    → (a b : Outcome) → either t (A a) (B a) → either t (A b) (B b) → a ≡ b
one_of true A B first second a b e f = first a b e f
one_of false A B first second a b e f = second a b e f

by_served : (s : Before) (kept : List ℕ) (a b : Outcome) → ByServed s kept a → ByServed s kept b → a ≡ b
by_served s kept a b e f =
    one_of (is_jog (kind_of kept)) (λ o. ByJog s (words_of (jog_words kept)) o) (λ o. ByCommand s (command_of kept) o)
    (by_jog s (words_of (jog_words kept))) (by_command s (command_of kept)) a b e f

-- two outcomes are one, or one of them is refused with this, for a machine that is found in motion
abbrev pub Agree : Before → ℕ → Outcome → Outcome → Type 0
Agree s n a b = (a ≡ b) ⊎ ((a ≡ refused s n) ⊎ (b ≡ refused s n))

by_dollar : (runs : Bool) (s : Before) (kept : List ℕ) (a b : Outcome) → ByDollar runs s kept a → ByDollar runs s kept b → Agree s 8 a b
by_dollar runs s kept a b (inl e) f = inr (inl e.outcome)
by_dollar runs s kept a b (inr e) (inl f) = inr (inr f.outcome)
by_dollar runs s kept a b (inr e) (inr f) = inl (by_served s kept a b e f)

by_code : (runs : Bool) (s : Before) (kept : List ℕ) (a b : Outcome) → ByCode runs s kept a → ByCode runs s kept b → Agree s 9 a b
by_code runs s kept a b (inl e) f = inr (inl e.outcome)
by_code runs s kept a b (inr e) (inl f) = inr (inr f.outcome)
by_code runs s kept a b (inr e) (inr f) = inl (by_words s (words_of kept) a b e f)

by_choice : (t : Bool) (s : Before) (A B : Outcome → Type 0) → ((a b : Outcome) → A a → A b → Agree s 8 a b) → ((a b : Outcome) → B a → B b → Agree s 9 a b)
    → (a b : Outcome) → either t (A a) (B a) → either t (A b) (B b) → Agree s (cond t 8 9) a b
by_choice true s A B first second a b e f = first a b e f
by_choice false s A B first second a b e f = second a b e f

by_kept : (runs : Bool) (s : Before) (kept : List ℕ) (a b : Outcome) → ByKept runs s kept a → ByKept runs s kept b → Agree s (motion_error kept) a b
by_kept runs s [] a b e f = inl (both e f)
by_kept runs s (c ∷ cs) a b e f =
    by_choice (nat_eq c 36) s (λ o. ByDollar runs s (c ∷ cs) o) (λ o. ByCode runs s (c ∷ cs) o)
    (by_dollar runs s (c ∷ cs)) (by_code runs s (c ∷ cs)) a b e f

by_length : (t : Bool) (s : Before) (n : ℕ) (A B : Outcome → Type 0) → ((a b : Outcome) → A a → A b → Agree s n a b) → ((a b : Outcome) → B a → B b → Agree s n a b)
    → (a b : Outcome) → either t (A a) (B a) → either t (A b) (B b) → Agree s n a b
by_length true s n A B first second a b e f = first a b e f
by_length false s n A B first second a b e f = second a b e f

pub outcomes_agree : (runs : Bool) (s : Before) (kept : List ℕ) (a b : Outcome) → Becomes runs s kept a → Becomes runs s kept b → Agree s (motion_error kept) a b
outcomes_agree runs s kept a b e f =
    by_length (nat_lt most_kept (length kept)) s (motion_error kept) (λ o. o ≡ _) (λ o. ByKept runs s kept o)
    (λ a b e f. inl (both e f)) (by_kept runs s kept) a b e f

-- ---- where no machine is found running

false_found : {A : Type 0} → false ≡ true → A
false_found e = absurd cc

still_dollar : (s : Before) (kept : List ℕ) (a b : Outcome) → ByDollar false s kept a → ByDollar false s kept b → a ≡ b
still_dollar s kept a b (inl e) f = false_found e.found
still_dollar s kept a b (inr e) (inl f) = false_found f.found
still_dollar s kept a b (inr e) (inr f) = by_served s kept a b e f

still_code : (s : Before) (kept : List ℕ) (a b : Outcome) → ByCode false s kept a → ByCode false s kept b → a ≡ b
still_code s kept a b (inl e) f = false_found e.found
still_code s kept a b (inr e) (inl f) = false_found f.found
still_code s kept a b (inr e) (inr f) = by_words s (words_of kept) a b e f

still_kept : (s : Before) (kept : List ℕ) (a b : Outcome) → ByKept false s kept a → ByKept false s kept b → a ≡ b
still_kept s [] a b e f = both e f
still_kept s (c ∷ cs) a b e f =
    one_of (nat_eq c 36) (λ o. ByDollar false s (c ∷ cs) o) (λ o. ByCode false s (c ∷ cs) o)
    (still_dollar s (c ∷ cs)) (still_code s (c ∷ cs)) a b e f

pub one_outcome : (s : Before) (kept : List ℕ) (a b : Outcome) → Becomes false s kept a → Becomes false s kept b → a ≡ b
one_outcome s kept a b e f =
    one_of (nat_lt most_kept (length kept)) (λ o. o ≡ _) (λ o. ByKept false s kept o)
    (λ a b e f. both e f) (still_kept s kept) a b e f

pub one_run : (s t u : Before) (ls : List (List ℕ)) (os ps : List Passed) → Follows false s ls os t → Follows false s ls ps u → (os ≡ ps) × (t ≡ u)
one_run s t u [] [] [] e f = (refl, both e f)
one_run s t u ls (a_cut k at ∷ os) ps e f = false_found e.0.found
one_run s t u ls [] (a_cut k at ∷ ps) e f = false_found f.0.found
one_run s t u ls (a_line a ∷ os) (a_cut k at ∷ ps) e f = false_found f.0.found
one_run s t u (l ∷ ls) (a_line a ∷ os) (a_line b ∷ ps) e f =
    let first : a ≡ b = one_outcome s l a b e.0.becomes f.0.becomes in
    let P : Outcome → Type 0 = λ o. Follows false (after s o) ls ps u in
    let rest = one_run (after s a) t u ls os ps e.1 (subst P (sym first) f.1) in
    (ap (λ o. a_line o ∷ os) first ∙ ap (λ xs. a_line b ∷ xs) rest.0, rest.1)
one_run s t u [] (a_line a ∷ os) (a_line b ∷ ps) e f = absurd e
one_run s t u [] (a_line a ∷ os) [] e f = absurd e
one_run s t u [] [] (a_line b ∷ ps) e f = absurd f
one_run s t u (l ∷ ls) [] [] e f = absurd e
one_run s t u (l ∷ ls) [] (a_line b ∷ ps) e f = absurd e
one_run s t u (l ∷ ls) (a_line a ∷ os) [] e f = absurd f

-- there is one state before the first line
pub one_opening : (s t : State) → IsOpening s → IsOpening t → s ≡ t
one_opening s t a b =
    let parser : s.parser ≡ t.parser = both a.parser b.parser in
    let settings : s.settings ≡ t.settings = values_determine s.settings t.settings (both a.settings b.settings) in
    ap (λ p. record { parser = p; settings = s.settings }) parser ∙ ap (λ v. record { parser = t.parser; settings = v }) settings
