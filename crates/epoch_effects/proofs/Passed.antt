-- What was passed in an epoch: its lines, its cuts, and that resets part epochs.
use Rattle.std.proofs.Common.{◌≡◌, ℕ, ◌+◌, ◌||◌, Bool, true, false, cond, List, [], ◌∷◌, ◌++◌, refl, ap, ◌∙◌, arith}
use Rattle.std.proofs.lemmas.List.Folds.{list_any-append}
use Rattle.std.specs.List.{list_any}
use Rattle.flight.specs.Places.{end_from}
use Rattle.run_rules.specs.Reports.{raises_alarm}
use Rattle.run_rules.specs.Work.{Outcome, is_limit}
use Rattle.run_texts.specs.Courses.{Passed, Reset, cuts_in, lines_in}
use Rattle.run_texts.specs.Courses.Passed.{a_line, a_broken, a_cut, a_reset}
use Rattle.board_rules.specs.Conduct.{Conducted}
use Rattle.board_journal.specs.Openings.{Opening}
use Rattle.board_journal.specs.Steps.{Journal, given_of, has_limited}
use Rattle.board_journal.specs.Steps.Step.{began, cut}
use Rattle.epoch_courses.specs.Course.{is_made, passed_by}
use Rattle.epoch_effects.specs.Effects.{onto_epoch, epochs_in, is_alarmed}

-- ---- resets part epochs

abbrev pub HasNoReset : List Passed → Type 0
HasNoReset [] = Unit {0}
HasNoReset (a_reset r ∷ ps) = ⊥
HasNoReset (_ ∷ ps) = HasNoReset ps

none_both : (ps qs : List Passed) → HasNoReset ps → HasNoReset qs → HasNoReset (ps ++ qs)
none_both [] qs f g = g
none_both (a_reset r ∷ ps) qs f g = absurd f
none_both (_ ∷ ps) qs f g = none_both ps qs f g

one_begun : (broken : Bool) (o : Outcome) → HasNoReset (cond broken (a_broken o) (a_line o) ∷ [])
one_begun true o = tt
one_begun false o = tt

cut_if : (t : Bool) (p : Passed) → HasNoReset (p ∷ []) → HasNoReset (cond t (p ∷ []) [])
cut_if true p is = is
cut_if false p is = tt

pub none_passed : (broken : Bool) (made : ℕ) (first : Opening) (h : Journal) → HasNoReset (passed_by broken made first h)
none_passed broken made first [] = tt
none_passed broken made first (began o ∷ h) = none_both (passed_by false made first h) (cond broken (a_broken o) (a_line o) ∷ []) (none_passed false made first h) (one_begun broken o)
none_passed broken made first (cut k ∷ h) =
    none_both (passed_by broken made first h) (cond (is_made made h) (a_cut k (end_from first.place (given_of h)) ∷ []) []) (none_passed broken made first h) (cut_if (is_made made h) (a_cut k (end_from first.place (given_of h))) tt)
none_passed broken made first (_ ∷ h) = none_passed broken made first h

ended_by : (ps : List Passed) (r : Reset) (rest : List Passed) → HasNoReset ps → epochs_in (ps ++ a_reset r ∷ rest) ≡ ps ∷ epochs_in rest
ended_by [] r rest none = refl
ended_by (a_reset s ∷ ps) r rest none = absurd none
ended_by (a_line o ∷ ps) r rest none = ap (onto_epoch (a_line o)) (ended_by ps r rest none)
ended_by (a_broken o ∷ ps) r rest none = ap (onto_epoch (a_broken o)) (ended_by ps r rest none)
ended_by (a_cut k at ∷ ps) r rest none = ap (onto_epoch (a_cut k at)) (ended_by ps r rest none)

alone : (ps : List Passed) → HasNoReset ps → epochs_in ps ≡ ps ∷ []
alone [] none = refl
alone (a_reset s ∷ ps) none = absurd none
alone (a_line o ∷ ps) none = ap (onto_epoch (a_line o)) (alone ps none)
alone (a_broken o ∷ ps) none = ap (onto_epoch (a_broken o)) (alone ps none)
alone (a_cut k at ∷ ps) none = ap (onto_epoch (a_cut k at)) (alone ps none)

-- what an epoch has passed is one, which a reset ends, or not yet
pub epoch_ends : (broken : Bool) (made : ℕ) (first : Opening) (h : Journal) (r : Reset) (rest : List Passed) → epochs_in (passed_by broken made first h ++ a_reset r ∷ rest) ≡ passed_by broken made first h ∷ epochs_in rest
epoch_ends broken made first h r rest = ended_by (passed_by broken made first h) r rest (none_passed broken made first h)

pub epoch_goes : (broken : Bool) (made : ℕ) (first : Opening) (h : Journal) → epochs_in (passed_by broken made first h) ≡ passed_by broken made first h ∷ []
epoch_goes broken made first h = alone (passed_by broken made first h) (none_passed broken made first h)

-- ---- its cuts

pub cuts_both : (ps qs : List Passed) → cuts_in (ps ++ qs) ≡ cuts_in ps + cuts_in qs
cuts_both [] qs = omega arith
cuts_both (a_cut k at ∷ ps) qs = let was = cuts_both ps qs in omega (arith, was)
cuts_both (_ ∷ ps) qs = cuts_both ps qs

pub begun_uncut : (broken : Bool) (o : Outcome) → cuts_in (cond broken (a_broken o) (a_line o) ∷ []) ≡ 0
begun_uncut true o = refl
begun_uncut false o = refl

-- ---- its lines

pub lines_both : (ps qs : List Passed) → lines_in (ps ++ qs) ≡ lines_in ps ++ lines_in qs
lines_both [] qs = refl
lines_both (a_line o ∷ ps) qs = ap (λ (os : List Outcome). o ∷ os) (lines_both ps qs)
lines_both (_ ∷ ps) qs = lines_both ps qs

alarmed_both : (ps qs : List Passed) → is_alarmed (ps ++ qs) ≡ (is_alarmed ps || is_alarmed qs)
alarmed_both ps qs = ap (list_any raises_alarm) (lines_both ps qs) ∙ list_any-append raises_alarm (lines_in ps) (lines_in qs)

last_only : (a b : Bool) → a ≡ false → (a || (b || false)) ≡ b
last_only true b none = absurd (let e = none in cc)
last_only false true none = refl
last_only false false none = refl

first_only : (a : Bool) → (a || false) ≡ a
first_only true = refl
first_only false = refl

calm_cut : (t : Bool) (p : Passed) → is_alarmed (p ∷ []) ≡ false → is_alarmed (cond t (p ∷ []) []) ≡ false
calm_cut true p is = is
calm_cut false p is = refl

cut_still : (made : ℕ) (first : Opening) (h : Journal) (broken : Bool) (k : ℕ) → is_alarmed (passed_by broken made first (cut k ∷ h)) ≡ is_alarmed (passed_by broken made first h)
cut_still made first h broken k =
    let p = a_cut k (end_from first.place (given_of h)) in
    alarmed_both (passed_by broken made first h) (cond (is_made made h) (p ∷ []) []) ∙ ap (λ (t : Bool). is_alarmed (passed_by broken made first h) || t) (calm_cut (is_made made h) p refl)
    ∙ first_only (is_alarmed (passed_by broken made first h))

-- one has raised an alarm if the board has halted for one
pub alarmed_passed : (made : ℕ) (first : Opening) (h : Journal) → Conducted first h → is_alarmed (passed_by false made first h) ≡ has_limited h
alarmed_passed made first [] c = refl
alarmed_passed made first (began o ∷ h) c =
    alarmed_both (passed_by false made first h) (a_line o ∷ []) ∙ last_only (is_alarmed (passed_by false made first h)) (is_limit o.answer) (alarmed_passed made first h c.1 ∙ c.0.calm)
alarmed_passed made first (cut k ∷ h) c = cut_still made first h false k ∙ alarmed_passed made first h c.1
alarmed_passed made first (_ ∷ h) c = alarmed_passed made first h c.1

-- a line that is broken raises none
pub calm_passed : (broken : Bool) (made : ℕ) (first : Opening) (h : Journal) → Conducted first h → has_limited h ≡ false → is_alarmed (passed_by broken made first h) ≡ false
calm_passed false made first h c calm = alarmed_passed made first h c ∙ calm
calm_passed true made first [] c calm = refl
calm_passed true made first (began o ∷ h) c calm =
    alarmed_both (passed_by false made first h) (a_broken o ∷ []) ∙ first_only (is_alarmed (passed_by false made first h)) ∙ alarmed_passed made first h c.1 ∙ c.0.calm
calm_passed true made first (cut k ∷ h) c calm = cut_still made first h true k ∙ calm_passed true made first h c.1 calm
calm_passed true made first (_ ∷ h) c calm = calm_passed true made first h c.1 calm
