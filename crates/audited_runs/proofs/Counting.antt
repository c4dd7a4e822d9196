-- What may cut jogs in a run: no more cuts than words were taken for, and with an alarm no more bytes than an audit counts.
use Rattle.std.proofs.Common.{◌≡◌, ℕ, ◌+◌, ◌≤◌, ◌<◌, inl, inr, Bool, true, false, cond, List, [], ◌∷◌, ◌++◌, length, map, take, drop, nat_eq, nat_lt, refl, sym, ap, subst, ◌∙◌, append-nil, arith}
use Rattle.std.specs.List.{AllByRecursion, count_by, filter, prefix_len, sum, sum_by, take_while}
use Rattle.std.proofs.lemmas.Bool.Decides.{nat_tests}
use Rattle.std.proofs.lemmas.List.{length-append, take_all, take-append-drop, take-append-le}
use Rattle.std.proofs.lemmas.List.Sums.{sum-map, sum_by-append, sum_by-cons, sum_by-take-drop}
use Rattle.gcode_words.specs.Comments.{comment_after}
use Rattle.gcode_words.specs.Stripping.{is_realtime, realtime}
use Rattle.gcode_words.proofs.Fed.{realtime-append}
use Rattle.gcode_words.proofs.Scanning.{shown}
use Rattle.host_journal.specs.Jobs.{cancels_in, is_cancel, is_sent, served_in}
use Rattle.run_law.specs.Flags as flags
use Rattle.run_law.specs.Runs.{slows_behind}
use Rattle.run_rules.specs.Lines.{lines_of, onto_first, whole_lines}
use Rattle.run_rules.specs.Readings.{job_of, largest_job}
use Rattle.run_rules.proofs.Cutting.{lines_are}
use Rattle.run_texts.specs.Courses.{Passed, cuts_in}
use Rattle.run_texts.specs.Courses.Passed.{a_line, a_broken, a_cut, a_reset}
use Rattle.run_texts.specs.Fronts.{BeginsWith}
use Rattle.units.specs.declared.Steps3.{Steps3}
use Rattle.epoch_courses.specs.Drives.{Driven}
use Rattle.epoch_effects.specs.Effects.{AreEffects, EpochEffects, IsAsTaken, epochs_in, onto_epoch}
use Rattle.epoch_law.specs.Ran.{IsRest}
use Rattle.epoch_law.proofs.SoFar.{front_on}
use Rattle.audit_rules.specs.Scanned.{cuts_by, cuts_with_alarm, holds_by, is_hold, may_cut, scanned}
use Rattle.audited_runs.proofs.Cuts.{counted}
use Rattle.audited_runs.proofs.Lines.{lines_of_large, lines_of_small}
use Rattle.audited_runs.proofs.SentFront.{ended_first}

-- ---- the lines of a front

-- Lines go on to others: each but the last is the same, and the last is a front.
abbrev GoOnTo : List (List ℕ) → List (List ℕ) → Type 0
GoOnTo [] ws = Unit {0}
GoOnTo (l ∷ ls) [] = ⊥
GoOnTo (l ∷ []) (w ∷ ws) = (more : List ℕ) × (w ≡ l ++ more)
GoOnTo (l ∷ k ∷ ls) (w ∷ ws) = (w ≡ l) × GoOnTo (k ∷ ls) ws

on_with_line : (ls ws : List (List ℕ)) → GoOnTo ls ws → GoOnTo ([] ∷ ls) ([] ∷ ws)
on_with_line [] ws on = ([], refl)
on_with_line (l ∷ ls) ws on = (refl, on)

on_with_byte : (c : ℕ) (ls ws : List (List ℕ)) → GoOnTo ls ws → GoOnTo (onto_first c ls) (onto_first c ws)
on_with_byte c [] [] on = ([], refl)
on_with_byte c [] (w ∷ ws) on = (w, refl)
on_with_byte c (l ∷ ls) [] on = absurd on
on_with_byte c (l ∷ []) (w ∷ ws) on = (on.0, ap (λ (xs : List ℕ). c ∷ xs) on.1)
on_with_byte c (l ∷ k ∷ ls) (w ∷ ws) on = (ap (λ (xs : List ℕ). c ∷ xs) on.0, on.1)

lines_go_on : (text more : List ℕ) → GoOnTo (lines_of text) (lines_of (text ++ more))
lines_go_on [] more = tt
lines_go_on (c ∷ cs) more = by_test (nat_eq c 10) (lines_go_on cs more)
  where
    by_test : (t : Bool) → GoOnTo (lines_of cs) (lines_of (cs ++ more))
        → GoOnTo (cond t ([] ∷ lines_of cs) (onto_first c (lines_of cs))) (cond t ([] ∷ lines_of (cs ++ more)) (onto_first c (lines_of (cs ++ more))))
    by_test true on = on_with_line (lines_of cs) (lines_of (cs ++ more)) on
    by_test false on = on_with_byte c (lines_of cs) (lines_of (cs ++ more)) on

-- so they hold no less often
more_holds : (line more : List ℕ) → holds_by line ≤ holds_by (line ++ more)
more_holds line more =
    let late = filter is_realtime (shown (comment_after line) more) in
    let both = ap (count_by is_hold) (realtime-append line more) ∙ sum_by-append (λ b. cond (is_hold b) 1 0) (realtime line) late in
    omega (arith, both)

holds_on : (ls ws : List (List ℕ)) → GoOnTo ls ws → sum_by holds_by ls ≤ sum_by holds_by ws
holds_on [] ws on = omega arith
holds_on (l ∷ ls) [] on = absurd on
holds_on (l ∷ []) (w ∷ ws) on =
    let one = sum_by-cons holds_by l [] in
    let all = sum_by-cons holds_by w ws in
    let same = ap holds_by on.1 in
    let more = more_holds l on.0 in
    omega (arith, one, all, same, more)
holds_on (l ∷ k ∷ ls) (w ∷ ws) on =
    let one = sum_by-cons holds_by l (k ∷ ls) in
    let all = sum_by-cons holds_by w ws in
    let same = ap holds_by on.0 in
    let more = holds_on (k ∷ ls) ws on.1 in
    omega (arith, one, all, same, more)

holds_of_front : (whole front : List ℕ) → BeginsWith whole front → sum_by holds_by (lines_of front) ≤ sum_by holds_by (lines_of whole)
holds_of_front whole front begins =
    let same = ap (λ (text : List ℕ). sum_by holds_by (lines_of text)) begins.is in
    let more = holds_on (lines_of front) (lines_of (front ++ begins.rest)) (lines_go_on front begins.rest) in
    omega (arith, same, more)

-- ---- what an audit scans is a front

sent_first : (lines : List (List ℕ)) → BeginsWith lines (take_while is_sent lines)
sent_first lines = record { rest = drop (prefix_len is_sent lines) lines; is = sym (take-append-drop (prefix_len is_sent lines) lines) }

is_whole : (job : List ℕ) → nat_lt largest_job (length job) ≡ false → job_of job ≡ job
is_whole job small = take_all largest_job job (grind (arith, nat_tests, small))

-- the lines that an audit scans are the first of the job
pub scanned_first : (job : List ℕ) → BeginsWith (lines_of (job_of job)) (scanned job).lines
scanned_first job = by_size (nat_lt largest_job (length job)) refl
  where
    by_size : (t : Bool) → nat_lt largest_job (length job) ≡ t → BeginsWith (lines_of (job_of job)) (scanned job).lines
    by_size true large =
        let whole = whole_lines (job_of job) in
        subst (BeginsWith (lines_of (job_of job))) (sym (lines_of_large job large)) (front_on (lines_of (job_of job)) whole (take_while is_sent whole) (ended_first (job_of job)) (sent_first whole))
    by_size false small =
        subst (BeginsWith (lines_of (job_of job))) (sym (lines_of_small job small))
        (subst (λ (text : List ℕ). BeginsWith (lines_of text) (take_while is_sent (lines_of job))) (sym (is_whole job small)) (sent_first (lines_of job)))

-- ---- the first lines

first_of : (n : ℕ) (whole front : List (List ℕ)) → BeginsWith whole front → n ≤ length front → take n whole ≡ take n front
first_of n whole front begins few = ap (take n) begins.is ∙ take-append-le n front begins.rest few

rest_behind : (text : List ℕ) (lines : List (List ℕ)) (rest : List ℕ) → IsRest text lines rest → BeginsWith (lines_of text) lines
rest_behind text lines rest is = elim is [
  | inl cut ↦ record { rest = cond (nat_lt 0 (length rest)) (rest ∷ []) []; is = lines_are text lines rest cut }
  | inr over ↦ record { rest = []; is = over.0 ∙ sym (append-nil lines) }
]

-- ---- the bytes that may cut

abbrev cancels_by : List ℕ → ℕ
cancels_by line = count_by is_cancel (realtime line)

one_or_other : (b : ℕ) → cond (may_cut b) 1 0 ≡ cond (is_hold b) 1 0 + cond (is_cancel b) 1 0
one_or_other b = grind (arith, nat_tests)

bytes_parted : (bs : List ℕ) → count_by may_cut bs ≡ count_by is_hold bs + count_by is_cancel bs
bytes_parted [] = refl
bytes_parted (b ∷ bs) =
    let more = bytes_parted bs in
    let here = one_or_other b in
    let all = sum_by-cons (λ x. cond (may_cut x) 1 0) b bs in
    let holds = sum_by-cons (λ x. cond (is_hold x) 1 0) b bs in
    let cancels = sum_by-cons (λ x. cond (is_cancel x) 1 0) b bs in
    omega (arith, more, here, all, holds, cancels)

lines_parted : (ls : List (List ℕ)) → sum_by cuts_by ls ≡ sum_by holds_by ls + sum_by cancels_by ls
lines_parted [] = refl
lines_parted (l ∷ ls) =
    let more = lines_parted ls in
    let here = bytes_parted (realtime l) in
    let all = sum_by-cons cuts_by l ls in
    let holds = sum_by-cons holds_by l ls in
    let cancels = sum_by-cons cancels_by l ls in
    omega (arith, more, here, all, holds, cancels)

-- the lines up to the one that raised an alarm were sent: what was scanned and may cut is counted by an audit
pub few_with_alarm : (job text : List ℕ) (lines : List (List ℕ)) (rest : List ℕ) (over : ℕ) → IsRest text lines rest → BeginsWith (job_of job) text → BeginsWith (scanned job).lines lines
    → over + 1 ≤ length lines → slows_behind over text ≤ cuts_with_alarm (over + 1) job
few_with_alarm job text lines rest over is front begins many =
    let all = lines_of (job_of job) in
    let longer : length (scanned job).lines ≡ length lines + length begins.rest = ap length begins.is ∙ length-append lines begins.rest in
    let scanned_lines : take (over + 1) all ≡ take (over + 1) (scanned job).lines = first_of (over + 1) all (scanned job).lines (scanned_first job) (omega (arith, many, longer)) in
    let first : take (over + 1) (lines_of text) ≡ take (over + 1) (scanned job).lines =
    first_of (over + 1) (lines_of text) lines (rest_behind text lines rest is) many ∙ sym (first_of (over + 1) (scanned job).lines lines begins many) in
    let holds : count_by flags.is_hold (served_in text) ≡ sum_by holds_by (lines_of text) = counted is_hold (lines_of text) in
    let held = holds_of_front (job_of job) text front in
    let cancels : cancels_in (take (over + 1) (lines_of text)) ≡ sum_by cancels_by (take (over + 1) (scanned job).lines) =
    ap cancels_in first ∙ counted is_cancel (take (over + 1) (scanned job).lines) in
    let parted = lines_parted (take (over + 1) (scanned job).lines) in
    let same = ap (sum_by holds_by) scanned_lines in
    let both = sum_by-take-drop holds_by all (over + 1) in
    omega (arith, holds, held, cancels, parted, same, both)

-- ---- the cuts of a course

onto_same : (p : Passed) (epochs : List (List Passed)) → length (onto_epoch p epochs) ≡ length epochs
onto_same p [] = refl
onto_same p (ps ∷ epochs) = omega arith

some_epoch : (course : List Passed) → 0 < length (epochs_in course)
some_epoch [] = omega arith
some_epoch (a_line o ∷ ps) = let same = onto_same (a_line o) (epochs_in ps) in let some = some_epoch ps in omega (arith, same, some)
some_epoch (a_broken o ∷ ps) = let same = onto_same (a_broken o) (epochs_in ps) in let some = some_epoch ps in omega (arith, same, some)
some_epoch (a_cut k at ∷ ps) = let same = onto_same (a_cut k at) (epochs_in ps) in let some = some_epoch ps in omega (arith, same, some)
some_epoch (a_reset r ∷ ps) = omega arith

onto_uncut : (p : Passed) (epochs : List (List Passed)) → ((ps : List Passed) → cuts_in (p ∷ ps) ≡ cuts_in ps) → sum_by cuts_in (onto_epoch p epochs) ≡ sum_by cuts_in epochs
onto_uncut p [] none = refl
onto_uncut p (ps ∷ epochs) none =
    let now = sum_by-cons cuts_in (p ∷ ps) epochs in let was = sum_by-cons cuts_in ps epochs in let same = none ps in omega (arith, now, was, same)

onto_cut : (k : ℕ) (at : Steps3) (epochs : List (List Passed)) → 0 < length epochs → sum_by cuts_in (onto_epoch (a_cut k at) epochs) ≡ sum_by cuts_in epochs + 1
onto_cut k at [] some = absurd (omega (arith, some))
onto_cut k at (ps ∷ epochs) some = let now = sum_by-cons cuts_in (a_cut k at ∷ ps) epochs in let was = sum_by-cons cuts_in ps epochs in omega (arith, now, was)

-- each stands in an epoch
epochs_cut : (course : List Passed) → cuts_in course ≡ sum_by cuts_in (epochs_in course)
epochs_cut [] = refl
epochs_cut (a_line o ∷ ps) = epochs_cut ps ∙ sym (onto_uncut (a_line o) (epochs_in ps) (λ qs. refl))
epochs_cut (a_broken o ∷ ps) = epochs_cut ps ∙ sym (onto_uncut (a_broken o) (epochs_in ps) (λ qs. refl))
epochs_cut (a_cut k at ∷ ps) = let rest = epochs_cut ps in let one = onto_cut k at (epochs_in ps) (some_epoch ps) in omega (arith, rest, one)
epochs_cut (a_reset r ∷ ps) = let rest = epochs_cut ps in let none = sum_by-cons cuts_in [] (epochs_in ps) in omega (arith, rest, none)

few_taken : (es : List EpochEffects) → AllByRecursion IsAsTaken es → sum_by cuts_in (map (λ e. e.passed) es) ≤ sum_by (λ e. e.taken.cancels) es
few_taken [] each = omega arith
few_taken (e ∷ es) each =
    let cuts = sum_by-cons cuts_in e.passed (map (λ (x : EpochEffects). x.passed) es) in
    let words = sum_by-cons (λ (x : EpochEffects). x.taken.cancels) e es in
    let here = each.0.cuts in
    let more = few_taken es each.1 in
    omega (arith, cuts, words, here, more)

-- a course has no more cuts than words for a hold or a cancel were taken in its epochs
pub cuts_of_epochs : (course : List Passed) (drives : List Driven) (es : List EpochEffects) → AreEffects course drives es → cuts_in course ≤ sum (map (λ e. e.taken.cancels) es)
cuts_of_epochs course drives es are =
    let cuts = epochs_cut course ∙ ap (sum_by cuts_in) are.passed in
    let words = sum-map (λ (e : EpochEffects). e.taken.cancels) es in
    let few = few_taken es are.each in
    omega (arith, cuts, words, few)
