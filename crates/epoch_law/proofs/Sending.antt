-- What was taken of words of flags was scanned.
use Rattle.std.proofs.Common.{◌≡◌, ℕ, ◌+◌, ◌≤◌, Bool, true, false, cond, ◌||◌, List, [], ◌∷◌, map, sum, take, refl, ap, arith}
use Rattle.std.proofs.lemmas.List.Sums.{sum_by-cons}
use Rattle.std.specs.List.{AllByRecursion, count_by}
use Rattle.run_law.specs.Flags.{is_hold, is_cancel, is_slow, is_change}
use Rattle.run_law.specs.Runs.{slows_behind, slows_in}
use Rattle.run_law.proofs.Changing.{words_were_scanned}
use Rattle.run_law.proofs.Flagging.{scanned_where_raised}
use Rattle.run_rules.specs.Reports.{is_query}
use Rattle.run_rules.specs.Lines.{lines_of}
use Rattle.host_journal.specs.Jobs.{cancels_in, served_in}
use Rattle.stream_host.specs.Ran.{AreRaised}
use Rattle.epoch_effects.specs.Effects.{EpochEffects}
use Rattle.epoch_effects.specs.Words.{WordsTaken, IsTakenIn}
use Rattle.epoch_law.specs.Joined.{AreRaisedFor}
use Rattle.epoch_law.specs.Runs.{IsScannedFor}

-- each byte that may slow the machine down is a hold or a cancel
slow_by : (hold cancel : Bool) (n m k : ℕ) → n ≤ m + k → cond (hold || cancel) 1 0 + n ≤ (cond hold 1 0 + m) + (cond cancel 1 0 + k)
slow_by true cancel n m k few = omega (arith, few)
slow_by false true n m k few = omega (arith, few)
slow_by false false n m k few = omega (arith, few)

slows_are : (bytes : List ℕ) → count_by is_slow bytes ≤ count_by is_hold bytes + count_by is_cancel bytes
slows_are [] = omega arith
slows_are (b ∷ bs) =
    let more = slow_by (is_hold b) (is_cancel b) (count_by is_slow bs) (count_by is_hold bs) (count_by is_cancel bs) (slows_are bs) in
    let all = sum_by-cons (λ (c : ℕ). cond {A = ℕ} (is_slow c) 1 0) b bs in
    let holds = sum_by-cons (λ (c : ℕ). cond {A = ℕ} (is_hold c) 1 0) b bs in
    let cancels = sum_by-cons (λ (c : ℕ). cond {A = ℕ} (is_cancel c) 1 0) b bs in
    omega (arith, more, all, holds, cancels)

module _ (scanned raised due : List ℕ) (resumes : ℕ) (are : AreRaised scanned raised due resumes) (all : WordsTaken) (taken : AreRaisedFor raised all) where
  -- no more words for a hold or a cancel were taken than bytes for one were scanned
  pub cancels_scanned : all.cancels ≤ slows_in scanned
  cancels_scanned = let b = taken.taken.cancels_by in let c = are is_slow in omega (arith, b, c)

  -- nor more, where no cancel was raised behind the first line that is neither answered nor forgotten, than holds and such cancels
  pub cancels_behind : (over : ℕ) → count_by is_cancel raised ≤ cancels_in (take (over + 1) (lines_of scanned)) → all.cancels ≤ slows_behind over scanned
  cancels_behind over few = let b = taken.taken.cancels_by in let s = slows_are raised in let h = are is_hold in omega (arith, b, s, h, few)

  -- nor more that ask for a report
  pub reports_scanned : all.asked ≤ count_by is_query (served_in scanned)
  reports_scanned = let b = taken.taken.asked_by in let c = are is_query in omega (arith, b, c)

  pub epoch_scanned : (one : WordsTaken) → IsTakenIn all one → IsScannedFor scanned one
  epoch_scanned one is = record {
    held = λ e. scanned_where_raised is_hold scanned raised due resumes refl are (taken.taken.held_by (is.held e));
    slowed = λ e. scanned_where_raised is_slow scanned raised due resumes refl are (taken.taken.slowed_by (is.slowed e));
    changed = λ e. scanned_where_raised is_change scanned raised due resumes refl are (taken.taken.changed_by (is.changed e));
    changes = λ word among. words_were_scanned scanned raised due resumes word are (taken.changes word (is.changes word among));
  }

  pub epochs_scanned : (es : List EpochEffects) → AllByRecursion (IsTakenIn all) (map (λ e. e.taken) es) → AllByRecursion (λ e. IsScannedFor scanned e.taken) es
  epochs_scanned [] each = tt
  epochs_scanned (e ∷ es) each = (epoch_scanned e.taken each.0, epochs_scanned es each.1)

-- ---- of all epochs

maps : (f : WordsTaken → ℕ) (es : List EpochEffects) → map (λ e. f e.taken) es ≡ map f (map (λ e. e.taken) es)
maps f [] = refl
maps f (e ∷ es) = ap (λ (ns : List ℕ). f e.taken ∷ ns) (maps f es)

pub all_cancels : (es : List EpochEffects) → sum (map (λ e. e.taken.cancels) es) ≡ sum (map (λ w. w.cancels) (map (λ e. e.taken) es))
all_cancels es = ap sum (maps (λ w. w.cancels) es)

pub all_asked : (es : List EpochEffects) → sum (map (λ e. e.taken.asked) es) ≡ sum (map (λ w. w.asked) (map (λ e. e.taken) es))
all_asked es = ap sum (maps (λ w. w.asked) es)
