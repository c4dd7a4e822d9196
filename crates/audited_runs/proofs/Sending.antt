-- A run without an alarm has sent the lines that an audit scans.
use Rattle.std.proofs.Common.{◌≡◌, ℕ, ◌+◌, ◌-◌, ◌≤◌, ◌<◌, inl, inr, Bool, true, false, not, cond, List, [], ◌∷◌, ◌++◌, length, take, nat_lt, refl, sym, ap, subst, ◌∙◌, append-nil, append_assoc, arith, None, Some}
use Rattle.std.specs.declared.option.Option.{Option}
use Rattle.std.specs.Io.KnownBytes.{Consumes, IsAtEnd}
use Rattle.std.specs.List.{AllByRecursion, list_any, take_while}
use Rattle.std.proofs.lemmas.List.{length-append, take_all, take-append-le}
use Rattle.std.proofs.lemmas.Bool.Decides.{nat_tests}
use Rattle.std.proofs.lemmas.List.Sums.{take_while-cons}
use Rattle.std.proofs.Math.Seq.{take-append-add}
use Rattle.host_journal.specs.Jobs.{IsSent, ends_in, ends_sending, is_sent, lines_read, lines_to_send}
use Rattle.host_journal.specs.declared.Reading.{Reading}
use Rattle.host_journal.specs.declared.Reading.TheVariants.{Ended, Failed, Large, Stopped}
use Rattle.host_journal.specs.declared.Stop.{Stop}
use Rattle.outside.specs.Causes.{SourceState}
use Rattle.run_law.specs.Runs.{Sinks}
use Rattle.run_law.specs.declared.RunEnd.{RunEnd}
use Rattle.run_rules.specs.Readings.{job_of, largest_job}
use Rattle.step_record.specs.declared.forms.Form.{Form}
use Rattle.stream_host.specs.Ran.{is_failed}
use Rattle.stream_host.proofs.Pieces.{IsSendable, any_is, none_any, none_ends, sends_none, sends_on}
use Rattle.epoch_law.specs.Ran.{IsRest}
use Rattle.epoch_law.specs.Runs.{IsRun}
use Rattle.audit_rules.specs.Scanned.{scanned}
use Rattle.audited_runs.specs.Left.{IsWholeRun}
use Rattle.audited_runs.proofs.Lines.{lines_of_large, lines_of_small}

-- ---- a job in a line of which the sending ends

pub each_sent : (lines : List (List ℕ)) → AllByRecursion IsSendable (take_while is_sent lines)
each_sent [] = tt
each_sent (l ∷ ls) = by_test (ends_sending l) refl (each_sent ls) where
  by_test : (t : Bool) → ends_sending l ≡ t → AllByRecursion IsSendable (take_while is_sent ls) → AllByRecursion IsSendable (take_while is_sent (l ∷ ls))
  by_test true long each = subst (AllByRecursion IsSendable) (sym (take_while-cons is_sent l ls ∙ ap (λ (b : Bool). cond (not b) (l ∷ take_while is_sent ls) []) long)) tt
  by_test false short each = subst (AllByRecursion IsSendable) (sym (take_while-cons is_sent l ls ∙ ap (λ (b : Bool). cond (not b) (l ∷ take_while is_sent ls) []) short)) (short, each)

-- what stands behind what was scanned changes nothing
sent_ended : (r : Reading) (text left : List ℕ) (lines : List (List ℕ)) (rest : List ℕ) → IsRest text lines rest → AllByRecursion IsSendable lines → ends_in text ≡ true → lines_to_send r (text ++ left) ≡ lines
sent_ended r text left lines rest is sendable ends = elim is [
  | inl cut ↦
      let long : ends_sending rest ≡ true = sym (any_is ends_sending none_ends text lines rest cut sendable) ∙ ends in
      sends_on r text lines rest left cut sendable ∙ ap (λ (ls : List (List ℕ)). lines ++ ls) (sends_none r rest left cut.partial long) ∙ append-nil lines
  | inr over ↦
      let none : ends_in text ≡ false = ap (list_any ends_sending) over.0 ∙ none_any ends_sending lines sendable in
      absurd cc
]

-- ---- what was read of a job

pub record IsRead (job read : List ℕ) (reading : Reading) : Type 0 where
  pub left : List ℕ
  pub split : job ≡ read ++ left
  pub all : reading ≡ Ended → left ≡ []

pub job_read : (was is : Option (List ℕ)) (job read : List ℕ) (reading : Reading) → was ≡ Some job → Consumes was is read → (reading ≡ Ended → IsAtEnd is) → IsRead job read reading
job_read None is job read reading told taken at_end = absurd cc
job_read (Some xs) None job read reading told taken at_end = absurd taken
job_read (Some xs) (Some ys) job read reading told taken at_end =
    let same : job ≡ xs = cc in
    record { left = ys; split = same ∙ taken; all = at_end }

pub whole : (read : List ℕ) → length read ≤ largest_job → job_of read ≡ read
whole read few = take_all largest_job read few

pub is_large : (n : ℕ) → largest_job < n → nat_lt largest_job n ≡ true
is_large n more = grind (arith, nat_tests, more)

pub is_small : (n : ℕ) → n ≤ largest_job → nat_lt largest_job n ≡ false
is_small n few = grind (arith, nat_tests, few)

-- ---- the lines

module _ (job read text : List ℕ) (lines : List (List ℕ)) (rest : List ℕ) (stop : Stop) (is_rest : IsRest text lines rest) where
  by_ended : IsRead job read Ended → IsSent read Ended text lines stop → lines ≡ (scanned job).lines
  by_ended of sent =
      let same : job ≡ read = of.split ∙ ap (λ (xs : List ℕ). read ++ xs) (of.all refl) ∙ append-nil read in
      let few : length job ≤ largest_job = (let l = ap length same in let f = sent.fits in omega (arith, l, f)) in
      sent.sent ∙ ap (lines_to_send Ended) (whole read sent.fits ∙ sym same) ∙ sym (lines_of_small job (is_small (length job) few))

  by_large : IsRead job read Large → IsSent read Large text lines stop → lines ≡ (scanned job).lines
  by_large of sent =
      let more : largest_job < length job = (let l = ap length of.split ∙ length-append read of.left in let f = sent.fits.0 in omega (arith, l, f)) in
      let same : job_of read ≡ job_of job = sym (ap (take largest_job) of.split ∙ take-append-le largest_job read of.left (let f = sent.fits.0 in omega (arith, f))) in
      sent.sent ∙ ap (lines_to_send Large) same ∙ sym (lines_of_large job (is_large (length job) more))

  by_stopped : IsRead job read Stopped → IsSent read Stopped text lines stop → lines ≡ (scanned job).lines
  by_stopped of sent = by_size (nat_lt largest_job (length job)) refl
    where
      ends : ends_in text ≡ true
      ends = by_test (ends_in text) refl where
        by_test : (t : Bool) → ends_in text ≡ t → ends_in text ≡ true
        by_test true e = e
        by_test false e = absurd (sent.scans.whole e)

      sendable : AllByRecursion IsSendable lines
      sendable = subst (AllByRecursion IsSendable) (sym sent.sent) (each_sent (lines_read Stopped (job_of read)))

      front : read ≡ text ++ sent.scans.scans.left
      front = sym (whole read sent.fits) ∙ sent.scans.scans.front

      behind : (xs : List ℕ) → read ++ xs ≡ text ++ (sent.scans.scans.left ++ xs)
      behind xs = ap (λ (ys : List ℕ). ys ++ xs) front ∙ append_assoc text sent.scans.scans.left xs

      by_size : (t : Bool) → nat_lt largest_job (length job) ≡ t → lines ≡ (scanned job).lines
      by_size true large =
          let part = take (largest_job - length read) of.left in
          let few = sent.fits in
          let bytes : largest_job ≡ length read + (largest_job - length read) = omega (arith, few) in
          let taken : job_of job ≡ read ++ part =
          ap (take largest_job) of.split ∙ ap (λ (n : ℕ). take n (read ++ of.left)) bytes ∙ take-append-add read of.left (largest_job - length read) in
          sym (lines_of_large job large ∙ ap (lines_to_send Large) (taken ∙ behind part) ∙ sent_ended Large text (sent.scans.scans.left ++ part) lines rest is_rest sendable ends)
      by_size false small =
          sym (lines_of_small job small ∙ ap (lines_to_send Ended) (of.split ∙ behind of.left) ∙ sent_ended Ended text (sent.scans.scans.left ++ of.left) lines rest is_rest sendable ends)

  by_reading : (r : Reading) → IsRead job read r → is_failed r ≡ false → IsSent read r text lines stop → lines ≡ (scanned job).lines
  by_reading Ended of well sent = by_ended of sent
  by_reading Failed of well sent = absurd cc
  by_reading Large of well sent = by_large of sent
  by_reading Stopped of well sent = by_stopped of sent

pub all_lines_sent : (attended : Bool) (room blocks : ℕ) (form : Form) (job : List ℕ) (job_was job_is : SourceState) (was is : Sinks) (end : RunEnd) (run : IsRun attended room blocks form job_was job_is was is end) → IsWholeRun job job_was was end
    → run.fits.last.before.alarmed ≡ false → run.lines ≡ (scanned job).lines
all_lines_sent attended room blocks form job job_was job_is was is end run is_whole calm =
    let of = job_read job_was.left job_is.left job run.read run.reading is_whole.job_is run.sending.taken run.sending.at_end in
    by_reading job run.read run.scanned run.lines run.rest end.stop run.sending.is_rest run.reading of (sym run.ending.failed ∙ is_whole.source) (run.sending.sent (run.telling.alarm ∙ calm))
