-- A run without an alarm has scanned the rest that an audit scans: with its lines it has sent all of it.
use Rattle.std.proofs.Common.{◌≡◌, ℕ, zero, suc, ◌≤◌, ◌<◌, inl, inr, Bool, true, false, cond, List, [], ◌∷◌, ◌++◌, length, take, drop, nat_eq, nat_lt, refl, sym, ap, subst, ◌∙◌, append-nil, append_assoc, arith, None, Some}
use Rattle.std.specs.declared.option.Option.{Option}
use Rattle.std.specs.List.{AllByRecursion, list_any}
use Rattle.std.specs.Option.{is_some, unwrap_or}
use Rattle.std.proofs.lemmas.Bool.Decides.{nat_tests}
use Rattle.std.proofs.lemmas.List.{length-append, take-append-le}
use Rattle.std.proofs.Math.Seq.{drop-append_seam}
use Rattle.host_journal.specs.Jobs.{IsSent, ends_in, ends_sending, is_sent, lines_read, lines_to_send}
use Rattle.host_journal.specs.declared.Reading.{Reading}
use Rattle.host_journal.specs.declared.Reading.TheVariants.{Ended, Failed, Large, Stopped}
use Rattle.host_journal.specs.declared.Stop.{Stop}
use Rattle.outside.specs.Causes.{SourceState}
use Rattle.run_law.specs.Runs.{Sinks}
use Rattle.run_law.specs.declared.RunEnd.{RunEnd}
use Rattle.run_rules.specs.Lines.{CutsInto, ended, lines_of, whole_lines}
use Rattle.run_rules.specs.Readings.{job_of, largest_job}
use Rattle.run_rules.proofs.Cutting.{cut_none, lines_are, some_bytes, wholes_are}
use Rattle.step_record.specs.declared.forms.Form.{Form}
use Rattle.stream_host.specs.Ran.{is_failed}
use Rattle.stream_host.proofs.Pieces.{IsSendable, all_are_sent, any_is, neither, none_any, none_ends}
use Rattle.epoch_law.specs.Ran.{IsRest}
use Rattle.epoch_law.specs.Runs.{IsRun}
use Rattle.audit_rules.specs.Scanned as audits
use Rattle.audit_rules.specs.Scanned.{scanned}
use Rattle.audited_runs.specs.Left.{IsWholeRun}
use Rattle.audited_runs.proofs.Ends.{rest_large, rest_small}
use Rattle.audited_runs.proofs.Lines.{long_same}
use Rattle.audited_runs.proofs.Rest.{up_open}
use Rattle.audited_runs.proofs.Sending.{IsRead, each_sent, is_large, is_small, job_read, whole}
use Rattle.audited_runs.proofs.Steps.{few_while}

-- ---- lines that are not too long

-- of a line that is not too long all is scanned
scanned_short : (line : List ℕ) → ends_sending line ≡ false → audits.scanned_of line ≡ line
scanned_short line short = by_front (audits.long_front [] line) (long_same line ∙ short) where
  by_front : (front : Option (List ℕ)) → is_some front ≡ false → unwrap_or front line ≡ line
  by_front None none = refl
  by_front (Some xs) none = absurd cc

-- where the sending ends in none of some lines, each can be sent
each_sendable : (lines : List (List ℕ)) → list_any ends_sending lines ≡ false → AllByRecursion IsSendable lines
each_sendable [] none = tt
each_sendable (l ∷ ls) none = let both = neither (ends_sending l) (list_any ends_sending ls) none in (both.0, each_sendable ls both.1)

-- ---- how a text is cut

record Cut (text : List ℕ) : Type 0 where
  pub lines : List (List ℕ)
  pub rest : List ℕ
  pub is : CutsInto text lines rest

-- with one byte more before it
cut_before : (c : ℕ) (cs : List ℕ) → Cut cs → Cut (c ∷ cs)
cut_before c cs cut = by_lf (nat_eq c 10) refl cut.lines cut.rest cut.is where
  by_lf : (t : Bool) → nat_eq c 10 ≡ t → (lines : List (List ℕ)) (rest : List ℕ) → CutsInto cs lines rest → Cut (c ∷ cs)
  by_lf true lf lines rest is =
      let byte : c ≡ 10 = grind (arith, nat_tests, lf) in
      record {
        lines = [] ∷ lines;
        rest = rest;
        is = record { whole = ap (λ (b : ℕ). b ∷ cs) byte ∙ ap (λ (xs : List ℕ). 10 ∷ xs) is.whole; each = (tt, is.each); partial = is.partial };
      }
  by_lf false none [] rest is = record { lines = []; rest = c ∷ rest; is = record { whole = ap (λ (xs : List ℕ). c ∷ xs) is.whole; each = tt; partial = (none, is.partial) } }
  by_lf false none (l ∷ ls) rest is =
      record {
        lines = (c ∷ l) ∷ ls;
        rest = rest;
        is = record { whole = ap (λ (xs : List ℕ). c ∷ xs) is.whole; each = ((none, is.each.0), is.each.1); partial = is.partial };
      }

each_cuts : (text : List ℕ) → Cut text
each_cuts [] = record { lines = []; rest = []; is = cut_none }
each_cuts (c ∷ cs) = cut_before c cs (each_cuts cs)

no_tail : (lines : List (List ℕ)) (rest : List ℕ) → length (lines ++ cond (nat_lt 0 (length rest)) (rest ∷ []) []) ≤ length lines → rest ≡ []
no_tail lines [] few = refl
no_tail lines (c ∷ cs) few =
    let line = c ∷ cs in
    let all = ap (λ (b : Bool). length (lines ++ cond b (line ∷ []) [])) (some_bytes c cs) ∙ length-append lines (line ∷ []) in
    absurd (omega (arith, few, all))

-- nothing stands behind the lines that LF ends where there are no others
no_rest : (text : List ℕ) (lines : List (List ℕ)) (rest : List ℕ) → CutsInto text lines rest → length (lines_of text) ≤ length lines → rest ≡ []
no_rest text lines rest cut few = no_tail lines rest (subst (λ (ls : List (List ℕ)). length ls ≤ length lines) (lines_are text lines rest cut) few)

-- and where LF ends as many lines as there are, it ends each
cuts_whole : (text : List ℕ) (lines : List (List ℕ)) (rest : List ℕ) → lines_of text ≡ lines → rest ≡ [] → length lines ≤ length (whole_lines text) → CutsInto text lines rest
cuts_whole text lines rest are none few =
    let cut = each_cuts text in
    let all = ap length are in
    let wholes = ap length (wholes_are text cut.lines cut.rest cut.is) in
    let over : cut.rest ≡ [] = no_rest text cut.lines cut.rest cut.is (omega (arith, few, all, wholes)) in
    let same : cut.lines ≡ lines =
    sym (lines_are text cut.lines cut.rest cut.is ∙ ap (λ (xs : List ℕ). cut.lines ++ cond (nat_lt 0 (length xs)) (xs ∷ []) []) over ∙ append-nil cut.lines) ∙ are in
    subst (λ (ls : List (List ℕ)). CutsInto text ls rest) same (subst (λ (xs : List ℕ). CutsInto text cut.lines xs) (over ∙ sym none) cut.is)

-- ---- a job by its size

rest_of_small : (job : List ℕ) → nat_lt largest_job (length job) ≡ false → (scanned job).rest ≡ (audits.up_to_long (lines_of job) []).rest
rest_of_small job small = ap (λ (t : Bool). (cond t (audits.up_to_long (whole_lines (job_of job)) (audits.open_line (job_of job))) (audits.up_to_long (lines_of job) [])).rest) small

rest_of_large : (job : List ℕ) → nat_lt largest_job (length job) ≡ true → (scanned job).rest ≡ (audits.up_to_long (whole_lines (job_of job)) (audits.open_line (job_of job))).rest
rest_of_large job large = ap (λ (t : Bool). (cond t (audits.up_to_long (whole_lines (job_of job)) (audits.open_line (job_of job))) (audits.up_to_long (lines_of job) [])).rest) large

at_most : (n : ℕ) → nat_lt largest_job n ≡ false → n ≤ largest_job
at_most n small = grind (arith, nat_tests, small)

-- the front of a longer text begins with that of the shorter one
front_grows : (n : ℕ) (xs ys : List ℕ) → (more : List ℕ) × (take n (xs ++ ys) ≡ take n xs ++ more)
front_grows zero xs ys = ([], refl)
front_grows (suc n) [] ys = (take (suc n) ys, refl)
front_grows (suc n) (x ∷ xs) ys = let grown = front_grows n xs ys in (grown.0, ap (λ (zs : List ℕ). x ∷ zs) grown.1)

-- ---- the rest

module _ (job read text : List ℕ) (lines : List (List ℕ)) (rest : List ℕ) (stop : Stop) (is_rest : IsRest text lines rest) where
  module _ (r : Reading) (of : IsRead job read r) (sent : IsSent read r text lines stop) where
    sendable : AllByRecursion IsSendable lines
    sendable = subst (AllByRecursion IsSendable) (sym sent.sent) (each_sent (lines_read r (job_of read)))

    all_of : sent.scans.scans.left ≡ [] → job_of read ≡ text
    all_of none = sent.scans.scans.front ∙ ap (λ (xs : List ℕ). text ++ xs) none ∙ append-nil text

    -- where the sending ended in a line
    where_it_ended : ends_in text ≡ true → rest ≡ (scanned job).rest
    where_it_ended ends = elim is_rest [
      | inl cut ↦ by_size cut (sym (any_is ends_sending none_ends text lines rest cut sendable) ∙ ends) (nat_lt largest_job (length job)) refl
      | inr over ↦
          let none : ends_in text ≡ false = ap (list_any ends_sending) over.0 ∙ none_any ends_sending lines sendable in
          absurd cc
    ]
      where
        grown : (more : List ℕ) × (job_of (read ++ of.left) ≡ job_of read ++ more)
        grown = front_grows largest_job read of.left

        behind : List ℕ
        behind = sent.scans.scans.left ++ grown.0

        front : job_of job ≡ text ++ behind
        front = ap job_of of.split ∙ grown.1 ∙ ap (λ (xs : List ℕ). xs ++ grown.0) sent.scans.scans.front ∙ append_assoc text sent.scans.scans.left grown.0

        by_size : CutsInto text lines rest → ends_sending rest ≡ true → (t : Bool) → nat_lt largest_job (length job) ≡ t → rest ≡ (scanned job).rest
        by_size cut long true large =
            sym (rest_of_large job large ∙ ap (λ (xs : List ℕ). (audits.up_to_long (whole_lines xs) (audits.open_line xs)).rest) front
            ∙ rest_large text behind lines rest cut sendable long sent.scans.scans.early)
        by_size cut long false small =
            sym (rest_of_small job small ∙ ap (λ (xs : List ℕ). (audits.up_to_long (lines_of xs) []).rest) (sym (whole job (at_most (length job) small)) ∙ front)
            ∙ rest_small text behind lines rest cut sendable long sent.scans.scans.early)

  by_ended : IsRead job read Ended → IsSent read Ended text lines stop → ends_in text ≡ false → rest ≡ (scanned job).rest
  by_ended of sent short =
      let same : job ≡ read = of.split ∙ ap (λ (xs : List ℕ). read ++ xs) (of.all refl) ∙ append-nil read in
      let few : length job ≤ largest_job = (let l = ap length same in let f = sent.fits in omega (arith, l, f)) in
      let is : job_of read ≡ text = all_of Ended of sent (sent.scans.whole short) in
      let each = each_sendable (lines_of text) short in
      let all : lines ≡ lines_of text = sent.sent ∙ ap (lines_to_send Ended) is ∙ all_are_sent Ended text each in
      let over : rest ≡ [] = elim is_rest [
        | inl cut ↦ no_rest text lines rest cut (let l = ap length all in omega (arith, l))
        | inr is_over ↦ is_over.1
      ] in
      over ∙ sym (rest_of_small job (is_small (length job) few) ∙ ap (λ (xs : List ℕ). (audits.up_to_long (lines_of xs) []).rest) (same ∙ sym (whole read sent.fits) ∙ is)
      ∙ up_open (lines_of text) [] each ∙ scanned_short [] none_ends)

  by_large : IsRead job read Large → IsSent read Large text lines stop → ends_in text ≡ false → rest ≡ (scanned job).rest
  by_large of sent short =
      let more : largest_job < length job = (let l = ap length of.split ∙ length-append read of.left in let f = sent.fits.0 in omega (arith, l, f)) in
      let is : job_of read ≡ text = all_of Large of sent (sent.scans.whole short) in
      let front : job_of job ≡ text = ap (take largest_job) of.split ∙ take-append-le largest_job read of.left (let f = sent.fits.0 in omega (arith, f)) ∙ is in
      let each = sendable Large of sent in
      let few : length lines ≤ length (whole_lines text) =
      (let l = ap length (sent.sent ∙ ap (lines_to_send Large) is) in let f = few_while is_sent (whole_lines text) in omega (arith, l, f)) in
      let cut : CutsInto text lines rest = elim is_rest [
        | inl is_cut ↦ is_cut
        | inr over ↦ cuts_whole text lines rest over.0 over.1 few
      ] in
      let wholes : whole_lines text ≡ lines = wholes_are text lines rest cut in
      let open_is : audits.open_line text ≡ rest =
      ap (λ (ls : List (List ℕ)). drop (length (ended ls)) text) wholes ∙ ap (drop (length (ended lines))) cut.whole ∙ drop-append_seam (ended lines) rest in
      let none : ends_sending rest ≡ false = sym (any_is ends_sending none_ends text lines rest cut each) ∙ short in
      sym (rest_of_large job (is_large (length job) more) ∙ ap (λ (xs : List ℕ). (audits.up_to_long (whole_lines xs) (audits.open_line xs)).rest) front
      ∙ ap (λ (ls : List (List ℕ)). (audits.up_to_long ls (audits.open_line text)).rest) wholes ∙ up_open lines (audits.open_line text) each
      ∙ ap audits.scanned_of open_is ∙ scanned_short rest none)

  -- where it ended in none
  where_it_did_not : (r : Reading) → IsRead job read r → is_failed r ≡ false → IsSent read r text lines stop → ends_in text ≡ false → rest ≡ (scanned job).rest
  where_it_did_not Ended of well sent short = by_ended of sent short
  where_it_did_not Failed of well sent short = absurd cc
  where_it_did_not Large of well sent short = by_large of sent short
  where_it_did_not Stopped of well sent short = absurd (sent.scans.whole short)

  by_ending : (r : Reading) → IsRead job read r → is_failed r ≡ false → IsSent read r text lines stop → rest ≡ (scanned job).rest
  by_ending r of well sent = by_test (ends_in text) refl where
    by_test : (t : Bool) → ends_in text ≡ t → rest ≡ (scanned job).rest
    by_test true ends = where_it_ended r of sent ends
    by_test false short = where_it_did_not r of well sent short

-- the law: without an alarm the rest that a run has scanned is the one that an audit scans
pub all_is_sent : (attended : Bool) (room blocks : ℕ) (form : Form) (job : List ℕ) (job_was job_is : SourceState) (was is : Sinks) (end : RunEnd)
    (run : IsRun attended room blocks form job_was job_is was is end) → IsWholeRun job job_was was end → run.fits.last.before.alarmed ≡ false → run.rest ≡ (scanned job).rest
all_is_sent attended room blocks form job job_was job_is was is end run is_whole calm =
    let of = job_read job_was.left job_is.left job run.read run.reading is_whole.job_is run.sending.taken run.sending.at_end in
    by_ending job run.read run.scanned run.lines run.rest end.stop run.sending.is_rest run.reading of (sym run.ending.failed ∙ is_whole.source) (run.sending.sent (run.telling.alarm ∙ calm))
