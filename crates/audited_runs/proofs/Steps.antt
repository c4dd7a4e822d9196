-- The steps that a run leaves are a step text.
use Rattle.std.proofs.Common.{ℕ, ◌^◌, ◌≤◌, Bool, List, length, nat_eq, refl, ap, subst, ◌∙◌, arith, All}
use Rattle.std.specs.List.{prefix_len, take_while}
use Rattle.std.proofs.lemmas.List.{length-append, length-take}
use Rattle.std.proofs.lemmas.List.Sums.{count_by-le-length}
use Rattle.flight.specs.Places.{origin}
use Rattle.host_journal.specs.Jobs.{IsSentSoFar, is_sent, lines_read}
use Rattle.host_journal.specs.declared.Reading.{Reading}
use Rattle.host_journal.specs.declared.Reading.TheVariants.{Ended, Failed, Large, Stopped}
use Rattle.host_journal.specs.declared.Stop.{Stop}
use Rattle.outside.specs.Causes.{SourceState}
use Rattle.outside.specs.Writing.{Took}
use Rattle.run_law.specs.Runs.{Sinks}
use Rattle.run_law.specs.declared.RunEnd.{RunEnd}
use Rattle.run_rules.specs.Lines.{lines_of, whole_lines}
use Rattle.run_rules.specs.Readings.{job_of, largest_job}
use Rattle.run_texts.specs.Parts.{parts_of}
use Rattle.run_texts.specs.Points.{opening}
use Rattle.step_line.specs.Records.{IsRecord}
use Rattle.step_record.specs.Forms.{text_in}
use Rattle.step_record.specs.declared.forms.Form.{Form}
use Rattle.stream_host.proofs.Pieces.{few_cut}
use Rattle.epoch_courses.proofs.Texts.{lines_counted}
use Rattle.epoch_law.specs.Runs.{IsRun}
use Rattle.audit_rules.proofs.Written.{lines_written}
use Rattle.audited_runs.specs.Left.{IsWholeRun, LeavesSteps}
use Rattle.audited_runs.proofs.Held.{took_all}
use Rattle.audited_runs.proofs.Numbers.{numbers_below}
use Rattle.audited_runs.proofs.Pieces.{put_have_lines}

-- ---- how many lines are sent

pub few_while : {A : Type 0} (p : A → Bool) (xs : List A) → length (take_while p xs) ≤ length xs
few_while p xs = let some = length-take (prefix_len p xs) xs in omega (arith, some)

few_whole : (text : List ℕ) → length (whole_lines text) ≤ length text
few_whole text = let are = lines_counted text in let few = count_by-le-length (λ b. nat_eq b 10) text in omega (arith, are, few)

few_read : (reading : Reading) (text : List ℕ) → length (lines_read reading text) ≤ length text
few_read Ended text = (few_cut text (lines_of text) refl).0
few_read Failed text = few_whole text
few_read Large text = few_whole text
few_read Stopped text = few_whole text

few_sent : (read : List ℕ) (reading : Reading) (text : List ℕ) (lines : List (List ℕ)) (stop : Stop) → IsSentSoFar read reading text lines stop → length lines ≤ largest_job
few_sent read reading text lines stop sent =
    let all = ap length sent.sent ∙ length-append lines sent.later in
    let few = few_while is_sent (lines_read reading (job_of read)) in
    let bytes = few_read reading (job_of read) in
    let most = length-take largest_job read in
    omega (arith, all, few, bytes, most)

-- ---- a run

module _ (attended : Bool) (room blocks : ℕ) (form : Form) (job : List ℕ) (job_was job_is : SourceState) (was is : Sinks) (end : RunEnd) (run : IsRun attended room blocks form job_was job_is was is end) where
  pub records_have_lines : All IsRecord run.records
  records_have_lines =
      let few = few_sent run.read run.reading run.scanned run.lines _ run.sending.so_far in
      let below = numbers_below (2 ^ 32) (opening run.fits.first) run.lines run.rest run.fits.course run.fits.last (omega (arith, few)) run.fits.follows in
      put_have_lines (parts_of run.fits.course) origin run.epochs run.records below run.recording.run run.recording.put

  pub steps_left : IsWholeRun job job_was was end → LeavesSteps is.steps run.records
  steps_left whole =
      let written = lines_written form run.records records_have_lines in
      let took = subst (λ (failed : Bool). Took was.steps is.steps failed (text_in form run.records)) whole.steps run.recording.steps in
      record {
        text = text_in form run.records;
        held = took_all was.steps is.steps (text_in form run.records) whole.no_steps took;
        lines = written.0;
        are = written.1;
        records_are = written.2;
      }
