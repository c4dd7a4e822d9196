-- A run in which no device failed leaves texts that fit, as an audit means it.
use Rattle.std.proofs.Common.{◌≡◌, ℕ, ◌+◌, ◌-◌, ◌≤◌, Bool, true, false, cond, List, [], ◌∷◌, length, refl, sym, ap, subst, ◌∙◌, append-nil, arith}
use Rattle.std.specs.List.{sum_by}
use Rattle.outside.specs.Causes.{SourceState}
use Rattle.run_law.specs.Runs.{Sinks, slows_in}
use Rattle.run_law.specs.declared.RunEnd.{RunEnd}
use Rattle.run_rules.specs.Outcomes.{either}
use Rattle.run_rules.specs.Readings.{job_of}
use Rattle.run_rules.specs.Told.{replies_text}
use Rattle.run_texts.specs.Courses.{cuts_in}
use Rattle.run_texts.specs.Fits.{FitsTexts}
use Rattle.run_texts.specs.Fronts.{BeginsWith}
use Rattle.run_texts.specs.Sent.{Sent, sent_of}
use Rattle.run_texts.specs.Told.{IsTold}
use Rattle.status_report.specs.declared.Reply.{Reply}
use Rattle.status_report.specs.declared.Reply.TheVariants.{Banner}
use Rattle.step_line.specs.declared.Record.{Record}
use Rattle.step_record.specs.declared.forms.Form.{Form}
use Rattle.legal_heads.specs.Whole.{events_among}
use Rattle.epoch_courses.specs.Told.{without_byes}
use Rattle.epoch_law.specs.Runs.{IsRun}
use Rattle.audit_rules.specs.Findings.{TextsFit}
use Rattle.audit_rules.specs.Scanned.{cuts_by, cuts_scanned, cuts_with_alarm, most_cuts, scanned, sent_in}
use Rattle.audit_rules.specs.StepTexts.{records_of}
use Rattle.audited_runs.specs.Left.{IsWholeRun, LeavesConsole, LeavesSteps, LeavesTextsThatFit}
use Rattle.audited_runs.proofs.Consoles.{console_left}
use Rattle.audited_runs.proofs.Counting.{cuts_of_epochs, few_with_alarm}
use Rattle.audited_runs.proofs.Cuts.{slows_counted}
use Rattle.audited_runs.proofs.Places.{alarm_number}
use Rattle.audited_runs.proofs.Sending.{all_lines_sent, job_read}
use Rattle.audited_runs.proofs.SentFront.{begins_first, lines_front, texts_front}
use Rattle.audited_runs.proofs.Steps.{steps_left}
use Rattle.audited_runs.proofs.Whole.{all_is_sent}

-- the same texts fit by another bound on cuts that holds
abbrev bounded : (sent : List Sent) (n m : ℕ) (told behind : List Reply) (records : List Record) (f : FitsTexts sent n told records) → told ≡ Banner ∷ behind → cuts_in f.course ≤ m → FitsTexts sent m (Banner ∷ behind) records
bounded sent n m told behind records f begins few = record {
  first = f.first;
  opens = f.opens;
  course = f.course;
  last = f.last;
  follows = f.follows;
  told = subst (IsTold f.course) begins f.told;
  recorded = f.recorded;
  few = few;
}

-- ---- what was scanned

-- a run has scanned a front of its job
text_front : (attended : Bool) (room blocks : ℕ) (form : Form) (job : List ℕ) (job_was job_is : SourceState) (was is : Sinks) (end : RunEnd) (run : IsRun attended room blocks form job_was job_is was is end) → IsWholeRun job job_was was end
    → BeginsWith (job_of job) run.scanned
text_front attended room blocks form job job_was job_is was is end run whole =
    let of = job_read job_was.left job_is.left job run.read run.reading whole.job_is run.sending.taken run.sending.at_end in
    let scans = run.sending.so_far.scans in
    begins_first job run.read of.left run.scanned scans.left of.split scans.front

-- ---- the texts

one_more : (n m : ℕ) → n ≡ m + 2 → n - 1 ≡ m + 1
one_more n m is = omega (arith, is)

module _ (attended : Bool) (room blocks : ℕ) (form : Form) (job : List ℕ) (job_was job_is : SourceState) (was is : Sinks) (end : RunEnd) (run : IsRun attended room blocks form job_was job_is was is end) (whole : IsWholeRun job job_was was end) where
  abbrev alarmed : Bool
  alarmed = run.fits.last.before.alarmed

  abbrev over : ℕ
  over = end.answered + run.sending.forgotten

  abbrev console : LeavesConsole is.console run.replies
  console = console_left attended room blocks form job job_was job_is was is end run whole

  abbrev steps : LeavesSteps is.steps run.records
  steps = steps_left attended room blocks form job job_was job_is was is end run whole

  -- ---- without an alarm

  all_sent : alarmed ≡ false → sent_in job ≡ sent_of run.lines run.rest
  all_sent calm =
      let lines = all_lines_sent attended room blocks form job job_was job_is was is end run whole calm in
      let rest = all_is_sent attended room blocks form job job_was job_is was is end run whole calm in
      sym (ap (λ (ls : List (List ℕ)). sent_of ls run.rest) lines ∙ ap (sent_of (scanned job).lines) rest)

  all_counted : alarmed ≡ false → slows_in run.scanned ≡ most_cuts job run.fits.last
  all_counted calm =
      let lines = all_lines_sent attended room blocks form job job_was job_is was is end run whole calm in
      let rest = all_is_sent attended room blocks form job job_was job_is was is end run whole calm in
      let own : slows_in run.scanned ≡ cuts_scanned (scanned job) =
      slows_counted run.scanned run.lines run.rest run.sending.is_rest ∙ ap (λ (ls : List (List ℕ)). sum_by cuts_by ls + cuts_by run.rest) lines
      ∙ ap (λ (r : List ℕ). sum_by cuts_by (scanned job).lines + cuts_by r) rest in
      own ∙ sym (ap (λ (t : Bool). cond t (cuts_with_alarm (run.fits.last.before.number - 1) job) (cuts_scanned (scanned job))) calm)

  calm_fit : alarmed ≡ false → TextsFit job (replies_text (Banner ∷ console.behind)) run.records
  calm_fit calm = record {
    behind = console.behind;
    text = refl;
    each = console.each;
    sent = sent_of run.lines run.rest;
    later = [];
    split = all_sent calm ∙ sym (append-nil (sent_of run.lines run.rest));
    cancels = slows_in run.scanned;
    fits = bounded (sent_of run.lines run.rest) (slows_in run.scanned) (slows_in run.scanned) (without_byes run.replies) console.behind run.records run.fits console.begins run.fits.few;
    counted = all_counted calm;
    over = subst (λ (t : Bool). either t (Unit {0}) (Path (List Sent) [] [])) (sym calm) refl;
  }

  -- ---- with an alarm

  few_cuts : attended ≡ false → alarmed ≡ true → cuts_in run.fits.course ≤ most_cuts job run.fits.last
  few_cuts alone alarm =
      let number = alarm_number attended room blocks form job_was job_is was is end run alarm in
      let text = text_front attended room blocks form job job_was job_is was is end run whole in
      let lines = lines_front attended room blocks form job job_was job_is was is end run whole in
      let bound = few_with_alarm job run.scanned run.lines run.rest over run.sending.is_rest text lines number.1 in
      let words = run.waited alone in
      let cuts = cuts_of_epochs run.fits.course run.drives run.effects run.doing.as_taken in
      let counts : most_cuts job run.fits.last ≡ cuts_with_alarm (over + 1) job =
      ap (λ (t : Bool). cond t (cuts_with_alarm (run.fits.last.before.number - 1) job) (cuts_scanned (scanned job))) alarm
      ∙ ap (λ (k : ℕ). cuts_with_alarm k job) (one_more run.fits.last.before.number over number.0) in
      omega (arith, bound, words, cuts, counts)

  alarm_fit : attended ≡ false → alarmed ≡ true → TextsFit job (replies_text (Banner ∷ console.behind)) run.records
  alarm_fit alone alarm =
      let front = texts_front attended room blocks form job job_was job_is was is end run whole in
      record {
        behind = console.behind;
        text = refl;
        each = console.each;
        sent = sent_of run.lines run.rest;
        later = front.rest;
        split = front.is;
        cancels = most_cuts job run.fits.last;
        fits = bounded (sent_of run.lines run.rest) (slows_in run.scanned) (most_cuts job run.fits.last) (without_byes run.replies) console.behind run.records run.fits console.begins (few_cuts alone alarm);
        counted = refl;
        over = subst (λ (t : Bool). either t (Unit {0}) (front.rest ≡ [])) (sym alarm) tt;
      }

  -- ---- what is left

  left_by : TextsFit job (replies_text (Banner ∷ console.behind)) run.records → LeavesTextsThatFit job is
  left_by fit = record {
    console = replies_text (Banner ∷ console.behind);
    steps = steps.text;
    console_held = console.held;
    steps_held = steps.held;
    events = length (events_among (records_of steps.lines));
    fit = record {
      lines = steps.lines;
      steps_are = steps.are;
      fit = subst (TextsFit job (replies_text (Banner ∷ console.behind))) (sym steps.records_are) fit;
      count = refl;
    };
  }

  pub calm_texts_fit : alarmed ≡ false → LeavesTextsThatFit job is
  calm_texts_fit calm = left_by (calm_fit calm)

  pub texts_fit : attended ≡ false → LeavesTextsThatFit job is
  texts_fit alone = by_alarm alarmed refl where
    by_alarm : (t : Bool) → alarmed ≡ t → LeavesTextsThatFit job is
    by_alarm true alarm = left_by (alarm_fit alone alarm)
    by_alarm false calm = left_by (calm_fit calm)
