-- How a run ends, by what it told at its end.
use Rattle.std.proofs.Common.{◌≡◌, ◌≢◌, ℕ, zero, suc, ◌≤◌, inl, inr, Bool, true, false, cond, List, [], ◌∷◌, ◌++◌, length, nat_lt, refl, sym, ap, ◌∙◌, subst, append-nil, length-append, arith}
use Rattle.std.specs.List.{AllByRecursion, list_any}
use Rattle.std.proofs.lemmas.Bool.Decides.{nat_tests}
use Rattle.std.proofs.lemmas.List.{nil_from_length, take_all}
use Rattle.run_status.specs.Setups.{Setup}
use Rattle.outside.specs.Causes.{SourceState}
use Rattle.run_rules.specs.Lines.{lines_of}
use Rattle.run_rules.specs.Readings.{largest_job, job_of}
use Rattle.run_rules.specs.Told.{replies_text}
use Rattle.run_rules.proofs.Cutting.{lines_are}
use Rattle.host_journal.specs.declared.Reading.{Reading}
use Rattle.host_journal.specs.declared.Reading.TheVariants.{Ended, Failed, Large, Stopped}
use Rattle.host_journal.specs.declared.Stop.{Stop}
use Rattle.host_journal.specs.declared.Stop.TheVariants as stops
use Rattle.host_journal.specs.Jobs.{MayHaveRead, MayLeave, ends_sending, is_long, lines_to_send}
use Rattle.stream_host.specs.Ran.{is_failed}
use Rattle.stream_host.proofs.Pieces.{all_are_sent, neither}
use Rattle.run_law.specs.declared.RunEnd.{RunEnd}
use Rattle.run_law.specs.Runs.{Sinks}
use Rattle.epoch_law.specs.Ran.{IsRest}
use Rattle.epoch_law.specs.Runs.{IsRun}
use Rattle.run_status.specs.declared.Status.{Status}
use Rattle.run_status.specs.declared.Status.TheVariants.{SourceFault, ConsoleFault, StepsFault, LongLine, Alarm, TooLarge}
use Rattle.run_status.specs.Ends.{by_errors, by_stop, EndsWith, IsAlarmedRun, JobWasRun, HasCauses}
use Rattle.run_status.proofs.Completing.{complete}
use Rattle.run_status.proofs.Stops.{end_means, large_means, long_means, by_end, by_job, scanned_to_long}
use Rattle.run_status.proofs.Halting.{whole_text, halted_run}

-- ---- a job that was sent to its end

none_ends : (lines : List (List ℕ)) → list_any is_long lines ≡ false → AllByRecursion (λ l. ends_sending l ≡ false) lines
none_ends [] e = tt
none_ends (l ∷ ls) e = let p = neither (is_long l) (list_any is_long ls) e in (p.0, none_ends ls p.1)

read_to_end : (r : Reading) (text left : List ℕ) → is_failed r ≡ false → (r ≡ Large → ⊥) → MayLeave r left → r ≡ Ended
read_to_end Ended text left well small leaves = refl
read_to_end Failed text left well small leaves = absurd cc
read_to_end Large text left well small leaves = absurd (small refl)
read_to_end Stopped text left well small leaves = absurd leaves

-- behind all lines of a text no rest is left
none_left : (text : List ℕ) (lines : List (List ℕ)) (rest : List ℕ) → IsRest text lines rest → lines ≡ lines_of text → rest ≡ []
none_left text lines rest (inl is) all = by_length (nat_lt 0 (length rest)) refl (lines_are text lines rest is)
  where
    by_length : (t : Bool) → nat_lt 0 (length rest) ≡ t → lines_of text ≡ lines ++ cond t (rest ∷ []) [] → rest ≡ []
    by_length false e are = let none_long : length rest ≡ 0 = grind (arith, nat_tests, e) in nil_from_length rest none_long
    by_length true e are = absurd (let long = ap length are in let same = ap length all in let both = length-append lines (rest ∷ []) in omega (arith, long, same, both))
none_left text lines rest (inr over) all = over.1

-- all of it was read, and each of its lines sent
pub record SentAll (setup : Setup) (job_was job_is : SourceState) (was is : Sinks) (end : RunEnd) (run : IsRun setup.attended setup.room setup.blocks setup.form job_was job_is was is end) : Type 0 where
  pub over : run.reading ≡ Ended
  pub few : length run.read ≤ largest_job
  pub lines : run.lines ≡ lines_of run.read
  pub all : run.read ≡ run.scanned
  pub rest : run.rest ≡ []

pub sent_all : (setup : Setup) (job_was job_is : SourceState) (was is : Sinks) (end : RunEnd) (run : IsRun setup.attended setup.room setup.blocks setup.form job_was job_is was is end) → end.source_failed ≡ false → end.stop ≡ stops.End
    → SentAll setup job_was job_is was is end run
sent_all setup job_was job_is was is end run well stop =
    let by = by_end setup job_was job_is was is end run stop in
    let sent = run.sending.sent by.none in
    let why = end_means run.reading run.scanned by.end in
    let leaves = sent.scans.whole why.short in
    let over : run.reading ≡ Ended = read_to_end run.reading run.scanned sent.scans.scans.left (sym run.ending.failed ∙ well) why.small leaves in
    let few : length run.read ≤ largest_job = subst (λ r. MayHaveRead r (length run.read)) over sent.fits in
    let whole : job_of run.read ≡ run.read = take_all largest_job run.read few in
    let none : sent.scans.scans.left ≡ [] = subst (λ r. MayLeave r sent.scans.scans.left) over leaves in
    let all : run.read ≡ run.scanned = sym whole ∙ sent.scans.scans.front ∙ ap (λ (x : List ℕ). run.scanned ++ x) none ∙ append-nil run.scanned in
    let short : AllByRecursion (λ l. ends_sending l ≡ false) (lines_of run.read) =
    subst (λ (x : List ℕ). AllByRecursion (λ l. ends_sending l ≡ false) (lines_of x)) (sym all) (none_ends (lines_of run.scanned) why.short) in
    let lines : run.lines ≡ lines_of run.read = sent.sent ∙ ap (λ r. lines_to_send r (job_of run.read)) over ∙ ap (lines_to_send Ended) whole ∙ all_are_sent Ended run.read short in
    record {
      over = over;
      few = few;
      all = all;
      lines = lines;
      rest = none_left run.scanned run.lines run.rest run.sending.is_rest (lines ∙ ap lines_of all);
    }

-- ---- the causes

pub by_errors_not : (n : ℕ) → (by_errors n ≢ SourceFault) × (by_errors n ≢ ConsoleFault) × (by_errors n ≢ StepsFault) × (by_errors n ≢ TooLarge) × ((k : ℕ) → by_errors n ≢ LongLine k) × ((k : ℕ) → by_errors n ≢ Alarm k)
by_errors_not zero = ((λ e. cc), (λ e. cc), (λ e. cc), (λ e. cc), (λ k e. cc), (λ k e. cc))
by_errors_not (suc n) = ((λ e. cc), (λ e. cc), (λ e. cc), (λ e. cc), (λ k e. cc), (λ k e. cc))

pub errors_have_run : (n : ℕ) → JobWasRun (by_errors n)
errors_have_run zero = tt
errors_have_run (suc n) = tt

-- by what failed, and why no more of the job was sent
by_cases : (setup : Setup) (job_was job_is : SourceState) (was is : Sinks) (end : RunEnd) (run : IsRun setup.attended setup.room setup.blocks setup.form job_was job_is was is end) (steps_failed console_failed source_failed : Bool) (stop : Stop)
    → end.steps_failed ≡ steps_failed → end.console_failed ≡ console_failed → end.source_failed ≡ source_failed → end.stop ≡ stop
    → HasCauses setup job_was job_is was is (cond steps_failed StepsFault (cond console_failed ConsoleFault (cond source_failed SourceFault (by_stop stop end.errors))))
by_cases setup job_was job_is was is end run true cf nf stop es ec en et = record {
  has_run = tt;
  source = λ e. absurd cc;
  console = λ e. absurd cc;
  steps = λ e. run.recording.steps.cause es;
  large = λ e. absurd cc;
  long = λ k e. absurd cc;
  alarm = λ k e. absurd cc;
  whole = λ w. absurd w;
  faultless = λ w. absurd w;
  complete = λ job source console steps. absurd (steps (run.recording.steps.cause es));
}
by_cases setup job_was job_is was is end run false true nf stop es ec en et = record {
  has_run = tt;
  source = λ e. absurd cc;
  console = λ e. run.telling.console.cause ec;
  steps = λ e. absurd cc;
  large = λ e. absurd cc;
  long = λ k e. absurd cc;
  alarm = λ k e. absurd cc;
  whole = λ w. absurd w;
  faultless = λ w. absurd w;
  complete = λ job source console steps. absurd (console (run.telling.console.cause ec));
}
by_cases setup job_was job_is was is end run false false true stop es ec en et = record {
  has_run = tt;
  source = λ e. run.ending.source en;
  console = λ e. absurd cc;
  steps = λ e. absurd cc;
  large = λ e. absurd cc;
  long = λ k e. absurd cc;
  alarm = λ k e. absurd cc;
  whole = λ w. absurd w;
  faultless = λ w. absurd w;
  complete = λ job source console steps. absurd (source (run.ending.source en));
}
by_cases setup job_was job_is was is end run false false false stops.TooLarge es ec en et = record {
  has_run = tt;
  source = λ e. absurd cc;
  console = λ e. absurd cc;
  steps = λ e. absurd cc;
  large = λ e. record {
    read = run.read;
    taken = run.sending.taken;
    more = subst (λ r. MayHaveRead r (length run.read)) (large_means run.reading run.scanned (by_job setup job_was job_is was is end run stops.TooLarge (λ e. cc) (λ j e. cc) et)) run.sending.so_far.fits;
  };
  long = λ k e. absurd cc;
  alarm = λ k e. absurd cc;
  whole = λ w. absurd w;
  faultless = λ w. absurd w;
  complete = λ job source console steps. absurd (let e = sym (complete setup job_was job_is was is end run job en).stop ∙ et in cc);
}
by_cases setup job_was job_is was is end run false false false (stops.LongLine k) es ec en et = record {
  has_run = tt;
  source = λ e. absurd cc;
  console = λ e. absurd cc;
  steps = λ e. absurd cc;
  large = λ e. absurd cc;
  long = λ j e.
      let by = scanned_to_long setup job_was job_is was is end run k et in let why = long_means k run.reading run.scanned (sym et ∙ by.cause) in let same : j ≡ k = cc in record {
        read = run.read;
        reading = run.reading;
        scanned = run.scanned;
        taken = run.sending.taken;
        scans = by.scans;
        some = why.0;
        first = same ∙ why.1;
      };
  alarm = λ k e. absurd cc;
  whole = λ w. absurd w;
  faultless = λ w. absurd w;
  complete = λ job source console steps. absurd (let e = sym (complete setup job_was job_is was is end run job en).stop ∙ et in cc);
}
by_cases setup job_was job_is was is end run false false false (stops.Alarm k) es ec en et = record {
  has_run = tt;
  source = λ e. absurd cc;
  console = λ e. absurd cc;
  steps = λ e. absurd cc;
  large = λ e. absurd cc;
  long = λ j e. absurd cc;
  alarm = λ j e. let same : k ≡ j = cc in subst (IsAlarmedRun setup job_was job_is was is) same (halted_run setup job_was job_is was is end run k es ec et);
  whole = λ w. absurd w;
  faultless = λ w. absurd w;
  complete = λ job source console steps. absurd (let e = sym (complete setup job_was job_is was is end run job en).stop ∙ et in cc);
}
by_cases setup job_was job_is was is end run false false false stops.End es ec en et =
    let none = by_errors_not end.errors in let all = sent_all setup job_was job_is was is end run en et in let by = by_end setup job_was job_is was is end run et in
    record {
      has_run = errors_have_run end.errors;
      source = λ e. absurd (none.0 e);
      console = λ e. absurd (none.1 e);
      steps = λ e. absurd (none.2 e);
      large = λ e. absurd (none.3 e);
      long = λ k e. absurd (none.4 k e);
      alarm = λ k e. absurd (none.5 k e);
      whole = λ w. record {
        end = end;
        run = run;
        at_end = run.sending.at_end all.over;
        few = all.few;
        scanned = sym all.all;
        lines = all.lines;
        rest = all.rest;
        calm = sym run.telling.alarm ∙ by.none;
        console = whole_text was.console is.console end.console_failed (replies_text run.replies) ec run.telling.console;
        steps = whole_text was.steps is.steps end.steps_failed _ es run.recording.steps;
        status_is = ap by_errors run.telling.errors;
      };
      faultless = λ w. record { source = run.ending.source_same en; console = run.telling.console.same ec; steps = run.recording.steps.same es };
      complete = λ job source console steps. ap by_errors (complete setup job_was job_is was is end run job en).errors;
    }

pub has_causes : (setup : Setup) (job_was job_is : SourceState) (was is : Sinks) (status : Status) → EndsWith setup job_was job_is was is status → HasCauses setup job_was job_is was is status
has_causes setup job_was job_is was is status ends =
    rw ends.status_is (by_cases setup job_was job_is was is ends.end ends.run ends.end.steps_failed ends.end.console_failed ends.end.source_failed ends.end.stop refl refl refl refl)
