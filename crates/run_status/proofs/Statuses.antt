-- Each status comes by its cause, and by that of no other.
use Rattle.std.specs.Io.KnownBytes.{Consumes}
use Rattle.std.proofs.Common.{◌≡◌, inl, inr, ℕ, zero, suc, ◌≤◌, Bool, true, false, cond, List, [], ◌++◌, length, Some, refl, sym, ap, ◌∙◌, subst, append-nil, arith}
use Rattle.run_status.specs.Setups.{Setup}
use Rattle.outside.specs.Causes.{Rose, SourceState}
use Rattle.run_rules.specs.Readings.{largest_job, job_of}
use Rattle.run_rules.specs.Told.{errors_in}
use Rattle.host_journal.specs.declared.Reading.{Reading}
use Rattle.host_journal.specs.declared.Reading.TheVariants.{Ended, Failed, Large, Stopped}
use Rattle.host_journal.specs.declared.Stop.{Stop}
use Rattle.host_journal.specs.declared.Stop.TheVariants as stops
use Rattle.host_journal.specs.Jobs.{MayHaveRead, MayLeave, ScansFront, ends_in, stop_by}
use Rattle.stream_host.specs.Ran.{is_failed}
use Rattle.run_texts.specs.Courses.{lines_in}
use Rattle.run_law.specs.declared.RunEnd.{RunEnd}
use Rattle.run_law.specs.Runs.{Sinks}
use Rattle.epoch_law.specs.Runs.{IsRun}
use Rattle.run_status.proofs.Completing.{whole_job}
use Rattle.run_status.specs.declared.Status.{Status}
use Rattle.run_status.specs.declared.Status.TheVariants.{Done, LineErrors, Usage, SourceFault, ConsoleFault, StepsFault, LongLine, Alarm, TooLarge, OutOfMemory}
use Rattle.run_status.specs.Ends.{by_errors, by_stop, status_of, EndsWith, IsWhole, IsWholeRun, IsAlarmedRun, IsFaultless, TookMore, HasCauses}
use Rattle.motion_pulse.specs.declared.pulse.Stepping.{Stepping}
use Rattle.run_status.specs.Demos.{IsDemo}
use Rattle.run_status.specs.Statuses.{SendsUpTo, HasItsCause, CanRise, CanFail, IsAlarm, IsOfJob, AreOne, TellsFaults}
use Rattle.run_status.proofs.Endings.{has_causes}
use Rattle.run_status.proofs.Stops.{IsScanned, end_means, large_means, scanned_to_end, scanned_to_long}
use Rattle.run_status.proofs.Scanning.{one_read, one_stop}

-- ---- a run has the cause of its status

not_over : (r : Reading) (n : ℕ) → (r ≡ Large → ⊥) → MayHaveRead r n → n ≤ largest_job
not_over Ended n small fits = fits
not_over Failed n small fits = fits
not_over Large n small fits = absurd (small refl)
not_over Stopped n small fits = fits

to_its_end : (r : Reading) (left : List ℕ) → is_failed r ≡ false → (r ≡ Large → ⊥) → MayLeave r left → (left ≡ []) × (r ≡ Ended)
to_its_end Ended left well small leaves = (leaves, refl)
to_its_end Failed left well small leaves = absurd cc
to_its_end Large left well small leaves = absurd (small refl)
to_its_end Stopped left well small leaves = absurd leaves

as_ended : (r : Reading) (text : List ℕ) → (r ≡ Large → ⊥) → stop_by r text ≡ stop_by Ended text
as_ended Ended text small = refl
as_ended Failed text small = refl
as_ended Large text small = absurd (small refl)
as_ended Stopped text small = refl

sends : (setup : Setup) (job_was job_is : SourceState) (was is : Sinks) (end : RunEnd) (run : IsRun setup.attended setup.room setup.blocks setup.form job_was job_is was is end) → IsScanned setup job_was job_is was is end run → end.source_failed ≡ false → (run.reading ≡ Large → ⊥)
    → SendsUpTo job_was job_is end.stop
sends setup job_was job_is was is end run by well small =
    let few : length run.read ≤ largest_job = not_over run.reading (length run.read) small run.sending.so_far.fits in
    let all : job_of run.read ≡ run.read = whole_job run.read few in
    let ends : ends_in run.scanned ≡ false → (by.scans.scans.left ≡ []) × (run.reading ≡ Ended) =
    λ none. to_its_end run.reading by.scans.scans.left (sym run.ending.failed ∙ well) small (by.scans.whole none) in
    record {
      read = run.read;
      scanned = run.scanned;
      taken = run.sending.taken;
      few = few;
      scans = subst (λ (bytes : List ℕ). ScansFront bytes run.scanned) all by.scans.scans;
      whole = λ none. (
        sym all ∙ by.scans.scans.front ∙ ap (λ (left : List ℕ). run.scanned ++ left) (ends none).0 ∙ append-nil run.scanned,
        run.sending.at_end (ends none).1,
      );
      cause = by.cause ∙ as_ended run.reading run.scanned small;
    }

-- a job is too large only where that is why no more of it is sent
not_large : (r : Reading) (stop : Stop) (text : List ℕ) → (stop ≡ stops.TooLarge → ⊥) → stop ≡ stop_by r text → r ≡ Large → ⊥
not_large r stop text other is large = other (is ∙ ap (λ q. stop_by q text) large)

by_number : (setup : Setup) (job_was job_is : SourceState) (was is : Sinks) (n : ℕ) → IsFaultless job_was job_is was is → SendsUpTo job_was job_is stops.End → IsWholeRun setup job_was job_is was is (by_errors n)
    → HasItsCause setup job_was job_is was is (by_errors n)
by_number setup job_was job_is was is zero well sends whole = (well, sends, whole)
by_number setup job_was job_is was is (suc n) well sends whole = (well, sends, whole)

whole_number : (n : ℕ) → IsWhole (by_errors n)
whole_number zero = tt
whole_number (suc n) = tt

-- where no device failed, by why no more was sent
by_why : (setup : Setup) (job_was job_is : SourceState) (was is : Sinks) (end : RunEnd) (run : IsRun setup.attended setup.room setup.blocks setup.form job_was job_is was is end) (stop : Stop) → end.source_failed ≡ false → end.stop ≡ stop
    → IsFaultless job_was job_is was is → HasCauses setup job_was job_is was is (by_stop stop end.errors) → HasItsCause setup job_was job_is was is (by_stop stop end.errors)
by_why setup job_was job_is was is end run stops.TooLarge en et well causes = (well, causes.large refl)
by_why setup job_was job_is was is end run (stops.LongLine k) en et well causes =
    let by = scanned_to_long setup job_was job_is was is end run k et in
    let small = not_large run.reading end.stop run.scanned (λ e. absurd (let f = sym et ∙ e in cc)) by.cause in
    (well, subst (SendsUpTo job_was job_is) et (sends setup job_was job_is was is end run by en small))
by_why setup job_was job_is was is end run (stops.Alarm k) en et well causes = (well, causes.alarm k refl)
by_why setup job_was job_is was is end run stops.End en et well causes =
    let by = scanned_to_end setup job_was job_is was is end run et in
    let small = not_large run.reading end.stop run.scanned (λ e. absurd (let f = sym et ∙ e in cc)) by.cause in
    by_number setup job_was job_is was is end.errors well (subst (SendsUpTo job_was job_is) et (sends setup job_was job_is was is end run by en small)) (causes.whole (whole_number end.errors))

by_faults : (setup : Setup) (job_was job_is : SourceState) (was is : Sinks) (end : RunEnd) (run : IsRun setup.attended setup.room setup.blocks setup.form job_was job_is was is end) (sf cf rf : Bool) (stop : Stop)
    → end.steps_failed ≡ sf → end.console_failed ≡ cf → end.source_failed ≡ rf → end.stop ≡ stop
    → HasCauses setup job_was job_is was is (cond sf StepsFault (cond cf ConsoleFault (cond rf SourceFault (by_stop stop end.errors))))
    → HasItsCause setup job_was job_is was is (cond sf StepsFault (cond cf ConsoleFault (cond rf SourceFault (by_stop stop end.errors))))
by_faults setup job_was job_is was is end run true cf rf stop es ec en et causes = run.recording.steps.cause es
by_faults setup job_was job_is was is end run false true rf stop es ec en et causes = (run.recording.steps.same es, run.telling.console.cause ec)
by_faults setup job_was job_is was is end run false false true stop es ec en et causes = (run.recording.steps.same es, run.telling.console.same ec, run.ending.source en)
by_faults setup job_was job_is was is end run false false false stop es ec en et causes =
    by_why setup job_was job_is was is end run stop en et (record { source = run.ending.source_same en; console = run.telling.console.same ec; steps = run.recording.steps.same es }) causes

pub has_its_cause : (setup : Setup) (job_was job_is : SourceState) (was is : Sinks) (status : Status) → EndsWith setup job_was job_is was is status → HasItsCause setup job_was job_is was is status
has_its_cause setup job_was job_is was is status ends =
    let causes : HasCauses setup job_was job_is was is (status_of ends.end) = subst (HasCauses setup job_was job_is was is) ends.status_is (has_causes setup job_was job_is was is status ends) in
    subst (HasItsCause setup job_was job_is was is) (sym ends.status_is)
    (by_faults setup job_was job_is was is ends.end ends.run ends.end.steps_failed ends.end.console_failed ends.end.source_failed ends.end.stop refl refl refl refl causes)

-- ---- and of no other

not_both : {A : Type 0} (before now : ℕ) → CanRise before → now ≡ before → Rose before now → A
not_both before now can same rose = absurd (omega (arith, can, same, rose))

-- a status is told because of why no more was sent
record IsBy (stop : Stop) (status : Status) : Type 0 where
  errors : ℕ
  is : status ≡ by_stop stop errors

-- why no more was sent of a job that is not too large: what was scanned of it says so, or an alarm came
data Rest (setup : Setup) (job_was job_is : SourceState) (was is : Sinks) (status : Status) : Type 0 where
  sent : (stop : Stop) → IsBy stop status → SendsUpTo job_was job_is stop → Rest setup job_was job_is was is status
  halted : (k : ℕ) → status ≡ Alarm k → IsAlarmedRun setup job_was job_is was is k → Rest setup job_was job_is was is status

-- the rows of the table, with those of a job that is not too large as one
data Row (setup : Setup) (job_was job_is : SourceState) (was is : Sinks) (status : Status) : Type 0 where
  steps : status ≡ StepsFault → Rose was.steps.faults is.steps.faults → Row setup job_was job_is was is status
  console : status ≡ ConsoleFault → is.steps.faults ≡ was.steps.faults → Rose was.console.faults is.console.faults → Row setup job_was job_is was is status
  source : status ≡ SourceFault → is.steps.faults ≡ was.steps.faults → is.console.faults ≡ was.console.faults → Rose job_was.faults job_is.faults → Row setup job_was job_is was is status
  large : status ≡ TooLarge → IsFaultless job_was job_is was is → TookMore job_was job_is → Row setup job_was job_is was is status
  of_job : IsFaultless job_was job_is was is → Rest setup job_was job_is was is status → Row setup job_was job_is was is status

row_of : (setup : Setup) (job_was job_is : SourceState) (was is : Sinks) (status : Status) → HasItsCause setup job_was job_is was is status → Row setup job_was job_is was is status
row_of setup job_was job_is was is StepsFault cause = steps refl cause
row_of setup job_was job_is was is ConsoleFault cause = console refl cause.0 cause.1
row_of setup job_was job_is was is SourceFault cause = source refl cause.0 cause.1 cause.2
row_of setup job_was job_is was is TooLarge cause = large refl cause.0 cause.1
row_of setup job_was job_is was is (LongLine k) cause = of_job cause.0 (sent (stops.LongLine k) (record { errors = 0; is = refl }) cause.1)
row_of setup job_was job_is was is (Alarm k) cause = of_job cause.0 (halted k refl cause.1)
row_of setup job_was job_is was is (LineErrors n) cause = of_job cause.0 (sent stops.End (record { errors = errors_in (lines_in cause.2.run.fits.course); is = cause.2.status_is }) cause.1)
row_of setup job_was job_is was is Done cause = of_job cause.0 (sent stops.End (record { errors = errors_in (lines_in cause.2.run.fits.course); is = cause.2.status_is }) cause.1)
row_of setup job_was job_is was is Usage cause = absurd cause
row_of setup job_was job_is was is OutOfMemory cause = absurd cause

-- what was read is no more than a job may have
record ReadsWithin (job_was job_is : SourceState) : Type 0 where
  read : List ℕ
  taken : Consumes job_was.left job_is.left read
  few : length read ≤ largest_job

within : (setup : Setup) (job_was job_is : SourceState) (was is : Sinks) (status : Status) → Rest setup job_was job_is was is status → ReadsWithin job_was job_is
within setup job_was job_is was is status (sent stop by sends) = record { read = sends.read; taken = sends.taken; few = sends.few }
within setup job_was job_is was is status (halted k is_limit run) =
    let small = (end_means run.run.reading run.run.scanned (sym run.going)).small in
    record { read = run.run.read; taken = run.run.sending.taken; few = not_over run.run.reading (length run.run.read) small run.run.sending.so_far.fits }

-- a job that is too large was not
not_within : {A : Type 0} (job_was job_is : SourceState) (bytes : List ℕ) → job_was.left ≡ Some bytes → TookMore job_was job_is → ReadsWithin job_was job_is → A
not_within job_was job_is bytes told more reads =
    let same : length more.read ≡ length reads.read = ap length (one_read job_was.left job_is.left bytes more.read reads.read told more.taken reads.taken) in
    absurd (let m = more.more.0 in let few = reads.few in omega (arith, same, m, few))

whole_by : (a : Status) (n : ℕ) → a ≡ by_errors n → IsWhole a
whole_by a n is = subst IsWhole (sym is) (whole_number n)

by_one_stop : (stop : Stop) (a b : Status) → IsBy stop a → IsBy stop b → AreOne a b
by_one_stop stops.End a b one other = inr (inl (whole_by a one.errors one.is, whole_by b other.errors other.is))
by_one_stop (stops.LongLine k) a b one other = inl (one.is ∙ sym other.is)
by_one_stop stops.TooLarge a b one other = inl (one.is ∙ sym other.is)
by_one_stop (stops.Alarm k) a b one other = inl (one.is ∙ sym other.is)

-- ---- beside an alarm

of_number : (n : ℕ) → IsOfJob (by_errors n)
of_number zero = tt
of_number (suc n) = tt

of_stop : (job_was job_is : SourceState) (stop : Stop) (a : Status) → IsBy stop a → SendsUpTo job_was job_is stop → IsOfJob a
of_stop job_was job_is stops.End a by sends = subst IsOfJob (sym by.is) (of_number by.errors)
of_stop job_was job_is (stops.LongLine k) a by sends = subst IsOfJob (sym by.is) tt
of_stop job_was job_is stops.TooLarge a by sends = absurd (let e = large_means Ended sends.scanned sends.cause in cc)
of_stop job_was job_is (stops.Alarm k) a by sends = subst IsOfJob (sym by.is) tt

of_rest : (setup : Setup) (job_was job_is : SourceState) (was is : Sinks) (a : Status) → Rest setup job_was job_is was is a → IsOfJob a
of_rest setup job_was job_is was is a (sent stop by sends) = of_stop job_was job_is stop a by sends
of_rest setup job_was job_is was is a (halted k e run) = subst IsOfJob (sym e) tt

one_rest : (setup : Setup) (job_was job_is : SourceState) (was is : Sinks) (bytes : List ℕ) (a b : Status) → job_was.left ≡ Some bytes → Rest setup job_was job_is was is a → Rest setup job_was job_is was is b → AreOne a b
one_rest setup job_was job_is was is bytes a b told (sent stop e sends) (sent other f sends_too) =
    let same : stop ≡ other = one_stop job_was job_is bytes stop other told sends sends_too in
    by_one_stop stop a b e (subst (λ s. IsBy s b) (sym same) f)
one_rest setup job_was job_is was is bytes a b told (sent stop e sends) (halted k f run) = inr (inr (inr (subst IsAlarm (sym f) tt), of_stop job_was job_is stop a e sends, subst IsOfJob (sym f) tt))
one_rest setup job_was job_is was is bytes a b told (halted k e run) other = inr (inr (inl (subst IsAlarm (sym e) tt), subst IsOfJob (sym e) tt, of_rest setup job_was job_is was is b other))

one_row : (setup : Setup) (job_was job_is : SourceState) (was is : Sinks) (bytes : List ℕ) (a b : Status) → job_was.left ≡ Some bytes → CanFail job_was was
    → Row setup job_was job_is was is a → Row setup job_was job_is was is b → AreOne a b
one_row setup job_was job_is was is bytes a b told can (steps e rose) (steps f rose_too) = inl (e ∙ sym f)
one_row setup job_was job_is was is bytes a b told can (steps e rose) (console f same rose_too) = not_both _ _ can.steps same rose
one_row setup job_was job_is was is bytes a b told can (steps e rose) (source f same same_too rose_too) = not_both _ _ can.steps same rose
one_row setup job_was job_is was is bytes a b told can (steps e rose) (large f well more) = not_both _ _ can.steps well.steps rose
one_row setup job_was job_is was is bytes a b told can (steps e rose) (of_job well rest) = not_both _ _ can.steps well.steps rose
one_row setup job_was job_is was is bytes a b told can (console e same rose) (steps f rose_too) = not_both _ _ can.steps same rose_too
one_row setup job_was job_is was is bytes a b told can (console e same rose) (console f same_too rose_too) = inl (e ∙ sym f)
one_row setup job_was job_is was is bytes a b told can (console e same rose) (source f steps_same same_too rose_too) = not_both _ _ can.console same_too rose
one_row setup job_was job_is was is bytes a b told can (console e same rose) (large f well more) = not_both _ _ can.console well.console rose
one_row setup job_was job_is was is bytes a b told can (console e same rose) (of_job well rest) = not_both _ _ can.console well.console rose
one_row setup job_was job_is was is bytes a b told can (source e same same_too rose) (steps f rose_too) = not_both _ _ can.steps same rose_too
one_row setup job_was job_is was is bytes a b told can (source e same same_too rose) (console f steps_same rose_too) = not_both _ _ can.console same_too rose_too
one_row setup job_was job_is was is bytes a b told can (source e same same_too rose) (source f steps_same console_same rose_too) = inl (e ∙ sym f)
one_row setup job_was job_is was is bytes a b told can (source e same same_too rose) (large f well more) = not_both _ _ can.source well.source rose
one_row setup job_was job_is was is bytes a b told can (source e same same_too rose) (of_job well rest) = not_both _ _ can.source well.source rose
one_row setup job_was job_is was is bytes a b told can (large e well more) (steps f rose) = not_both _ _ can.steps well.steps rose
one_row setup job_was job_is was is bytes a b told can (large e well more) (console f same rose) = not_both _ _ can.console well.console rose
one_row setup job_was job_is was is bytes a b told can (large e well more) (source f same same_too rose) = not_both _ _ can.source well.source rose
one_row setup job_was job_is was is bytes a b told can (large e well more) (large f well_too more_too) = inl (e ∙ sym f)
one_row setup job_was job_is was is bytes a b told can (large e well more) (of_job well_too rest) = not_within job_was job_is bytes told more (within setup job_was job_is was is b rest)
one_row setup job_was job_is was is bytes a b told can (of_job well rest) (steps f rose) = not_both _ _ can.steps well.steps rose
one_row setup job_was job_is was is bytes a b told can (of_job well rest) (console f same rose) = not_both _ _ can.console well.console rose
one_row setup job_was job_is was is bytes a b told can (of_job well rest) (source f same same_too rose) = not_both _ _ can.source well.source rose
one_row setup job_was job_is was is bytes a b told can (of_job well rest) (large f well_too more) = not_within job_was job_is bytes told more (within setup job_was job_is was is a rest)
one_row setup job_was job_is was is bytes a b told can (of_job well rest) (of_job well_too other) = one_rest setup job_was job_is was is bytes a b told rest other

pub one_cause : (setup : Setup) (job_was job_is : SourceState) (was is : Sinks) (bytes : List ℕ) (a b : Status) → job_was.left ≡ Some bytes → CanFail job_was was
    → HasItsCause setup job_was job_is was is a → HasItsCause setup job_was job_is was is b → AreOne a b
one_cause setup job_was job_is was is bytes a b told can one other =
    one_row setup job_was job_is was is bytes a b told can (row_of setup job_was job_is was is a one) (row_of setup job_was job_is was is b other)

-- ---- faults, whether or not the source tells its bytes

faults_by : (setup : Setup) (job_was job_is : SourceState) (was is : Sinks) (a : Status) → CanFail job_was was → Row setup job_was job_is was is a → TellsFaults job_was job_is was is a
faults_by setup job_was job_is was is a can (steps e rose) = record {
  steps = λ r. e;
  console = λ same r. not_both _ _ can.steps same rose;
  source = λ same same_too r. not_both _ _ can.steps same rose;
}
faults_by setup job_was job_is was is a can (console e same rose) = record {
  steps = λ r. not_both _ _ can.steps same r;
  console = λ s r. e;
  source = λ s same_too r. not_both _ _ can.console same_too rose;
}
faults_by setup job_was job_is was is a can (source e same same_too rose) = record {
  steps = λ r. not_both _ _ can.steps same r;
  console = λ s r. not_both _ _ can.console same_too r;
  source = λ s t r. e;
}
faults_by setup job_was job_is was is a can (large e well more) = record {
  steps = λ r. not_both _ _ can.steps well.steps r;
  console = λ s r. not_both _ _ can.console well.console r;
  source = λ s t r. not_both _ _ can.source well.source r;
}
faults_by setup job_was job_is was is a can (of_job well rest) = record {
  steps = λ r. not_both _ _ can.steps well.steps r;
  console = λ s r. not_both _ _ can.console well.console r;
  source = λ s t r. not_both _ _ can.source well.source r;
}

pub tells_faults : (setup : Setup) (job_was job_is : SourceState) (was is : Sinks) (status : Status) → CanFail job_was was → HasItsCause setup job_was job_is was is status → TellsFaults job_was job_is was is status
tells_faults setup job_was job_is was is status can cause = faults_by setup job_was job_is was is status can (row_of setup job_was job_is was is status cause)

-- of the generated job, in place of which the source is left as it is
demo_by : (n : ℕ) (stepping : Stepping) (job : SourceState) (was is : Sinks) (status : Status) → CanFail job was → (demo : IsDemo n stepping was.console is.console was.steps is.steps status) (sf cf : Bool)
    → demo.end.steps_failed ≡ sf → demo.console_failed ≡ cf → TellsFaults job job was is (cond sf StepsFault (cond cf ConsoleFault Done))
demo_by n stepping job was is status can demo true cf es ec = record {
  steps = λ r. refl;
  console = λ same r. not_both _ _ can.steps same (demo.run.recording.steps.cause es);
  source = λ same same_too r. not_both _ _ can.source refl r;
}
demo_by n stepping job was is status can demo false true es ec = record {
  steps = λ r. not_both _ _ can.steps (demo.run.recording.steps.same es) r;
  console = λ same r. refl;
  source = λ same same_too r. not_both _ _ can.source refl r;
}
demo_by n stepping job was is status can demo false false es ec = record {
  steps = λ r. not_both _ _ can.steps (demo.run.recording.steps.same es) r;
  console = λ same r. not_both _ _ can.console (demo.console.same ec) r;
  source = λ same same_too r. not_both _ _ can.source refl r;
}

pub demo_tells_faults : (n : ℕ) (stepping : Stepping) (job : SourceState) (was is : Sinks) (status : Status) → CanFail job was → IsDemo n stepping was.console is.console was.steps is.steps status → TellsFaults job job was is status
demo_tells_faults n stepping job was is status can demo =
    subst (TellsFaults job job was is) (sym demo.status_is) (demo_by n stepping job was is status can demo demo.end.steps_failed demo.console_failed refl refl)
