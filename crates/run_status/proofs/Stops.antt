-- Why no more of a job was sent: by the job itself, or by an alarm.
use Rattle.std.proofs.Common.{◌≡◌, ℕ, ◌+◌, Bool, true, false, cond, List, length, refl, sym, ◌∙◌}
use Rattle.std.specs.List.{list_any, take_while}
use Rattle.run_status.specs.Setups.{Setup}
use Rattle.outside.specs.Causes.{SourceState}
use Rattle.run_rules.specs.Lines.{lines_of}
use Rattle.run_rules.specs.Readings.{job_of}
use Rattle.run_texts.specs.Told.{has_alarm}
use Rattle.host_journal.specs.declared.Reading.{Reading}
use Rattle.host_journal.specs.declared.Reading.TheVariants.{Ended, Failed, Large, Stopped}
use Rattle.host_journal.specs.declared.Stop.{Stop}
use Rattle.host_journal.specs.declared.Stop.TheVariants as stops
use Rattle.host_journal.specs.Jobs.{MayScan, ScansFront, is_long, is_sent, long_line, stop_by}
use Rattle.host_journal.specs.Steps.{or_alarm}
use Rattle.run_law.specs.declared.RunEnd.{RunEnd}
use Rattle.run_law.specs.Runs.{Sinks}
use Rattle.epoch_law.specs.Runs.{IsRun}

-- ---- by the job

no_cause : (long : Bool) (lines : List (List ℕ)) → stops.End ≡ cond long (long_line lines) stops.End → long ≡ false
no_cause true lines e = absurd cc
no_cause false lines e = refl

-- to the end of the job: it is not too large, and no line is too long
pub record MeansEnd (r : Reading) (lines : List (List ℕ)) : Type 0 where
  pub short : list_any is_long lines ≡ false
  pub small : r ≡ Large → ⊥

pub end_means : (r : Reading) (text : List ℕ) → stops.End ≡ stop_by r text → MeansEnd r (lines_of text)
end_means Ended text e = record { short = no_cause (list_any is_long (lines_of text)) (lines_of text) e; small = λ x. cc }
end_means Failed text e = record { short = no_cause (list_any is_long (lines_of text)) (lines_of text) e; small = λ x. cc }
end_means Large text e = absurd cc
end_means Stopped text e = record { short = no_cause (list_any is_long (lines_of text)) (lines_of text) e; small = λ x. cc }

not_large : {A : Type 0} (t : Bool) (lines : List (List ℕ)) → stops.TooLarge ≡ cond t (long_line lines) stops.End → A
not_large true lines e = absurd cc
not_large false lines e = absurd cc

pub large_means : (r : Reading) (text : List ℕ) → stops.TooLarge ≡ stop_by r text → r ≡ Large
large_means Ended text e = not_large (list_any is_long (lines_of text)) (lines_of text) e
large_means Failed text e = not_large (list_any is_long (lines_of text)) (lines_of text) e
large_means Large text e = refl
large_means Stopped text e = not_large (list_any is_long (lines_of text)) (lines_of text) e

one_long : (k : ℕ) (t : Bool) (lines : List (List ℕ)) → stops.LongLine k ≡ cond t (long_line lines) stops.End → (t ≡ true) × (k ≡ length (take_while is_sent lines) + 1)
one_long k true lines e = (refl, cc)
one_long k false lines e = absurd cc

pub long_means : (k : ℕ) (r : Reading) (text : List ℕ) → stops.LongLine k ≡ stop_by r text
    → (list_any is_long (lines_of text) ≡ true) × (k ≡ length (take_while is_sent (lines_of text)) + 1)
long_means k Ended text e = one_long k (list_any is_long (lines_of text)) (lines_of text) e
long_means k Failed text e = one_long k (list_any is_long (lines_of text)) (lines_of text) e
long_means k Large text e = absurd cc
long_means k Stopped text e = one_long k (list_any is_long (lines_of text)) (lines_of text) e

-- the job itself raises no alarm
no_alarm : {A : Type 0} (k : ℕ) (t : Bool) (lines : List (List ℕ)) → stops.Alarm k ≡ cond t (long_line lines) stops.End → A
no_alarm k true lines e = absurd cc
no_alarm k false lines e = absurd cc

never_alarm : {A : Type 0} (k : ℕ) (r : Reading) (text : List ℕ) → stops.Alarm k ≡ stop_by r text → A
never_alarm k Ended text e = no_alarm k (list_any is_long (lines_of text)) (lines_of text) e
never_alarm k Failed text e = no_alarm k (list_any is_long (lines_of text)) (lines_of text) e
never_alarm k Large text e = absurd cc
never_alarm k Stopped text e = no_alarm k (list_any is_long (lines_of text)) (lines_of text) e

-- ---- by the job, or by an alarm

-- no alarm was got, and nothing of the job ends the sending
pub record IsByEnd (alarm : Bool) (stop : Stop) : Type 0 where
  pub none : alarm ≡ false
  pub end : stops.End ≡ stop

end_is : (alarm : Bool) (n : ℕ) (stop : Stop) → stops.End ≡ or_alarm alarm n stop → IsByEnd alarm stop
end_is true n stops.End e = absurd cc
end_is true n (stops.LongLine k) e = absurd cc
end_is true n stops.TooLarge e = absurd cc
end_is true n (stops.Alarm k) e = absurd cc
end_is false n stops.End e = record { none = refl; end = refl }
end_is false n (stops.LongLine k) e = absurd cc
end_is false n stops.TooLarge e = absurd cc
end_is false n (stops.Alarm k) e = absurd cc

-- an alarm was got, behind so many lines, and nothing of the job ends the sending
pub record IsByAlarm (alarm : Bool) (n k : ℕ) (stop : Stop) : Type 0 where
  pub got : alarm ≡ true
  pub line : k ≡ n + 1
  pub end : stops.End ≡ stop

alarm_is : (alarm : Bool) (n k : ℕ) (stop : Stop) → ((j : ℕ) → stops.Alarm j ≡ stop → ⊥) → stops.Alarm k ≡ or_alarm alarm n stop → IsByAlarm alarm n k stop
alarm_is true n k stops.End never e = record { got = refl; line = cc; end = refl }
alarm_is true n k (stops.LongLine j) never e = absurd cc
alarm_is true n k stops.TooLarge never e = absurd cc
alarm_is true n k (stops.Alarm j) never e = absurd (never j refl)
alarm_is false n k stops.End never e = absurd cc
alarm_is false n k (stops.LongLine j) never e = absurd cc
alarm_is false n k stops.TooLarge never e = absurd cc
alarm_is false n k (stops.Alarm j) never e = absurd (never j refl)

-- neither of these
other_is : (alarm : Bool) (n : ℕ) (stop told : Stop) → (told ≡ stops.End → ⊥) → ((k : ℕ) → told ≡ stops.Alarm k → ⊥) → told ≡ or_alarm alarm n stop → told ≡ stop
other_is true n stops.End told some other e = absurd (other (n + 1) e)
other_is true n (stops.LongLine k) told some other e = e
other_is true n stops.TooLarge told some other e = e
other_is true n (stops.Alarm k) told some other e = e
other_is false n stops.End told some other e = absurd (some e)
other_is false n (stops.LongLine k) told some other e = e
other_is false n stops.TooLarge told some other e = e
other_is false n (stops.Alarm k) told some other e = e

-- ---- of a run

pub by_end : (setup : Setup) (job_was job_is : SourceState) (was is : Sinks) (end : RunEnd) (run : IsRun setup.attended setup.room setup.blocks setup.form job_was job_is was is end) → end.stop ≡ stops.End
    → IsByEnd (has_alarm run.replies) (stop_by run.reading run.scanned)
by_end setup job_was job_is was is end run et = end_is (has_alarm run.replies) (end.answered + run.sending.forgotten) (stop_by run.reading run.scanned) (sym et ∙ run.ending.stop)

pub by_alarm : (setup : Setup) (job_was job_is : SourceState) (was is : Sinks) (end : RunEnd) (run : IsRun setup.attended setup.room setup.blocks setup.form job_was job_is was is end) (k : ℕ) → end.stop ≡ stops.Alarm k
    → IsByAlarm (has_alarm run.replies) (end.answered + run.sending.forgotten) k (stop_by run.reading run.scanned)
by_alarm setup job_was job_is was is end run k et =
    alarm_is (has_alarm run.replies) (end.answered + run.sending.forgotten) k (stop_by run.reading run.scanned) (λ j e. never_alarm j run.reading run.scanned e) (sym et ∙ run.ending.stop)

pub by_job : (setup : Setup) (job_was job_is : SourceState) (was is : Sinks) (end : RunEnd) (run : IsRun setup.attended setup.room setup.blocks setup.form job_was job_is was is end) (told : Stop)
    → (told ≡ stops.End → ⊥) → ((k : ℕ) → told ≡ stops.Alarm k → ⊥) → end.stop ≡ told → told ≡ stop_by run.reading run.scanned
by_job setup job_was job_is was is end run told some other et =
    other_is (has_alarm run.replies) (end.answered + run.sending.forgotten) (stop_by run.reading run.scanned) told some other (sym et ∙ run.ending.stop)

-- The job was scanned up to where the sending ends, and that is why no more of it was sent.
pub record IsScanned (setup : Setup) (job_was job_is : SourceState) (was is : Sinks) (end : RunEnd) (run : IsRun setup.attended setup.room setup.blocks setup.form job_was job_is was is end) : Type 0 where
  pub scans : MayScan run.reading (job_of run.read) run.scanned
  pub cause : end.stop ≡ stop_by run.reading run.scanned

-- at its end
pub scanned_to_end : (setup : Setup) (job_was job_is : SourceState) (was is : Sinks) (end : RunEnd) (run : IsRun setup.attended setup.room setup.blocks setup.form job_was job_is was is end) → end.stop ≡ stops.End → IsScanned setup job_was job_is was is end run
scanned_to_end setup job_was job_is was is end run et =
    let sent = run.sending.sent (by_end setup job_was job_is was is end run et).none in
    record { scans = sent.scans; cause = sent.cause }

-- in a line that is too long
long_is_whole : (r : Reading) (job text : List ℕ) → ScansFront job text → list_any is_long (lines_of text) ≡ true → MayScan r job text
long_is_whole r job text scans some = record { scans = scans; whole = λ none. absurd (let e = sym some ∙ none in cc) }

pub scanned_to_long : (setup : Setup) (job_was job_is : SourceState) (was is : Sinks) (end : RunEnd) (run : IsRun setup.attended setup.room setup.blocks setup.form job_was job_is was is end) (k : ℕ) → end.stop ≡ stops.LongLine k
    → IsScanned setup job_was job_is was is end run
scanned_to_long setup job_was job_is was is end run k et =
    let cause = by_job setup job_was job_is was is end run (stops.LongLine k) (λ e. cc) (λ j e. cc) et in
    let why = long_means k run.reading run.scanned cause in
    record { scans = long_is_whole run.reading (job_of run.read) run.scanned run.sending.so_far.scans why.0; cause = et ∙ cause }
