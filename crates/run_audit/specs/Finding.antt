-- What an audit has found, before and after its texts are read to their ends.
use Rattle.std.specs.Prelude.{◌≡◌, ◌≤◌, ◌<◌, ◌⊎◌, ℕ, ◌+◌, Bool, true, false, not, nat_eq, ◌&&◌, List, ◌∷◌, ◌++◌, length, Some, None}
use Rattle.std.specs.declared.option.Option.{Option}
use Rattle.outside.specs.Causes.{SourceState}
use Rattle.status_report.specs.declared.Message.TheVariants.{Locked}
use Rattle.status_report.specs.declared.Reply.{Reply}
use Rattle.status_report.specs.declared.Reply.TheVariants.{Alarm, Banner, Message}
use Rattle.step_line.specs.declared.Record.{Record}
use Rattle.run_rules.specs.Work.{Task}
use Rattle.run_rules.specs.Work.Task.{tell}
use Rattle.run_texts.specs.Sent.{Sent}
use Rattle.audit_rules.specs.Findings.{BreaksAt, FitsWith, IsTooLong}
use Rattle.audit_rules.specs.Scanned.{sent_in}
use Rattle.audit_rules.specs.declared.Audit.{Audit}
use Rattle.audit_rules.specs.declared.Audit.TheVariants as audits
use Rattle.audit_rules.specs.Telling.{ConsoleStands, HasAlarm, HasBadReply}
use Rattle.audit_course.specs.declared.judge.CourseJudge.{CourseJudge}
use Rattle.audit_texts.specs.SoFar.{IsItem, IsWhole, JobSoFar}
use Rattle.audit_texts.specs.declared.listening.Listening.{Listening}
use Rattle.audit_texts.specs.declared.sending.Item.TheVariants.{Nothing}
use Rattle.audit_texts.specs.declared.sending.Sending.{Sending}
use Rattle.run_audit.specs.OnWay.{IsLooked, IsOnWay, HearsNext, done_by}
use Rattle.run_audit.specs.declared.auditor.Auditor.{Auditor}
use Rattle.run_audit.specs.declared.auditor.Finding.{Finding}
use Rattle.run_audit.specs.declared.auditor.Finding.TheVariants.{Fits, Misfit, BadReplies, Foreign, TooLong}

-- ---- what is found

-- an alarm is to be told next
abbrev pub alarm_next : List Task → Bool
alarm_next (tell (Alarm n) ∷ ts) = true
alarm_next _ = false

-- the line at hand has raised an alarm, which is told
abbrev pub has_told_alarm : CourseJudge → Bool
has_told_alarm j = (not j.unanswered && j.line.halts) && not (alarm_next j.work.left)

-- a reply is told at a reset, and belongs to no line
abbrev pub is_greeting : Reply → Bool
is_greeting Banner = true
is_greeting (Alarm n) = nat_eq n 3
is_greeting (Message Locked) = true
is_greeting _ = false

-- how it is answered
abbrev pub audit_of : Finding → Audit
audit_of (Fits events) = audits.Fits events
audit_of (Misfit at) = audits.Misfit at
audit_of (BadReplies line) = audits.BadReplies line
audit_of (Foreign line) = audits.Foreign line
audit_of TooLong = audits.TooLong

-- it is so, if each line that is sent is audited, and no text is too long
abbrev pub FindsSo : List ℕ → List ℕ → List ℕ → Finding → Type 0
FindsSo job console steps (Fits events) = FitsWith job console steps events
FindsSo job console steps (Misfit at) = ConsoleStands (sent_in job) console steps × BreaksAt job console steps at
FindsSo job console steps (BadReplies line) = HasBadReply (sent_in job) console steps line
FindsSo job console steps (Foreign line) = ⊥
FindsSo job console steps TooLong = ⊥

-- If the line at hand has told its alarm, it is the one that raises the alarm of a soft limit, and the last that was read; else none
-- does.
abbrev pub KnowsAlarm : Auditor → List ℕ → List ℕ → List ℕ → Bool → Type 0
KnowsAlarm a job console steps true = HasAlarm (sent_in job) console steps a.sending.lines
KnowsAlarm a job console steps false = (k : ℕ) → HasAlarm (sent_in job) console steps k → ⊥

-- the job is not read on
abbrev pub IsSettled : Auditor → Type 0
IsSettled a = (has_told_alarm a.course ≡ true) ⊎ ((a.sending.over ≡ true) × IsItem Nothing a.sending)

-- Something was found: it is so, or so if each line that was read is audited, and none is read on. Lines that an alarm ends were left
-- unread only where it is told.
pub record IsFound (a : Auditor) (job console steps : List ℕ) (found : Finding) : Type 0 where
  pub finds : FindsSo job console steps found ⊎ (IsSettled a × (a.sending.foreign ≡ 0 → FindsSo job console steps found))
  pub alarm : KnowsAlarm a job console steps (has_told_alarm a.course)
  pub calm : has_told_alarm a.course ≡ false → a.sending.last ≡ None

-- ---- one step more

-- It is on its way, with more done than so many steps; or something was found.
abbrev pub Leads : Auditor → (job console steps : SourceState) (job_text console_text steps_text : List ℕ) → ℕ → Option Finding → Type 0
Leads b job console steps jt ct st n None = (v : IsOnWay b job console steps jt ct st) × (n + length b.course.work.left < done_by b v.sent v.records)
Leads b job console steps jt ct st n (Some found) = IsFound b jt ct st found

-- One step more of an audit of texts of which none is too long, where this holds of them and of what was told. So many steps were
-- done before it.
abbrev pub LeadsOnIf : ((jt ct st : List ℕ) → List Sent → List Reply → List Record → Type 0) → Auditor → Auditor → (job console steps job_now console_now steps_now : SourceState) → Option Finding → Type 0
LeadsOnIf p a b job console steps job_now console_now steps_now found =
    (jt ct st : List ℕ) → (IsTooLong ct st → ⊥) → (u : IsOnWay a job console steps jt ct st) → p jt ct st u.sent u.replies u.records
    → (n : ℕ) → n + length a.course.work.left ≤ done_by a u.sent u.records → Leads b job_now console_now steps_now jt ct st n found

-- The same where the job was read on, and of it the judge was not told this.
abbrev pub ReadsOnIf : List Sent → ((jt ct st : List ℕ) → List Sent → List Reply → List Record → Type 0) → Auditor → Auditor → (job console steps job_now console_now steps_now : SourceState) → Option Finding → Type 0
ReadsOnIf dropped p a b job console steps job_now console_now steps_now found =
    (earlier : Sending) (before : SourceState) (jt ct st : List ℕ) → (IsTooLong ct st → ⊥) → (u : IsOnWay (record a { sending = earlier }) before console steps jt ct st) → JobSoFar a.sending job jt (u.sent ++ dropped)
    → p jt ct st u.sent u.replies u.records → (n : ℕ) → n + length a.course.work.left ≤ done_by a u.sent u.records → Leads b job_now console_now steps_now jt ct st n found

-- the record that comes next was looked at
abbrev pub Looks : Auditor → Option Record → (jt ct st : List ℕ) → List Sent → List Reply → List Record → Type 0
Looks a next jt ct st sent replies records = IsLooked a st records next

-- and what the console tells next
abbrev pub LooksAndHears : Auditor → Option Record → Option Reply → (jt ct st : List ℕ) → List Sent → List Reply → List Record → Type 0
LooksAndHears a next known jt ct st sent replies records = IsLooked a st records next × HearsNext known ct replies

-- the record that comes next is found, and as much is done as before
abbrev pub LooksOn : Auditor → Auditor → (steps steps_now : SourceState) → Option Record → Type 0
LooksOn a b steps steps_now found =
    (job console : SourceState) (jt ct st : List ℕ) → (IsTooLong ct st → ⊥) → (u : IsOnWay a job console steps jt ct st) → (n : ℕ) → n + length a.course.work.left ≤ done_by a u.sent u.records
    → (v : IsOnWay b job console steps_now jt ct st) × IsLooked b st v.records found × (n + length b.course.work.left ≤ done_by b v.sent v.records)

-- The last step, where the console was read to its end and tells what was told and nothing else, and the job was read on.
abbrev pub EndsSteps : Auditor → Auditor → (steps : SourceState) → Option Record → Option Finding → Type 0
EndsSteps a b steps next None = ⊥
EndsSteps a b steps next (Some found) =
    (heard : Listening) (earlier : Sending) (before job console : SourceState) (jt ct st : List ℕ) → (IsTooLong ct st → ⊥) → (u : IsOnWay (record a { listening = heard; sending = earlier }) before console steps jt ct st)
    → JobSoFar a.sending job jt u.sent → IsWhole ct u.replies → IsLooked a st u.records next → IsFound b jt ct st found
