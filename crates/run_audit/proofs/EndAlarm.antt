-- An audit ends behind a line that has raised an alarm.
use Rattle.std.proofs.Common.{◌≡◌, ◌≤◌, ℕ, ◌+◌, Bool, true, false, not, ◌&&◌, List, [], ◌++◌, append-nil, length, IfOk, Ok, Err, refl, sym, ap, ◌∙◌, subst}
use Rattle.std.specs.declared.option.Option.{Option}
use Rattle.std.specs.declared.result.Result.{Result}
use Rattle.outside.specs.Causes.{SourceState}
use Rattle.step_line.specs.declared.Record.{Record}
use Rattle.run_texts.specs.Sent.{Sent}
use Rattle.audit_course.specs.SoFar.{texts_among}
use Rattle.audit_course.specs.declared.judge.CourseJudge.{CourseJudge}
use Rattle.audit_texts.specs.SoFar.{Halts, IsAllRead, JobSoFar, StaysSent, untold_of}
use Rattle.audit_texts.specs.declared.listening.Listening.{Listening}
use Rattle.audit_texts.specs.declared.recorded.Recorded.{Recorded}
use Rattle.run_audit.specs.Finding.{Leads, LeadsOnIf, Looks, ReadsOnIf}
use Rattle.run_audit.specs.OnWay.{IsLooked, IsOnWay, done_by}
use Rattle.run_audit.specs.SafePoint.{IsSince, Since, Stage}
use Rattle.run_audit.specs.SafePoint.Since.{by_line, by_reset, by_wait}
use Rattle.run_audit.specs.SafePoint.Stage.{at_safe, behind_safe}
use Rattle.run_audit.specs.UnderWay.{JudgeStays}
use Rattle.run_audit.specs.declared.auditor.Auditor.{Auditor}
use Rattle.run_audit.specs.declared.auditor.Finding.{Finding}
use Rattle.run_audit.proofs.Bounded.{numbered}
use Rattle.run_audit.proofs.LinesTold.{lines_are}

-- ---- what was read

-- where a line has raised an alarm, no more was read of the job
read_to_alarm : {a : Auditor} {j c s : SourceState} {jt ct st : List ℕ} (u : IsOnWay a j c s jt ct st) → (not a.course.unanswered && a.course.line.halts) ≡ true → (untold_of a.sending ≡ []) × (a.sending.over ≡ false)
read_to_alarm {a} {j} {c} {s} {jt} {ct} {st} u raised = by u.stage where
  by_since : (b : IsSince a u.first jt ct st u.sent u.replies) → Since a u.first jt ct st b.front b.told b.last b.safe b.later b.heard → (untold_of a.sending ≡ []) × (a.sending.over ≡ false)
  by_since b (by_line l) = (l.untold, l.read_on)
  by_since b (by_wait w) = absurd (let e : false ≡ true = sym (ap (λ (x : Bool). not x && a.course.line.halts) w.unanswered) ∙ raised in cc)
  by_since b (by_reset r) = absurd (let e : false ≡ true = sym (ap (λ (x : Bool). not x && a.course.line.halts) r.unanswered ∙ r.calm) ∙ raised in cc)

  by : Stage a u.first jt ct st u.sent u.replies → (untold_of a.sending ≡ []) × (a.sending.over ≡ false)
  by (at_safe h calm) = absurd (let e : false ≡ true = sym (ap (λ (x : Bool). not x && a.course.line.halts) h.unanswered ∙ calm) ∙ raised in cc)
  by (behind_safe b) = by_since b b.since

raised_by : (w h : Bool) → (not w && h) ≡ true → h ≡ true
raised_by true h e = absurd (let f : false ≡ true = e in cc)
raised_by false h e = e

pub is_answered : (w h : Bool) → (not w && h) ≡ true → w ≡ false
is_answered true h e = absurd (let f : false ≡ true = e in cc)
is_answered false h e = refl

-- ---- the holds behind it are counted

-- what a call answers goes on, if what it found does once something holds
pub goes_on_when : {A : Type 0} {E : Type 0} {U : Type 0} {F : A → Type 0} {G : A → Type 0} (r : Result A E) → ((x : A) → (U → F x) → G x) → (U → IfOk r F) → IfOk r G
goes_on_when (Ok x) on f = on x f
goes_on_when (Err e) on f = tt

pub ends_behind_alarm : (a b d : Auditor) (next : Option Record) (j k c s l m : SourceState) (found : Option Finding) → JudgeStays a b → b.answered ≡ a.answered → StaysSent a.sending b.sending j k → (a.sending.over ≡ false → Halts a.sending b.sending)
    → (not a.course.unanswered && a.course.line.halts) ≡ true → (IsAllRead b.sending b.course.line.halts b.course.work.number → ReadsOnIf [] (Looks b next) b d k c s k l m found) → LeadsOnIf (Looks a next) a d j c s k l m found
ends_behind_alarm a b d next j k c s l m found same same_answered sent halt raised ends = λ jt ct st short u looked n few.
    let t = read_to_alarm u raised in
    let h = halt t.1 in
    let count : texts_among (u.sent ++ untold_of a.sending) ≡ a.sending.lines = lines_are a.sending j jt u.sent u.are_read.job_so_far in
    let lines : texts_among u.sent ≡ a.sending.lines = ap texts_among (sym (append-nil u.sent) ∙ ap (λ (ss : List Sent). u.sent ++ ss) (sym t.0)) ∙ count in
    let number : a.course.work.number ≡ a.sending.lines + 1 = numbered u ∙ ap (λ (x : ℕ). x + 1) lines in
    let course = same.course in
    let all : IsAllRead b.sending b.course.line.halts b.course.work.number =
    subst (λ (x : CourseJudge). IsAllRead b.sending x.line.halts x.work.number) (sym course) (subst (λ (x : Bool). IsAllRead b.sending x a.course.work.number) (sym (raised_by a.course.unanswered a.course.line.halts raised)) (a.sending.lines, h.last, number)) in
    let is : b ≡ record a { sending = b.sending } =
    ap (λ (x : CourseJudge). record b { course = x }) course
    ∙ ap (λ (x : Listening). record b { course = a.course; listening = x }) same.listening
    ∙ ap (λ (x : Recorded). record b { course = a.course; listening = a.listening; recorded = x }) same.recorded
    ∙ ap (λ (x : Option ℕ). record b { course = a.course; listening = a.listening; recorded = a.recorded; broken = x }) same.broken
    ∙ ap (λ (x : ℕ). record b { course = a.course; listening = a.listening; recorded = a.recorded; broken = a.broken; answered = x }) same_answered in
    let on =
    subst (λ (e : Auditor). (v : IsOnWay (record e { sending = a.sending }) j c s jt ct st) → JobSoFar b.sending k jt (v.sent ++ []) → IsLooked e st v.records next → (x : ℕ) → x + length e.course.work.left ≤ done_by e v.sent v.records → Leads d k l m jt ct st x found)
    is (ends all a.sending j jt ct st short) in
    on u (subst (λ (ss : List Sent). JobSoFar b.sending k jt ss) (sym (append-nil u.sent)) (sent jt u.sent u.are_read.job_so_far)) looked n few
