-- Texts are read on, and the audit stays on its way.
use Rattle.std.proofs.Common.{◌≡◌, ℕ, Bool, true, false, not, ◌&&◌, List, [], refl, ◌∙◌}
use Rattle.outside.specs.Causes.{SourceState}
use Rattle.status_report.specs.declared.Reply.{Reply}
use Rattle.step_line.specs.declared.Record.{Record}
use Rattle.run_rules.specs.declared.State.{State}
use Rattle.run_texts.specs.Sent.{Sent}
use Rattle.audit_rules.proofs.OneWay.{both}
use Rattle.audit_texts.specs.SoFar.{JobSoFar, StaysRecorded, StaysTold}
use Rattle.audit_texts.specs.declared.listening.Listening.{Listening}
use Rattle.audit_texts.specs.declared.recorded.Recorded.{Recorded}
use Rattle.audit_texts.specs.declared.sending.Sending.{Sending}
use Rattle.run_audit.specs.OnWay.{IsOnWay, Phase}
use Rattle.run_audit.specs.OnWay.Phase.{broken, counting}
use Rattle.run_audit.specs.SafePoint.{IsHere, IsSince, Since, Stage}
use Rattle.run_audit.specs.SafePoint.Since.{by_line, by_reset, by_wait}
use Rattle.run_audit.specs.SafePoint.Stage.{at_safe, behind_safe}
use Rattle.run_audit.specs.declared.auditor.Auditor.{Auditor}
use Rattle.run_audit.proofs.SafeNow.{here_by, none_halts}
use Rattle.run_audit.proofs.StageOn.{same_judge, stage_as}

-- What was told of the texts stays, whatever is read of them.
pub phase_read : (a : Auditor) (q : Sending) (l : Listening) (r : Recorded) (first : State) (jt ct st : List ℕ) (sent : List Sent) (replies : List Reply) (records : List Record) → Phase a first jt ct st sent replies records
    → Phase (record a { sending = q; listening = l; recorded = r }) first jt ct st sent replies records
phase_read a q l r first jt ct st sent replies records (counting d) = counting (record { counts = d.counts; judged = d.judged; early = d.early; stops = d.stops })
phase_read a q l r first jt ct st sent replies records (broken d) = broken (record {
  at = d.at;
  broken = d.broken;
  front = d.front;
  later = d.later;
  sent_is = d.sent_is;
  told = d.told;
  point = d.point;
  since = d.since;
  begun = d.begun;
  none_begun = d.none_begun;
  place = d.place;
  made = d.made;
  reached = d.reached;
  making = d.making;
  is_made = d.is_made;
  breaks = d.breaks;
  heard = d.heard;
})

-- ---- the steps

abbrev pub recorded_on_way : (a : Auditor) (q : Recorded) (j c s m : SourceState) (jt ct st : List ℕ) → StaysRecorded a.recorded q s m → IsOnWay a j c s jt ct st → IsOnWay (record a { recorded = q }) j c m jt ct st
recorded_on_way a q j c s m jt ct st steps u = record {
  first = u.first;
  opens = u.opens;
  sent = u.sent;
  replies = u.replies;
  records = u.records;
  are_read = record { job_so_far = u.are_read.job_so_far; console_so_far = u.are_read.console_so_far; steps_so_far = steps st u.records u.are_read.steps_so_far };
  phase = phase_read a a.sending a.listening q u.first jt ct st u.sent u.replies u.records u.phase;
  stage = stage_as a a.course a.listening q a.broken (same_judge a.course) u.first jt ct st u.sent u.replies u.stage;
  calm = u.calm;
}

-- ---- the console

abbrev pub console_on_way : {a : Auditor} {j c d s : SourceState} {jt ct st : List ℕ} (u : IsOnWay a j c s jt ct st) (l : Listening) → StaysTold a.listening l c d → IsOnWay (record a { listening = l }) j d s jt ct st
console_on_way {a} {j} {c} {d} {s} {jt} {ct} {st} u l stays = record {
  first = u.first;
  opens = u.opens;
  sent = u.sent;
  replies = u.replies;
  records = u.records;
  are_read = record { job_so_far = u.are_read.job_so_far; console_so_far = stays ct u.replies u.are_read.console_so_far; steps_so_far = u.are_read.steps_so_far };
  phase = phase_read a a.sending l a.recorded u.first jt ct st u.sent u.replies u.records u.phase;
  stage = stage_as a a.course l a.recorded a.broken (same_judge a.course) u.first jt ct st u.sent u.replies u.stage;
  calm = u.calm;
}

-- ---- the job, where the line at hand is done

here_read : {a : Auditor} {first : State} {sent : List Sent} {replies : List Reply} (q : Sending) → IsHere a first sent replies → IsHere (record a { sending = q }) first sent replies
here_read q h = record { done = h.done; unanswered = h.unanswered; point = h.point; answered = h.answered; course = h.course; leads = h.leads; tells = h.tells; last_is = h.last_is }

pub stage_read : {a : Auditor} {first : State} {jt ct st : List ℕ} {sent : List Sent} {replies : List Reply} (q : Sending) → (a.course.unanswered ≡ false → IsHere a first sent replies) → (a.course.unanswered ≡ false → a.course.line.halts ≡ false) → Stage a first jt ct st sent replies → Stage (record a { sending = q }) first jt ct st sent replies
stage_read {a} {first} {jt} {ct} {st} {sent} {replies} q here calm stage = by a.course.unanswered refl where
  by_since : (x : IsSince a first jt ct st sent replies) → a.course.unanswered ≡ true → Since a first jt ct st x.front x.told x.last x.safe x.later x.heard → Stage (record a { sending = q }) first jt ct st sent replies
  by_since x waits (by_line l) = absurd (both a.course.unanswered waits l.unanswered)
  by_since x waits (by_reset l) = absurd (both a.course.unanswered waits l.unanswered)
  by_since x waits (by_wait w) = behind_safe (record {
    front = x.front;
    later = x.later;
    sent_is = x.sent_is;
    told = x.told;
    heard = x.heard;
    replies_is = x.replies_is;
    last = x.last;
    safe = x.safe;
    since = by_wait (record {
      kept = w.kept;
      more = w.more;
      waiting_is = w.waiting_is;
      later_is = w.later_is;
      none = w.none;
      unanswered = w.unanswered;
      outcome = w.outcome;
      broken = w.broken;
      now = w.now;
      stands = w.stands;
      resets = w.resets;
      locked = w.locked;
      reply = w.reply;
      anew = w.anew;
      number = w.number;
      answered = w.answered;
    });
  })

  by_stage : a.course.unanswered ≡ true → Stage a first jt ct st sent replies → Stage (record a { sending = q }) first jt ct st sent replies
  by_stage waits (at_safe h calm) = absurd (both a.course.unanswered waits h.unanswered)
  by_stage waits (behind_safe x) = by_since x waits x.since

  by : (b : Bool) → a.course.unanswered ≡ b → Stage (record a { sending = q }) first jt ct st sent replies
  by false e = at_safe (here_read q (here e)) (calm e)
  by true e = by_stage e stage

abbrev pub read_on_way : {a : Auditor} {j c s : SourceState} {jt ct st : List ℕ} (u : IsOnWay a j c s jt ct st) → a.course.work.left ≡ [] → (not a.course.unanswered && a.course.line.halts) ≡ false → (q : Sending) (k : SourceState) → JobSoFar q k jt u.sent → q.last ≡ a.sending.last → IsOnWay (record a { sending = q }) k c s jt ct st
read_on_way {a} {j} {c} {s} {jt} {ct} {st} u done calm q k read last = record {
  first = u.first;
  opens = u.opens;
  sent = u.sent;
  replies = u.replies;
  records = u.records;
  are_read = record { job_so_far = read; console_so_far = u.are_read.console_so_far; steps_so_far = u.are_read.steps_so_far };
  phase = phase_read a q a.listening a.recorded u.first jt ct st u.sent u.replies u.records u.phase;
  stage = stage_read q (here_by u done) (λ answered. none_halts a.course answered calm) u.stage;
  calm = last ∙ u.calm;
}
