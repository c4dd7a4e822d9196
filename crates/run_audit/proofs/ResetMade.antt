-- A reset of the job is made behind lines that it drops, and the audit is on its way.
use Rattle.std.proofs.Common.{◌≡◌, ◌≤◌, ◌<◌, ℕ, ◌+◌, Bool, false, ◌||◌, List, [], ◌∷◌, ◌++◌, append_assoc, length, length-append, map, Some, None, refl, sym, ap, ◌∙◌, subst, arith}
use Rattle.std.proofs.lemmas.List.{map-append}
use Rattle.outside.specs.Causes.{SourceState}
use Rattle.status_report.specs.declared.Reply.{Reply}
use Rattle.step_line.specs.declared.Mark.TheVariants.{Reset as ResetMark}
use Rattle.step_line.specs.declared.Record.{Record}
use Rattle.step_line.specs.declared.Record.TheVariants as kinds
use Rattle.line_interpreter.specs.Lefts.{greeting}
use Rattle.run_texts.specs.Sent.{Sent}
use Rattle.run_texts.specs.Sent.Sent.{a_text, a_stop}
use Rattle.audit_rules.specs.Consoles.{Tells}
use Rattle.audit_rules.specs.Faults.{told_with}
use Rattle.audit_rules.specs.Scanned.{sent_in}
use Rattle.audit_rules.proofs.OneWay.{both}
use Rattle.audit_rules.proofs.OtherMarks.{no_earlier_mark}
use Rattle.audit_course.specs.Heard.{HearsReset}
use Rattle.audit_course.specs.Progressing.{has_halt}
use Rattle.audit_course.specs.SoFar.{AddsReset, left_to_tell}
use Rattle.audit_course.specs.declared.judge.CourseJudge.{CourseJudge}
use Rattle.audit_texts.specs.SoFar.{JobSoFar, StepsSoFar}
use Rattle.audit_texts.specs.declared.recorded.Recorded.{Recorded}
use Rattle.audit_texts.specs.declared.sending.Sending.{Sending}
use Rattle.run_audit.specs.Coming.{is_alarm}
use Rattle.run_audit.specs.OnWay.{Broken, Counting, IsOnWay, NoneEarly, done_by}
use Rattle.run_audit.specs.OnWay.Phase.{broken, counting}
use Rattle.run_audit.specs.SafePoint.{IsSince}
use Rattle.run_audit.specs.SafePoint.Since.{by_reset}
use Rattle.run_audit.specs.SafePoint.Stage.{behind_safe}
use Rattle.run_audit.specs.declared.auditor.Auditor.{Auditor}
use Rattle.run_audit.proofs.NoReset.{left_front}
use Rattle.run_audit.proofs.SafeNow.{come_now}
use Rattle.run_audit.proofs.StageOn.{broken_sent}
use Rattle.run_audit.proofs.WaitsNow.{IsAnew}

-- a reset is told, and perhaps lines before it
some_sent : (lines : List (List ℕ)) → 1 ≤ length (map a_text lines ++ a_stop ∷ [])
some_sent [] = omega arith
some_sent (l ∷ ls) = (let some = some_sent ls in omega (arith, some))

module _ (a : Auditor) (earlier : Sending) (before job c s : SourceState) (jt ct st : List ℕ) (u : IsOnWay (record a { sending = earlier }) before c s jt ct st) (k : CourseJudge) (lines : List (List ℕ)) (reply : Reply) (alarm : Bool)
    (x : IsAnew (record a { sending = earlier }) u.first jt ct st u.sent u.replies reply) (read : JobSoFar a.sending job jt (u.sent ++ (map a_text lines ++ a_stop ∷ []))) (calm : a.sending.last ≡ None) (same : alarm ≡ is_alarm (Some reply))
    (greets : left_to_tell k ≡ greeting alarm (alarm || a.course.locked)) (answered : k.unanswered ≡ false) (halts : k.line.halts ≡ false) (quiet : has_halt k.work.left ≡ false) (short : length k.work.left ≤ 3) (count : ℕ) (counted : count ≡ length lines) where
  abbrev more : List Sent
  more = map a_text lines ++ a_stop ∷ []

  -- the reset is told behind the last safe point
  since : (recorded : Recorded) → IsSince (record a { course = k; recorded = recorded }) u.first jt ct st (u.sent ++ more) u.replies
  since recorded =
      let left = left_front a.sending job jt x.front x.safe.waiting x.begun lines (subst (λ (ss : List Sent). JobSoFar a.sending job jt (ss ++ more)) x.sent_is read) x.safe.whole in
      record {
        front = x.front;
        later = map a_text (x.begun ++ lines) ++ a_stop ∷ [];
        sent_is =
            ap (λ (ss : List Sent). ss ++ more) x.sent_is ∙ append_assoc x.front (map a_text x.begun) more
            ∙ ap (λ (ss : List Sent). x.front ++ ss) (sym (append_assoc (map a_text x.begun) (map a_text lines) (a_stop ∷ [])) ∙ ap (λ (ss : List Sent). ss ++ a_stop ∷ []) (sym (map-append a_text x.begun lines)));
        told = x.told;
        heard = x.heard;
        replies_is = x.replies_is;
        last = x.last;
        safe = x.safe;
        since = by_reset (record {
          lines = x.begun ++ lines;
          more = left.0;
          waiting_is = left.1;
          later_is = refl;
          reply = reply;
          anew = x.anew;
          greets =
              ap (λ (locked : Bool). told_with (is_alarm (Some reply)) locked) x.locked ∙ ap (λ (b : Bool). told_with b a.course.locked) (sym same) ∙ sym greets
              ∙ ap (λ (rs : List Reply). rs ++ left_to_tell k) (sym x.none_heard);
          unanswered = answered;
          calm = halts;
          quiet = quiet;
          answered = x.answered;
        });
      }

  -- with its mark, while records count
  counts : (d : Counting (record a { sending = earlier }) u.first jt ct st u.sent u.replies u.records) (recorded : Recorded) (n : ℕ) → AddsReset a.course k n count → k.has_line ≡ false → k.lost ≡ false
      → Counting (record a { course = k; recorded = recorded }) u.first jt ct st (u.sent ++ more) u.replies (u.records ++ kinds.Mark (ResetMark n) ∷ [])
  counts d recorded n adds no_line kept =
      let judged = adds lines counted u.first u.sent u.replies u.records d.judged in
      let early : (left : List Sent) (rest : List ℕ) → sent_in jt ≡ (u.sent ++ more) ++ left → Tells ct (u.replies ++ left_to_tell k) rest → NoneEarly jt ct st k.work.number (u.records ++ kinds.Mark (ResetMark n) ∷ []) =
      λ left rest whole tells. λ xs inside m i is less reads stand.
      let come =
      come_now k u.first u.opens (u.sent ++ more) u.replies (u.records ++ kinds.Mark (ResetMark n) ∷ []) judged jt ct left rest (record { whole = whole; tells = tells; waits = λ waiting. both k.unanswered (sym judged.unanswered ∙ waiting) answered }) in
      let least = no_earlier_mark (sent_in jt) ct (u.records ++ kinds.Mark (ResetMark n) ∷ []) judged.made judged.since judged.begun come (judged.has_line ∙ no_line) xs inside m i is stand in
      let number = judged.number in
      omega (arith, least, number, less) in
      record { counts = d.counts; judged = judged; early = early; stops = λ lost r reads. both k.lost lost kept }

  pub reset_counts : (d : Counting (record a { sending = earlier }) u.first jt ct st u.sent u.replies u.records) (recorded : Recorded) (n : ℕ) → AddsReset a.course k n count → k.has_line ≡ false → k.lost ≡ false
      → ((text : List ℕ) (told : List Record) → StepsSoFar a.recorded s text told → StepsSoFar recorded s text (told ++ kinds.Mark (ResetMark n) ∷ [])) → (done : ℕ) → done + length a.course.work.left ≤ done_by a u.sent u.records
      → (v : IsOnWay (record a { course = k; recorded = recorded }) job c s jt ct st) × (done + length k.work.left < done_by (record a { course = k; recorded = recorded }) v.sent v.records)
  reset_counts d recorded n adds no_line kept steps done least =
      let records = length-append u.records (kinds.Mark (ResetMark n) ∷ []) in
      let sent = length-append u.sent more in
      let some = some_sent lines in (
        record {
          first = u.first;
          opens = u.opens;
          sent = u.sent ++ more;
          replies = u.replies;
          records = u.records ++ kinds.Mark (ResetMark n) ∷ [];
          are_read = record { job_so_far = read; console_so_far = u.are_read.console_so_far; steps_so_far = steps st u.records u.are_read.steps_so_far };
          phase = counting (counts d recorded n adds no_line kept);
          stage = behind_safe (since recorded);
          calm = calm;
        },
        omega (arith, least, short, records, sent, some),
      )

  -- where records count no more
  breaks : (d : Broken (record a { sending = earlier }) u.first jt ct st u.sent u.replies u.records) → HearsReset a.course k count → Broken (record a { course = k }) u.first jt ct st (u.sent ++ more) u.replies u.records
  breaks d hears = broken_sent more refl (λ p told later h. hears lines counted p told later u.replies h) d

  pub reset_breaks : Broken (record a { sending = earlier }) u.first jt ct st u.sent u.replies u.records → HearsReset a.course k count → (done : ℕ) → done + length a.course.work.left ≤ done_by a u.sent u.records
      → (v : IsOnWay (record a { course = k }) job c s jt ct st) × (done + length k.work.left < done_by (record a { course = k }) v.sent v.records)
  reset_breaks d hears done least =
      let sent = length-append u.sent more in
      let some = some_sent lines in (
        record {
          first = u.first;
          opens = u.opens;
          sent = u.sent ++ more;
          replies = u.replies;
          records = u.records;
          are_read = record { job_so_far = read; console_so_far = u.are_read.console_so_far; steps_so_far = u.are_read.steps_so_far };
          phase = broken (breaks d hears);
          stage = behind_safe (since a.recorded);
          calm = calm;
        },
        omega (arith, least, short, sent, some),
      )
