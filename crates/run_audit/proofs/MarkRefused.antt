-- The mark of a reset that may not end the part breaks a rule, and the reset is passed.
use Rattle.std.proofs.Common.{◌≡◌, ◌≤◌, ◌<◌, ◌^◌, ℕ, ◌+◌, Bool, false, not, ◌&&◌, List, [], ◌∷◌, ◌++◌, append-nil, length, map, Some, None, sym, ap, ◌∙◌, subst, arith}
use Rattle.std.specs.declared.option.Option.{Option}
use Rattle.units.specs.Lengths.{IsPlace}
use Rattle.outside.specs.Causes.{SourceState}
use Rattle.status_report.specs.Answering.{is_banner}
use Rattle.status_report.specs.declared.Reply.{Reply}
use Rattle.step_line.specs.declared.Mark.TheVariants.{Reset as ResetMark}
use Rattle.step_line.specs.declared.Record.{Record}
use Rattle.step_line.specs.declared.Record.TheVariants as kinds
use Rattle.run_texts.specs.Sent.{Sent, waiting_in}
use Rattle.run_texts.specs.Sent.Sent.{a_text, a_stop}
use Rattle.audit_rules.specs.Consoles.{Tells}
use Rattle.audit_rules.specs.Scanned.{sent_in}
use Rattle.audit_rules.specs.Standing.{Stand}
use Rattle.audit_rules.proofs.NextRefused.{resets_not}
use Rattle.audit_course.specs.Here.{ResetsNot}
use Rattle.audit_course.specs.SoFar.{left_to_tell}
use Rattle.audit_course.specs.declared.judge.CourseJudge.{CourseJudge}
use Rattle.audit_course.proofs.Ending.{to_tell, waits_so}
use Rattle.audit_course.proofs.Heard.{heard_from_here}
use Rattle.audit_texts.specs.SoFar.{JobSoFar}
use Rattle.run_audit.specs.Coming.{is_alarm}
use Rattle.run_audit.specs.Finding.{Leads, LooksAndHears, ReadsOnIf}
use Rattle.run_audit.specs.OnWay.{HasCause, IsLater, IsToldTo, Phase, TellsReset, done_by, extra_of}
use Rattle.run_audit.specs.OnWay.Phase.{broken, counting}
use Rattle.run_audit.specs.SafePoint.{BeginsAnew}
use Rattle.run_audit.specs.declared.auditor.Auditor.{Auditor}
use Rattle.run_audit.specs.declared.auditor.Finding.{Finding}
use Rattle.run_audit.proofs.Bounded.{dropped_on_way, place_on_way}
use Rattle.run_audit.proofs.BreaksOff.{off_now}
use Rattle.run_audit.proofs.NoReset.{left_front, moved_alike}
use Rattle.run_audit.proofs.ResetSteps.{alarm_known}
use Rattle.run_audit.proofs.SafeNow.{come_now}
use Rattle.run_audit.proofs.StageOn.{HeardAs}
use Rattle.run_audit.proofs.WaitsNow.{alarm_first, also_anew, begins_anew, goes_on_here}

-- A reset is passed, as `pass_reset` says.
abbrev pub PassesReset : Auditor → Auditor → ℕ → Bool → Option Finding → Type 0
PassesReset a b count alarm result =
    IsLater a.course None → (not a.course.unanswered && a.course.line.halts) ≡ false → HasCause a.course a.listening.known → TellsReset a.listening.known → alarm ≡ is_alarm a.listening.known
    → (lines : List (List ℕ)) → count ≡ length lines → a.sending.last ≡ None → (job console steps : SourceState) → ReadsOnIf (map a_text lines ++ a_stop ∷ []) (LooksAndHears a None a.listening.known) a b job console steps job console steps result

module _ (a b : Auditor) (k : CourseJudge) (h : HeardAs a.course k) (n count : ℕ) (alarm : Bool) (result : Option Finding) (passes : a.broken ≡ None → PassesReset (record a { course = k; broken = Some a.recorded.at }) b count alarm result)
    (refuses : a.course.work.left ≡ [] → IsPlace a.course.place → a.course.work.number + count < 2 ^ 32 → ResetsNot a.course n count alarm) (later : IsLater a.course (Some (kinds.Mark (ResetMark n)))) (number : n + 1 ≡ a.course.work.number)
    (calm : (not a.course.unanswered && a.course.line.halts) ≡ false) (cause : HasCause a.course a.listening.known) (resets : TellsReset a.listening.known) (same : alarm ≡ is_alarm a.listening.known) (lines : List (List ℕ)) (counted : count ≡ length lines) (last : a.sending.last ≡ None) where
  pub mark_refused : (job console steps : SourceState) → ReadsOnIf (map a_text lines ++ a_stop ∷ []) (LooksAndHears a (Some (kinds.Mark (ResetMark n))) a.listening.known) a b job console steps job console steps result
  mark_refused job console steps earlier before jt ct st fits u read looks done least = by u.phase where
    anew : BeginsAnew resets.0 looks.1.0
    anew = begins_anew resets looks.1

    few : a.course.work.number + count < 2 ^ 32
    few = (let all = dropped_on_way u a.sending job lines (a_stop ∷ []) read in omega (arith, all, counted))

    by : Phase (record a { sending = earlier }) u.first jt ct st u.sent u.replies u.records → Leads b job console steps jt ct st done result
    by (broken d) = absurd (let e : Some d.at ≡ None = sym d.broken ∙ looks.0.0 in cc)
    by (counting d) =
        passes looks.0.0
        (record { done = h.left ∙ later.done; owes = λ r e. absurd cc; order = λ r e. absurd cc })
        (ap (λ (x : Bool). not x && k.line.halts) h.unanswered ∙ ap (λ (x : Bool). not a.course.unanswered && x) h.halts ∙ calm)
        caused resets same lines counted last job console steps earlier before jt ct st fits
        (off_now u d k h (Some (kinds.Mark (ResetMark n))) looks.0.1 stands_not (λ left rest told e. absurd cc)) read (none_next, looks.1) done few_done where
          none_next : Some a.recorded.at ≡ None → ⊥
          none_next e = cc

          few_done : done + length k.work.left ≤ done_by (record a { sending = earlier; course = k; broken = Some a.recorded.at }) u.sent u.records
          few_done =
              let none : extra_of a.broken ≡ 0 = ap extra_of d.counts in
              let left : length k.work.left ≡ length a.course.work.left = ap length h.left in
              omega (arith, none, left, least)

          caused : HasCause k a.listening.known
          caused alarmed answered =
              let here = heard_from_here a.course u.first u.sent u.replies u.records d.judged in
              moved_alike a.course k d.judged.point (u.replies ++ left_to_tell a.course) u.replies here (h.heard d.judged.point (u.replies ++ left_to_tell a.course) [] u.replies here) later.done (h.left ∙ later.done) ∙ cause alarmed (sym h.unanswered ∙ answered)

          stands_not : (left : List Sent) (rest : List ℕ) → IsToldTo jt ct d.judged.point u.sent (u.replies ++ left_to_tell a.course) left rest → (r : Record) → Some (kinds.Mark (ResetMark n)) ≡ Some r → Stand (sent_in jt) ct (u.records ++ r ∷ []) → ⊥
          stands_not left rest told r is stand =
              let mark : r ≡ kinds.Mark (ResetMark n) = cc in
              let come = come_now a.course u.first u.opens u.sent u.replies u.records d.judged jt ct left rest told in
              let tells : Tells ct u.replies rest = subst (λ (rs : List Reply). Tells ct rs rest) (ap (λ (rs : List Reply). u.replies ++ rs) (to_tell a.course later.done) ∙ append-nil u.replies) told.tells in
              let waits = left_front a.sending job jt u.sent left [] lines (subst (λ (ss : List Sent). JobSoFar a.sending job jt (ss ++ (map a_text lines ++ a_stop ∷ []))) (sym (append-nil u.sent)) read) told.whole in
              let dropped : length (waiting_in left) ≡ count = ap (λ (ss : List Sent). length (waiting_in ss)) waits.1 ∙ ap length (waits_so lines waits.0) ∙ sym counted in
              let alarmed : not (is_banner resets.0) ≡ alarm = alarm_first resets.0 anew.of_reset ∙ sym (alarm_known a.listening.known resets alarm same) in
              let at = d.judged.number in
              resets_not (sent_in jt) ct u.records d.judged.made d.judged.since d.judged.begun come n resets.0 (omega (arith, number, at))
              (goes_on_here ct rest looks.1.0 u.replies resets.0 anew.later tells looks.1.1 anew.text) (also_anew resets.0 anew.of_reset)
              (λ u2 numbered alarm_is at_reset recorded.
              refuses later.done (place_on_way u d) few u.first u.sent u.replies u.records d.judged left u2 numbered (at_reset.dropped ∙ dropped) (alarm_is ∙ alarmed) at_reset recorded)
              (subst (λ (x : Record). Stand (sent_in jt) ct (u.records ++ x ∷ [])) mark stand)
