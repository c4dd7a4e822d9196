-- What a reset tells comes next, and no line is begun: the next record breaks a rule, or the console has a bad reply.
use Rattle.std.proofs.Common.{◌≡◌, ◌≤◌, ◌<◌, ◌-◌, ◌^◌, ℕ, ◌+◌, Bool, true, false, not, ◌&&◌, ◌||◌, List, [], ◌∷◌, ◌++◌, length, Some, None, refl, sym, ap, ◌∙◌, subst, arith}
use Rattle.std.specs.declared.option.Option.{Option}
use Rattle.outside.specs.Causes.{SourceState}
use Rattle.status_report.specs.Answering.{is_banner}
use Rattle.status_report.specs.declared.Reply.{Reply}
use Rattle.step_line.specs.declared.Mark.TheVariants as marks
use Rattle.step_line.specs.declared.Record.{Record}
use Rattle.step_line.specs.declared.Record.TheVariants as kinds
use Rattle.step_record.specs.declared.forms.Line.{Line}
use Rattle.run_rules.specs.Work.{Outcome}
use Rattle.run_texts.specs.Points.{Point}
use Rattle.run_texts.specs.Sent.{Sent}
use Rattle.run_texts.specs.Sent.Sent.{a_text, a_stop}
use Rattle.audit_rules.specs.Consoles.{GoesOnAnew}
use Rattle.audit_rules.specs.Findings.{IsTooLong, MayEnd}
use Rattle.audit_rules.specs.Onward.{HasCome}
use Rattle.audit_rules.specs.Scanned.{sent_in}
use Rattle.audit_rules.specs.Standing.{Stand}
use Rattle.audit_rules.specs.StepTexts.{records_of}
use Rattle.audit_rules.specs.Telling.{HasAlarm, HasBadReply, IsAwaited}
use Rattle.audit_rules.specs.Telling.IsLineAtFault.{at_none}
use Rattle.audit_rules.proofs.Fitting.{no_end}
use Rattle.audit_rules.proofs.NextRefused.{no_later_cut, no_later_reset, resets_not}
use Rattle.audit_rules.proofs.NoEndAnew.{no_end_anew}
use Rattle.audit_rules.proofs.OneWay.{both}
use Rattle.audit_rules.proofs.OtherMarks.{no_later_mark_anew}
use Rattle.audit_rules.proofs.ResetShort.{none_may}
use Rattle.audit_rules.proofs.Stands.{goes_on_anew}
use Rattle.audit_course.specs.SoFar.{has_moved, left_to_tell}
use Rattle.audit_course.proofs.Parting.{moved_here}
use Rattle.run_audit.specs.Coming.{MayBeOfLine, is_alarm}
use Rattle.run_audit.specs.Finding.{IsFound, Leads}
use Rattle.run_audit.specs.OnWay.{Counting, HearsNext, IsLater, IsLooked, IsOnWay, IsToldTo, TellsReset, done_by}
use Rattle.run_audit.specs.SafePoint.{BeginsAnew}
use Rattle.run_audit.specs.declared.auditor.Auditor.{Auditor}
use Rattle.run_audit.specs.declared.auditor.Finding.{Finding}
use Rattle.run_audit.specs.declared.auditor.Finding.TheVariants.{BadReplies}
use Rattle.run_audit.proofs.Bounded.{answered_on_way, number_on_way}
use Rattle.run_audit.proofs.BreaksOff.{stays_there}
use Rattle.run_audit.proofs.LineWaits.{StopsHere, broken_next, none_behind}
use Rattle.run_audit.proofs.NoReset.{bad_is_found, bad_there}
use Rattle.run_audit.proofs.SafeNow.{SafeHere, come_here, come_now, safe_by}
use Rattle.run_audit.proofs.WaitsNow.{alarm_first, also_anew, begins_anew, goes_anew, goes_on_with}

-- ---- the console goes on anew

-- where records end, the end may not stand
end_anew : {job console : List ℕ} {records made : List Record} {since begun : List Outcome} (c : HasCome (sent_in job) console records since begun made) → GoesOnAnew c.rest → (done : List Line) → records ≡ records_of done → MayEnd job console done → ⊥
end_anew {job} {console} {records} {made} {since} {begun} c anew done are may =
    subst (λ (rs : List Record). (x : HasCome (sent_in job) console rs since begun made) → GoesOnAnew x.rest → ⊥) (sym are) (λ x next. no_end_anew job console done since begun made x next may) c anew

-- ---- the next record breaks a rule

module _ {a : Auditor} {j c s : SourceState} {jt ct st : List ℕ} (u : IsOnWay a j c s jt ct st) (b : Auditor) (off : StopsHere a b) (n : ℕ) (done : n + length a.course.work.left ≤ done_by a u.sent u.records)
    (r : Record) (later : IsLater a.course (Some r)) (looked : IsLooked a st u.records (Some r)) (known : Option Reply) (resets : TellsReset known) (heard : HearsNext known ct u.replies) where
  abbrev come_told : (d : Counting a u.first jt ct st u.sent u.replies u.records) (left : List Sent) (rest : List ℕ) → IsToldTo jt ct d.judged.point u.sent (u.replies ++ left_to_tell a.course) left rest
      → HasCome (sent_in jt) ct u.records d.judged.since d.judged.begun d.judged.made
  come_told d left rest told = come_now a.course u.first u.opens u.sent u.replies u.records d.judged jt ct left rest told

  -- where each line is answered, all is told up to what was heard
  abbrev come_heard : (d : Counting a u.first jt ct st u.sent u.replies u.records) (left : List Sent) (rest : List ℕ) → IsToldTo jt ct d.judged.point u.sent (u.replies ++ left_to_tell a.course) left rest → a.course.unanswered ≡ false
      → HasCome (sent_in jt) ct u.records d.judged.since d.judged.begun d.judged.made
  come_heard d left rest told answered = come_here d u.opens left told.whole heard.0 heard.1 (Some r) later answered

  anew : GoesOnAnew heard.0
  anew = goes_anew (begins_anew resets heard)

  -- a mark of a later line
  module _ (not_behind : (k : ℕ) → r ≡ kinds.Mark (marks.Reset k) → k + 1 ≡ a.course.work.number → ⊥) (not_begun : MayBeOfLine a.course.work.number r → ⊥) (d : Counting a u.first jt ct st u.sent u.replies u.records)
      (left : List Sent) (rest : List ℕ) (told : IsToldTo jt ct d.judged.point u.sent (u.replies ++ left_to_tell a.course) left rest) where
    begun_as : (x : Record) → r ≡ x → MayBeOfLine a.course.work.number x → ⊥
    begun_as x e is = not_begun (subst (λ (z : Record). MayBeOfLine a.course.work.number z) (sym e) is)

    -- where the last line waits for a reset
    no_mark_waits : (x : Record) → r ≡ x → a.course.unanswered ≡ true → Stand (sent_in jt) ct (u.records ++ x ∷ []) → ⊥
    no_mark_waits (kinds.Mark (marks.Cut k)) e waits stand =
        let number = d.judged.number in
        let late : a.course.work.number ≤ k = later.order (kinds.Mark (marks.Cut k)) (ap (λ (z : Record). Some z) e) in
        let none = none_behind {left = left} {rest = rest} (d.judged.unanswered ∙ waits) in
        no_later_cut (sent_in jt) ct u.records d.judged.made d.judged.since d.judged.begun (come_told d left rest told) k (omega (arith, number, late)) none.0 none.1 stand
    no_mark_waits (kinds.Mark (marks.Reset k)) e waits stand =
        let number = d.judged.number in
        let late : a.course.work.number ≤ k + 1 = later.order (kinds.Mark (marks.Reset k)) (ap (λ (z : Record). Some z) e) in
        let other = not_behind k e in
        let none = none_behind {left = left} {rest = rest} (d.judged.unanswered ∙ waits) in
        no_later_reset (sent_in jt) ct u.records d.judged.made d.judged.since d.judged.begun (come_told d left rest told) k (omega (arith, number, late, other)) none.0 none.1 stand
    no_mark_waits (kinds.Mark (marks.Dwell ms)) e waits stand = begun_as (kinds.Mark (marks.Dwell ms)) e tt
    no_mark_waits (kinds.Mark (marks.Spindle code speed)) e waits stand = begun_as (kinds.Mark (marks.Spindle code speed)) e tt
    no_mark_waits (kinds.Mark (marks.Coolant on)) e waits stand = begun_as (kinds.Mark (marks.Coolant on)) e tt
    no_mark_waits (kinds.Head h) e waits stand = begun_as (kinds.Head h) e tt
    no_mark_waits (kinds.Event v) e waits stand = begun_as (kinds.Event v) e tt
    no_mark_waits kinds.End e waits stand = no_end (sent_in jt) ct u.records stand

    -- where it is answered
    no_mark_answered : (x : Record) → r ≡ x → a.course.unanswered ≡ false → Stand (sent_in jt) ct (u.records ++ x ∷ []) → ⊥
    no_mark_answered (kinds.Mark (marks.Cut k)) e answered stand =
        let number = d.judged.number in
        let late : a.course.work.number ≤ k = later.order (kinds.Mark (marks.Cut k)) (ap (λ (z : Record). Some z) e) in
        let other : k ≡ a.course.work.number → ⊥ = begun_as (kinds.Mark (marks.Cut k)) e in
        no_later_mark_anew (sent_in jt) ct u.records d.judged.made d.judged.since d.judged.begun (come_heard d left rest told answered) anew (kinds.Mark (marks.Cut k)) k refl (omega (arith, number, late, other)) stand
    no_mark_answered (kinds.Mark (marks.Reset k)) e answered stand =
        let number = d.judged.number in
        let late : a.course.work.number ≤ k + 1 = later.order (kinds.Mark (marks.Reset k)) (ap (λ (z : Record). Some z) e) in
        let behind = not_behind k e in
        let other : k ≡ a.course.work.number → ⊥ = begun_as (kinds.Mark (marks.Reset k)) e in
        no_later_mark_anew (sent_in jt) ct u.records d.judged.made d.judged.since d.judged.begun (come_heard d left rest told answered) anew (kinds.Mark (marks.Reset k)) k refl (omega (arith, number, late, behind, other)) stand
    no_mark_answered (kinds.Mark (marks.Dwell ms)) e answered stand = begun_as (kinds.Mark (marks.Dwell ms)) e tt
    no_mark_answered (kinds.Mark (marks.Spindle code speed)) e answered stand = begun_as (kinds.Mark (marks.Spindle code speed)) e tt
    no_mark_answered (kinds.Mark (marks.Coolant on)) e answered stand = begun_as (kinds.Mark (marks.Coolant on)) e tt
    no_mark_answered (kinds.Head h) e answered stand = begun_as (kinds.Head h) e tt
    no_mark_answered (kinds.Event v) e answered stand = begun_as (kinds.Event v) e tt
    no_mark_answered kinds.End e answered stand = no_end (sent_in jt) ct u.records stand

    refused_mark : (unanswered : Bool) → a.course.unanswered ≡ unanswered → Stand (sent_in jt) ct (u.records ++ r ∷ []) → ⊥
    refused_mark true e stand = no_mark_waits r refl e stand
    refused_mark false e stand = no_mark_answered r refl e stand

    -- nor may the end come, behind which nothing is told
    no_end_here : (unanswered : Bool) → a.course.unanswered ≡ unanswered → (lines : List Line) → u.records ≡ records_of lines → MayEnd jt ct lines → ⊥
    no_end_here true e lines are may =
        end_anew (come_told d left rest told) (goes_on_anew d.judged.point left rest (told.waits (d.judged.unanswered ∙ e))) lines are may
    no_end_here false e lines are may = end_anew (come_heard d left rest told e) anew lines are may

  -- it is no mark behind the last line, and of no line that may be begun
  pub breaks_later : ((k : ℕ) → r ≡ kinds.Mark (marks.Reset k) → k + 1 ≡ a.course.work.number → ⊥) → (MayBeOfLine a.course.work.number r → ⊥) → Leads b j c s jt ct st n None
  breaks_later not_behind not_begun = broken_next u a.course refl b off n done r later looked
      (λ d left rest told stand. refused_mark not_behind not_begun d left rest told a.course.unanswered refl stand)
      (λ d left rest told is lines are may. no_end_here not_behind not_begun d left rest told a.course.unanswered refl lines are may)

  -- It is the mark of a reset, of which the console tells an alarm next that has no cause.
  pub breaks_causeless : (k : ℕ) → r ≡ kinds.Mark (marks.Reset k) → k + 1 ≡ a.course.work.number → a.course.unanswered ≡ false → has_moved a.course ≡ false → is_alarm known ≡ true → Leads b j c s jt ct st n None
  breaks_causeless k is number answered still alarm = broken_next u a.course refl b off n done r later looked
      (λ d left rest told stand. none d left rest told (subst (λ (x : Record). Stand (sent_in jt) ct (u.records ++ x ∷ [])) is stand))
      (λ d left rest told ends. absurd (let e : kinds.Mark (marks.Reset k) ≡ kinds.End = sym is ∙ ends in cc)) where
        none : (d : Counting a u.first jt ct st u.sent u.replies u.records) (left : List Sent) (rest : List ℕ) → IsToldTo jt ct d.judged.point u.sent (u.replies ++ left_to_tell a.course) left rest → Stand (sent_in jt) ct (u.records ++ kinds.Mark (marks.Reset k) ∷ []) → ⊥
        none d left rest told stand =
            let first = resets.0 in
            let of_alarm : not (is_banner first) ≡ true = alarm_first first resets.2 ∙ ap is_alarm (sym resets.1) ∙ alarm in
            let begins = begins_anew resets heard in
            let at = d.judged.number in
            resets_not (sent_in jt) ct u.records d.judged.made d.judged.since d.judged.begun (come_heard d left rest told answered) k first (omega (arith, at, number)) (goes_on_with begins) (also_anew first begins.of_reset)
            (λ x same told_so reset recorded.
            both (d.judged.point.before.moved || d.judged.point.before.jog_moved) (reset.cause (told_so ∙ of_alarm)) (moved_here a.course d.judged.point d.judged.hand d.judged.line later.done ∙ still)) stand

-- ---- the console has a bad reply

-- No line is next of the job, and no reset with an alarm may come.
module _ {a : Auditor} {j c s : SourceState} {jt ct st : List ℕ} (u : IsOnWay a j c s jt ct st) (short : IsTooLong ct st → ⊥) (later : IsLater a.course None) (looked : IsLooked a st u.records None) (calm : (not a.course.unanswered && a.course.line.halts) ≡ false) (answered : a.course.unanswered ≡ false)
    (still : has_moved a.course ≡ false) (known : Option Reply) (resets : TellsReset known) (alarm : is_alarm known ≡ true) (heard : HearsNext known ct u.replies) (none : (left : List Sent) → sent_in jt ≡ u.sent ++ left → (kept : List ℕ) (more : List Sent) → left ≡ a_text kept ∷ more → ⊥) where
  h : SafeHere a u.first jt ct st u.sent u.replies heard.0
  h = safe_by u short None looked later answered calm known heard

  there : BeginsAnew resets.0 h.safe.rest
  there = subst (λ (rest : List ℕ). BeginsAnew resets.0 rest) (sym h.rest_is) (begins_anew resets heard)

  no_text : (kept : List ℕ) (more : List Sent) → h.safe.waiting ≡ a_text kept ∷ more → ⊥
  no_text = none h.safe.waiting h.safe.whole

  -- nothing has moved at the safe point
  still_there : (h.safe.point.before.moved || h.safe.point.before.jog_moved) ≡ false
  still_there =
      let at = (stays_there h.safe.point h.heard.point h.heard.course h.heard.leads h.heard.rebases).0 in
      subst (λ (p : Point). (p.before.moved || p.before.jog_moved) ≡ false) at (moved_here a.course h.heard.point h.heard.hand h.heard.line later.done ∙ still)

  none_awaited : (left : List Sent) → h.safe.waiting ≡ left → IsAwaited left h.safe.rest → ⊥
  none_awaited [] e awaits = awaits
  none_awaited (a_stop ∷ left) e awaits = awaits
  none_awaited (a_text kept ∷ left) e awaits = no_text kept left e

  -- so no reset may come
  bad : HasBadReply (sent_in jt) ct st (a.answered + 1) × ((k : ℕ) → HasAlarm (sent_in jt) ct st k → ⊥)
  bad =
      let of_alarm : not (is_banner resets.0) ≡ true = alarm_first resets.0 resets.2 ∙ ap is_alarm (sym resets.1) ∙ alarm in
      bad_there h.safe resets.0 there
      (none_may h.safe.point h.safe.waiting h.safe.rest resets.0 (goes_on_with there) (also_anew resets.0 there.of_reset)
      (record {
        here = λ x told reset. both (h.safe.point.before.moved || h.safe.point.before.jog_moved) (reset.cause (told ∙ of_alarm)) still_there;
        behind = λ kept more o x e is told reset. no_text kept more e;
      }))
      (a.answered + 1) (at_none h.safe.free (none_awaited h.safe.waiting refl) refl)

  pub bad_found : (found : Finding) → (a.answered < 2 ^ 32 - 1 → found ≡ BadReplies (a.answered + 1)) → IsFound a jt ct st found
  bad_found found line =
      let few = number_on_way u in
      let last = answered_on_way u in
      subst (λ (x : Finding). IsFound a jt ct st x) (sym (line (omega (arith, few, last)))) (bad_is_found a jt ct st (a.answered + 1) calm u.calm bad)
