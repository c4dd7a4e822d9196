-- The record that comes next breaks a rule: steps stand no further, and break a rule there.
use Rattle.std.proofs.Common.{◌≡◌, ◌≤◌, ℕ, ◌+◌, true, false, List, [], ◌∷◌, ◌++◌, append_assoc, append-nil, length, Some, None, refl, sym, ap, ◌∙◌, subst, arith}
use Rattle.std.specs.declared.option.Option.{Option}
use Rattle.std.proofs.lemmas.List.{append_cancel_left}
use Rattle.std.proofs.lemmas.List.Concat.{flat_map-append}
use Rattle.outside.specs.Causes.{SourceState}
use Rattle.status_report.specs.declared.Reply.{Reply}
use Rattle.step_line.specs.declared.Record.{Record}
use Rattle.step_line.specs.declared.Record.TheVariants as kinds
use Rattle.step_record.specs.Forms.{line_text}
use Rattle.step_record.specs.Forms.{records_of as records_by}
use Rattle.step_record.specs.declared.forms.Line.{Line}
use Rattle.step_record.specs.declared.forms.Line.TheVariants as line_kinds
use Rattle.run_rules.specs.declared.State.{State}
use Rattle.run_rules.specs.Work.{Outcome}
use Rattle.run_texts.specs.Courses.{Passed}
use Rattle.run_texts.specs.Courses.Passed.{a_line, a_broken, a_cut, a_reset}
use Rattle.run_texts.specs.Points.{Point}
use Rattle.run_texts.specs.Sent.{Sent}
use Rattle.run_texts.specs.SoFar.{LeadsTo, RebasesNothing}
use Rattle.audit_rules.specs.Findings.{BreaksAt, MayEnd}
use Rattle.audit_rules.specs.Findings.BreaksAt.{at_line}
use Rattle.audit_rules.specs.Onward.{HasCome}
use Rattle.audit_rules.specs.Scanned.{sent_in}
use Rattle.audit_rules.specs.Standing.{AreUpTo, Stand, StandTo, place_behind}
use Rattle.audit_rules.specs.StepTexts.{AreLinesOf, form_of, lines_text, records_of}
use Rattle.audit_rules.proofs.Breaks.{done_all, done_before, no_line}
use Rattle.audit_rules.proofs.Come.{stand as come_stands}
use Rattle.audit_rules.proofs.Lines.{one_line_here}
use Rattle.audit_rules.proofs.Replies.{all_second}
use Rattle.audit_course.specs.Heard.{StaysHeard}
use Rattle.audit_course.specs.SoFar.{HasJudged, left_to_tell}
use Rattle.audit_course.specs.declared.judge.CourseJudge.{CourseJudge}
use Rattle.audit_course.proofs.Heard.{heard_from_here}
use Rattle.audit_texts.specs.SoFar.{RecordStands, StandsIn, StandsNoLine}
use Rattle.run_audit.specs.Finding.{Leads}
use Rattle.run_audit.specs.OnWay.{BreaksThere, Broken, Counting, IsOnWay, IsToldTo, done_by, extra_of}
use Rattle.run_audit.specs.OnWay.Phase.{broken}
use Rattle.run_audit.specs.declared.auditor.Auditor.{Auditor}
use Rattle.run_audit.proofs.SafeNow.{come_now}
use Rattle.run_audit.proofs.StageOn.{HeardAs, stage_as}

-- ---- where steps break a rule

-- the line that holds a record that comes first of the end's line is the end's
end_part : (part later : List Record) (r : Record) → kinds.End ∷ [] ≡ part ++ r ∷ later → (part ≡ []) × (r ≡ kinds.End)
end_part [] later r e = (refl, (let same : kinds.End ≡ r = cc in sym same))
end_part (x ∷ []) later r e = absurd cc
end_part (x ∷ y ∷ part) later r e = absurd cc

module _ (job console steps : List ℕ) (records made : List Record) (since begun : List Outcome) (c : HasCome (sent_in job) console records since begun made) (at : ℕ) where
  -- a record stands next
  there_in : (r : Record) → StandsIn steps records at r → (Stand (sent_in job) console (records ++ r ∷ []) → ⊥) → (r ≡ kinds.End → (done : List Line) → records ≡ records_of done → MayEnd job console done → ⊥)
      → BreaksThere job console steps records at
  there_in r s refuses ends = record {
    lines = s.before ++ s.last ∷ [];
    text = s.rest;
    left = r ∷ s.later;
    read = record {
      text = s.body;
      are = s.are;
      records_are =
          ap (λ (rs : List Record). rs ++ r ∷ s.later) s.told_are ∙ append_assoc (records_of s.before) s.part (r ∷ s.later)
          ∙ ap (λ (rs : List Record). records_of s.before ++ rs) (sym s.of_last) ∙ sym (flat_map-append records_by s.before (s.last ∷ []));
      stand = come_stands (sent_in job) console records since begun made c;
      no_record = λ x others e. subst (λ (y : Record). Stand (sent_in job) console (records ++ y ∷ []) → ⊥) (let same : r ≡ x = cc in same) refuses;
      no_line = λ e. absurd cc;
    };
    place = place;
  } where
    place : (z : StandTo (sent_in job) console steps) → AreUpTo z.done (s.before ++ s.last ∷ []) records (r ∷ s.later) → BreaksAt job console steps at
    place z up =
        let same = done_before z.done s.before s.last records s.part s.later r up s.told_are in
        let body : lines_text s.before ++ z.rest ≡ lines_text s.before ++ (line_text s.last ++ s.rest) =
        ap (λ (ls : List Line). lines_text ls ++ z.rest) (sym same) ∙ sym z.text ∙ s.body ∙ ap (λ (t : List ℕ). t ++ s.rest) (flat_map-append line_text s.before (s.last ∷ []))
        ∙ append_assoc (lines_text s.before) (lines_text (s.last ∷ [])) s.rest ∙ ap (λ (t : List ℕ). lines_text s.before ++ (t ++ s.rest)) (append-nil (line_text s.last)) in
        let rest : z.rest ≡ line_text s.last ++ s.rest = append_cancel_left (lines_text s.before) z.rest (line_text s.last ++ s.rest) body in
        let of = (all_second _ s.before (s.last ∷ []) s.are.each).0 in
        at_line z
        (λ more is may.
        let end : s.last ≡ line_kinds.One kinds.End = (one_line_here (form_of steps) s.last (line_kinds.One kinds.End) s.rest more of tt (sym rest ∙ is)).line in
        let part = end_part s.part s.later r (ap (λ (l : Line). records_of (l ∷ [])) (sym end) ∙ s.of_last) in
        ends part.1 z.done (s.told_are ∙ ap (λ (rs : List Record). records_of s.before ++ rs) part.0 ∙ append-nil (records_of s.before) ∙ ap records_of (sym same)) may)
        (s.place ∙ ap (λ (ls : List Line). place_behind steps ls) (sym same))

  -- no line does
  there_none : StandsNoLine steps records at → BreaksThere job console steps records at
  there_none s = record {
    lines = s.behind.lines;
    text = s.behind.rest;
    left = [];
    read = record {
      text = s.behind.body;
      are = s.behind.are;
      records_are = append-nil records ∙ s.behind.told_are;
      stand = come_stands (sent_in job) console records since begun made c;
      no_record = λ x others e. absurd cc;
      no_line = λ e line more is are stand. s.none line more is are;
    };
    place = place;
  } where
    place : (z : StandTo (sent_in job) console steps) → AreUpTo z.done s.behind.lines records [] → BreaksAt job console steps at
    place z up =
        let same = done_all z.done s.behind.lines records up in
        let rest : z.rest ≡ s.behind.rest =
        append_cancel_left (lines_text s.behind.lines) z.rest s.behind.rest (ap (λ (ls : List Line). lines_text ls ++ z.rest) (sym same) ∙ sym z.text ∙ s.behind.body) in
        subst (λ (n : ℕ). BreaksAt job console steps n) (ap (λ (ls : List Line). place_behind steps ls) same ∙ sym s.behind.place)
        (no_line job console steps z (λ line more is are. s.none line more (sym rest ∙ is) (subst (λ (ls : List Line). AreLinesOf (form_of steps) (ls ++ line ∷ [])) same are)))

  pub breaks_there : (next : Option Record) → RecordStands next steps records at → ((r : Record) → next ≡ Some r → Stand (sent_in job) console (records ++ r ∷ []) → ⊥)
      → (next ≡ Some kinds.End → (done : List Line) → records ≡ records_of done → MayEnd job console done → ⊥) → BreaksThere job console steps records at
  breaks_there (Some r) stands refuses ends = there_in r stands (refuses r refl) (λ e. ends (ap (λ (x : Record). Some x) e))
  breaks_there None stands refuses ends = there_none stands

-- ---- an audit breaks off

-- an auditor breaks off where the next record was looked for, and all else stays
pub record IsOff (a b : Auditor) : Type 0 where
  pub sending : b.sending ≡ a.sending
  pub listening : b.listening ≡ a.listening
  pub recorded : b.recorded ≡ a.recorded
  pub course : b.course ≡ a.course
  pub answered : b.answered ≡ a.answered
  pub broken : b.broken ≡ Some a.recorded.at

pub off : (a b : Auditor) → IsOff a b → record a { broken = Some a.recorded.at } ≡ b
off a b o =
    let sending = o.sending in
    let listening = o.listening in
    let recorded = o.recorded in
    let course = o.course in
    let answered = o.answered in
    let broken = o.broken in
    let whole : b ≡ record { course = b.course; sending = b.sending; listening = b.listening; recorded = b.recorded; broken = b.broken; answered = b.answered } = refl in
    cc

-- of nothing a course that rebases nothing goes nowhere
pub stays_there : (p q : Point) (course : List Passed) → LeadsTo p [] course q [] → RebasesNothing p [] course → (q ≡ p) × (course ≡ [])
stays_there p q [] f r = (f.0, refl)
stays_there p q (a_cut k at ∷ ps) f r = absurd r
stays_there p q (a_reset u ∷ ps) f r = absurd (let e : false ≡ true = f.0.comes in cc)
stays_there p q (a_line o ∷ ps) f r = absurd f
stays_there p q (a_broken o ∷ ps) f r = absurd f

-- so a judge that has heard on knows as before whether a line waits for a reset
pub same_unanswered : {j k : CourseJudge} {first : State} {sent : List Sent} {replies : List Reply} {records : List Record} → HasJudged j first sent replies records → StaysHeard j k → k.unanswered ≡ j.unanswered
same_unanswered {j} {k} {first} {sent} {replies} {records} s heard =
    let now = heard s.point (replies ++ left_to_tell j) [] replies (heard_from_here j first sent replies records s) in
    sym now.unanswered ∙ ap (λ (p : Point). p.unanswered) (stays_there s.point now.point now.course now.leads now.rebases).0 ∙ s.unanswered

-- The next record was looked at. If all is told that the line at hand tells, it does not stand; nor may the end come, if it is that.
module _ {a : Auditor} {j c s : SourceState} {jt ct st : List ℕ} (u : IsOnWay a j c s jt ct st) (d : Counting a u.first jt ct st u.sent u.replies u.records) (k : CourseJudge) (h : HeardAs a.course k) (next : Option Record) (stands : RecordStands next st u.records a.recorded.at)
    (refuses : (left : List Sent) (rest : List ℕ) → IsToldTo jt ct d.judged.point u.sent (u.replies ++ left_to_tell a.course) left rest → (r : Record) → next ≡ Some r → Stand (sent_in jt) ct (u.records ++ r ∷ []) → ⊥)
    (ends : (left : List Sent) (rest : List ℕ) → IsToldTo jt ct d.judged.point u.sent (u.replies ++ left_to_tell a.course) left rest → next ≡ Some kinds.End → (done : List Line) → u.records ≡ records_of done → MayEnd jt ct done → ⊥) where
  pub broken_off : Broken (record a { course = k; broken = Some a.recorded.at }) u.first jt ct st u.sent u.replies u.records
  broken_off = record {
    at = a.recorded.at;
    broken = refl;
    front = u.sent;
    later = [];
    sent_is = sym (append-nil u.sent);
    told = u.replies ++ left_to_tell a.course;
    point = d.judged.point;
    since = d.judged.since;
    begun = d.judged.begun;
    none_begun = λ e. d.judged.none_begun (sym d.judged.unanswered ∙ e);
    place = d.judged.from;
    made = d.judged.made;
    reached = d.judged.reached;
    making = _;
    is_made = d.judged.is_made;
    breaks = λ left rest told.
        breaks_there jt ct st u.records d.judged.made d.judged.since d.judged.begun (come_now a.course u.first u.opens u.sent u.replies u.records d.judged jt ct left rest told) a.recorded.at next stands (refuses left rest told) (ends left rest told);
    heard = h.heard d.judged.point (u.replies ++ left_to_tell a.course) [] u.replies (heard_from_here a.course u.first u.sent u.replies u.records d.judged);
  }

  abbrev pub off_now : IsOnWay (record a { course = k; broken = Some a.recorded.at }) j c s jt ct st
  off_now = record {
    first = u.first;
    opens = u.opens;
    sent = u.sent;
    replies = u.replies;
    records = u.records;
    are_read = record { job_so_far = u.are_read.job_so_far; console_so_far = u.are_read.console_so_far; steps_so_far = u.are_read.steps_so_far };
    phase = broken broken_off;
    stage = stage_as a k a.listening a.recorded (Some a.recorded.at) h u.first jt ct st u.sent u.replies u.stage;
    calm = u.calm;
  }

  -- So the audit is on its way, with 200 steps more.
  pub breaks_off : (b : Auditor) → IsOff (record a { course = k }) b → (v : IsOnWay b j c s jt ct st) × (done_by b v.sent v.records ≡ done_by a u.sent u.records + 200)
  breaks_off b o = subst (λ (x : Auditor). (v : IsOnWay x j c s jt ct st) × (done_by x v.sent v.records ≡ done_by a u.sent u.records + 200)) (off (record a { course = k }) b o) (off_now, done) where
    done : done_by (record a { course = k; broken = Some a.recorded.at }) u.sent u.records ≡ done_by a u.sent u.records + 200
    done = (let none : extra_of a.broken ≡ 0 = ap extra_of d.counts in omega (arith, none))

  pub breaks_lead : (b : Auditor) → IsOff (record a { course = k }) b → (n : ℕ) → n + length a.course.work.left ≤ done_by a u.sent u.records → Leads b j c s jt ct st n None
  breaks_lead b o n few =
      let v = breaks_off b o in
      let more = v.1 in
      let same : length b.course.work.left ≡ length a.course.work.left = ap (λ (x : CourseJudge). length x.work.left) o.course ∙ ap length h.left in
      (v.0, omega (arith, more, same, few))
