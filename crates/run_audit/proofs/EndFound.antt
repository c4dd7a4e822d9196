-- What is found at the end of three texts.
use Rattle.std.proofs.Common.{◌≡◌, ◌≤◌, ℕ, zero, suc, ◌+◌, ◌-◌, Bool, true, false, not, ◌&&◌, List, [], ◌∷◌, ◌++◌, append_assoc, append-nil, length, length-append, replicate, Some, None, ◌⊎◌, inl, inr, refl, sym, ap, ◌∙◌, subst, arith}
use Rattle.std.specs.declared.option.Option.{Option}
use Rattle.std.specs.List.{AllByRecursion}
use Rattle.std.proofs.lemmas.List.{append_cancel_left, append_cancel_right}
use Rattle.std.proofs.lemmas.List.Concat.{flat_map-append}
use Rattle.outside.specs.Causes.{SourceState}
use Rattle.status_report.specs.declared.Reply.{Reply}
use Rattle.status_report.specs.declared.Reply.TheVariants.{Banner}
use Rattle.step_line.specs.declared.Bits.{Bits}
use Rattle.step_line.specs.declared.Record.{Record}
use Rattle.step_line.specs.declared.Record.TheVariants as kinds
use Rattle.step_record.specs.Forms.{line_text, records_of as records_by}
use Rattle.step_record.specs.Texts.{record_text}
use Rattle.step_record.specs.declared.forms.Form.{Form}
use Rattle.step_record.specs.declared.forms.Form.TheVariants.{One, Two}
use Rattle.step_record.specs.declared.forms.Line.{Line}
use Rattle.step_record.specs.declared.forms.Line.TheVariants as line_kinds
use Rattle.run_rules.specs.Told.{replies_text}
use Rattle.run_rules.specs.Work.{Task}
use Rattle.run_texts.specs.Parts.{is_ending}
use Rattle.run_texts.specs.Sent.{Sent}
use Rattle.run_texts.specs.Sent.Sent.{a_text}
use Rattle.audit_rules.specs.Faults.{ComesUpTo}
use Rattle.audit_rules.specs.Findings.{BreaksAt, MayEnd, TextsFit}
use Rattle.audit_rules.specs.Findings.BreaksAt.{at_line, behind_end}
use Rattle.audit_rules.specs.Onward.{TellsNothing}
use Rattle.audit_rules.specs.Scanned.{sent_in}
use Rattle.audit_rules.specs.Standing.{StandTo, place_behind}
use Rattle.audit_rules.specs.StepTexts.{IsLineOf, form_of, heading, lines_text, records_of}
use Rattle.audit_rules.specs.Telling.{ConsoleStands, HasAlarm, HasBadReply, IsLineAtFault, IsOver, last_answered}
use Rattle.audit_rules.proofs.Breaks.{done_before, stands_whole}
use Rattle.audit_rules.proofs.Come.{over_tells_nothing}
use Rattle.audit_rules.proofs.LastAnswered.{same_last}
use Rattle.audit_rules.proofs.Lines.{GoesFurther, line_is_some, one_goes_further, one_line_here}
use Rattle.audit_rules.proofs.NoAlarm.{no_alarm}
use Rattle.audit_rules.proofs.NoFurther.{bad_reply}
use Rattle.audit_rules.proofs.OneText.{no_bye}
use Rattle.audit_rules.proofs.Replies.{all_second}
use Rattle.audit_rules.proofs.ResetShort.{over_fails}
use Rattle.run_texts.specs.Courses.{Passed}
use Rattle.audit_readers.specs.Windows.{ahead}
use Rattle.audit_course.specs.SoFar.{EndsSoFar, HasJudged, RefusesEnd}
use Rattle.audit_course.specs.declared.judge.CourseJudge.{CourseJudge}
use Rattle.audit_course.proofs.Ending.{point_halts}
use Rattle.audit_texts.specs.SoFar.{AreBehind, AreOfLast, AreRecords, IsAllRead, IsWhole, EndsConsole, JobSoFar, StandsAt, StandsIn, StepsSoFar, records_left}
use Rattle.audit_texts.specs.declared.listening.Listening.{Listening}
use Rattle.audit_texts.specs.declared.recorded.Recorded.{Recorded}
use Rattle.audit_texts.specs.declared.sending.Sending.{Sending}
use Rattle.audit_texts.proofs.ConsoleRead.{some_text}
use Rattle.run_audit.specs.Ended.{EndStays}
use Rattle.run_audit.specs.Finding.{EndsSteps, IsFound, IsSettled, KnowsAlarm, Looks, ReadsOnIf, alarm_next, has_told_alarm}
use Rattle.run_audit.specs.OnWay.{Broken, Counting, IsLater, IsLooked, IsOnWay, Phase}
use Rattle.run_audit.specs.OnWay.Phase.{counting, broken}
use Rattle.run_audit.specs.UnderWay.{IsUnderWay}
use Rattle.run_audit.specs.declared.auditor.Auditor.{Auditor}
use Rattle.run_audit.specs.declared.auditor.Finding.{Finding}
use Rattle.run_audit.specs.declared.auditor.Finding.TheVariants.{BadReplies, Fits, Misfit}
use Rattle.run_audit.proofs.EndHere.{JobLeft, UpToHere, job_left, over_here, up_to_here}
use Rattle.run_audit.proofs.EndRefused.{few_bytes, never_ends}
use Rattle.run_audit.proofs.Fitting.{texts_found}
use Rattle.audit_rules.proofs.LastAlarm.{last_alarm}
use Rattle.run_audit.proofs.SafeNow.{breaks_here, counted_up_to, here_by}
use Rattle.run_audit.proofs.Under.{fits}

-- ---- the alarm of the last line

and_true : (b : Bool) → (b && true) ≡ b
and_true true = refl
and_true false = refl

told_is : (b : Auditor) → b.course.work.left ≡ [] → b.course.unanswered ≡ false → has_told_alarm b.course ≡ b.course.line.halts
told_is b done answered =
    ap (λ (w : Bool). (not w && b.course.line.halts) && not (alarm_next b.course.work.left)) answered
    ∙ ap (λ (ts : List Task). b.course.line.halts && not (alarm_next ts)) done
    ∙ and_true b.course.line.halts

knows_by : (b : Auditor) (job console steps : List ℕ) → b.course.work.left ≡ [] → b.course.unanswered ≡ false → (b.course.line.halts ≡ true → HasAlarm (sent_in job) console steps b.sending.lines)
    → (b.course.line.halts ≡ false → (k : ℕ) → HasAlarm (sent_in job) console steps k → ⊥) → KnowsAlarm b job console steps (has_told_alarm b.course)
knows_by b job console steps done answered raised none =
    subst (λ (h : Bool). KnowsAlarm b job console steps h) (sym (told_is b done answered)) (by b.course.line.halts refl) where
      by : (h : Bool) → b.course.line.halts ≡ h → KnowsAlarm b job console steps h
      by true e = raised e
      by false e = none e

-- all is read, and none is read on
settled_by : (b : Auditor) → b.course.work.left ≡ [] → b.course.unanswered ≡ false → IsAllRead b.sending b.course.line.halts b.course.work.number → IsSettled b
settled_by b done answered all = by b.course.line.halts refl all where
  by : (h : Bool) → b.course.line.halts ≡ h → IsAllRead b.sending h b.course.work.number → IsSettled b
  by true e read = inl (told_is b done answered ∙ e)
  by false e read = inr (read.1, (read.2, read.3))

-- ---- where it stands

-- a console that tells this, and nothing else, has nothing left
pub whole_at : (text : List ℕ) (told : List Reply) → IsWhole text told → StandsAt text told []
whole_at text told w = record {
  tells = record { behind = w.behind; text = w.text_is ∙ sym (append-nil (replies_text (Banner ∷ w.behind))); each = w.each; are = w.are };
  no_report = λ report later is on e. some_text report later (no_bye report on) (sym e);
}

module _ {a : Auditor} {j c s : SourceState} {jt ct st : List ℕ} (u : IsOnWay a j c s jt ct st) (next : Option Record) (looked : IsLooked a st u.records next) (later : IsLater a.course next) (answered : a.course.unanswered ≡ false)
    (x : Sending) (source : SourceState) (read : JobSoFar x source jt u.sent) (all : IsAllRead x a.course.line.halts a.course.work.number) (rest : List ℕ) (stands : StandsAt ct u.replies rest) where
  abbrev job : JobLeft jt u.sent a.course.line.halts a.course.work.number x.lines
  job = job_left x source jt u.sent a.course.line.halts a.course.work.number read all

  abbrev here : UpToHere a u.first jt ct st u.sent u.replies job.left rest
  here = up_to_here u later.done answered job.left job.whole rest stands next looked later

  abbrev over : IsOver here.point job.left
  over = over_here here.point job.left a.course.line.halts here.answered here.alarmed job.none

  raised : TellsNothing here.point job.left rest → a.course.line.halts ≡ true → HasAlarm (sent_in jt) ct st x.lines
  raised nothing e =
      let up = here.comes nothing in
      last_alarm (sent_in jt) ct st up.steps_stand here.point job.left rest up.stands (here.alarmed ∙ e) x.lines (here.number ∙ job.last e)

  none_raised : TellsNothing here.point job.left rest → a.course.line.halts ≡ false → (k : ℕ) → HasAlarm (sent_in jt) ct st k → ⊥
  none_raised nothing e k =
      let up = here.comes nothing in
      no_alarm (sent_in jt) ct st up.steps_stand here.point job.left rest up.stands nothing (here.alarmed ∙ e)
      (λ kept more o is passed raises goes. (let f : ◌≡◌ {A = List Sent} [] (a_text kept ∷ more) = sym (job.none e) ∙ is in cc)) k

  knows_here : TellsNothing here.point job.left rest → (b : Auditor) → EndStays a.course b.course → b.sending ≡ x → KnowsAlarm b jt ct st (has_told_alarm b.course)
  knows_here nothing b stays same = knows_by b jt ct st (stays.left ∙ later.done) (stays.answered ∙ answered)
      (λ e. subst (λ (y : Sending). HasAlarm (sent_in jt) ct st y.lines) (sym same) (raised nothing (sym stays.halts ∙ e)))
      (λ e. none_raised nothing (sym stays.halts ∙ e))

  calm_here : (b : Auditor) → EndStays a.course b.course → b.sending ≡ x → has_told_alarm b.course ≡ false → b.sending.last ≡ None
  calm_here b stays same none = ap (λ (y : Sending). y.last) same ∙ by a.course.line.halts refl all where
    by : (h : Bool) → a.course.line.halts ≡ h → IsAllRead x h a.course.work.number → x.last ≡ None
    by false e read = read.0
    by true e read =
        let told : has_told_alarm b.course ≡ true =
        ap (λ (ts : List Task). (not b.course.unanswered && b.course.line.halts) && not (alarm_next ts)) (stays.left ∙ later.done) ∙ ap (λ (t : Bool). (not t && b.course.line.halts) && true) (stays.answered ∙ answered)
        ∙ ap (λ (t : Bool). (true && t) && true) (stays.halts ∙ e) in
        absurd (let f : false ≡ true = sym none ∙ told in cc)

  -- ---- something is left of the console

  last_is : a.answered ≡ last_answered 1 0 here.course
  last_is =
      let h = here_by u later.done answered in
      h.last_is ∙ sym (same_last u.first u.first u.opens u.opens u.sent h.course here.course h.point here.point h.leads here.leads h.answered (here.tells ∙ sym h.tells))

  pub behind_all : (rest ≡ [] → ⊥) → (b : Auditor) → EndStays a.course b.course → b.sending ≡ x → IsFound b jt ct st (BadReplies (a.answered + 1))
  behind_all some b stays same =
      let f = over_fails here.point job.left rest over stands.no_report some (last_answered 1 0 here.course) in
      let up = here.comes f.nothing in
      let bad = bad_reply (sent_in jt) ct st up.steps_stand here.point job.left rest up.stands f.nothing f.some (last_answered 1 0 here.course + 1)
      (subst (λ (ps : List Passed). IsLineAtFault here.point job.left rest (last_answered 1 0 ps) (last_answered 1 0 here.course + 1)) (sym up.is) f.is) in
      record {
        finds = inl (subst (λ (n : ℕ). HasBadReply (sent_in jt) ct st (n + 1)) (sym last_is) bad);
        alarm = knows_here f.nothing b stays same;
        calm = calm_here b stays same;
      }

-- ---- lines of steps

record IsOnlyEnd (part later : List Record) (r : Record) : Type 0 where
  none : part ≡ []
  same : r ≡ kinds.End
  no_more : later ≡ []

-- the end is all of its line
only_end : (part later : List Record) (r : Record) → kinds.End ∷ [] ≡ part ++ r ∷ later → IsOnlyEnd part later r
only_end [] later r e = (
    let same : kinds.End ≡ r = cc in
    let more : [] ≡ later = cc in
    record { none = refl; same = sym same; no_more = sym more }
    )
only_end (x ∷ []) later r e = absurd (let f : ◌≡◌ {A = List Record} (kinds.End ∷ []) (x ∷ r ∷ later) = e in cc)
only_end (x ∷ y ∷ part) later r e = absurd (let f : ◌≡◌ {A = List Record} (kinds.End ∷ []) (x ∷ y ∷ (part ++ r ∷ later)) = e in cc)

equal_events : (n : ℕ) (b : Bits) → AllByRecursion (λ q. is_ending q ≡ false) (replicate n (kinds.Event b))
equal_events zero b = tt
equal_events (suc n) b = (refl, equal_events n b)

line_ends : (form : Form) (l : Line) (part later : List Record) → IsLineOf form l → records_of (l ∷ []) ≡ part ++ kinds.End ∷ later → l ≡ line_kinds.One kinds.End
line_ends form (line_kinds.One r) [] later is e = (let same : r ≡ kinds.End = cc in ap (λ (q : Record). line_kinds.One q) same)
line_ends form (line_kinds.One r) (x ∷ []) later is e = absurd (let f : ◌≡◌ {A = List Record} (r ∷ []) (x ∷ kinds.End ∷ later) = e in cc)
line_ends form (line_kinds.One r) (x ∷ y ∷ part) later is e = absurd (let f : ◌≡◌ {A = List Record} (r ∷ []) (x ∷ y ∷ (part ++ kinds.End ∷ later)) = e in cc)
line_ends form (line_kinds.Run n b) part later is e =
    absurd (let f : true ≡ false = (all_second (λ q. is_ending q ≡ false) part (kinds.End ∷ later)
    (subst (AllByRecursion (λ q. is_ending q ≡ false)) (sym (append-nil (replicate n (kinds.Event b))) ∙ e) (equal_events n b))).0 in cc)
line_ends form line_kinds.Version part later is e = absurd is

-- each line has a record
none_of_none : (form : Form) (more : List Line) → AllByRecursion (IsLineOf form) more → records_of more ≡ [] → more ≡ []
none_of_none form [] each e = refl
none_of_none form (line_kinds.One r ∷ more) each e = absurd (let f : ◌≡◌ {A = List Record} (r ∷ records_of more) [] = e in cc)
none_of_none One (line_kinds.Run n b ∷ more) each e = absurd each.0
none_of_none Two (line_kinds.Run zero b ∷ more) each e = absurd (omega (arith, each.0.0))
none_of_none Two (line_kinds.Run (suc n) b ∷ more) each e = absurd (let f : ◌≡◌ {A = List Record} (kinds.Event b ∷ (replicate n (kinds.Event b) ++ records_of more)) [] = e in cc)
none_of_none form (line_kinds.Version ∷ more) each e = absurd each.0

-- so lines that stand in one text, and have the same records, are the same
same_by_records : (form : Form) (xs ys : List Line) (v w : List ℕ) → AllByRecursion (IsLineOf form) xs → AllByRecursion (IsLineOf form) ys → lines_text xs ++ v ≡ lines_text ys ++ w → records_of xs ≡ records_of ys → xs ≡ ys
same_by_records form xs ys v w each_x each_y text records = by (one_goes_further form xs ys v w each_x each_y text) where
  on : (ks ls more : List Line) → AllByRecursion (IsLineOf form) ls → ls ≡ ks ++ more → records_of ks ≡ records_of ls → ks ≡ ls
  on ks ls more each e same =
      let none : records_of more ≡ [] = append_cancel_left (records_of ks) (records_of more) [] (sym (same ∙ ap records_of e ∙ flat_map-append records_by ks more) ∙ sym (append-nil (records_of ks))) in
      let no_more = none_of_none form more (all_second (IsLineOf form) ks more (subst (AllByRecursion (IsLineOf form)) e each)) none in
      sym (e ∙ ap (λ (ms : List Line). ks ++ ms) no_more ∙ append-nil ks)

  by : GoesFurther xs ys v w ⊎ GoesFurther ys xs w v → xs ≡ ys
  by (inl g) = on xs ys g.more each_y g.lines records
  by (inr g) = sym (on ys xs g.more each_x g.lines (sym records))

-- and so are lines that leave as much of it
same_by_text : (form : Form) (xs ys : List Line) (v : List ℕ) → AllByRecursion (IsLineOf form) xs → AllByRecursion (IsLineOf form) ys → lines_text xs ++ v ≡ lines_text ys ++ v → xs ≡ ys
same_by_text form xs ys v each_x each_y text =
    by (one_goes_further form xs ys [] [] each_x each_y (ap (λ (t : List ℕ). t ++ []) (append_cancel_right (lines_text xs) (lines_text ys) v text))) where
      on : (ks ls more : List Line) → AllByRecursion (IsLineOf form) ls → ls ≡ ks ++ more → [] ≡ lines_text more ++ [] → ks ≡ ls
      on ks ls [] each e none = sym (e ∙ append-nil ks)
      on ks ls (m ∷ more) each e none =
          line_is_some form m (lines_text more ++ []) (all_second (IsLineOf form) ks (m ∷ more) (subst (AllByRecursion (IsLineOf form)) e each)).0 (none ∙ append_assoc (line_text m) (lines_text more) [])

      by : GoesFurther xs ys [] [] ⊎ GoesFurther ys xs [] [] → xs ≡ ys
      by (inl g) = on xs ys g.more each_y g.lines g.text
      by (inr g) = sym (on ys xs g.more each_x g.lines g.text)

no_record_left : (o : Option Record) (n : ℕ) → records_left o n ≡ [] → o ≡ None
no_record_left None n e = refl
no_record_left (Some r) n e = absurd (let f : ◌≡◌ {A = List Record} (r ∷ replicate (n - 1) r) [] = e in cc)

-- the end is taken: no record is left of its line
pub none_behind : (old now : Recorded) (source : SourceState) (text : List ℕ) (told : List Record) → now.reader ≡ old.reader → old.next ≡ Some kinds.End → StepsSoFar old source text told → StepsSoFar now source text (told ++ kinds.End ∷ []) → now.next ≡ None
none_behind old now source text told reader next h n =
    let form = form_of text in
    let l : AreOfLast text h.lines old.at (records_left old.next old.count) = h.line kinds.End next in
    let are : records_of (l.last ∷ []) ≡ l.part ++ kinds.End ∷ replicate (old.count - 1) kinds.End = l.are ∙ ap (λ (o : Option Record). l.part ++ records_left o old.count) next in
    let is_line = (all_second (IsLineOf form) l.before (l.last ∷ []) (subst (AllByRecursion (IsLineOf form)) l.split h.are.each)).0 in
    let last = line_ends form l.last l.part (replicate (old.count - 1) kinds.End) is_line are in
    let one = only_end l.part (replicate (old.count - 1) kinds.End) kinds.End (sym (ap (λ (k : Line). records_of (k ∷ [])) last) ∙ are) in
    let all_old : told ++ kinds.End ∷ [] ≡ records_of h.lines =
    ap (λ (rs : List Record). told ++ kinds.End ∷ rs) (sym one.no_more) ∙ ap (λ (o : Option Record). told ++ records_left o old.count) (sym next) ∙ h.told_are in
    let rest : n.rest ≡ h.rest = (let a : Some n.rest ≡ Some h.rest = sym n.follows ∙ ap (λ r. ahead r.window source) reader ∙ h.follows in cc) in
    let text_is : lines_text n.lines ++ h.rest ≡ lines_text h.lines ++ h.rest = ap (λ (t : List ℕ). lines_text n.lines ++ t) (sym rest) ∙ sym n.body ∙ h.body in
    let lines = same_by_text form n.lines h.lines h.rest n.are.each h.are.each text_is in
    let none : records_left now.next now.count ≡ [] =
    append_cancel_left (told ++ kinds.End ∷ []) (records_left now.next now.count) [] (n.told_are ∙ ap records_of lines ∙ sym all_old ∙ sym (append-nil (told ++ kinds.End ∷ []))) in
    no_record_left now.next now.count none

-- ---- all is told of the console

module _ {a : Auditor} {j c s : SourceState} {jt ct st : List ℕ} (u : IsOnWay a j c s jt ct st) (next : Option Record) (looked : IsLooked a st u.records next) (later : IsLater a.course next) (answered : a.course.unanswered ≡ false)
    (x : Sending) (source : SourceState) (read : JobSoFar x source jt u.sent) (all : IsAllRead x a.course.line.halts a.course.work.number) (whole : IsWhole ct u.replies) where
  abbrev stands : StandsAt ct u.replies []
  stands = whole_at ct u.replies whole

  abbrev read_job : JobLeft jt u.sent a.course.line.halts a.course.work.number x.lines
  read_job = job u next looked later answered x source read all [] stands

  abbrev up_to : UpToHere a u.first jt ct st u.sent u.replies read_job.left []
  up_to = here u next looked later answered x source read all [] stands

  nothing : TellsNothing up_to.point read_job.left []
  nothing = over_tells_nothing up_to.point read_job.left (over u next looked later answered x source read all [] stands)

  console_stands : ConsoleStands (sent_in jt) ct st
  console_stands = stands_whole (sent_in jt) ct st up_to.lines up_to.records up_to.others up_to.point read_job.left up_to.course (up_to.comes nothing) (over u next looked later answered x source read all [] stands)

  knows_now : (b : Auditor) → EndStays a.course b.course → b.sending ≡ x → KnowsAlarm b jt ct st (has_told_alarm b.course)
  knows_now b stays same = knows_here u next looked later answered x source read all [] stands nothing b stays same

  calm_now : (b : Auditor) → EndStays a.course b.course → b.sending ≡ x → has_told_alarm b.course ≡ false → b.sending.last ≡ None
  calm_now b stays same = calm_here u next looked later answered x source read all [] stands b stays same

  -- no texts fit, or none of which each line is audited
  misfits : (b : Auditor) → EndStays a.course b.course → b.sending ≡ x → (at : ℕ) → (x.foreign ≡ 0 → BreaksAt jt ct st at) → IsFound b jt ct st (Misfit at)
  misfits b stays same at breaks = record {
    finds = inr (
      settled_by b (stays.left ∙ later.done) (stays.answered ∙ answered)
          (subst (λ (y : Sending). IsAllRead y b.course.line.halts b.course.work.number) (sym same)
          (subst (λ (h : Bool). IsAllRead x h b.course.work.number) (sym stays.halts) (subst (λ (n : ℕ). IsAllRead x a.course.line.halts n) (sym stays.number) all))),
      λ none. (console_stands, breaks (ap (λ (y : Sending). y.foreign) (sym same) ∙ none)),
    );
    alarm = knows_now b stays same;
    calm = calm_now b stays same;
  }

  -- ---- a record has broken a rule

  pub was_broken : (at : ℕ) → a.broken ≡ Some at → (b : Auditor) → EndStays a.course b.course → b.sending ≡ x → IsFound b jt ct st (Misfit at)
  was_broken at is b stays same = misfits b stays same at (λ none. by u.phase) where
    by : Phase a u.first jt ct st u.sent u.replies u.records → BreaksAt jt ct st at
    by (counting d) = absurd (let e : None ≡ Some at = sym d.counts ∙ is in cc)
    by (broken d) =
        let y = breaks_here d u.opens later.done answered read_job.left read_job.whole [] stands in
        let same_at : d.at ≡ at = (let e : Some d.at ≡ Some at = sym d.broken ∙ is in cc) in
        subst (λ (n : ℕ). BreaksAt jt ct st n) same_at (y.breaks.place y.comes.steps_stand y.comes.are)

  -- ---- records count

  module _ (d : Counting a u.first jt ct st u.sent u.replies u.records) (r : Record) (in_line : StandsIn st u.records a.recorded.at r) (next_is : next ≡ Some r) where
    later_r : IsLater a.course (Some r)
    later_r = subst (λ (o : Option Record). IsLater a.course o) next_is later

    over_r : IsOver d.judged.point read_job.left
    over_r = over_here d.judged.point read_job.left a.course.line.halts (d.judged.unanswered ∙ answered) (point_halts a.course d.judged.point d.judged.hand d.judged.line later.done answered) read_job.none

    abbrev comes_r : ComesUpTo (sent_in jt) ct st (in_line.before ++ in_line.last ∷ []) u.records (r ∷ in_line.later) d.judged.point read_job.left [] d.judged.reached.course
    comes_r = counted_up_to d u.opens read_job.left read_job.whole [] stands (Some r) later_r answered r refl in_line (over_tells_nothing d.judged.point read_job.left over_r)

    abbrev z : StandTo (sent_in jt) ct st
    z = comes_r.steps_stand

    done_is : z.done ≡ in_line.before
    done_is = done_before z.done in_line.before in_line.last u.records in_line.part in_line.later r comes_r.are in_line.told_are

    lines_are : lines_text (in_line.before ++ in_line.last ∷ []) ++ in_line.rest ≡ lines_text in_line.before ++ (line_text in_line.last ++ in_line.rest)
    lines_are =
        ap (λ (t : List ℕ). t ++ in_line.rest) (flat_map-append line_text in_line.before (in_line.last ∷ []) ∙ ap (λ (t : List ℕ). lines_text in_line.before ++ t) (append-nil (line_text in_line.last)))
        ∙ append_assoc (lines_text in_line.before) (line_text in_line.last) in_line.rest

    rest_is : z.rest ≡ line_text in_line.last ++ in_line.rest
    rest_is = append_cancel_left (lines_text in_line.before) z.rest (line_text in_line.last ++ in_line.rest)
        (ap (λ (ls : List Line). lines_text ls ++ z.rest) (sym done_is) ∙ sym z.text ∙ in_line.body ∙ lines_are)

    of_last : IsLineOf (form_of st) in_line.last
    of_last = (all_second (IsLineOf (form_of st)) in_line.before (in_line.last ∷ []) in_line.are.each).0

    -- where the line is that of the end, no other record of it was told
    told_before : in_line.part ≡ [] → records_of z.done ≡ u.records
    told_before none = ap records_of done_is ∙ sym (append-nil (records_of in_line.before)) ∙ ap (λ (rs : List Record). records_of in_line.before ++ rs) (sym none) ∙ sym in_line.told_are

    -- another record comes next, or the end may not come
    refused : (r ≡ kinds.End → a.course.cuts ≤ x.cuts → RefusesEnd a.course) → BreaksAt jt ct st a.recorded.at
    refused refuses = at_line z (λ more is may. never more is may) (in_line.place ∙ ap (λ (ls : List Line). place_behind st ls) (sym done_is)) where
      never : (more : List ℕ) → z.rest ≡ record_text kinds.End ++ more → MayEnd jt ct z.done → ⊥
      never more is may =
          let same = one_line_here (form_of st) in_line.last (line_kinds.One kinds.End) in_line.rest more of_last tt (sym rest_is ∙ is) in
          let one = only_end in_line.part in_line.later r (sym (ap (λ (l : Line). records_of (l ∷ [])) same.line) ∙ in_line.of_last) in
          let f = subst (λ (rs : List Record). TextsFit jt ct (rs ++ kinds.End ∷ [])) (told_before one.none) may in
          never_ends u later.done answered read_job.left read_job.whole stands d over_r f (refuses one.same (few_bytes u later.done answered read_job.left read_job.whole stands d over_r f x source read all))

    -- something follows the end, which may come
    follows : r ≡ kinds.End → (k : CourseJudge) → EndsSoFar a.course k → IsAllRead x k.line.halts k.work.number → k.cuts ≤ x.cuts → (at : ℕ) → AreBehind st (u.records ++ kinds.End ∷ []) at → (AreRecords st (u.records ++ kinds.End ∷ []) → ⊥) → BreaksAt jt ct st at
    follows is k ends told few at behind more =
        let end = line_kinds.One kinds.End in
        let of_end : records_of (in_line.last ∷ []) ≡ in_line.part ++ kinds.End ∷ in_line.later = in_line.of_last ∙ ap (λ (q : Record). in_line.part ++ q ∷ in_line.later) is in
        let last = line_ends (form_of st) in_line.last in_line.part in_line.later of_last of_end in
        let one = only_end in_line.part in_line.later kinds.End (sym (ap (λ (l : Line). records_of (l ∷ [])) last) ∙ of_end) in
        let records = told_before one.none in
        let may = (texts_found k x source jt ct u.first u.sent u.replies u.records (records_of z.done ++ kinds.End ∷ []) u.opens (ends u.first u.sent u.replies u.records d.judged) read told few whole (ap (λ (rs : List Record). rs ++ kinds.End ∷ []) records)).fit in
        let lines = in_line.before ++ in_line.last ∷ [] in
        let all_are : records_of lines ≡ u.records ++ kinds.End ∷ [] =
        flat_map-append records_by in_line.before (in_line.last ∷ [])
        ∙ ap (λ (l : Line). records_of in_line.before ++ records_of (l ∷ [])) last
        ∙ ap (λ (rs : List Record). rs ++ kinds.End ∷ []) (ap records_of (sym done_is) ∙ records) in
        let same_lines = same_by_records (form_of st) lines behind.lines in_line.rest behind.rest in_line.are.each behind.are.each (sym in_line.body ∙ behind.body) (all_are ∙ behind.told_are) in
        let place : place_behind st behind.lines ≡ place_behind st z.done + length (record_text kinds.End) =
        ap (λ (ls : List Line). place_behind st ls) (sym same_lines ∙ ap (λ (l : Line). in_line.before ++ l ∷ []) last ∙ ap (λ (ls : List Line). ls ++ end ∷ []) (sym done_is))
        ∙ ap (λ (t : List ℕ). length (heading (form_of st)) + length t) (flat_map-append line_text z.done (end ∷ []) ∙ ap (λ (t : List ℕ). lines_text z.done ++ t) (append-nil (record_text kinds.End)))
        ∙ (let sum = length-append (lines_text z.done) (record_text kinds.End) in omega (arith, sum)) in
        behind_end z in_line.rest (rest_is ∙ ap (λ (l : Line). line_text l ++ in_line.rest) last) may
        (λ none. more (record {
          lines = lines;
          are_lines = record { are = in_line.are; body = in_line.body ∙ ap (λ (t : List ℕ). lines_text lines ++ t) none ∙ append-nil (lines_text lines) };
          are = all_are;
        }))
        (behind.place ∙ place)

  none_broken : {A : Type 0} → Broken a u.first jt ct st u.sent u.replies u.records → a.broken ≡ None → A
  none_broken d counts = absurd (let e : None ≡ Some d.at = sym counts ∙ d.broken in cc)

  pub may_not_end : a.broken ≡ None → (next ≡ Some kinds.End → x.foreign ≡ 0 → a.course.cuts ≤ x.cuts → RefusesEnd a.course) → (b : Auditor) → EndStays a.course b.course → b.sending ≡ x → IsFound b jt ct st (Misfit a.recorded.at)
  may_not_end counts refuses b stays same = misfits b stays same a.recorded.at (λ clean. by u.phase next refl clean) where
    by : Phase a u.first jt ct st u.sent u.replies u.records → (o : Option Record) → next ≡ o → x.foreign ≡ 0 → BreaksAt jt ct st a.recorded.at
    by (broken d) o e clean = none_broken d counts
    by (counting d) None e clean = absurd (subst (λ (p : Option Record). IsLooked a st u.records p) e looked counts)
    by (counting d) (Some r) e clean =
        let in_line = subst (λ (p : Option Record). IsLooked a st u.records p) e looked in
        refused d r in_line.1 e (λ is few. refuses (e ∙ ap (λ (q : Record). Some q) is) clean few)

  pub end_is_not_last : a.broken ≡ None → next ≡ Some kinds.End → (k : CourseJudge) → EndsSoFar a.course k → IsAllRead x k.line.halts k.work.number → k.cuts ≤ x.cuts → (at : ℕ) → AreBehind st (u.records ++ kinds.End ∷ []) at → (AreRecords st (u.records ++ kinds.End ∷ []) → ⊥)
      → (b : Auditor) → EndStays a.course b.course → b.sending ≡ x → IsFound b jt ct st (Misfit at)
  end_is_not_last counts e k ends told few at behind more b stays same = misfits b stays same at (λ clean. by u.phase) where
    by : Phase a u.first jt ct st u.sent u.replies u.records → BreaksAt jt ct st at
    by (broken d) = none_broken d counts
    by (counting d) = (let in_line = subst (λ (p : Option Record). IsLooked a st u.records p) e looked in follows d kinds.End in_line.1 e refl k ends told few at behind more)

  pub all_fit : a.broken ≡ None → (k : CourseJudge) → EndsSoFar a.course k → IsAllRead x k.line.halts k.work.number → k.cuts ≤ x.cuts → x.foreign ≡ 0 → (events : ℕ) → events ≡ a.course.events → AreRecords st (u.records ++ kinds.End ∷ [])
      → (b : Auditor) → EndStays a.course b.course → b.sending ≡ x → IsFound b jt ct st (Fits events)
  all_fit counts k ends told few clean events count steps b stays same =
      let under : IsUnderWay (record a { sending = x }) source c s jt ct st = record {
        first = u.first;
        opens = u.opens;
        sent = u.sent;
        replies = u.replies;
        records = u.records;
        are_read = record { job_so_far = read; console_so_far = u.are_read.console_so_far; steps_so_far = u.are_read.steps_so_far };
        judged = λ none. judged u.phase;
      } in
      record {
        finds = inl (fits (record a { sending = x }) (record a { course = k; sending = x }) source c s events jt ct st under counts whole steps ends refl told few clean count).0.0;
        alarm = knows_now b stays same;
        calm = calm_now b stays same;
      } where
        judged : Phase a u.first jt ct st u.sent u.replies u.records → HasJudged a.course u.first u.sent u.replies u.records
        judged (counting d) = d.judged
        judged (broken d) = none_broken d counts

-- the console is at its end
pub console_at_end : (a b : Auditor) (x : Listening) (next : Option Record) (j c s l m : SourceState) (found : Option Finding) → EndsConsole true a.listening c → EndsSteps (record a { listening = x }) b s next found → ReadsOnIf [] (Looks a next) a b j c s j l m found
console_at_end a b x next j c s l m None ends e = absurd e
console_at_end a b x next j c s l m (Some found) ends e = λ earlier before jt ct st short u read looked n few.
    e a.listening earlier before j c jt ct st short u (subst (λ (ss : List Sent). JobSoFar a.sending j jt ss) (append-nil u.sent) read) (ends refl ct u.replies u.are_read.console_so_far) looked
