-- Where a course has come to the end of a job and of a console, and its judge does not let it end, no texts fit that end there.
use Rattle.std.proofs.Common.{◌≡◌, ◌≤◌, ℕ, ◌+◌, Bool, true, false, List, [], ◌∷◌, ◌++◌, append_assoc, append-nil, refl, sym, ap, ◌∙◌, subst, arith}
use Rattle.std.proofs.lemmas.List.{append_cancel_right}
use Rattle.std.proofs.lemmas.List.Concat.{flat_map-append}
use Rattle.std.specs.List.{AllByRecursion}
use Rattle.flight.specs.Places.{origin}
use Rattle.outside.specs.Causes.{SourceState}
use Rattle.status_report.specs.Answering.{without_reports}
use Rattle.status_report.specs.Replies.{reply_text}
use Rattle.status_report.specs.declared.Reply.{Reply}
use Rattle.step_line.specs.declared.Record.{Record}
use Rattle.step_line.specs.declared.Record.TheVariants as kinds
use Rattle.run_rules.specs.Outcomes.{either}
use Rattle.run_rules.specs.Told.{replies_text}
use Rattle.run_rules.specs.declared.State.{State}
use Rattle.run_rules.proofs.Determined.{one_opening}
use Rattle.run_texts.specs.Courses.{Passed}
use Rattle.run_texts.specs.Parts.{Part, parts_of}
use Rattle.run_texts.specs.Points.{Point, opening}
use Rattle.run_texts.specs.Recorded.{AreRecorded}
use Rattle.run_texts.specs.Sent.{Sent}
use Rattle.run_texts.specs.SoFar.{AreMadeSoFar, LeadsTo}
use Rattle.run_texts.specs.Told.{told_in, told_of}
use Rattle.run_texts.proofs.Leading.{onto_none}
use Rattle.run_texts.proofs.SoFar.{made_so_far, parts_end}
use Rattle.run_texts.proofs.Stops.{stops_of}
use Rattle.audit_rules.specs.Consoles.{IsOnConsole, Tells, TellsNext}
use Rattle.audit_rules.specs.Findings.{TextsFit}
use Rattle.audit_rules.specs.Onward.{HasCome}
use Rattle.audit_rules.specs.Scanned.{sent_in}
use Rattle.audit_rules.specs.Telling.{IsOver, StandsUpTo}
use Rattle.audit_rules.proofs.Behind.{leads as come_leads, makes as come_makes, tells as come_tells}
use Rattle.audit_rules.proofs.BehindCourses.{Compared, compare}
use Rattle.audit_rules.proofs.BehindCourses.Compared.{further, behind, passed_by}
use Rattle.audit_rules.proofs.BehindText.{BothTold, onward}
use Rattle.audit_rules.proofs.Come.{over_tells_nothing, stands_here}
use Rattle.audit_rules.proofs.Fitted.{whole}
use Rattle.audit_rules.proofs.Fitting.{LeadsOn, leads_on}
use Rattle.audit_rules.proofs.GoesOn.{goes_on_to}
use Rattle.audit_rules.proofs.NoFurther.{on_to}
use Rattle.audit_rules.proofs.OneLine.{told_further}
use Rattle.audit_rules.proofs.OneText.{no_bye}
use Rattle.audit_rules.proofs.OneWay.{both}
use Rattle.audit_rules.proofs.StopsMade.{same_stops}
use Rattle.audit_course.specs.SoFar.{GoesTo, RefusesEnd, left_to_tell}
use Rattle.audit_course.proofs.Ending.{point_halts, to_tell}
use Rattle.audit_course.proofs.Onward.{ends_alone, few_cuts}
use Rattle.audit_texts.specs.SoFar.{IsAllRead, JobSoFar, StandsAt}
use Rattle.audit_texts.proofs.ConsoleRead.{some_text}
use Rattle.audit_texts.proofs.JobRead.{cuts_are}
use Rattle.audit_texts.specs.declared.sending.Sending.{Sending}
use Rattle.run_audit.specs.OnWay.{Counting, IsOnWay}
use Rattle.run_audit.specs.declared.auditor.Auditor.{Auditor}
use Rattle.run_audit.proofs.EndHere.{come}
use Rattle.run_audit.proofs.SafeNow.{all_told}

-- nothing is told of what is left of a console at its end
told_at_end : (told : List Reply) (later : List ℕ) → TellsNext [] told later → told ≡ []
told_at_end told later t = by t.replies t.text t.each t.are where
  by : (rs : List Reply) → [] ≡ replies_text rs ++ later → AllByRecursion IsOnConsole rs → without_reports rs ≡ told → told ≡ []
  by [] text each are = sym are
  by (r ∷ rs) text each are = some_text r (replies_text rs ++ later) (no_bye r each.0) (sym (text ∙ append_assoc (reply_text r) (replies_text rs) later))

front_none : (xs ys : List Sent) → xs ++ ys ≡ [] → xs ≡ []
front_none [] ys e = refl
front_none (x ∷ xs) ys e = absurd cc

-- texts that fit go on from the opening, with as many cuts more as one likes
texts_go : (job console : List ℕ) (records : List Record) (m : ℕ) (f : TextsFit job console records) → GoesTo (opening f.fits.first) [] [] origin (f.cancels + m) f.sent (told_in f.fits.course) records f.fits.last
texts_go job console records m f =
    let few = f.fits.few in
    record {
      course = f.fits.course;
      follows = f.fits.follows;
      told = refl;
      recorded = subst (λ (ps : List Part). AreRecorded origin ps records) (sym (onto_none (parts_of f.fits.course))) f.fits.recorded;
      few = omega (arith, few);
    }

module _ {a : Auditor} {j c s : SourceState} {jt ct st : List ℕ} (u : IsOnWay a j c s jt ct st) (done : a.course.work.left ≡ []) (answered : a.course.unanswered ≡ false) (left : List Sent) (whole_job : sent_in jt ≡ u.sent ++ left) (stands : StandsAt ct u.replies [])
    (d : Counting a u.first jt ct st u.sent u.replies u.records) (over : IsOver d.judged.point left) (f : TextsFit jt ct (u.records ++ kinds.End ∷ [])) where
  abbrev here : List Passed
  here = d.judged.reached.course

  abbrev there : List Passed
  there = f.fits.course

  abbrev came : HasCome (sent_in jt) ct u.records d.judged.since d.judged.begun d.judged.made
  came = come u done answered left whole_job [] stands d

  abbrev on : LeadsOn (opening f.fits.first) f.fits.last f.sent f.later there
  on = leads_on (opening f.fits.first) f.fits.last f.sent f.later there f.fits.follows

  abbrev gone : List Sent
  gone = on.left ++ f.later

  same_first : f.fits.first ≡ u.first
  same_first = one_opening f.fits.first u.first f.fits.opens u.opens

  is_answered : d.judged.point.unanswered ≡ false
  is_answered = d.judged.unanswered ∙ answered

  halts : d.judged.point.before.alarmed ≡ a.course.line.halts
  halts = point_halts a.course d.judged.point d.judged.hand d.judged.line done answered

  -- ---- the other course

  leads_there : LeadsTo (opening u.first) (sent_in jt) there f.fits.last gone
  leads_there = subst (λ (ss : List Sent). LeadsTo (opening u.first) ss there f.fits.last gone) (sym f.split) (subst (λ (t : State). LeadsTo (opening t) (f.sent ++ f.later) there f.fits.last gone) same_first on.leads)

  makes_there : AreMadeSoFar origin (parts_of there) u.records
  makes_there = made_so_far (parts_of there) origin u.records (parts_end there) f.fits.recorded

  tells_there : Tells ct (told_in there) []
  tells_there = (whole jt ct (u.records ++ kinds.End ∷ []) f).told

  stands_there : StandsUpTo (sent_in jt) ct u.records f.fits.last gone []
  stands_there = record {
    first = u.first;
    opens = u.opens;
    course = there;
    between = f.fits.last;
    waiting = gone;
    leads = leads_there;
    made = makes_there;
    others = [];
    goes_on = (refl, refl);
    rebases = tt;
    told = subst (λ (ps : List Passed). Tells ct (told_in ps) []) (sym (append-nil there)) tells_there;
    waits = λ waits. both f.fits.last.unanswered waits on.is.answered;
  }

  -- it leads where this one does
  same_end : (f.fits.last ≡ d.judged.point) × (gone ≡ left)
  same_end =
      let x = stands_here (sent_in jt) ct u.records d.judged.since d.judged.begun d.judged.made came in
      let n = over_tells_nothing d.judged.point left over in
      let g = goes_on_to (sent_in jt) ct u.records d.judged.point f.fits.last left gone [] [] x stands_there is_answered on.is.answered (omega arith) in
      let o = on_to d.judged.point f.fits.last left gone [] [] n on.is.answered g in
      let to = subst (λ (ps : List Passed). LeadsTo d.judged.point left ps f.fits.last gone) o.0 g.leads in
      (to.0, to.1)

  -- and tells the same
  tells_here : Tells ct (told_in here) []
  tells_here = come_tells (sent_in jt) ct u.records d.judged.since d.judged.begun d.judged.made came

  compared : Compared here there d.judged.point []
  compared = compare (opening u.first) d.judged.point f.fits.last (sent_in jt) left gone here there [] [] []
      (come_leads (sent_in jt) ct u.records d.judged.since d.judged.begun d.judged.made came) leads_there
      (same_stops there here origin u.records makes_there (come_makes (sent_in jt) ct u.records d.judged.since d.judged.begun d.judged.made came) ∙ sym (append-nil (stops_of here)))
      (told_further ct [] [] (told_in here) (told_in there) tells_here tells_there) (λ waits. both d.judged.point.unanswered waits is_answered) (λ waits. both f.fits.last.unanswered waits on.is.answered)

  same_told : told_in there ≡ u.replies
  same_told = by compared ∙ d.judged.reached.tells ∙ all_told a.course u.replies done where
    by : Compared here there d.judged.point [] → told_in there ≡ told_in here
    by (further os split) =
        let two : told_in there ≡ told_in here ++ told_in os = ap told_in split ∙ flat_map-append told_of here os in
        let o = onward (told_in here) (told_in os) [] [] (subst (λ (rs : List Reply). BothTold (told_in here) rs [] []) two (told_further ct [] [] (told_in here) (told_in there) tells_here tells_there)) in
        two ∙ ap (λ (rs : List Reply). told_in here ++ rs) (told_at_end (told_in os) o.later o.tells) ∙ append-nil (told_in here)
    by (behind os none split) =
        let two : told_in here ≡ told_in there ++ told_in os = ap told_in split ∙ flat_map-append told_of there os in
        let o = onward (told_in there) (told_in os) [] [] (subst (λ (rs : List Reply). BothTold (told_in there) rs [] []) two (told_further ct [] [] (told_in there) (told_in here) tells_there tells_here)) in
        sym (two ∙ ap (λ (rs : List Reply). told_in there ++ rs) (told_at_end (told_in os) o.later o.tells) ∙ append-nil (told_in there))
    by (passed_by t others e late) = absurd cc

  same_sent : f.sent ≡ u.sent ++ on.left
  same_sent = append_cancel_right f.sent (u.sent ++ on.left) f.later
      (sym f.split ∙ whole_job ∙ ap (λ (ss : List Sent). u.sent ++ ss) (sym same_end.1) ∙ sym (append_assoc u.sent on.left f.later))

  -- ---- so the texts go on from the opening as the judge was told

  goes : (m : ℕ) → GoesTo (opening u.first) [] [] origin (f.cancels + m) (u.sent ++ on.left) u.replies (u.records ++ kinds.End ∷ []) f.fits.last
  goes m =
      let records = u.records ++ kinds.End ∷ [] in
      subst (λ (rs : List Reply). GoesTo (opening u.first) [] [] origin (f.cancels + m) (u.sent ++ on.left) rs records f.fits.last) same_told
      (subst (λ (ss : List Sent). GoesTo (opening u.first) [] [] origin (f.cancels + m) ss (told_in there) records f.fits.last) same_sent
      (subst (λ (t : State). GoesTo (opening t) [] [] origin (f.cancels + m) f.sent (told_in there) records f.fits.last) same_first (texts_go jt ct records m f)))

  -- there are no more cuts than bytes that may cut
  pub few_bytes : (x : Sending) (source : SourceState) → JobSoFar x source jt u.sent → IsAllRead x a.course.line.halts a.course.work.number → a.course.cuts ≤ x.cuts
  few_bytes x source read all =
      let few = few_cuts (opening u.first) f.fits.last origin (f.cancels + 0) (u.sent ++ on.left) u.replies u.records (kinds.End ∷ []) (goes 0) in
      let counted = d.judged.counted in
      let bytes : x.cuts ≡ f.cancels =
      cuts_are x source jt u.sent a.course.line.halts a.course.work.number f.fits.last read all (ap (λ (p : Point). p.before.alarmed) same_end.0 ∙ halts) (ap (λ (p : Point). p.before.number) same_end.0 ∙ d.judged.number) ∙ sym f.counted in
      omega (arith, few, counted, bytes)

  told_none : u.replies ++ (left_to_tell a.course ++ []) ≡ u.replies
  told_none = ap (λ (rs : List Reply). u.replies ++ (rs ++ [])) (to_tell a.course done) ∙ append-nil u.replies

  -- from here on, behind an alarm without the lines that wait
  goes_here : GoesTo d.judged.point d.judged.since d.judged.begun d.judged.from f.cancels [] [] (d.judged.made ++ kinds.End ∷ []) f.fits.last
  goes_here = by a.course.line.halts refl where
    all : GoesTo d.judged.point d.judged.since d.judged.begun d.judged.from f.cancels on.left [] (d.judged.made ++ kinds.End ∷ []) f.fits.last
    all = d.judged.forth f.cancels on.left [] (kinds.End ∷ []) f.fits.last (record { late = tt; resets = λ waits. both a.course.unanswered waits answered })
        (subst (λ (rs : List Reply). GoesTo (opening u.first) [] [] origin (f.cancels + a.course.cuts) (u.sent ++ on.left) rs (u.records ++ kinds.End ∷ []) f.fits.last) (sym told_none) (goes a.course.cuts))

    by : (b : Bool) → a.course.line.halts ≡ b → GoesTo d.judged.point d.judged.since d.judged.begun d.judged.from f.cancels [] [] (d.judged.made ++ kinds.End ∷ []) f.fits.last
    by true e = ends_alone d.judged.point f.fits.last d.judged.since d.judged.begun d.judged.from f.cancels on.left [] (d.judged.made ++ kinds.End ∷ []) (halts ∙ e) all
    by false e =
        let none : left ≡ [] = subst (λ (b : Bool). either b (Unit {0}) (left ≡ [])) (halts ∙ e) over.rest in
        subst (λ (ss : List Sent). GoesTo d.judged.point d.judged.since d.judged.begun d.judged.from f.cancels ss [] (d.judged.made ++ kinds.End ∷ []) f.fits.last) (front_none on.left f.later (same_end.1 ∙ none)) all

  pub never_ends : RefusesEnd a.course → ⊥
  never_ends refuses =
      let n = f.cancels + a.course.cuts in
      let back = d.judged.back f.cancels [] [] (kinds.End ∷ []) f.fits.last goes_here in
      refuses u.first u.sent u.replies u.records d.judged f.cancels f.fits.last
      (subst (λ (ss : List Sent). GoesTo (opening u.first) [] [] origin n ss u.replies (u.records ++ kinds.End ∷ []) f.fits.last) (append-nil u.sent)
      (subst (λ (rs : List Reply). GoesTo (opening u.first) [] [] origin n (u.sent ++ []) rs (u.records ++ kinds.End ∷ []) f.fits.last) told_none back))
