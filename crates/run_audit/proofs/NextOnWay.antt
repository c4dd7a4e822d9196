-- An audit that is on its way looks at the record that comes next, and takes the mark of a cut.
use Rattle.std.proofs.Common.{◌≡◌, ◌≢◌, ◌≤◌, ◌<◌, ◌⊎◌, inl, inr, ℕ, zero, suc, ◌+◌, ◌-◌, ◌^◌, true, false, List, [], ◌∷◌, ◌++◌, append_assoc, length, length-append, Some, None, refl, sym, ap, ◌∙◌, subst, arith}
use Rattle.std.specs.declared.option.Option.{Option}
use Rattle.units.specs.Lengths.{IsPlace}
use Rattle.units.specs.declared.Steps3.{Steps3}
use Rattle.outside.specs.Causes.{SourceState}
use Rattle.status_report.specs.declared.Reply.{Reply}
use Rattle.step_line.specs.declared.Mark.TheVariants as marks
use Rattle.step_line.specs.declared.Record.{Record}
use Rattle.step_line.specs.declared.Record.TheVariants as kinds
use Rattle.run_rules.specs.Work.{Outcome, tells}
use Rattle.run_texts.specs.Courses.{IsReset, behind_cut}
use Rattle.run_texts.specs.Points.{Point}
use Rattle.run_texts.specs.Sent.{Sent}
use Rattle.part_making.specs.Judging.{owed_of}
use Rattle.audit_rules.specs.Consoles.{Tells}
use Rattle.audit_rules.specs.Onward.{IsOfLater}
use Rattle.audit_rules.specs.Scanned.{sent_in}
use Rattle.audit_rules.specs.Standing.{Stand}
use Rattle.audit_rules.proofs.NextRefused.{cuts_not}
use Rattle.audit_rules.proofs.OtherMarks.{marks_in_order}
use Rattle.audit_rules.proofs.Stands.{stand_front}
use Rattle.audit_course.specs.Heard.{CutsPoint, KnowsPoint, StaysHeard}
use Rattle.audit_course.specs.Here.{CutsNot}
use Rattle.audit_course.specs.SoFar.{AddsRecord, BeginsPart, left_to_tell}
use Rattle.audit_course.specs.declared.judge.CourseJudge.{CourseJudge}
use Rattle.audit_course.proofs.Ending.{to_tell}
use Rattle.audit_texts.specs.SoFar.{StandsIn, StandsNow, StaysRecorded, StepsSoFar}
use Rattle.audit_texts.specs.declared.recorded.Recorded.{Recorded}
use Rattle.run_audit.specs.Finding.{Leads, LooksOn}
use Rattle.run_audit.specs.OnWay.{Counting, IsLater, IsOnWay, IsToldTo, IsUnowed, NoneEarly, Phase, done_by}
use Rattle.run_audit.specs.OnWay.Phase.{broken, counting}
use Rattle.run_audit.specs.SafePoint.{IsHere, Since, Stage}
use Rattle.run_audit.specs.SafePoint.Since.{by_line, by_reset, by_wait}
use Rattle.run_audit.specs.SafePoint.Stage.{at_safe, behind_safe}
use Rattle.run_audit.specs.declared.auditor.Auditor.{Auditor}
use Rattle.run_audit.proofs.Bounded.{cuts_on_way, place_on_way}
use Rattle.run_audit.proofs.BreaksOff.{IsOff, breaks_lead, breaks_off, same_unanswered, stays_there}
use Rattle.run_audit.proofs.OneReading.{reads_in}
use Rattle.run_audit.proofs.ReadOn.{recorded_on_way}
use Rattle.run_audit.proofs.SafeNow.{come_now, here_by, none_halts}
use Rattle.run_audit.proofs.StageOn.{same_judge, tells_same}

-- records count, or they do not
pub counting_of : {a : Auditor} {j c s : SourceState} {jt ct st : List ℕ} (u : IsOnWay a j c s jt ct st) → a.broken ≡ None → Counting a u.first jt ct st u.sent u.replies u.records
counting_of {a} {j} {c} {s} {jt} {ct} {st} u none = by u.phase where
  by : Phase a u.first jt ct st u.sent u.replies u.records → Counting a u.first jt ct st u.sent u.replies u.records
  by (counting d) = d
  by (broken b) = absurd (let e : None ≡ Some b.at = sym none ∙ b.broken in cc)

-- ---- the next record is looked at

-- it is found
pub finds_next : {a : Auditor} {q : Recorded} {s m : SourceState} (r : Record) → a.broken ≡ None → StaysRecorded a.recorded q s m → StandsNow (Some r) a.recorded q s → LooksOn a (record a { recorded = q }) s m (Some r)
finds_next {a} {q} {s} {m} r none stays stands = λ job console jt ct st short u n few. (
  recorded_on_way a q job console s m jt ct st stays u,
  (none, stands st u.records u.are_read.steps_so_far (λ long. short (inr long))),
  few,
)

-- none stands there
pub finds_none : {a b : Auditor} {q : Recorded} {s m : SourceState} → a.broken ≡ None → StaysRecorded a.recorded q s m → StandsNow None a.recorded q s → IsOff (record a { recorded = q }) b → LooksOn a b s m None
finds_none {a} {b} {q} {s} {m} none stays stands off = λ job console jt ct st short u n few.
    let v = recorded_on_way a q job console s m jt ct st stays u in
    let d = counting_of v none in
    let w = breaks_off v d a.course (same_judge a.course) None (stands st u.records u.are_read.steps_so_far (λ long. short (inr long))) (λ left rest told r e. absurd cc) (λ left rest told e. absurd cc) b off in
    let more = w.1 in
    let same : length b.course.work.left ≡ length a.course.work.left = ap (λ (x : CourseJudge). length x.work.left) off.course in
    (w.0, (λ counts. absurd (let e : None ≡ Some q.at = sym counts ∙ off.broken in cc)), omega (arith, more, same, few))

-- ---- the mark of a cut

last_or_before : (n m : ℕ) → n < m → (n + 1 < m) ⊎ (m ≡ n + 1)
last_or_before n m less = by (m - (n + 1)) refl where
  by : (more : ℕ) → m - (n + 1) ≡ more → (n + 1 < m) ⊎ (m ≡ n + 1)
  by zero e = inr (omega (arith, less, e))
  by (suc more) e = inl (omega (arith, e))

abbrev pub cut_mark : ℕ → Record
cut_mark n = kinds.Mark (marks.Cut n)

-- the auditor behind it
abbrev pub cut_by : Auditor → CourseJudge → Recorded → Auditor
cut_by a k q = record a { course = k; recorded = q }

module _ {a : Auditor} {j c s : SourceState} {jt ct st : List ℕ} (u : IsOnWay a j c s jt ct st) (n : ℕ) (none : a.broken ≡ None) (stands : StandsIn st u.records a.recorded.at (cut_mark n)) (done : a.course.work.left ≡ []) (before : n < a.course.work.number) (k : CourseJudge)
    (left : k.work.left ≡ a.course.work.left) (number : k.work.number ≡ a.course.work.number) where
  here : Counting a u.first jt ct st u.sent u.replies u.records
  here = counting_of u none

  -- it does not stand behind an earlier line than the last
  none_before : (ahead : List Sent) (rest : List ℕ) → sent_in jt ≡ u.sent ++ ahead → Tells ct (u.replies ++ left_to_tell a.course) rest → n + 1 < a.course.work.number → Stand (sent_in jt) ct (u.records ++ cut_mark n ∷ []) → ⊥
  none_before ahead rest whole tells early stand = here.early ahead rest whole tells [] tt (cut_mark n) n refl early (reads_in stands) stand

  -- ---- it is taken

  module _ (q : Recorded) (steps : (text : List ℕ) (told : List Record) → StepsSoFar a.recorded s text told → StepsSoFar q s text (told ++ cut_mark n ∷ [])) (adds : AddsRecord a.course k (cut_mark n)) (cuts : CutsPoint a.course k) (unanswered : k.unanswered ≡ a.course.unanswered)
      (begins : BeginsPart k) where
    -- behind it no mark of an earlier line stands
    none_behind : (ahead : List Sent) (rest : List ℕ) → sent_in jt ≡ u.sent ++ ahead → Tells ct (u.replies ++ left_to_tell k) rest → NoneEarly jt ct st k.work.number (u.records ++ cut_mark n ∷ [])
    none_behind ahead rest whole told xs inside m l is early reads stand =
        let order = marks_in_order (sent_in jt) ct u.records n l xs inside m is (subst (λ (rs : List Record). Stand (sent_in jt) ct rs) (append_assoc u.records (cut_mark n ∷ []) (xs ++ m ∷ [])) stand) in
        none_before ahead rest whole (subst (λ (rs : List Reply). Tells ct (u.replies ++ rs) rest) (tells_same a.course k unanswered left) told) (omega (arith, order, early, number))
        (stand_front (sent_in jt) ct (u.records ++ cut_mark n ∷ []) (xs ++ m ∷ []) stand)

    here_cut : IsHere a u.first u.sent u.replies → IsHere (cut_by a k q) u.first u.sent u.replies
    here_cut x = record { done = left ∙ x.done; unanswered = unanswered ∙ x.unanswered; point = x.point; answered = x.answered; course = x.course; leads = x.leads; tells = x.tells; last_is = x.last_is }

    stage_cut : Stage a u.first jt ct st u.sent u.replies → Stage (cut_by a k q) u.first jt ct st u.sent u.replies
    stage_cut (at_safe x calm) = at_safe (here_cut x) (none_halts k (unanswered ∙ x.unanswered) begins.calm)
    stage_cut (behind_safe x) = by x.since where
      by : Since a u.first jt ct st x.front x.told x.last x.safe x.later x.heard → Stage (cut_by a k q) u.first jt ct st u.sent u.replies
      by (by_line y) = at_safe (here_cut (here_by u done y.unanswered)) (none_halts k (unanswered ∙ y.unanswered) begins.calm)
      by (by_reset y) = at_safe (here_cut (here_by u done y.unanswered)) (none_halts k (unanswered ∙ y.unanswered) begins.calm)
      by (by_wait y) = behind_safe (record {
        front = x.front;
        later = x.later;
        sent_is = x.sent_is;
        told = x.told;
        heard = x.heard;
        replies_is = x.replies_is;
        last = x.last;
        safe = x.safe;
        since = by_wait (record {
          kept = y.kept;
          more = y.more;
          waiting_is = y.waiting_is;
          later_is = y.later_is;
          none = y.none;
          unanswered = unanswered ∙ y.unanswered;
          outcome = y.outcome;
          broken = y.broken;
          now = behind_cut cut.0 y.stands.point;
          stands = record {
            point = behind_cut cut.0 y.stands.point;
            number = cut.2.number;
            state = cut.2.state;
            same_state = cut.2.same_state;
            locked = cut.2.locked;
            unanswered = cut.2.unanswered;
            hand = cut.1;
            line = cut.2.line;
            at_hand = cut.2.at_hand;
            some = subst (λ (p : Point). 1 ≤ p.before.number) (sym there) y.stands.some;
            numbered = (let m = cut.2.number in omega (arith, m));
            course = [];
            leads = (refl, refl);
            rebases = tt;
            tells = sym (tells_same a.course k unanswered left ∙ to_tell a.course done);
          };
          resets = λ waiting r at_line.
              let at : IsReset y.stands.point waiting r = subst (λ (p : Point). IsReset p waiting r) (sym there) (y.resets waiting r at_line) in
              record { free = at.free; comes = at.comes; number = at.number; dropped = at.dropped; cause = at.cause; locked = at.locked };
          locked = ap (λ (p : Point). p.locked) there ∙ y.locked;
          reply = y.reply;
          anew = y.anew;
          number = number ∙ y.number;
          answered = y.answered;
        });
      }) where
        there : y.stands.point ≡ y.now
        there = (stays_there y.now y.stands.point y.stands.course y.stands.leads y.stands.rebases).0

        cut : (at : Steps3) × (now : List Outcome) × KnowsPoint k (behind_cut at y.stands.point) now
        cut = cuts y.stands.point y.stands.hand (record {
          number = y.stands.number;
          state = y.stands.state;
          same_state = y.stands.same_state;
          locked = y.stands.locked;
          unanswered = y.stands.unanswered;
          line = y.stands.line;
          at_hand = y.stands.at_hand;
        })

    pub cut_taken : (few : ℕ) → few + length a.course.work.left ≤ done_by a u.sent u.records → Leads (cut_by a k q) j c s jt ct st few None
    cut_taken few enough = (
      record {
        first = u.first;
        opens = u.opens;
        sent = u.sent;
        replies = u.replies;
        records = u.records ++ cut_mark n ∷ [];
        are_read = record { job_so_far = u.are_read.job_so_far; console_so_far = u.are_read.console_so_far; steps_so_far = steps st u.records u.are_read.steps_so_far };
        phase = counting (record {
          counts = none;
          judged = adds u.first u.sent u.replies u.records here.judged;
          early = none_behind;
          stops = λ e. absurd (let no : false ≡ true = sym begins.kept ∙ e in cc);
        });
        stage = stage_cut u.stage;
        calm = u.calm;
      },
      (let same = ap length left in let more = length-append u.records (cut_mark n ∷ []) in omega (arith, same, more, enough)),
    )

  -- ---- it is refused

  pub cut_refused : StaysHeard a.course k → k.line.halts ≡ a.course.line.halts → (b : Auditor) → IsOff (record a { course = k }) b → (a.course.work.left ≡ [] → IsPlace a.course.place → a.course.cuts + 1 < 2 ^ 32 → CutsNot a.course n)
      → (few : ℕ) → few + length a.course.work.left ≤ done_by a u.sent u.records → Leads b j c s jt ct st few None
  cut_refused heard halts b off refuses few enough =
      breaks_lead u here k (record { heard = heard; unanswered = same_unanswered here.judged heard; left = left; number = number; halts = halts }) (Some (cut_mark n)) stands not_next (λ ahead rest told e. absurd cc) b off few enough where
        by_number : (ahead : List Sent) (rest : List ℕ) → IsToldTo jt ct here.judged.point u.sent (u.replies ++ left_to_tell a.course) ahead rest → (n + 1 < a.course.work.number) ⊎ (a.course.work.number ≡ n + 1) → Stand (sent_in jt) ct (u.records ++ cut_mark n ∷ []) → ⊥
        by_number ahead rest told (inl early) stand = none_before ahead rest told.whole told.tells early stand
        by_number ahead rest told (inr last) stand =
            cuts_not (sent_in jt) ct u.records here.judged.made here.judged.since here.judged.begun (come_now a.course u.first u.opens u.sent u.replies u.records here.judged jt ct ahead rest told) n (here.judged.number ∙ last)
            (refuses done (place_on_way u here) (cuts_on_way u here) u.first u.sent u.replies u.records here.judged) stand

        not_next : (ahead : List Sent) (rest : List ℕ) → IsToldTo jt ct here.judged.point u.sent (u.replies ++ left_to_tell a.course) ahead rest → (r : Record) → Some (cut_mark n) ≡ Some r → Stand (sent_in jt) ct (u.records ++ r ∷ []) → ⊥
        not_next ahead rest told r e stand =
            by_number ahead rest told (last_or_before n a.course.work.number before) (subst (λ (x : Record). Stand (sent_in jt) ct (u.records ++ x ∷ [])) (let same : r ≡ cut_mark n = cc in same) stand)

-- ---- the mark of a reset of an earlier line

pub reset_early : {a b : Auditor} {j c s : SourceState} {jt ct st : List ℕ} (u : IsOnWay a j c s jt ct st) (n : ℕ) → a.broken ≡ None → StandsIn st u.records a.recorded.at (kinds.Mark (marks.Reset n)) → n + 1 < a.course.work.number → IsOff a b
    → (few : ℕ) → few + length a.course.work.left ≤ done_by a u.sent u.records → Leads b j c s jt ct st few None
reset_early {a} {b} {j} {c} {s} {jt} {ct} {st} u n none stands early off few enough =
    breaks_lead u d a.course (same_judge a.course) (Some (kinds.Mark (marks.Reset n))) stands not_next (λ ahead rest told e. absurd cc) b off few enough where
      d : Counting a u.first jt ct st u.sent u.replies u.records
      d = counting_of u none

      not_next : (ahead : List Sent) (rest : List ℕ) → IsToldTo jt ct d.judged.point u.sent (u.replies ++ left_to_tell a.course) ahead rest → (r : Record) → Some (kinds.Mark (marks.Reset n)) ≡ Some r → Stand (sent_in jt) ct (u.records ++ r ∷ []) → ⊥
      not_next ahead rest told r e stand =
          d.early ahead rest told.whole told.tells [] tt (kinds.Mark (marks.Reset n)) n refl early (reads_in stands)
          (subst (λ (x : Record). Stand (sent_in jt) ct (u.records ++ x ∷ [])) (let same : r ≡ kinds.Mark (marks.Reset n) = cc in same) stand)

-- ---- the line at hand is done, and no mark of an earlier line comes

none_owed : (owed : List Record) → (owed ≢ [] → ⊥) → owed ≡ []
none_owed [] none = refl
none_owed (r ∷ rs) none = absurd (none (λ e. cc))

-- a mark that comes is of no earlier line
abbrev pub IsNoEarlier : ℕ → Option Record → Type 0
IsNoEarlier n next = ((k : ℕ) → next ≡ Some (kinds.Mark (marks.Cut k)) → n ≤ k) × ((k : ℕ) → next ≡ Some (kinds.Mark (marks.Reset k)) → n ≤ k + 1)

pub later_next : (j : CourseJudge) (next : Option Record) → j.work.left ≡ [] → IsUnowed j next → IsNoEarlier j.work.number next → IsLater j next
later_next j next done unowed late = record {
  done = done;
  owes = λ r is inside. none_owed (owed_of j.part) (λ owes. absurd (let e : true ≡ false = sym (unowed r is owes) ∙ inside in cc));
  order = order next late;
} where
  order : (o : Option Record) → IsNoEarlier j.work.number o → (r : Record) → o ≡ Some r → IsOfLater j.work.number [] r
  order o late (kinds.Mark (marks.Cut k)) is = late.0 k is
  order o late (kinds.Mark (marks.Reset k)) is = late.1 k is
  order o late (kinds.Mark (marks.Dwell ms)) is = refl
  order o late (kinds.Mark (marks.Spindle code speed)) is = refl
  order o late (kinds.Mark (marks.Coolant on)) is = refl
  order o late (kinds.Head h) is = refl
  order o late (kinds.Event b) is = refl
  order o late kinds.End is = tt
