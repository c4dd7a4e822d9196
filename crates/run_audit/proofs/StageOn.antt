-- What is done of the line at hand, and the stage and the phase of an audit where it is done.
use Rattle.std.proofs.Common.{◌≡◌, ℕ, ◌+◌, ◌-◌, Bool, true, false, cond, ◌||◌, List, [], ◌∷◌, ◌++◌, append_assoc, append-nil, Some, None, refl, sym, ap, ◌∙◌, subst, arith}
use Rattle.std.specs.List.{list_any}
use Rattle.std.specs.declared.option.Option.{Option}
use Rattle.std.proofs.lemmas.List.Concat.{flat_map-append}
use Rattle.std.proofs.lemmas.List.Folds.{list_any-append}
use Rattle.status_report.specs.Answering.{is_answer}
use Rattle.status_report.specs.declared.Reply.{Reply}
use Rattle.step_line.specs.declared.Record.{Record}
use Rattle.run_rules.specs.declared.State.{State}
use Rattle.run_rules.specs.Work.{Task, tells, told_by}
use Rattle.run_texts.specs.Parts.{is_ending}
use Rattle.run_texts.specs.Points.{Point}
use Rattle.run_texts.specs.Sent.{Sent}
use Rattle.audit_rules.specs.Consoles.{Tells}
use Rattle.audit_rules.specs.Faults.{told_with}
use Rattle.audit_rules.specs.Scanned.{sent_in}
use Rattle.audit_course.specs.Heard.{HasHeard, StaysHeard}
use Rattle.audit_course.specs.Progressing.{has_halt}
use Rattle.audit_course.specs.SoFar.{HasJudged, left_to_tell}
use Rattle.audit_course.specs.declared.judge.CourseJudge.{CourseJudge}
use Rattle.audit_texts.specs.SoFar.{untold_of}
use Rattle.audit_texts.specs.declared.listening.Listening.{Listening}
use Rattle.audit_texts.specs.declared.recorded.Recorded.{Recorded}
use Rattle.audit_texts.specs.declared.sending.Sending.{Sending}
use Rattle.audit_texts.proofs.JobTold.{or_first, or_second}
use Rattle.run_audit.specs.Coming.{is_alarm}
use Rattle.run_audit.specs.OnWay.{Broken, Counting, NoneEarly, Phase, ReadsAs}
use Rattle.run_audit.specs.OnWay.Phase.{broken, counting}
use Rattle.run_audit.specs.SafePoint.{LineSince, ResetSince, SafePoint, Since, Stage, WaitSince}
use Rattle.run_audit.specs.SafePoint.Since.{by_line, by_reset, by_wait}
use Rattle.run_audit.specs.SafePoint.Stage.{at_safe, behind_safe}
use Rattle.run_audit.specs.declared.auditor.Auditor.{Auditor}

-- ---- truth values and lists

pub none_of_both : {X : Type 0} (xs ys : List X) → xs ++ ys ≡ [] → (xs ≡ []) × (ys ≡ [])
none_of_both [] ys e = (refl, e)
none_of_both (x ∷ xs) ys e = absurd cc

one_or_other : (h m : Bool) (n l : ℕ) → cond m n (cond h n l) ≡ cond (h || m) n l
one_or_other true true n l = refl
one_or_other true false n l = refl
one_or_other false true n l = refl
one_or_other false false n l = refl

-- ---- what is done of the line at hand

-- Tasks of the line at hand are done, and this is told of them; of a line that waits nothing. All else stays that a stage speaks of.
pub record DoesOn (a b : Auditor) (now : List Reply) : Type 0 where
  pub sending : b.sending ≡ a.sending
  pub unanswered : b.course.unanswered ≡ a.course.unanswered
  pub number : b.course.work.number ≡ a.course.work.number
  pub halts : (b.course.line.halts || has_halt b.course.work.left) ≡ (a.course.line.halts || has_halt a.course.work.left)
  pub tasks : List Task
  pub work : a.course.work.left ≡ tasks ++ b.course.work.left
  pub told : a.course.unanswered ≡ false → tells tasks ≡ now
  pub waits : a.course.unanswered ≡ true → (now ≡ []) × StaysHeard a.course b.course
  pub answered : b.answered ≡ cond (list_any is_answer now) (a.course.work.number - 1) a.answered

no_answer : (alarm locked : Bool) → list_any is_answer (told_with alarm locked) ≡ false
no_answer true locked = refl
no_answer false true = refl
no_answer false false = refl

module _ (a b : Auditor) (now : List Reply) (d : DoesOn a b now) where
  pub left_on : left_to_tell a.course ≡ now ++ left_to_tell b.course
  left_on = by a.course.unanswered refl where
    by : (w : Bool) → a.course.unanswered ≡ w → left_to_tell a.course ≡ now ++ left_to_tell b.course
    by true e =
        ap (λ (w : Bool). cond w [] (tells a.course.work.left)) e
        ∙ sym (ap (λ (w : Bool). cond w [] (tells b.course.work.left)) (d.unanswered ∙ e))
        ∙ ap (λ (rs : List Reply). rs ++ left_to_tell b.course) (sym (d.waits e).0)
    by false e =
        ap (λ (w : Bool). cond w [] (tells a.course.work.left)) e ∙ ap tells d.work ∙ flat_map-append told_by d.tasks b.course.work.left
        ∙ ap (λ (rs : List Reply). rs ++ tells b.course.work.left) (d.told e)
        ∙ ap (λ (w : Bool). now ++ cond w [] (tells b.course.work.left)) (sym (d.unanswered ∙ e))

  answered_on : (heard : List Reply) (number last : ℕ) → a.course.work.number ≡ number + 1 → a.answered ≡ cond (list_any is_answer heard) number last → b.answered ≡ cond (list_any is_answer (heard ++ now)) number last
  answered_on heard number last is was =
      let before : a.course.work.number - 1 ≡ number = omega (arith, is) in
      d.answered ∙ ap (λ (n : ℕ). cond (list_any is_answer now) n a.answered) before ∙ ap (λ (n : ℕ). cond (list_any is_answer now) number n) was
      ∙ one_or_other (list_any is_answer heard) (list_any is_answer now) number last ∙ ap (λ (t : Bool). cond t number last) (sym (list_any-append is_answer heard now))

  same_answered : list_any is_answer now ≡ false → b.answered ≡ a.answered
  same_answered none = d.answered ∙ ap (λ (t : Bool). cond t (a.course.work.number - 1) a.answered) none

  module _ (first : State) (job console steps : List ℕ) (front : List Sent) (told : List Reply) (last : ℕ) (s : SafePoint first job console steps front told last) (later : List Sent) (heard : List Reply) where
    line_on : LineSince a first job console steps front told last s later heard → LineSince b first job console steps front told last s later (heard ++ now)
    line_on l = record {
      kept = l.kept;
      more = l.more;
      waiting_is = l.waiting_is;
      later_is = l.later_is;
      not_anew = l.not_anew;
      outcome = l.outcome;
      becomes = l.becomes;
      done = l.done ++ d.tasks;
      work = l.work ∙ ap (λ (ts : List Task). l.done ++ ts) d.work ∙ sym (append_assoc l.done d.tasks b.course.work.left);
      heard_is = ap (λ (rs : List Reply). rs ++ now) l.heard_is ∙ ap (λ (rs : List Reply). tells l.done ++ rs) (sym (d.told l.unanswered)) ∙ sym (flat_map-append told_by l.done d.tasks);
      unanswered = d.unanswered ∙ l.unanswered;
      halts = d.halts ∙ l.halts;
      number = d.number ∙ l.number;
      untold = ap untold_of d.sending ∙ l.untold;
      read_on = ap (λ (x : Sending). x.over) d.sending ∙ l.read_on;
      answered = answered_on heard s.point.before.number last l.number l.answered;
    }

    wait_on : WaitSince a first job console steps front told last s later heard → WaitSince b first job console steps front told last s later (heard ++ now)
    wait_on w =
        let waits = d.waits w.unanswered in
        record {
          kept = w.kept;
          more = w.more;
          waiting_is = w.waiting_is;
          later_is = w.later_is;
          none = ap (λ (rs : List Reply). rs ++ now) w.none ∙ waits.0;
          unanswered = d.unanswered ∙ w.unanswered;
          outcome = w.outcome;
          broken = w.broken;
          now = w.now;
          stands = waits.1 w.now [] [] [] w.stands;
          resets = w.resets;
          locked = w.locked;
          reply = w.reply;
          anew = w.anew;
          number = d.number ∙ w.number;
          answered = same_answered (ap (list_any is_answer) waits.0) ∙ w.answered;
        }

    reset_on : ResetSince a first job console steps front told last s later heard → ResetSince b first job console steps front told last s later (heard ++ now)
    reset_on x =
        let alarm = is_alarm (Some x.reply) in
        let left = left_to_tell b.course in
        let split : told_with alarm s.point.locked ≡ heard ++ (now ++ left) = x.greets ∙ ap (λ (rs : List Reply). heard ++ rs) left_on in
        let none : (list_any is_answer heard || (list_any is_answer now || list_any is_answer left)) ≡ false =
        sym (list_any-append is_answer heard (now ++ left) ∙ ap (λ (t : Bool). list_any is_answer heard || t) (list_any-append is_answer now left)) ∙ sym (ap (list_any is_answer) split) ∙ no_answer alarm s.point.locked in
        let calm : (b.course.line.halts || has_halt b.course.work.left) ≡ false =
        d.halts ∙ ap (λ (t : Bool). t || has_halt a.course.work.left) x.calm ∙ x.quiet in
        record {
          lines = x.lines;
          more = x.more;
          waiting_is = x.waiting_is;
          later_is = x.later_is;
          reply = x.reply;
          anew = x.anew;
          greets = split ∙ sym (append_assoc heard now left);
          unanswered = d.unanswered ∙ x.unanswered;
          calm = or_first b.course.line.halts (has_halt b.course.work.left) calm;
          quiet = or_second b.course.line.halts (has_halt b.course.work.left) calm;
          answered =
              same_answered (or_first (list_any is_answer now) (list_any is_answer left) (or_second (list_any is_answer heard) (list_any is_answer now || list_any is_answer left) none))
              ∙ x.answered;
        }

    since_on : Since a first job console steps front told last s later heard → Since b first job console steps front told last s later (heard ++ now)
    since_on (by_line l) = by_line (line_on l)
    since_on (by_wait w) = by_wait (wait_on w)
    since_on (by_reset x) = by_reset (reset_on x)

  pub stage_on : (first : State) (job console steps : List ℕ) (sent : List Sent) (replies : List Reply) → Stage a first job console steps sent replies → Stage b first job console steps sent (replies ++ now)
  stage_on first job console steps sent replies (at_safe h calm) =
      let both = none_of_both d.tasks b.course.work.left (sym d.work ∙ h.done) in
      let none : now ≡ [] = sym (d.told h.unanswered) ∙ ap tells both.0 in
      at_safe (record {
        done = both.1;
        unanswered = d.unanswered ∙ h.unanswered;
        point = h.point;
        answered = h.answered;
        course = h.course;
        leads = h.leads;
        tells = h.tells ∙ sym (ap (λ (rs : List Reply). replies ++ rs) none ∙ append-nil replies);
        last_is = same_answered (ap (list_any is_answer) none) ∙ h.last_is;
      }) (or_first b.course.line.halts (has_halt b.course.work.left) (d.halts ∙ ap (λ (ts : List Task). a.course.line.halts || has_halt ts) h.done ∙ ap (λ (t : Bool). t || false) calm))
  stage_on first job console steps sent replies (behind_safe x) = behind_safe (record {
    front = x.front;
    later = x.later;
    sent_is = x.sent_is;
    told = x.told;
    heard = x.heard ++ now;
    replies_is = ap (λ (rs : List Reply). rs ++ now) x.replies_is ∙ append_assoc x.told x.heard now;
    last = x.last;
    safe = x.safe;
    since = since_on first job console steps x.front x.told x.last x.safe x.later x.heard x.since;
  })

  -- ---- while records count, and where they do not

  module _ (first : State) (job console steps : List ℕ) (sent : List Sent) (replies : List Reply) (records : List Record) (same : b.broken ≡ a.broken) where
    pub early_on : ((left : List Sent) (rest : List ℕ) → sent_in job ≡ sent ++ left → Tells console (replies ++ left_to_tell a.course) rest → NoneEarly job console steps a.course.work.number records)
        → (left : List Sent) (rest : List ℕ) → sent_in job ≡ sent ++ left → Tells console ((replies ++ now) ++ left_to_tell b.course) rest → NoneEarly job console steps b.course.work.number records
    early_on early left rest whole told =
        subst (λ (n : ℕ). NoneEarly job console steps n records) (sym d.number)
        (early left rest whole (subst (λ (rs : List Reply). Tells console rs rest) (append_assoc replies now (left_to_tell b.course) ∙ ap (λ (rs : List Reply). replies ++ rs) (sym left_on)) told))

    counting_on : (HasJudged a.course first sent replies records → HasJudged b.course first sent (replies ++ now) records)
        → (a.broken ≡ None → a.course.lost ≡ false → b.course.lost ≡ true → (r : Record) → ReadsAs steps (records ++ r ∷ []) → is_ending r ≡ true)
        → Counting a first job console steps sent replies records → Counting b first job console steps sent (replies ++ now) records
    counting_on judged loses m = record {
      counts = same ∙ m.counts;
      judged = judged m.judged;
      early = early_on m.early;
      stops = λ lost r reads. by a.course.lost refl lost r reads;
    } where
      by : (l : Bool) → a.course.lost ≡ l → b.course.lost ≡ true → (r : Record) → ReadsAs steps (records ++ r ∷ []) → is_ending r ≡ true
      by true was lost r reads = m.stops was r reads
      by false was lost r reads = loses m.counts was lost r reads

    pub broken_on : ((p : Point) (before : List Reply) (later : List Sent) → HasHeard a.course p before later replies → HasHeard b.course p before later (replies ++ now))
        → Broken a first job console steps sent replies records → Broken b first job console steps sent (replies ++ now) records
    broken_on heard m = record {
      at = m.at;
      broken = same ∙ m.broken;
      front = m.front;
      later = m.later;
      sent_is = m.sent_is;
      told = m.told;
      point = m.point;
      since = m.since;
      begun = m.begun;
      none_begun = m.none_begun;
      place = m.place;
      made = m.made;
      reached = m.reached;
      making = m.making;
      is_made = m.is_made;
      breaks = m.breaks;
      heard = heard m.point m.told m.later m.heard;
    }

    pub phase_on : (HasJudged a.course first sent replies records → HasJudged b.course first sent (replies ++ now) records)
        → ((p : Point) (before : List Reply) (later : List Sent) → HasHeard a.course p before later replies → HasHeard b.course p before later (replies ++ now))
        → (a.broken ≡ None → a.course.lost ≡ false → b.course.lost ≡ true → (r : Record) → ReadsAs steps (records ++ r ∷ []) → is_ending r ≡ true)
        → Phase a first job console steps sent replies records → Phase b first job console steps sent (replies ++ now) records
    phase_on judged heard loses (counting m) = counting (counting_on judged loses m)
    phase_on judged heard loses (broken m) = broken (broken_on heard m)

-- Where they do not, and more of the job is told, the judge hears it.
pub broken_sent : {a b : Auditor} {first : State} {job console steps : List ℕ} {sent : List Sent} {replies : List Reply} {records : List Record} (more : List Sent) → b.broken ≡ a.broken
    → ((p : Point) (before : List Reply) (later : List Sent) → HasHeard a.course p before later replies → HasHeard b.course p before (later ++ more) replies) → Broken a first job console steps sent replies records
    → Broken b first job console steps (sent ++ more) replies records
broken_sent more same heard m = record {
  at = m.at;
  broken = same ∙ m.broken;
  front = m.front;
  later = m.later ++ more;
  sent_is = ap (λ (ss : List Sent). ss ++ more) m.sent_is ∙ append_assoc m.front m.later more;
  told = m.told;
  point = m.point;
  since = m.since;
  begun = m.begun;
  none_begun = m.none_begun;
  place = m.place;
  made = m.made;
  reached = m.reached;
  making = m.making;
  is_made = m.is_made;
  breaks = m.breaks;
  heard = heard m.point m.told m.later m.heard;
}

-- ---- the line at hand stays

-- a judge goes on with the line that was at hand, and what it hears stays
pub record HeardAs (j k : CourseJudge) : Type 0 where
  pub heard : StaysHeard j k
  pub unanswered : k.unanswered ≡ j.unanswered
  pub left : k.work.left ≡ j.work.left
  pub number : k.work.number ≡ j.work.number
  pub halts : k.line.halts ≡ j.line.halts

pub same_judge : (j : CourseJudge) → HeardAs j j
same_judge j = record { heard = λ p before sent replies h. h; unanswered = refl; left = refl; number = refl; halts = refl }

-- what is left to tell of it stays
pub tells_same : (j k : CourseJudge) → k.unanswered ≡ j.unanswered → k.work.left ≡ j.work.left → left_to_tell k ≡ left_to_tell j
tells_same j k unanswered left = ap (λ (b : Bool). cond b [] (tells k.work.left)) unanswered ∙ ap (λ (ts : List Task). cond j.unanswered [] (tells ts)) left

module _ (a : Auditor) (k : CourseJudge) (l : Listening) (q : Recorded) (o : Option ℕ) (h : HeardAs a.course k) where
  -- nothing is done of it
  pub stays_on : DoesOn a (record a { course = k; listening = l; recorded = q; broken = o }) []
  stays_on = record {
    sending = refl;
    unanswered = h.unanswered;
    number = h.number;
    halts = ap (λ (t : Bool). t || has_halt k.work.left) h.halts ∙ ap (λ (ts : List Task). a.course.line.halts || has_halt ts) h.left;
    tasks = [];
    work = sym h.left;
    told = λ answered. refl;
    waits = λ waits. (refl, h.heard);
    answered = refl;
  }

  -- it has the stage that it had
  pub stage_as : (first : State) (job console steps : List ℕ) (sent : List Sent) (replies : List Reply) → Stage a first job console steps sent replies → Stage (record a { course = k; listening = l; recorded = q; broken = o }) first job console steps sent replies
  stage_as first job console steps sent replies stage =
      subst (λ (rs : List Reply). Stage (record a { course = k; listening = l; recorded = q; broken = o }) first job console steps sent rs) (append-nil replies)
      (stage_on a (record a { course = k; listening = l; recorded = q; broken = o }) [] stays_on first job console steps sent replies stage)
