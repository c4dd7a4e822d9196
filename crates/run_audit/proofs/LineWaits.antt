-- Lines that are begun and wait for a reset, and records that stand where no such line may come.
use Rattle.std.proofs.Common.{◌≡◌, ◌≤◌, ◌<◌, ◌⊎◌, inl, inr, ℕ, ◌+◌, Bool, true, false, cond, not, ◌&&◌, List, [], ◌∷◌, ◌++◌, append_assoc, append-nil, length, length-append, Some, None, refl, sym, ap, ◌∙◌, subst, arith}
use Rattle.std.specs.List.{AllByRecursion}
use Rattle.std.specs.declared.option.Option.{Option}
use Rattle.std.proofs.lemmas.List.{append_cancel_left}
use Rattle.outside.specs.Causes.{SourceState}
use Rattle.status_report.specs.declared.Reply.{Reply}
use Rattle.step_line.specs.declared.Mark.TheVariants as marks
use Rattle.step_line.specs.declared.Record.{Record}
use Rattle.step_line.specs.declared.Record.TheVariants as kinds
use Rattle.step_record.specs.declared.forms.Line.{Line as AnyLine}
use Rattle.run_rules.specs.declared.State.{State}
use Rattle.run_rules.specs.States.{IsOpening}
use Rattle.run_rules.specs.Work.{Outcome, tells}
use Rattle.run_texts.specs.Courses.{IsReset}
use Rattle.run_texts.specs.Parts.{is_ending}
use Rattle.run_texts.specs.Points.{Point, IsBroken, behind_broken}
use Rattle.run_texts.specs.Sent.{Sent}
use Rattle.run_texts.specs.Sent.Sent.{a_text, a_stop}
use Rattle.run_texts.specs.Told.{told_in}
use Rattle.part_making.specs.Judging.{making}
use Rattle.audit_rules.specs.Consoles.{Tells}
use Rattle.audit_rules.specs.Faults.{BreaksNoLine}
use Rattle.audit_rules.specs.Findings.{IsTooLong, MayEnd}
use Rattle.audit_rules.specs.Onward.{HasCome, IsMarkOf, TellsNoLine}
use Rattle.audit_rules.specs.Scanned.{sent_in}
use Rattle.audit_rules.specs.Standing.{Stand}
use Rattle.audit_rules.specs.StepTexts.{records_of}
use Rattle.audit_rules.proofs.NextRefused.{no_early_cut, no_early_reset, no_later_cut, no_later_reset}
use Rattle.audit_rules.proofs.OneWay.{both}
use Rattle.audit_rules.proofs.OtherMarks.{no_line_stands}
use Rattle.audit_course.specs.Heard.{HasHeard, HearsSent}
use Rattle.audit_course.specs.SoFar.{AddsSent, left_to_tell}
use Rattle.audit_course.specs.declared.judge.CourseJudge.{CourseJudge}
use Rattle.audit_course.proofs.Ending.{to_tell}
use Rattle.audit_course.proofs.Heard.{heard_from_here}
use Rattle.audit_course.proofs.Onward.{none_owed}
use Rattle.audit_texts.specs.SoFar.{IsItem, JobSoFar, StandsIn, untold_of}
use Rattle.audit_texts.specs.declared.sending.Item.{Item}
use Rattle.audit_texts.specs.declared.sending.Item.TheVariants.{Line, Stop, Nothing}
use Rattle.audit_texts.specs.declared.sending.Sending.{Sending}
use Rattle.audit_texts.proofs.JobRead.{front_sent}
use Rattle.audit_texts.proofs.JobTold.{ComesNext, next_sent}
use Rattle.run_audit.specs.Coming.{MayBeOfLine}
use Rattle.run_audit.specs.Finding.{Leads}
use Rattle.run_audit.specs.OnWay.{Counting, HearsNext, IsLater, IsLooked, IsOnWay, IsToldTo, MayBeOf, NoneEarly, Phase, TellsReset, done_by}
use Rattle.run_audit.specs.OnWay.Phase.{counting, broken}
use Rattle.run_audit.specs.SafePoint.{BeginsAnew, Stage, WaitSince}
use Rattle.run_audit.specs.SafePoint.Since.{by_wait}
use Rattle.run_audit.specs.SafePoint.Stage.{behind_safe}
use Rattle.run_audit.specs.declared.auditor.Auditor.{Auditor}
use Rattle.run_audit.proofs.BreaksOff.{IsOff, breaks_lead}
use Rattle.run_audit.proofs.LineBegun.{ByOneLine, by_one_line}
use Rattle.run_audit.proofs.LineBegun.ByOneLine.{is_answered, is_waiting}
use Rattle.run_audit.proofs.OneReading.{one_next, reads_in}
use Rattle.run_audit.proofs.SafeNow.{SafeHere, come_now, safe_by}
use Rattle.run_audit.proofs.StageOn.{broken_sent, HeardAs, same_judge}
use Rattle.run_audit.proofs.WaitsNow.{begins_anew}

-- ---- what a judge has heard

-- It has heard so much from some point on.
pub record Hears (j : CourseJudge) : Type 0 where
  pub point : Point
  pub before : List Reply
  pub sent : List Sent
  pub replies : List Reply
  pub heard : HasHeard j point before sent replies

pub hears_now : {a : Auditor} {j c s : SourceState} {jt ct st : List ℕ} (u : IsOnWay a j c s jt ct st) → Hears a.course
hears_now {a} {j} {c} {s} {jt} {ct} {st} u = by u.phase where
  by : Phase a u.first jt ct st u.sent u.replies u.records → Hears a.course
  by (counting d) = record {
    point = d.judged.point;
    before = u.replies ++ left_to_tell a.course;
    sent = [];
    replies = u.replies;
    heard = heard_from_here a.course u.first u.sent u.replies u.records d.judged;
  }
  by (broken b) = record { point = b.point; before = b.told; sent = b.later; replies = u.replies; heard = b.heard }

-- from where it stands it has heard nothing yet
abbrev pub heard_there : (j : CourseJudge) (h : Hears j) → HasHeard j h.heard.point (left_to_tell j) [] []
heard_there j h =
    let x = h.heard in
    let first = x.some in
    let numbered = x.numbered in
    let number = x.number in
    record {
      point = x.point;
      number = x.number;
      state = x.state;
      same_state = x.same_state;
      locked = x.locked;
      unanswered = x.unanswered;
      hand = x.hand;
      line = x.line;
      at_hand = x.at_hand;
      some = omega (arith, first, numbered, number);
      numbered = omega (arith, number);
      course = [];
      leads = (refl, refl);
      rebases = tt;
      tells = append-nil (left_to_tell j);
    }

-- A line that waits was begun where all lines are answered.
pub answered_before : (j k : CourseJudge) (kept : List ℕ) → Hears j → HearsSent j k (a_text kept ∷ []) → k.unanswered ≡ true → j.unanswered ≡ false
answered_before j k kept h hears waits = by (by_one_line h.heard.point after.point kept after.course after.leads after.rebases) where
  after : HasHeard k h.heard.point (left_to_tell j) (a_text kept ∷ []) []
  after = hears h.heard.point (left_to_tell j) [] [] (heard_there j h)

  by : ByOneLine h.heard.point after.point kept (told_in after.course) → j.unanswered ≡ false
  by (is_answered o is at told) = absurd (let e : false ≡ true = sym (ap (λ (p : Point). p.unanswered) at) ∙ after.unanswered ∙ waits in cc)
  by (is_waiting o is at told) = sym h.heard.unanswered ∙ is.answered

-- ---- the line that waits has come behind the safe point

-- what is left to tell of a line that waits is nothing
none_to_tell : (k : CourseJudge) → k.unanswered ≡ true → left_to_tell k ≡ []
none_to_tell k waits = ap (λ (b : Bool). cond b [] (tells k.work.left)) waits

module _ (a : Auditor) (k : CourseJudge) (q : Sending) (first : State) (job console steps : List ℕ) (sent : List Sent) (replies : List Reply) (rest : List ℕ) (h : SafeHere a first job console steps sent replies rest)
    (kept : List ℕ) (more : List Sent) (whole : sent_in job ≡ (sent ++ a_text kept ∷ []) ++ more) (hears : HearsSent a.course k (a_text kept ∷ [])) (waits : k.unanswered ≡ true) (reply : Reply) (anew : BeginsAnew reply rest) where
  come : HasHeard k h.safe.point replies (a_text kept ∷ []) replies
  come = hears h.safe.point replies [] replies h.heard

  wait : (o : Outcome) → IsBroken h.safe.point kept o → come.point ≡ behind_broken h.safe.point o
      → WaitSince (record a { course = k; sending = q }) first job console steps sent replies a.answered h.safe (a_text kept ∷ []) []
  wait o is at =
      let some = come.some in
      let numbered = come.numbered in
      let number = come.number in
      record {
        kept = kept;
        more = more;
        waiting_is = append_cancel_left sent h.safe.waiting (a_text kept ∷ more) (sym h.safe.whole ∙ whole ∙ append_assoc sent (a_text kept ∷ []) more);
        later_is = refl;
        none = refl;
        unanswered = waits;
        outcome = o;
        broken = is;
        now = come.point;
        stands = record {
          point = come.point;
          number = come.number;
          state = come.state;
          same_state = come.same_state;
          locked = come.locked;
          unanswered = come.unanswered;
          hand = come.hand;
          line = come.line;
          at_hand = come.at_hand;
          some = omega (arith, some, numbered, number);
          numbered = omega (arith, number);
          course = [];
          leads = (refl, refl);
          rebases = tt;
          tells = sym (none_to_tell k waits);
        };
        resets = λ left r at_line. subst (λ (p : Point). IsReset p left r) (sym at) at_line;
        locked = ap (λ (p : Point). p.locked) at;
        reply = reply;
        anew = record { of_reset = anew.of_reset; later = anew.later; text = h.rest_is ∙ anew.text };
        number = come.numbered;
        answered = refl;
      }

  pub stage_waits : Stage (record a { course = k; sending = q }) first job console steps (sent ++ a_text kept ∷ []) replies
  stage_waits = by (by_one_line h.safe.point come.point kept come.course come.leads come.rebases) where
    by : ByOneLine h.safe.point come.point kept (told_in come.course) → Stage (record a { course = k; sending = q }) first job console steps (sent ++ a_text kept ∷ []) replies
    by (is_answered o is at told) = absurd (let e : false ≡ true = sym (ap (λ (p : Point). p.unanswered) at) ∙ come.unanswered ∙ waits in cc)
    by (is_waiting o is at told) = behind_safe (record {
      front = sent;
      later = a_text kept ∷ [];
      sent_is = refl;
      told = replies;
      heard = [];
      replies_is = sym (append-nil replies);
      last = a.answered;
      safe = h.safe;
      since = by_wait (wait o is at);
    })

-- ---- what stands next

-- Where the line at hand is done, and a record that ends no part comes next, nothing is owed of the part.
pub nothing_owed : {a : Auditor} {first : State} {jt ct st : List ℕ} {sent : List Sent} {replies : List Reply} {records : List Record} (d : Counting a first jt ct st sent replies records) (r : Record) → StandsIn st records a.recorded.at r
    → IsLater a.course (Some r) → is_ending r ≡ false → (making a.course.part d.judged.ticks d.judged.moves).owed ≡ []
nothing_owed {a} {first} {jt} {ct} {st} {sent} {replies} {records} d r looked later inside =
    none_owed a.course.part a.course.work.left d.judged.ticks d.judged.moves later.done (later.owes r refl inside) (d.judged.asked (by a.course.lost refl)).0 where
      by : (b : Bool) → a.course.lost ≡ b → a.course.lost ≡ false
      by true e = both (is_ending r) (d.stops e r (reads_in looked)) inside
      by false e = e

-- ---- no mark of an earlier line is next

not_early : (m : Record) (i n : ℕ) → IsMarkOf i m → MayBeOfLine n m → i + 1 < n + 1 → ⊥
not_early (kinds.Mark (marks.Cut k)) i n is may early = omega (arith, is, may, early)
not_early (kinds.Mark (marks.Reset k)) i n is may early = omega (arith, is, may, early)
not_early (kinds.Mark (marks.Dwell ms)) i n is may early = is
not_early (kinds.Mark (marks.Spindle code speed)) i n is may early = is
not_early (kinds.Mark (marks.Coolant on)) i n is may early = is
not_early (kinds.Head h) i n is may early = is
not_early (kinds.Event b) i n is may early = is
not_early kinds.End i n is may early = is

module _ {a : Auditor} {first : State} {jt ct st : List ℕ} {sent : List Sent} {replies : List Reply} {records : List Record} (d : Counting a first jt ct st sent replies records) (opens : IsOpening first) (r : Record) (looked : StandsIn st records a.recorded.at r)
    (later : IsLater a.course (Some r)) where
  -- where all is told up to the judge's point
  module _ (left : List Sent) (rest : List ℕ) (told : IsToldTo jt ct d.judged.point sent (replies ++ left_to_tell a.course) left rest) where
    abbrev come_to : HasCome (sent_in jt) ct records d.judged.since d.judged.begun d.judged.made
    come_to = come_now a.course first opens sent replies records d.judged jt ct left rest told

    early_behind : (x : Record) → x ≡ r → is_ending x ≡ false → (xs : List Record) → AllByRecursion (λ y. is_ending y ≡ false) xs → (m : Record) (i : ℕ) → IsMarkOf i m → i + 1 < a.course.work.number + 1 → Stand (sent_in jt) ct (records ++ x ∷ (xs ++ m ∷ [])) → ⊥
    early_behind x same inside xs all (kinds.Mark (marks.Cut k)) i is early stand =
        let number = d.judged.number in
        no_early_cut (sent_in jt) ct records d.judged.made d.judged.since d.judged.begun come_to (nothing_owed d r looked later (ap is_ending (sym same) ∙ inside)) x inside xs all k (omega (arith, number, is, early)) stand
    early_behind x same inside xs all (kinds.Mark (marks.Reset k)) i is early stand =
        let number = d.judged.number in
        no_early_reset (sent_in jt) ct records d.judged.made d.judged.since d.judged.begun come_to (nothing_owed d r looked later (ap is_ending (sym same) ∙ inside)) x inside xs all k (omega (arith, number, is, early)) stand
    early_behind x same inside xs all (kinds.Mark (marks.Dwell ms)) i is early stand = is
    early_behind x same inside xs all (kinds.Mark (marks.Spindle code speed)) i is early stand = is
    early_behind x same inside xs all (kinds.Mark (marks.Coolant on)) i is early stand = is
    early_behind x same inside xs all (kinds.Head h) i is early stand = is
    early_behind x same inside xs all (kinds.Event b) i is early stand = is
    early_behind x same inside xs all kinds.End i is early stand = is

    -- behind one line more none of an earlier line stands
    pub none_early_next : MayBeOfLine a.course.work.number r → NoneEarly jt ct st (a.course.work.number + 1) records
    none_early_next may [] inside m i is early reads stand = not_early m i a.course.work.number is (subst (λ (x : Record). MayBeOfLine a.course.work.number x) (sym (one_next m [] reads looked)) may) early
    none_early_next may (x ∷ xs) inside m i is early reads stand = early_behind x (one_next x (xs ++ m ∷ []) reads looked) inside.0 xs inside.1 m i is early stand

    -- ---- where no line may come

    -- no record of the next line stands
    pub none_stands : MayBeOfLine a.course.work.number r → TellsNoLine d.judged.point left rest → BreaksNoLine d.judged.point left → Stand (sent_in jt) ct (records ++ r ∷ []) → ⊥
    none_stands may no_line unbroken stand = by r refl may where
      inside_stands : is_ending r ≡ false → ⊥
      inside_stands inside = no_line_stands (sent_in jt) ct records d.judged.made d.judged.since d.judged.begun come_to (nothing_owed d r looked later inside) no_line unbroken r inside stand

      by : (x : Record) → r ≡ x → MayBeOfLine a.course.work.number x → ⊥
      by (kinds.Mark (marks.Cut k)) e m =
          let number = d.judged.number in
          no_later_cut (sent_in jt) ct records d.judged.made d.judged.since d.judged.begun come_to k (omega (arith, number, m)) no_line unbroken (subst (λ (y : Record). Stand (sent_in jt) ct (records ++ y ∷ [])) e stand)
      by (kinds.Mark (marks.Reset k)) e m =
          let number = d.judged.number in
          no_later_reset (sent_in jt) ct records d.judged.made d.judged.since d.judged.begun come_to k (omega (arith, number, m)) no_line unbroken (subst (λ (y : Record). Stand (sent_in jt) ct (records ++ y ∷ [])) e stand)
      by (kinds.Mark (marks.Dwell ms)) e m = inside_stands (ap is_ending e)
      by (kinds.Mark (marks.Spindle code speed)) e m = inside_stands (ap is_ending e)
      by (kinds.Mark (marks.Coolant on)) e m = inside_stands (ap is_ending e)
      by (kinds.Head h) e m = inside_stands (ap is_ending e)
      by (kinds.Event b) e m = inside_stands (ap is_ending e)
      by kinds.End e m = m

-- ---- the line is begun

module _ {a : Auditor} {j c s : SourceState} {jt ct st : List ℕ} (u : IsOnWay a j c s jt ct st) (k : CourseJudge) (q : Sending) (kept : List ℕ) (hears : HearsSent a.course k (a_text kept ∷ [])) (adds : AddsSent a.course k (a_text kept ∷ []))
    (waits : k.unanswered ≡ true) (lost : k.lost ≡ a.course.lost) (number : k.work.number ≡ a.course.work.number + 1) (next : Option Record) (later : IsLater a.course next) (may : MayBeOf a.course.work.number next) (looked : IsLooked a st u.records next) where
  counting_waits : (d : Counting a u.first jt ct st u.sent u.replies u.records) → a.course.unanswered ≡ false → Counting (record a { course = k; sending = q }) u.first jt ct st (u.sent ++ a_text kept ∷ []) u.replies u.records
  counting_waits d answered = record {
    counts = d.counts;
    judged = adds u.first u.sent u.replies u.records d.judged;
    early = λ left rest whole tells. subst (λ (n : ℕ). NoneEarly jt ct st n u.records) (sym number) (by next later may looked left rest whole tells);
    stops = λ e. d.stops (sym lost ∙ e);
  } where
    by : (x : Option Record) → IsLater a.course x → MayBeOf a.course.work.number x → IsLooked a st u.records x → (left : List Sent) (rest : List ℕ) → sent_in jt ≡ (u.sent ++ a_text kept ∷ []) ++ left → Tells ct (u.replies ++ left_to_tell k) rest
        → NoneEarly jt ct st (a.course.work.number + 1) u.records
    by None l m none left rest whole tells = absurd (none d.counts)
    by (Some r) l m is left rest whole tells = none_early_next d u.opens r is.1 l (a_text kept ∷ left) rest (record {
      whole = whole ∙ append_assoc u.sent (a_text kept ∷ []) left;
      tells = subst (λ (rs : List Reply). Tells ct (u.replies ++ rs) rest) (none_to_tell k waits ∙ sym (to_tell a.course l.done)) tells;
      waits = λ unanswered. both a.course.unanswered (sym d.judged.unanswered ∙ unanswered) answered;
    }) m

  phase_waits : a.course.unanswered ≡ false → Phase (record a { course = k; sending = q }) u.first jt ct st (u.sent ++ a_text kept ∷ []) u.replies u.records
  phase_waits answered = by u.phase where
    by : Phase a u.first jt ct st u.sent u.replies u.records → Phase (record a { course = k; sending = q }) u.first jt ct st (u.sent ++ a_text kept ∷ []) u.replies u.records
    by (counting d) = counting (counting_waits d answered)
    by (broken x) = broken (broken_sent (a_text kept ∷ []) refl (λ p told before h. hears p told before u.replies h) x)

  pub waits_on : (IsTooLong ct st → ⊥) → (not a.course.unanswered && a.course.line.halts) ≡ false → (known : Option Reply) → TellsReset known → HearsNext known ct u.replies → JobSoFar q j jt (u.sent ++ a_text kept ∷ []) → q.last ≡ a.sending.last
      → length k.work.left ≤ 64 → (n : ℕ) → n + length a.course.work.left ≤ done_by a u.sent u.records → Leads (record a { course = k; sending = q }) j c s jt ct st n None
  waits_on short calm known resets heard read last few n done =
      let answered = answered_before a.course k kept (hears_now u) hears waits in
      let h = safe_by u short next looked later answered calm known heard in
      let f = front_sent q j jt (u.sent ++ a_text kept ∷ []) read in
      let one = length-append u.sent (a_text kept ∷ []) in (
        record {
          first = u.first;
          opens = u.opens;
          sent = u.sent ++ a_text kept ∷ [];
          replies = u.replies;
          records = u.records;
          are_read = record { job_so_far = read; console_so_far = u.are_read.console_so_far; steps_so_far = u.are_read.steps_so_far };
          phase = phase_waits answered;
          stage = stage_waits a k q u.first jt ct st u.sent u.replies heard.0 h kept (untold_of q ++ f.later) f.split hears waits resets.0 (begins_anew resets heard);
          calm = last ∙ u.calm;
        },
        omega (arith, done, few, one),
      )

-- ---- no line is begun

-- where a line waits, none is next
pub none_behind : {p : Point} {left : List Sent} {rest : List ℕ} → p.unanswered ≡ true → TellsNoLine p left rest × BreaksNoLine p left
none_behind {p} {left} {rest} waits = (λ kept more o later e passed told. both p.unanswered waits passed.answered, λ kept more o e is. both p.unanswered waits is.answered)

-- nor where no line is next of the job
pub none_waiting : {p : Point} {left : List Sent} {rest : List ℕ} → ((kept : List ℕ) (more : List Sent) → left ≡ a_text kept ∷ more → ⊥) → TellsNoLine p left rest × BreaksNoLine p left
none_waiting none = (λ kept more o later e passed told. none kept more e, λ kept more o e is. none kept more e)

-- what comes next of the job is no line
pub no_line_next : (item : Item) (q : Sending) (left : List Sent) → ((item ≡ Stop) ⊎ (item ≡ Nothing)) → ComesNext item q left → (kept : List ℕ) (more : List Sent) → left ≡ a_text kept ∷ more → ⊥
no_line_next Line q left (inl other) is kept more e = absurd (let e : Line ≡ Stop = other in cc)
no_line_next Line q left (inr other) is kept more e = absurd (let e : Line ≡ Nothing = other in cc)
no_line_next Stop q left other is kept more e = (let both : a_stop ∷ is.0 ≡ a_text kept ∷ more = sym is.1 ∙ e in cc)
no_line_next Nothing q left other is kept more e = (let both : ◌≡◌ {A = List Sent} [] (a_text kept ∷ more) = sym is ∙ e in cc)

-- The auditor breaks off, if records count.
pub record StopsHere (a b : Auditor) : Type 0 where
  pub sending : b.sending ≡ a.sending
  pub listening : b.listening ≡ a.listening
  pub recorded : b.recorded ≡ a.recorded
  pub course : b.course ≡ a.course
  pub answered : b.answered ≡ a.answered
  pub broken : a.broken ≡ None → b.broken ≡ Some a.recorded.at

is_off : (a b : Auditor) → StopsHere a b → a.broken ≡ None → IsOff a b
is_off a b s none = record { sending = s.sending; listening = s.listening; recorded = s.recorded; course = s.course; answered = s.answered; broken = s.broken none }

module _ {a : Auditor} {j c s : SourceState} {jt ct st : List ℕ} (u : IsOnWay a j c s jt ct st) (k : CourseJudge) (same : k ≡ a.course) (b : Auditor) (off : StopsHere (record a { course = k }) b) (n : ℕ) (done : n + length a.course.work.left ≤ done_by a u.sent u.records)
    (r : Record) (later : IsLater a.course (Some r)) (looked : IsLooked a st u.records (Some r)) where
  -- where the next record does not stand, records count no more
  pub broken_next : ((d : Counting a u.first jt ct st u.sent u.replies u.records) (left : List Sent) (rest : List ℕ) → IsToldTo jt ct d.judged.point u.sent (u.replies ++ left_to_tell a.course) left rest → Stand (sent_in jt) ct (u.records ++ r ∷ []) → ⊥)
      → ((d : Counting a u.first jt ct st u.sent u.replies u.records) (left : List Sent) (rest : List ℕ) → IsToldTo jt ct d.judged.point u.sent (u.replies ++ left_to_tell a.course) left rest → r ≡ kinds.End → (done : List AnyLine) → u.records ≡ records_of done → MayEnd jt ct done → ⊥)
      → Leads b j c s jt ct st n None
  broken_next refuses ends = by u.phase where
    by : Phase a u.first jt ct st u.sent u.replies u.records → Leads b j c s jt ct st n None
    by (counting d) = breaks_lead u d k (subst (HeardAs a.course) (sym same) (same_judge a.course)) (Some r) looked.1
        (λ left rest told x is stand. refuses d left rest told (subst (λ (y : Record). Stand (sent_in jt) ct (u.records ++ y ∷ [])) (let e : x ≡ r = cc in e) stand))
        (λ left rest told is lines are may. ends d left rest told (let e : r ≡ kinds.End = cc in e) lines are may)
        b (is_off (record a { course = k }) b off looked.0) n done
    by (broken x) = absurd (let e : None ≡ Some x.at = sym looked.0 ∙ x.broken in cc)

  -- no line is next, and the next record is of one
  pub none_begun : MayBeOfLine a.course.work.number r → ((d : Counting a u.first jt ct st u.sent u.replies u.records) (left : List Sent) (rest : List ℕ) → IsToldTo jt ct d.judged.point u.sent (u.replies ++ left_to_tell a.course) left rest → TellsNoLine d.judged.point left rest × BreaksNoLine d.judged.point left)
      → Leads b j c s jt ct st n None
  none_begun may none = broken_next
      (λ d left rest told stand. let unable = none d left rest told in none_stands d u.opens r looked.1 later left rest told may unable.0 unable.1 stand)
      (λ d left rest told is. absurd (subst (λ (x : Record). MayBeOfLine a.course.work.number x) is may))

  -- a line waits
  pub waits_already : MayBeOfLine a.course.work.number r → a.course.unanswered ≡ true → Leads b j c s jt ct st n None
  waits_already may waits = none_begun may (λ d left rest told. none_behind (d.judged.unanswered ∙ waits))

  -- the job goes on with no line
  pub none_next : MayBeOfLine a.course.work.number r → (item : Item) → IsItem item a.sending → ((item ≡ Stop) ⊎ (item ≡ Nothing)) → (item ≡ Nothing → a.sending.over ≡ true) → Leads b j c s jt ct st n None
  none_next may item is other over = none_begun may (λ d left rest told. none_waiting (no_line_next item a.sending left other (next_sent a.sending item j jt u.sent left u.calm u.are_read.job_so_far told.whole is over)))

-- A line that may not be begun, though none has raised an alarm, has one before it that waits.
pub waits_before : (unanswered halts : Bool) → (unanswered ≡ false → halts ≡ true) → (not unanswered && halts) ≡ false → unanswered ≡ true
waits_before true halts halted calm = refl
waits_before false halts halted calm = both halts (halted refl) calm

pub refused_on : {a : Auditor} {j c s : SourceState} {jt ct st : List ℕ} (u : IsOnWay a j c s jt ct st) (k : CourseJudge) (same : k ≡ a.course) (b : Auditor) (off : StopsHere (record a { course = k }) b) (n : ℕ) (done : n + length a.course.work.left ≤ done_by a u.sent u.records)
    (next : Option Record) (later : IsLater a.course next) (may : MayBeOf a.course.work.number next) (looked : IsLooked a st u.records next) → (next ≡ None → a.course.unanswered ≡ false) → a.course.unanswered ≡ true → Leads b j c s jt ct st n None
refused_on {a} u k same b off n done None later may looked answered waits = absurd (both a.course.unanswered waits (answered refl))
refused_on {a} u k same b off n done (Some r) later may looked answered waits = waits_already u k same b off n done r later looked may waits
