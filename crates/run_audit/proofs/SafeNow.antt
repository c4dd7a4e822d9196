-- A course of an audit stands where its lines are done, and there the auditor is at a safe point.
use Rattle.std.proofs.Common.{◌≡◌, ℕ, ◌+◌, Bool, true, false, cond, not, ◌&&◌, ◌||◌, List, [], ◌∷◌, ◌++◌, append_assoc, append-nil, map, Some, None, refl, sym, ap, ◌∙◌, subst, arith}
use Rattle.std.specs.declared.option.Option.{Option}
use Rattle.std.specs.List.{list_any}
use Rattle.std.proofs.lemmas.List.Concat.{flat_map-append}
use Rattle.outside.specs.Causes.{SourceState}
use Rattle.status_report.specs.Answering.{is_answer}
use Rattle.status_report.specs.declared.Reply.{Reply}
use Rattle.status_report.specs.declared.Reply.TheVariants.{Alarm, Banner}
use Rattle.step_line.specs.declared.Mark.TheVariants as marks
use Rattle.step_line.specs.declared.Record.{Record}
use Rattle.step_line.specs.declared.Record.TheVariants as kinds
use Rattle.step_record.specs.Forms.{records_of as records_by}
use Rattle.run_rules.specs.declared.State.{State}
use Rattle.run_rules.specs.States.{IsOpening}
use Rattle.run_rules.specs.Work.{Outcome, Task}
use Rattle.run_texts.specs.Courses.{Passed}
use Rattle.run_texts.specs.Parts.{is_ending}
use Rattle.run_texts.specs.Points.{Point, opening}
use Rattle.run_texts.specs.Sent.{Sent}
use Rattle.run_texts.specs.Sent.Sent.{a_text, a_stop}
use Rattle.run_texts.specs.SoFar.{LeadsTo}
use Rattle.run_texts.specs.Told.{told_in, told_of}
use Rattle.run_texts.proofs.SoFar.{leads_on, leads_with_more}
use Rattle.part_making.specs.Judging.{making, owed_of}
use Rattle.audit_rules.specs.Consoles.{Tells}
use Rattle.audit_rules.specs.Faults.{ComesUpTo, ReadsUpTo, told_with}
use Rattle.audit_rules.specs.Findings.{IsTooLong}
use Rattle.audit_rules.specs.Onward.{HasCome, IsOfLater, TellsNothing}
use Rattle.audit_rules.specs.Scanned.{sent_in}
use Rattle.audit_rules.specs.Standing.{Stand}
use Rattle.audit_rules.specs.StepTexts.{records_of}
use Rattle.audit_rules.specs.Telling.{last_answered}
use Rattle.audit_rules.proofs.ComeUpTo.{comes_here, comes_on, read_no_further}
use Rattle.audit_rules.proofs.LastAnswered.{line_last, reset_last, same_last}
use Rattle.audit_rules.proofs.NoRecord.{no_record}
use Rattle.audit_rules.proofs.OneWay.{both}
use Rattle.audit_rules.proofs.ToldApart.{in_two}
use Rattle.audit_course.specs.Heard.{HasHeard, KnowsPoint}
use Rattle.audit_course.specs.Progressing.{has_halt}
use Rattle.audit_course.specs.SoFar.{HasJudged, left_to_tell, texts_among}
use Rattle.audit_course.specs.declared.judge.CourseJudge.{CourseJudge}
use Rattle.audit_course.proofs.Ending.{to_tell}
use Rattle.audit_course.proofs.Onward.{none_owed}
use Rattle.audit_texts.specs.SoFar.{StandsAt, StandsIn, untold_of}
use Rattle.audit_texts.proofs.JobRead.{front_sent}
use Rattle.run_audit.specs.Coming.{is_alarm}
use Rattle.run_audit.specs.OnWay.{BreaksThere, Broken, Counting, HearsNext, IsLater, IsLooked, IsOnWay, IsToldTo, Phase, ReadsAs}
use Rattle.run_audit.specs.OnWay.Phase.{counting, broken}
use Rattle.run_audit.specs.SafePoint.{IsHere, IsSince, SafePoint, Since, Stage, StandsBy}
use Rattle.run_audit.specs.SafePoint.Since.{by_line, by_wait, by_reset}
use Rattle.run_audit.specs.SafePoint.Stage.{at_safe, behind_safe}
use Rattle.run_audit.specs.declared.auditor.Auditor.{Auditor}
use Rattle.run_audit.proofs.OneReading.{reads_in}
use Rattle.run_audit.proofs.SafeCourses.{number_there, rebases_with_more, reset_first}

-- no line has halted the machine where none has raised an alarm and all are answered
pub none_halts : (j : CourseJudge) → j.unanswered ≡ false → (not j.unanswered && j.line.halts) ≡ false → j.line.halts ≡ false
none_halts j answered calm = sym (ap (λ (b : Bool). not b && j.line.halts) answered) ∙ calm

-- what a judge knows, and what is told, is a course that has come so far
abbrev pub come_now : (j : CourseJudge) (first : State) (opens : IsOpening first) (sent : List Sent) (replies : List Reply) (records : List Record) (s : HasJudged j first sent replies records) (job console : List ℕ) (left : List Sent) (rest : List ℕ)
    → IsToldTo job console s.point sent (replies ++ left_to_tell j) left rest → HasCome (sent_in job) console records s.since s.begun s.made
come_now j first opens sent replies records s job console left rest told = record {
  first = first;
  opens = opens;
  point = s.point;
  front = sent;
  left = left;
  whole = told.whole;
  place = s.from;
  told = replies ++ left_to_tell j;
  reached = s.reached;
  rest = rest;
  tells = told.tells;
  waits = told.waits;
  none_begun = λ e. s.none_begun (sym s.unanswered ∙ e);
  making = making j.part s.ticks s.moves;
  is_made = s.is_made;
}

-- ---- where nothing is left to do

pub all_told : (j : CourseJudge) (replies : List Reply) → j.work.left ≡ [] → replies ++ left_to_tell j ≡ replies
all_told j replies done = ap (λ (rs : List Reply). replies ++ rs) (to_tell j done) ∙ append-nil replies

or_false : (b : Bool) → (b || false) ≡ b
or_false true = refl
or_false false = refl

-- A course leads to where the judge stands, and has told all of it.
record ComesNow (j : CourseJudge) (first : State) (sent : List Sent) (replies : List Reply) : Type 0 where
  point : Point
  course : List Passed
  leads : LeadsTo (opening first) sent course point []
  tells : told_in course ≡ replies
  hand : List Outcome
  knows : KnowsPoint j point hand

abbrev comes_counting : (j : CourseJudge) (first : State) (sent : List Sent) (replies : List Reply) (records : List Record) (s : HasJudged j first sent replies records) → j.work.left ≡ [] → ComesNow j first sent replies
comes_counting j first sent replies records s done = record {
  point = s.point;
  course = s.reached.course;
  leads = s.reached.leads;
  tells = s.reached.tells ∙ all_told j replies done;
  hand = s.hand;
  knows = record { number = s.number; state = s.state; same_state = s.same_state; locked = s.locked; unanswered = s.unanswered; line = s.line; at_hand = s.at_hand };
}

-- behind a record that breaks a rule
abbrev comes_broken : {a : Auditor} {first : State} {job console steps : List ℕ} {sent : List Sent} {replies : List Reply} {records : List Record} (b : Broken a first job console steps sent replies records) → a.course.work.left ≡ []
    → ComesNow a.course first sent replies
comes_broken {a} {first} {job} {console} {steps} {sent} {replies} b done = record {
  point = b.heard.point;
  course = b.reached.course ++ b.heard.course;
  leads = subst (λ (ss : List Sent). LeadsTo (opening first) ss (b.reached.course ++ b.heard.course) b.heard.point []) (sym b.sent_is)
      (leads_on (opening first) b.point b.heard.point (b.front ++ b.later) b.later [] b.reached.course b.heard.course (leads_with_more (opening first) b.point b.front [] b.later b.reached.course b.reached.leads) b.heard.leads);
  tells = flat_map-append told_of b.reached.course b.heard.course ∙ ap (λ (rs : List Reply). rs ++ told_in b.heard.course) b.reached.tells ∙ b.heard.tells ∙ all_told a.course replies done;
  hand = b.heard.hand;
  knows = record {
    number = b.heard.number;
    state = b.heard.state;
    same_state = b.heard.same_state;
    locked = b.heard.locked;
    unanswered = b.heard.unanswered;
    line = b.heard.line;
    at_hand = b.heard.at_hand;
  };
}

comes_now : {a : Auditor} {first : State} {job console steps : List ℕ} {sent : List Sent} {replies : List Reply} {records : List Record} → Phase a first job console steps sent replies records → a.course.work.left ≡ [] → ComesNow a.course first sent replies
comes_now {a} {first} {job} {console} {steps} {sent} {replies} {records} (counting d) done = comes_counting a.course first sent replies records d.judged done
comes_now (broken b) done = comes_broken b done

-- ---- it is here

-- what is told at a reset begins with what a reset tells
greeting_last : (f : State) → IsOpening f → (front : List Sent) (lines : List (List ℕ)) (xs ys : List Passed) (p q : Point) (alarm locked : Bool) → LeadsTo (opening f) front xs p [] → LeadsTo (opening f) (front ++ (map a_text lines ++ a_stop ∷ [])) ys q []
    → p.unanswered ≡ false → told_in ys ≡ told_in xs ++ told_with alarm locked → last_answered 1 0 ys ≡ last_answered 1 0 xs
greeting_last f opens front lines xs ys p q true locked a b answered told = reset_last f f opens opens front lines xs ys p q (Alarm 3) _ a b answered told refl
greeting_last f opens front lines xs ys p q false locked a b answered told = reset_last f f opens opens front lines xs ys p q Banner _ a b answered told refl

module _ (a : Auditor) (first : State) (job console steps : List ℕ) (sent : List Sent) (replies : List Reply) (c : ComesNow a.course first sent replies) (opens : IsOpening first) (done : a.course.work.left ≡ []) (answered : a.course.unanswered ≡ false) where
  at_point : c.point.unanswered ≡ false
  at_point = c.knows.unanswered ∙ answered

  here_with : a.answered ≡ last_answered 1 0 c.course → IsHere a first sent replies
  here_with last = record { done = done; unanswered = answered; point = c.point; answered = at_point; course = c.course; leads = c.leads; tells = c.tells; last_is = last }

  module _ (b : IsSince a first job console steps sent replies) where
    leads_behind : (later : List Sent) → b.later ≡ later → LeadsTo (opening first) (b.front ++ later) c.course c.point []
    leads_behind later is = subst (λ (ss : List Sent). LeadsTo (opening first) ss c.course c.point []) (b.sent_is ∙ ap (λ (ss : List Sent). b.front ++ ss) is) c.leads

    told_behind : told_in c.course ≡ told_in b.safe.course ++ b.heard
    told_behind = c.tells ∙ b.replies_is ∙ ap (λ (rs : List Reply). rs ++ b.heard) (sym b.safe.tells)

    since_last : Since a first job console steps b.front b.told b.last b.safe b.later b.heard → a.answered ≡ last_answered 1 0 c.course
    since_last (by_line l) =
        l.answered ∙ ap (λ (n : ℕ). cond (list_any is_answer b.heard) b.safe.point.before.number n) b.safe.last_is
        ∙ sym (line_last first first opens opens b.front l.kept b.safe.course c.course b.safe.point c.point b.heard b.safe.leads (leads_behind (a_text l.kept ∷ []) l.later_is) b.safe.answered at_point told_behind)
    since_last (by_wait w) = both a.course.unanswered w.unanswered answered
    since_last (by_reset x) =
        let alarm = is_alarm (Some x.reply) in
        let all : told_with alarm b.safe.point.locked ≡ b.heard = x.greets ∙ all_told a.course b.heard done in
        x.answered ∙ b.safe.last_is
        ∙ sym (greeting_last first opens b.front x.lines b.safe.course c.course b.safe.point c.point alarm b.safe.point.locked b.safe.leads (leads_behind (map a_text x.lines ++ a_stop ∷ []) x.later_is) b.safe.answered
        (told_behind ∙ ap (λ (rs : List Reply). told_in b.safe.course ++ rs) (sym all)))

  here_of : Stage a first job console steps sent replies → IsHere a first sent replies
  here_of (at_safe h calm) = h
  here_of (behind_safe b) = here_with (since_last b b.since)

-- where the line at hand is done, told and answered
pub here_by : {a : Auditor} {j c s : SourceState} {jt ct st : List ℕ} (u : IsOnWay a j c s jt ct st) → a.course.work.left ≡ [] → a.course.unanswered ≡ false → IsHere a u.first u.sent u.replies
here_by {a} {j} {c} {s} {jt} {ct} {st} u done answered = here_of a u.first jt ct st u.sent u.replies (comes_now u.phase done) u.opens done answered u.stage

-- ---- a safe point is here

-- A safe point is here, where this is left of the console.
pub record SafeHere (a : Auditor) (first : State) (job console steps : List ℕ) (sent : List Sent) (replies : List Reply) (rest : List ℕ) : Type 0 where
  pub safe : SafePoint first job console steps sent replies a.answered
  pub rest_is : safe.rest ≡ rest
  pub heard : HasHeard a.course safe.point replies [] replies

-- the course that leads here tells what comes of the texts
module _ (a : Auditor) (first : State) (opens : IsOpening first) (job console steps : List ℕ) (sent : List Sent) (replies : List Reply) (c : ComesNow a.course first sent replies) (h : IsHere a first sent replies)
    (calm : (not a.course.unanswered && a.course.line.halts) ≡ false) (waiting : List Sent) (whole : sent_in job ≡ sent ++ waiting) (rest : List ℕ) (stands : StandsAt console replies rest) where
  free : c.point.before.alarmed ≡ false
  free = c.knows.line.alarmed ∙ ap (λ (limit : Bool). not a.course.unanswered && limit) (sym c.knows.line.halts ∙ ap (λ (ts : List Task). a.course.line.halts || has_halt ts) h.done ∙ or_false a.course.line.halts) ∙ calm

  number : c.point.before.number ≡ texts_among sent + 1
  number = number_there first c.point sent c.course c.leads

  safe_with : (TellsNothing c.point waiting rest → StandsBy job console steps c.point waiting rest c.course) → SafeHere a first job console steps sent replies rest
  safe_with comes = record {
    safe = record {
      point = c.point;
      answered = c.knows.unanswered ∙ h.unanswered;
      free = free;
      number = number;
      course = c.course;
      leads = c.leads;
      tells = c.tells;
      last_is = h.last_is ∙ same_last first first opens opens sent c.course h.course c.point h.point c.leads h.leads (c.knows.unanswered ∙ h.unanswered) (h.tells ∙ sym c.tells);
      waiting = waiting;
      whole = whole;
      rest = rest;
      stands = stands;
      comes = comes;
    };
    rest_is = refl;
    heard = record {
      point = c.point;
      number = c.knows.number;
      state = c.knows.state;
      same_state = c.knows.same_state;
      locked = c.knows.locked;
      unanswered = c.knows.unanswered;
      hand = c.hand;
      line = c.knows.line;
      at_hand = c.knows.at_hand;
      some = omega (arith, number);
      numbered = (let n = c.knows.number in omega (arith, n));
      course = [];
      leads = (refl, refl);
      rebases = tt;
      tells = append-nil replies ∙ sym (all_told a.course replies h.done);
    };
  }

-- ---- while records count

-- the next record comes of a later line, where nothing of what the lines ask for is left but at the end of a part
later_next : (j : CourseJudge) (first : State) (sent : List Sent) (replies : List Reply) (records : List Record) (s : HasJudged j first sent replies records) (next : Record) → j.work.left ≡ []
    → IsOfLater j.work.number [] next → (is_ending next ≡ false → (owed_of j.part ≡ []) × (j.lost ≡ false)) → IsOfLater s.point.before.number (making j.part s.ticks s.moves).owed next
later_next j first sent replies records s next done order none = by next order none where
  nothing : (r : Record) → is_ending r ≡ false → (is_ending r ≡ false → (owed_of j.part ≡ []) × (j.lost ≡ false)) → (making j.part s.ticks s.moves).owed ≡ []
  nothing r inside idle = let i = idle inside in none_owed j.part j.work.left s.ticks s.moves done i.0 (s.asked i.1).0

  by : (r : Record) → IsOfLater j.work.number [] r → (is_ending r ≡ false → (owed_of j.part ≡ []) × (j.lost ≡ false)) → IsOfLater s.point.before.number (making j.part s.ticks s.moves).owed r
  by (kinds.Head h) o idle = nothing (kinds.Head h) refl idle
  by (kinds.Event b) o idle = nothing (kinds.Event b) refl idle
  by (kinds.Mark (marks.Dwell ms)) o idle = nothing (kinds.Mark (marks.Dwell ms)) refl idle
  by (kinds.Mark (marks.Spindle code speed)) o idle = nothing (kinds.Mark (marks.Spindle code speed)) refl idle
  by (kinds.Mark (marks.Coolant on)) o idle = nothing (kinds.Mark (marks.Coolant on)) refl idle
  by (kinds.Mark (marks.Cut k)) o idle = (let n = s.number in omega (arith, o, n))
  by (kinds.Mark (marks.Reset k)) o idle = (let n = s.number in omega (arith, o, n))
  by kinds.End o idle = tt

-- the records of the lines up to a record that stands next, with those behind it
in_line : (steps : List ℕ) (records : List Record) (at : ℕ) (next : Record) (i : StandsIn steps records at next) → records ++ next ∷ i.later ≡ records_of (i.before ++ i.last ∷ [])
in_line steps records at next i =
    ap (λ (rs : List Record). rs ++ next ∷ i.later) i.told_are ∙ append_assoc (records_of i.before) i.part (next ∷ i.later) ∙ ap (λ (rs : List Record). records_of i.before ++ rs) (sym i.of_last)
    ∙ sym (flat_map-append records_by i.before (i.last ∷ []))

-- steps were read up to it
reads_up_to : (steps : List ℕ) (records : List Record) (at : ℕ) (next : Record) (i : StandsIn steps records at next) (May : Record → Type 0) → May next → ReadsUpTo steps (i.before ++ i.last ∷ []) i.rest records (next ∷ i.later) May
reads_up_to steps records at next i May may = record {
  text = i.body;
  are = i.are;
  records_are = in_line steps records at next i;
  next_record = λ r others e. let same : next ≡ r = cc in subst May same may;
  next_line = λ e line more text are. absurd cc;
}

module _ {a : Auditor} {first : State} {job console steps : List ℕ} {sent : List Sent} {replies : List Reply} {records : List Record} (d : Counting a first job console steps sent replies records) (opens : IsOpening first)
    (waiting : List Sent) (whole : sent_in job ≡ sent ++ waiting) (rest : List ℕ) (stands : StandsAt console replies rest) (next : Option Record) (later : IsLater a.course next) (answered : a.course.unanswered ≡ false) where
  -- what is told, all of it
  pub told_here : IsToldTo job console d.judged.point sent (replies ++ left_to_tell a.course) waiting rest
  told_here = record {
    whole = whole;
    tells = subst (λ (rs : List Reply). Tells console rs rest) (sym (all_told a.course replies later.done)) stands.tells;
    waits = λ e. both d.judged.point.unanswered e (d.judged.unanswered ∙ answered);
  }

  abbrev pub come_here : HasCome (sent_in job) console records d.judged.since d.judged.begun d.judged.made
  come_here = come_now a.course first opens sent replies records d.judged job console waiting rest told_here

  idle : (r : Record) → next ≡ Some r → ReadsAs steps (records ++ r ∷ []) → is_ending r ≡ false → (owed_of a.course.part ≡ []) × (a.course.lost ≡ false)
  idle r is read inside = (later.owes r is inside, by a.course.lost refl) where
    by : (lost : Bool) → a.course.lost ≡ lost → lost ≡ false
    by false e = refl
    by true e = both (is_ending r) (d.stops e r read) inside

  -- a record that was looked at comes of a later line
  pub looked_later : (r : Record) → next ≡ Some r → ReadsAs steps (records ++ r ∷ []) → IsOfLater d.judged.point.before.number (making a.course.part d.judged.ticks d.judged.moves).owed r
  looked_later r is read = later_next a.course first sent replies records d.judged r later.done (later.order r is) (idle r is read)

  -- so the console stands up to here, if nothing that may come is told
  pub counted_up_to : (r : Record) → next ≡ Some r → (i : StandsIn steps records a.recorded.at r) → TellsNothing d.judged.point waiting rest
      → ComesUpTo (sent_in job) console steps (i.before ++ i.last ∷ []) records (r ∷ i.later) d.judged.point waiting rest d.judged.reached.course
  counted_up_to r is i none =
      let may : Stand (sent_in job) console (records ++ r ∷ []) → ⊥ =
      no_record (sent_in job) console records d.judged.made d.judged.since d.judged.begun come_here none r (looked_later r is (reads_in i)) in
      comes_here (sent_in job) console steps records d.judged.made d.judged.since d.judged.begun come_here (i.before ++ i.last ∷ []) i.rest (r ∷ i.later)
      (read_no_further (sent_in job) console steps records d.judged.made d.judged.since d.judged.begun come_here (i.before ++ i.last ∷ []) i.rest (r ∷ i.later)
      (reads_up_to steps records a.recorded.at r i (λ x. Stand (sent_in job) console (records ++ x ∷ []) → ⊥) may))

  stands_counting : IsLooked a steps records next → TellsNothing d.judged.point waiting rest → StandsBy job console steps d.judged.point waiting rest d.judged.reached.course
  stands_counting looked none = by next refl looked where
    by : (n : Option Record) → next ≡ n → IsLooked a steps records n → StandsBy job console steps d.judged.point waiting rest d.judged.reached.course
    by None e looks = absurd (looks d.counts)
    by (Some r) e looks = record { lines = looks.1.before ++ looks.1.last ∷ []; records = records; left = r ∷ looks.1.later; up_to = counted_up_to r e looks.1 none }

-- ---- behind a record that breaks a rule

module _ {a : Auditor} {first : State} {job console steps : List ℕ} {sent : List Sent} {replies : List Reply} {records : List Record} (b : Broken a first job console steps sent replies records) (opens : IsOpening first)
    (done : a.course.work.left ≡ []) (answered : a.course.unanswered ≡ false) (waiting : List Sent) (whole : sent_in job ≡ sent ++ waiting) (rest : List ℕ) (stands : StandsAt console replies rest) where
  pub record BreaksHere : Type 0 where
    pub breaks : BreaksThere job console steps records b.at
    pub comes : ComesUpTo (sent_in job) console steps breaks.lines records breaks.left b.heard.point waiting rest (b.reached.course ++ b.heard.course)

  pub breaks_here : BreaksHere
  breaks_here =
      let told : Tells console (b.told ++ told_in b.heard.course) rest = subst (λ (rs : List Reply). Tells console rs rest) (sym (b.heard.tells ∙ all_told a.course replies done)) stands.tells in
      let t = in_two console b.told (told_in b.heard.course) rest told stands.no_report in
      let left : List Sent = b.later ++ waiting in
      let there : IsToldTo job console b.point b.front b.told left t.text = record {
        whole = whole ∙ ap (λ (ss : List Sent). ss ++ waiting) b.sent_is ∙ append_assoc b.front b.later waiting;
        tells = t.tells;
        waits = λ e. reset_first b.point b.heard.point b.later [] waiting t.text rest b.heard.course e (b.heard.unanswered ∙ answered) b.heard.leads b.heard.rebases t.on;
      } in
      let breaks = b.breaks left t.text there in
      let c : HasCome (sent_in job) console records b.since b.begun b.made = record {
        first = first;
        opens = opens;
        point = b.point;
        front = b.front;
        left = left;
        whole = there.whole;
        place = b.place;
        told = b.told;
        reached = b.reached;
        rest = t.text;
        tells = t.tells;
        waits = there.waits;
        none_begun = b.none_begun;
        making = b.making;
        is_made = b.is_made;
      } in
      record {
        breaks = breaks;
        comes = comes_on (sent_in job) console steps records b.made b.since b.begun c breaks.lines breaks.text breaks.left breaks.read b.heard.point waiting rest b.heard.course
            (leads_with_more b.point b.heard.point b.later [] waiting b.heard.course b.heard.leads) (rebases_with_more b.point b.heard.point b.later [] waiting b.heard.course b.heard.leads b.heard.rebases) t.on
            (λ e. both b.heard.point.unanswered e (b.heard.unanswered ∙ answered));
      }

  stands_broken : StandsBy job console steps b.heard.point waiting rest (b.reached.course ++ b.heard.course)
  stands_broken = let x = breaks_here in record { lines = x.breaks.lines; records = records; left = x.breaks.left; up_to = x.comes }

-- Where no alarm was raised, and the record that comes next is of no earlier line.
pub safe_by : {a : Auditor} {j c s : SourceState} {jt ct st : List ℕ} (u : IsOnWay a j c s jt ct st) → (IsTooLong ct st → ⊥) → (next : Option Record) → IsLooked a st u.records next → IsLater a.course next → a.course.unanswered ≡ false
    → (not a.course.unanswered && a.course.line.halts) ≡ false → (known : Option Reply) (hears : HearsNext known ct u.replies) → SafeHere a u.first jt ct st u.sent u.replies hears.0
safe_by {a} {j} {c} {s} {jt} {ct} {st} u short next looked later answered calm known hears = by u.phase where
  here : IsHere a u.first u.sent u.replies
  here = here_by u later.done answered

  all : (more : List Sent) × (sent_in jt ≡ u.sent ++ (untold_of a.sending ++ more))
  all = let f = front_sent a.sending j jt u.sent u.are_read.job_so_far in (f.later, f.split)

  by : Phase a u.first jt ct st u.sent u.replies u.records → SafeHere a u.first jt ct st u.sent u.replies hears.0
  by (counting d) =
      safe_with a u.first u.opens jt ct st u.sent u.replies (comes_counting a.course u.first u.sent u.replies u.records d.judged later.done) here calm (untold_of a.sending ++ all.0) all.1 hears.0 hears.1
      (stands_counting d u.opens (untold_of a.sending ++ all.0) all.1 hears.0 hears.1 next later answered looked)
  by (broken b) =
      safe_with a u.first u.opens jt ct st u.sent u.replies (comes_broken b later.done) here calm (untold_of a.sending ++ all.0) all.1 hears.0 hears.1
      (λ none. stands_broken b u.opens later.done answered (untold_of a.sending ++ all.0) all.1 hears.0 hears.1)
