-- An audit goes on where a record is taken, a task of the line at hand is done, or a reply of it is told.
use Rattle.std.proofs.Common.{◌≡◌, ◌≤◌, ◌<◌, ℕ, ◌+◌, ◌-◌, ◌^◌, Bool, true, false, cond, ◌||◌, List, [], ◌∷◌, ◌++◌, append_assoc, append-nil, length, length-append, drop, Some, None, refl, sym, ap, ◌∙◌, subst, arith}
use Rattle.std.specs.declared.option.Option.{Option}
use Rattle.outside.specs.Causes.{SourceState}
use Rattle.units.specs.Lengths.{IsPlace}
use Rattle.status_report.specs.Answering.{is_answer}
use Rattle.status_report.specs.declared.Reply.{Reply}
use Rattle.step_line.specs.declared.Record.{Record}
use Rattle.step_line.specs.declared.Record.TheVariants as kinds
use Rattle.run_rules.specs.declared.State.{State}
use Rattle.run_rules.specs.Work.{Task, tells}
use Rattle.run_rules.specs.Work.Task.{ask, finish, halt, normal, pause, tell}
use Rattle.line_interpreter.specs.Interpreting.{Interpreting}
use Rattle.line_interpreter.specs.Lefts.{IsNextOf}
use Rattle.run_texts.specs.Parts.{is_ending}
use Rattle.run_texts.specs.Points.{Point}
use Rattle.run_texts.specs.Sent.{Sent}
use Rattle.audit_rules.specs.Consoles.{Tells}
use Rattle.audit_rules.specs.Scanned.{sent_in}
use Rattle.audit_rules.specs.Standing.{Stand}
use Rattle.audit_rules.proofs.NextRefused.{makes_not}
use Rattle.audit_rules.proofs.OneWay.{both}
use Rattle.audit_course.specs.Heard.{HasHeard, HearsReply, StaysHeard}
use Rattle.audit_course.specs.Here.{MakesNot}
use Rattle.audit_course.specs.Progressing.{has_halt}
use Rattle.audit_course.specs.SoFar.{AddsRecord, AddsReply, HasJudged, SameLine, StaysSoFar, left_to_tell}
use Rattle.audit_course.specs.declared.judge.CourseJudge.{CourseJudge}
use Rattle.audit_course.proofs.Passing.{some_next}
use Rattle.audit_texts.specs.SoFar.{ConsoleSoFar, StepsSoFar}
use Rattle.audit_texts.specs.declared.listening.Listening.{Listening}
use Rattle.audit_texts.specs.declared.recorded.Recorded.{Recorded}
use Rattle.audit_texts.specs.declared.sending.Sending.{Sending}
use Rattle.run_audit.specs.Coming.{Owes}
use Rattle.run_audit.specs.Finding.{Leads}
use Rattle.run_audit.specs.OnWay.{Counting, IsLooked, IsOnWay, IsUnowed, NoneEarly, Phase, ReadsAs, done_by, extra_of}
use Rattle.run_audit.specs.OnWay.Phase.{broken, counting}
use Rattle.run_audit.specs.SafePoint.{Stage}
use Rattle.run_audit.specs.UnderWay.{AreRead}
use Rattle.run_audit.specs.declared.auditor.Auditor.{Auditor}
use Rattle.run_audit.proofs.Bounded.{events_on_way, place_on_way}
use Rattle.run_audit.proofs.BreaksOff.{IsOff, breaks_lead}
use Rattle.run_audit.proofs.OneReading.{one_next, reads_front}
use Rattle.run_audit.proofs.SafeNow.{come_now}
use Rattle.run_audit.proofs.StageOn.{DoesOn, HeardAs, early_on, phase_on, stage_as, stage_on, stays_on}

-- a task less is left
one_less : (now left : List Task) → now ≡ drop 1 left → (t : Task) → IsNextOf t left → length now + 1 ≡ length left
one_less now left is t next = ap (λ (ts : List Task). length ts + 1) is ∙ omega arith ∙ ap length (sym next)

or_none : (b : Bool) → (b || false) ≡ b
or_none true = refl
or_none false = refl

-- ---- one step more

-- an audit is on its way, by what it was told and what is done
abbrev pub on_way : {a b : Auditor} {j c s k l m : SourceState} {jt ct st : List ℕ} (u : IsOnWay a j c s jt ct st) (sent : List Sent) (replies : List Reply) (records : List Record) → AreRead b k l m jt ct st sent replies records
    → Phase b u.first jt ct st sent replies records → Stage b u.first jt ct st sent replies → b.sending ≡ a.sending → IsOnWay b k l m jt ct st
on_way u sent replies records read phase stage sending = record {
  first = u.first;
  opens = u.opens;
  sent = sent;
  replies = replies;
  records = records;
  are_read = read;
  phase = phase;
  stage = stage;
  calm = ap (λ (x : Sending). x.last) sending ∙ u.calm;
}

-- A task of the line at hand is done, and this is told of it.
module _ {a b : Auditor} {j c s l : SourceState} {jt ct st : List ℕ} (u : IsOnWay a j c s jt ct st) (now : List Reply) (d : DoesOn a b now) (same : b.broken ≡ a.broken) (less : length b.course.work.left + 1 ≡ length a.course.work.left)
    (read : AreRead b j l s jt ct st u.sent (u.replies ++ now) u.records)
    (judged : HasJudged a.course u.first u.sent u.replies u.records → HasJudged b.course u.first u.sent (u.replies ++ now) u.records)
    (heard : (p : Point) (before : List Reply) (later : List Sent) → HasHeard a.course p before later u.replies → HasHeard b.course p before later (u.replies ++ now))
    (loses : a.broken ≡ None → a.course.lost ≡ false → b.course.lost ≡ true → (r : Record) → ReadsAs st (u.records ++ r ∷ []) → is_ending r ≡ true) where
  abbrev one_done : IsOnWay b j l s jt ct st
  one_done = on_way u u.sent (u.replies ++ now) u.records read (phase_on a b now d u.first jt ct st u.sent u.replies u.records same judged heard loses u.phase) (stage_on a b now d u.first jt ct st u.sent u.replies u.stage) d.sending

  pub leads_on : (n : ℕ) → n + length a.course.work.left ≤ done_by a u.sent u.records → Leads b j l s jt ct st n None
  leads_on n few = (one_done, (let extra : extra_of b.broken ≡ extra_of a.broken = ap extra_of same in omega (arith, extra, less, few)))

-- ---- a task that tells nothing

quiet_task : (t : Task) → ((r : Reply) → t ≡ tell r → ⊥) → tells (t ∷ []) ≡ []
quiet_task (tell r) none = absurd (none r refl)
quiet_task (ask x) none = refl
quiet_task pause none = refl
quiet_task normal none = refl
quiet_task finish none = refl
quiet_task halt none = refl

-- where something is owed of what the lines ask for, the next record ends the part
lost_late : (a : Auditor) (st : List ℕ) (records : List Record) (next : Option Record) → IsLooked a st records next → IsUnowed a.course next → a.broken ≡ None → Owes a.course → (r : Record) → ReadsAs st (records ++ r ∷ []) → is_ending r ≡ true
lost_late a st records None looked unowed counts owes r reads = absurd (looked counts)
lost_late a st records (Some x) looked unowed counts owes r reads = ap is_ending (one_next r [] reads looked.1) ∙ unowed x refl owes

pub task_leads : {a : Auditor} {j c s : SourceState} {jt ct st : List ℕ} (u : IsOnWay a j c s jt ct st) (k : CourseJudge) (next : Option Record) → IsLooked a st u.records next → IsUnowed a.course next → StaysSoFar a.course k → StaysHeard a.course k
    → k.work.left ≡ drop 1 a.course.work.left → (a.course.work.left ≡ [] → ⊥) → ((r : Reply) → IsNextOf (tell r) a.course.work.left → a.course.unanswered ≡ true) → k.work.number ≡ a.course.work.number → k.unanswered ≡ a.course.unanswered
    → (k.line.halts || has_halt k.work.left) ≡ (a.course.line.halts || has_halt a.course.work.left) → (k.lost ≡ true → a.course.lost ≡ false → Owes a.course)
    → (n : ℕ) → n + length a.course.work.left ≤ done_by a u.sent u.records → Leads (record a { course = k }) j c s jt ct st n None
task_leads {a} {j} {c} {s} {jt} {ct} {st} u k next looked unowed stays heard work some untold number unanswered halts lost =
    let t = some_next a.course.work.left some in
    let b : Auditor = record a { course = k } in
    let none = append-nil u.replies in
    let d : DoesOn a b [] = record {
      sending = refl;
      unanswered = unanswered;
      number = number;
      halts = halts;
      tasks = t.0 ∷ [];
      work = t.1 ∙ ap (λ (ts : List Task). t.0 ∷ ts) (sym work);
      told = λ answered. quiet_task t.0 (λ r is. both a.course.unanswered (untold r (subst (λ (x : Task). IsNextOf x a.course.work.left) is t.1)) answered);
      waits = λ waits. (refl, heard);
      answered = refl;
    } in
    leads_on {b = b} {l = c} u [] d refl (one_less k.work.left a.course.work.left work t.0 t.1)
    (subst (λ (rs : List Reply). AreRead b j c s jt ct st u.sent rs u.records) (sym none)
    (record { job_so_far = u.are_read.job_so_far; console_so_far = u.are_read.console_so_far; steps_so_far = u.are_read.steps_so_far }))
    (λ is. subst (λ (rs : List Reply). HasJudged k u.first u.sent rs u.records) (sym none) (stays u.first u.sent u.replies u.records is))
    (λ p before later is. subst (λ (rs : List Reply). HasHeard k p before later rs) (sym none) (heard p before later u.replies is))
    (λ counts was now r reads. lost_late a st u.records next looked unowed counts (lost now was) r reads)

-- ---- a reply

pub reply_leads : {a : Auditor} {j c s m : SourceState} {jt ct st : List ℕ} (u : IsOnWay a j c s jt ct st) (k : CourseJudge) (l : Listening) (line : ℕ) (r : Reply) → IsNextOf (tell r) a.course.work.left → a.course.unanswered ≡ false
    → ((text : List ℕ) (told : List Reply) → ConsoleSoFar a.listening c text told → ConsoleSoFar l m text (told ++ r ∷ [])) → AddsReply a.course k r → HearsReply a.course k r
    → k.work.left ≡ drop 1 a.course.work.left → k.work.number ≡ a.course.work.number → SameLine a.course k → line ≡ cond (is_answer r) (a.course.work.number - 1) a.answered
    → (n : ℕ) → n + length a.course.work.left ≤ done_by a u.sent u.records → Leads (record a { course = k; listening = l; answered = line }) j m s jt ct st n None
reply_leads {a} {j} {c} {s} {m} {jt} {ct} {st} u k l line r next answered console adds hears work number same is =
    let b : Auditor = record a { course = k; listening = l; answered = line } in
    let left : a.course.work.left ≡ tell r ∷ k.work.left = next ∙ ap (λ (ts : List Task). tell r ∷ ts) (sym work) in
    let d : DoesOn a b (r ∷ []) = record {
      sending = refl;
      unanswered = same.unanswered;
      number = number;
      halts = ap (λ (t : Bool). t || has_halt k.work.left) same.halts ∙ sym (ap (λ (ts : List Task). a.course.line.halts || has_halt ts) left);
      tasks = tell r ∷ [];
      work = left;
      told = λ e. refl;
      waits = λ waits. both a.course.unanswered waits answered;
      answered = is ∙ ap (λ (t : Bool). cond t (a.course.work.number - 1) a.answered) (sym (or_none (is_answer r)));
    } in
    leads_on {b = b} {l = m} u (r ∷ []) d refl (one_less k.work.left a.course.work.left work (tell r) next)
    (record { job_so_far = u.are_read.job_so_far; console_so_far = console ct u.replies u.are_read.console_so_far; steps_so_far = u.are_read.steps_so_far })
    (λ was. adds u.first u.sent u.replies u.records was)
    (λ p before later was. hears p before later u.replies was)
    (λ counts was now. both k.lost now (same.lost ∙ was))

-- ---- a record that is taken

-- the line at hand stays
heard_on : {j k : CourseJudge} → StaysHeard j k → k.work ≡ j.work → SameLine j k → HeardAs j k
heard_on heard work same = record { heard = heard; unanswered = same.unanswered; left = ap (λ (i : Interpreting). i.left) work; number = ap (λ (i : Interpreting). i.number) work; halts = same.halts }

-- it is one of those that come behind it
taken_early : (job console steps : List ℕ) (n : ℕ) (records : List Record) (r : Record) → is_ending r ≡ false → NoneEarly job console steps n records → NoneEarly job console steps n (records ++ r ∷ [])
taken_early job console steps n records r inside early xs each m k mark less reads stands =
    let e = append_assoc records (r ∷ []) (xs ++ m ∷ []) in
    early (r ∷ xs) (inside, each) m k mark less (subst (λ (rs : List Record). ReadsAs steps rs) e reads) (subst (λ (rs : List Record). Stand (sent_in job) console rs) e stands)

taken_counts : (a b : Auditor) (d : DoesOn a b []) (first : State) (job console steps : List ℕ) (sent : List Sent) (replies : List Reply) (records : List Record) (r : Record) → is_ending r ≡ false → b.broken ≡ a.broken → b.course.lost ≡ a.course.lost
    → AddsRecord a.course b.course r → Counting a first job console steps sent replies records → Counting b first job console steps sent replies (records ++ r ∷ [])
taken_counts a b d first job console steps sent replies records r inside same lost adds m = record {
  counts = same ∙ m.counts;
  judged = adds first sent replies records m.judged;
  early = λ left rest whole told.
      taken_early job console steps b.course.work.number records r inside
      (early_on a b [] d first job console steps sent replies records same m.early left rest whole (subst (λ (rs : List Reply). Tells console (rs ++ left_to_tell b.course) rest) (sym (append-nil replies)) told));
  stops = λ now x reads. both (is_ending r) (m.stops (sym lost ∙ now) r (reads_front (records ++ r ∷ []) (x ∷ []) reads)) inside;
}

pub record_leads : {a : Auditor} {j c s : SourceState} {jt ct st : List ℕ} (u : IsOnWay a j c s jt ct st) (k : CourseJudge) (q : Recorded) (r : Record) → IsLooked a st u.records (Some r) → is_ending r ≡ false
    → ((text : List ℕ) (told : List Record) → StepsSoFar a.recorded s text told → StepsSoFar q s text (told ++ r ∷ [])) → AddsRecord a.course k r → StaysHeard a.course k → k.work ≡ a.course.work → SameLine a.course k
    → (n : ℕ) → n + length a.course.work.left ≤ done_by a u.sent u.records → Leads (record a { course = k; recorded = q }) j c s jt ct st n None
record_leads {a} {j} {c} {s} {jt} {ct} {st} u k q r looked inside steps adds heard work same n few =
    let b : Auditor = record a { course = k; recorded = q } in
    let left : k.work.left ≡ a.course.work.left = ap (λ (i : Interpreting). i.left) work in
    let d : DoesOn a b [] = stays_on a k a.listening q a.broken (heard_on heard work same) in
    let phase : Phase b u.first jt ct st u.sent u.replies (u.records ++ r ∷ []) = by d u.phase in (
      on_way u u.sent u.replies (u.records ++ r ∷ [])
          (record { job_so_far = u.are_read.job_so_far; console_so_far = u.are_read.console_so_far; steps_so_far = steps st u.records u.are_read.steps_so_far })
          phase
          (stage_as a k a.listening q a.broken (heard_on heard work same) u.first jt ct st u.sent u.replies u.stage)
          refl,
      (let long = length-append u.records (r ∷ []) in let one : length (r ∷ []) ≡ 1 = refl in let same_left = ap length left in omega (arith, long, one, same_left, few)),
    ) where
      by : DoesOn a (record a { course = k; recorded = q }) [] → Phase a u.first jt ct st u.sent u.replies u.records → Phase (record a { course = k; recorded = q }) u.first jt ct st u.sent u.replies (u.records ++ r ∷ [])
      by d (counting m) = counting (taken_counts a (record a { course = k; recorded = q }) d u.first jt ct st u.sent u.replies u.records r inside refl same.lost adds m)
      by d (broken m) = absurd (let e : None ≡ Some m.at = sym looked.0 ∙ m.broken in cc)

-- ---- a record that is refused

pub refused_leads : {a : Auditor} {j c s : SourceState} {jt ct st : List ℕ} (u : IsOnWay a j c s jt ct st) (k : CourseJudge) (b : Auditor) (r : Record) → IsLooked a st u.records (Some r) → is_ending r ≡ false
    → (IsPlace a.course.place → a.course.events + 1 < 2 ^ 64 → MakesNot a.course r) → StaysHeard a.course k → k.work ≡ a.course.work → SameLine a.course k → IsOff (record a { course = k }) b
    → (n : ℕ) → n + length a.course.work.left ≤ done_by a u.sent u.records → Leads b j c s jt ct st n None
refused_leads {a} {j} {c} {s} {jt} {ct} {st} u k b r looked inside makes heard work same is n few = by u.phase where
  by : Phase a u.first jt ct st u.sent u.replies u.records → Leads b j c s jt ct st n None
  by (counting m) = breaks_lead u m k (heard_on heard work same) (Some r) looked.1
      (λ left rest told x e standing.
      let same_record : r ≡ x = cc in
      let come = come_now a.course u.first u.opens u.sent u.replies u.records m.judged jt ct left rest told in
      makes_not (sent_in jt) ct u.records m.judged.made m.judged.since m.judged.begun come r inside
      (makes (place_on_way u m) (events_on_way u m) u.first u.sent u.replies u.records m.judged) (subst (λ (y : Record). Stand (sent_in jt) ct (u.records ++ y ∷ [])) (sym same_record) standing))
      (λ left rest told e. absurd (let end : r ≡ kinds.End = (let f : Some r ≡ Some kinds.End = e in cc) in both (is_ending kinds.End) refl (sym (ap is_ending end) ∙ inside)))
      b is n few
  by (broken m) = absurd (let e : None ≡ Some m.at = sym looked.0 ∙ m.broken in cc)
