-- A line is begun where a safe point is, and the console does not go on anew.
use Rattle.std.proofs.Common.{◌≡◌, ◌≤◌, ℕ, ◌+◌, Bool, true, false, cond, not, ◌&&◌, ◌||◌, List, [], ◌∷◌, ◌++◌, append_assoc, append-nil, length, length-append, Some, None, IfSome, refl, sym, ap, ◌∙◌, subst, arith, nat_lt, ltb-true, ltb-false}
use Rattle.std.specs.declared.option.Option.{Option}
use Rattle.std.specs.List.{AllByRecursion}
use Rattle.std.proofs.lemmas.List.{append_cancel_left}
use Rattle.outside.specs.Causes.{SourceState}
use Rattle.status_report.specs.Answering.{is_bye, is_report}
use Rattle.status_report.specs.Replies.{reply_text}
use Rattle.status_report.specs.declared.Reply.{Reply}
use Rattle.status_report.specs.declared.Reply.TheVariants.{Banner, Ok, Error, Alarm, Message, Report, Setting, Modes, Offset, Bye}
use Rattle.step_line.specs.declared.Mark.TheVariants as marks
use Rattle.step_line.specs.declared.Record.{Record}
use Rattle.step_line.specs.declared.Record.TheVariants as kinds
use Rattle.run_rules.specs.Reports.{raises_alarm}
use Rattle.run_rules.specs.Told.{replies_text}
use Rattle.run_rules.specs.Work.{Outcome, tells}
use Rattle.run_rules.proofs.Answering.{begun_no_bye}
use Rattle.run_texts.specs.Courses.{Passed}
use Rattle.run_texts.specs.Courses.Passed.{a_line, a_broken, a_cut, a_reset}
use Rattle.run_texts.specs.Parts.{is_ending}
use Rattle.run_texts.specs.Points.{Point, BecomesAt, IsBroken, IsPassed, behind_line, behind_broken}
use Rattle.run_texts.specs.Sent.{Sent}
use Rattle.run_texts.specs.Sent.Sent.{a_text}
use Rattle.run_texts.specs.SoFar.{LeadsTo, RebasesNothing}
use Rattle.run_texts.specs.Told.{told_in}
use Rattle.run_texts.proofs.Determined.{line_answers}
use Rattle.part_making.specs.Judging.{making}
use Rattle.audit_rules.specs.Consoles.{GoesOnAnew, IsOnConsole, is_of_reset as tells_anew}
use Rattle.audit_rules.specs.Faults.{BecomesAlone, BeginsWithNoReport}
use Rattle.audit_rules.specs.Findings.{IsTooLong}
use Rattle.audit_rules.specs.Onward.{IsMarkOf, IsOfLater}
use Rattle.audit_rules.specs.Scanned.{sent_in}
use Rattle.audit_rules.specs.Standing.{Stand}
use Rattle.audit_rules.proofs.Ahead.{same_line}
use Rattle.audit_rules.proofs.BehindText.{BothTold, onward}
use Rattle.audit_rules.proofs.NextRefused.{no_early_cut, no_early_reset, not_anew}
use Rattle.audit_rules.proofs.OneLine.{told_further}
use Rattle.audit_rules.proofs.OneWay.{both}
use Rattle.audit_rules.proofs.Replies.{all_reports}
use Rattle.audit_rules.proofs.ToldApart.{no_anew}
use Rattle.audit_course.specs.Heard.{HasHeard, HearsLine, HearsSent}
use Rattle.audit_course.specs.Progressing.{has_halt}
use Rattle.audit_course.specs.SoFar.{AddsSent, IsErrorOf, is_of_reset, left_to_tell}
use Rattle.audit_course.specs.declared.MotionError.{MotionError}
use Rattle.audit_course.specs.declared.judge.CourseJudge.{CourseJudge}
use Rattle.audit_texts.specs.SoFar.{IsNextOn, JobSoFar, StandsAt, is_looked_for, looked_for, untold_of}
use Rattle.audit_texts.specs.declared.sending.Sending.{Sending}
use Rattle.audit_texts.proofs.ConsoleRead.{looked_apart}
use Rattle.audit_texts.proofs.JobRead.{front_sent}
use Rattle.run_audit.specs.Finding.{Leads}
use Rattle.run_audit.specs.OnWay.{Counting, HearsNext, IsErrorBy, IsLater, IsLooked, IsOnWay, NoneEarly, Phase, ReadsAs, TellsNoReset, done_by}
use Rattle.run_audit.specs.OnWay.Phase.{counting, broken}
use Rattle.run_audit.specs.SafePoint.{IsSince, LineSince, Since, Stage, WaitSince}
use Rattle.run_audit.specs.SafePoint.Since.{by_line, by_wait, by_reset}
use Rattle.run_audit.specs.SafePoint.Stage.{at_safe, behind_safe}
use Rattle.run_audit.specs.declared.auditor.Auditor.{Auditor}
use Rattle.run_audit.proofs.BreaksOff.{stays_there}
use Rattle.run_audit.proofs.OneReading.{one_next, reads_front}
use Rattle.run_audit.proofs.SafeNow.{SafeHere, come_here, looked_later, safe_by, told_here}

-- ---- what a console begins with

-- what was looked for is what it begins with
looked_first : (known : Option Reply) (rest : List ℕ) (reply : Reply) (later : List ℕ) → IfSome known (λ k. is_looked_for k ≡ true) → IsNextOn known rest → is_bye reply ≡ false → rest ≡ reply_text reply ++ later → known ≡ looked_for (reply ∷ [])
looked_first (Some k) rest reply later early next some text =
    let same : k ≡ reply = looked_apart k reply next.0 later early some (sym next.1 ∙ text) in
    ap (λ (x : Reply). Some x) same ∙ sym (ap (λ (b : Bool). cond b (Some reply) None) (sym (ap is_looked_for same) ∙ early))
looked_first None rest reply later early next some text = by (is_looked_for reply) refl where
  by : (b : Bool) → is_looked_for reply ≡ b → None ≡ cond b (Some reply) None
  by true e = absurd (next reply e later text)
  by false e = refl

pub anew_looked_for : (r : Reply) → is_of_reset r ≡ true → is_looked_for r ≡ true
anew_looked_for Banner e = e
anew_looked_for (Alarm n) e = e
anew_looked_for Ok e = absurd cc
anew_looked_for (Error n) e = absurd cc
anew_looked_for (Message m) e = absurd cc
anew_looked_for (Report x) e = absurd cc
anew_looked_for (Setting n v) e = absurd cc
anew_looked_for (Modes m) e = absurd cc
anew_looked_for (Offset row at) e = absurd cc
anew_looked_for Bye e = absurd cc

pub same_anew : (r : Reply) → tells_anew r ≡ is_of_reset r
same_anew Banner = refl
same_anew (Alarm n) = refl
same_anew _ = refl

anew_no_bye : (r : Reply) → is_of_reset r ≡ true → is_bye r ≡ false
anew_no_bye Bye e = absurd cc
anew_no_bye _ e = refl

no_bye : (r : Reply) → (r ≡ Bye → ⊥) → is_bye r ≡ false
no_bye Bye none = absurd (none refl)
no_bye _ none = refl

-- a line does not tell it
first_no_bye : (p : Point) (kept : List ℕ) (o : Outcome) (first : Reply) (more : List Reply) → BecomesAt true p kept o → tells o.work ≡ first ∷ more → is_bye first ≡ false
first_no_bye p kept o first more is told = no_bye first (subst (λ (rs : List Reply). AllByRecursion (λ (r : Reply). r ≡ Bye → ⊥) rs) told (begun_no_bye p.before o (line_answers true p kept o is))).0

module _ (known : Option Reply) (rest : List ℕ) (early : IfSome known (λ k. is_looked_for k ≡ true)) (next : IsNextOn known rest) (none : TellsNoReset known) where
  -- no reset tells it
  begins_plain : (reply : Reply) (later : List ℕ) → is_bye reply ≡ false → rest ≡ reply_text reply ++ later → is_of_reset reply ≡ false
  begins_plain reply later some text = by (is_of_reset reply) refl where
    by : (b : Bool) → is_of_reset reply ≡ b → b ≡ false
    by false e = refl
    by true e =
        let first : known ≡ cond (is_looked_for reply) (Some reply) None = looked_first known rest reply later early next some text in
        both (is_of_reset reply) e (none reply (first ∙ ap (λ (b : Bool). cond b (Some reply) None) (anew_looked_for reply e)))

  pub anew_not : BeginsWithNoReport rest → GoesOnAnew rest → ⊥
  anew_not no_report = no_anew rest no_report
      (λ reply later of_reset text. let is = sym (same_anew reply) ∙ of_reset in both (is_of_reset reply) is (begins_plain reply later (anew_no_bye reply is) text))

  -- and it fits the error
  begins_fitting : (error : MotionError) → IsErrorBy error known → (reply : Reply) (later : List ℕ) → is_bye reply ≡ false → rest ≡ reply_text reply ++ later → IsErrorOf error reply
  begins_fitting error fits reply later some text = (fits (reply ∷ []) (looked_first known rest reply later early next some text)).1

-- two rests behind what a console tells are one, if no report comes first
pub no_report_first : (rest later : List ℕ) (rs : List Reply) → BeginsWithNoReport rest → rest ≡ replies_text rs ++ later → AllByRecursion IsOnConsole rs → AllByRecursion (λ r. is_report r ≡ true) rs → rest ≡ later
no_report_first rest later [] none text each are = text
no_report_first rest later (r ∷ rs) none text each are = absurd (none r (replies_text rs ++ later) are.0 each.0 (text ∙ append_assoc (reply_text r) (replies_text rs) later))

pub one_rest : (console : List ℕ) (told : List Reply) (x y : List ℕ) → StandsAt console told x → StandsAt console told y → x ≡ y
one_rest console told x y s t =
    let d : BothTold told (told ++ []) x y = subst (λ (rs : List Reply). BothTold told rs x y) (sym (append-nil told)) (told_further console x y told told s.tells t.tells) in
    let o = onward told [] x y d in
    no_report_first x o.later o.tells.replies s.no_report o.tells.text o.tells.each (all_reports o.tells.replies o.tells.are) ∙ sym (no_report_first y o.later o.reports t.no_report o.between o.each o.are)

-- ---- no line waits

module _ {a : Auditor} {j c s : SourceState} {jt ct st : List ℕ} (u : IsOnWay a j c s jt ct st) (done : a.course.work.left ≡ []) (none : TellsNoReset a.listening.known) (hears : HearsNext a.listening.known ct u.replies) where
  early : IfSome a.listening.known (λ k. is_looked_for k ≡ true)
  early = u.are_read.console_so_far.early

  pub none_anew : GoesOnAnew hears.0 → ⊥
  none_anew = anew_not a.listening.known hears.0 early hears.2 none hears.1.no_report

  -- one that waited would wait for a reset that comes next
  pub none_waits : a.course.unanswered ≡ false
  none_waits = by u.stage where
    waiting : (b : IsSince a u.first jt ct st u.sent u.replies) → WaitSince a u.first jt ct st b.front b.told b.last b.safe b.later b.heard → a.course.unanswered ≡ false
    waiting b w =
        let told : b.told ≡ u.replies = sym (b.replies_is ∙ ap (λ (rs : List Reply). b.told ++ rs) w.none ∙ append-nil b.told) in
        let same : hears.0 ≡ b.safe.rest = one_rest ct u.replies hears.0 b.safe.rest hears.1 (subst (λ (rs : List Reply). StandsAt ct rs b.safe.rest) told b.safe.stands) in
        both (is_of_reset w.reply) w.anew.of_reset (begins_plain a.listening.known hears.0 early hears.2 none w.reply w.anew.later (anew_no_bye w.reply w.anew.of_reset) (same ∙ w.anew.text))

    since : (b : IsSince a u.first jt ct st u.sent u.replies) → Since a u.first jt ct st b.front b.told b.last b.safe b.later b.heard → a.course.unanswered ≡ false
    since b (by_line l) = l.unanswered
    since b (by_wait w) = waiting b w
    since b (by_reset r) = r.unanswered

    by : Stage a u.first jt ct st u.sent u.replies → a.course.unanswered ≡ false
    by (at_safe h calm) = h.unanswered
    by (behind_safe b) = since b b.since

-- ---- no mark of the line before

plain_owed : (n : ℕ) (ticks : List Record) (r : Record) → is_ending r ≡ false → IsOfLater n ticks r → ticks ≡ []
plain_owed n ticks (kinds.Head h) inside is = is
plain_owed n ticks (kinds.Event b) inside is = is
plain_owed n ticks (kinds.Mark (marks.Dwell ms)) inside is = is
plain_owed n ticks (kinds.Mark (marks.Spindle code speed)) inside is = is
plain_owed n ticks (kinds.Mark (marks.Coolant on)) inside is = is
plain_owed n ticks (kinds.Mark (marks.Cut k)) inside is = absurd cc
plain_owed n ticks (kinds.Mark (marks.Reset k)) inside is = absurd cc
plain_owed n ticks kinds.End inside is = absurd cc

module _ {a : Auditor} {j c s : SourceState} {jt ct st : List ℕ} (u : IsOnWay a j c s jt ct st) (next : Option Record) (looked : IsLooked a st u.records next) (later : IsLater a.course next) (answered : a.course.unanswered ≡ false)
    (rest : List ℕ) (stands : StandsAt ct u.replies rest) (not_on : GoesOnAnew rest → ⊥) (d : Counting a u.first jt ct st u.sent u.replies u.records) where
  abbrev left : List Sent
  left = untold_of a.sending ++ (front_sent a.sending j jt u.sent u.are_read.job_so_far).later

  whole : sent_in jt ≡ u.sent ++ left
  whole = (front_sent a.sending j jt u.sent u.are_read.job_so_far).split

  is_next : (r : Record) (xs : List Record) → ReadsAs st (u.records ++ r ∷ xs) → next ≡ Some r
  is_next r xs read = by next looked where
    by : (n : Option Record) → IsLooked a st u.records n → n ≡ Some r
    by None looks = absurd (looks d.counts)
    by (Some q) looks = ap (λ (x : Record). Some x) (sym (one_next r xs read looks.1))

  is_later : (r : Record) (xs : List Record) → ReadsAs st (u.records ++ r ∷ xs) → IsOfLater d.judged.point.before.number (making a.course.part d.judged.ticks d.judged.moves).owed r
  is_later r xs read =
      looked_later d u.opens left whole rest stands next later answered r (is_next r xs read) (reads_front (u.records ++ r ∷ []) xs (subst (λ (rs : List Record). ReadsAs st rs) (sym (append_assoc u.records (r ∷ []) xs)) read))

  -- of that line itself
  none_before : (xs : List Record) → AllByRecursion (λ r. is_ending r ≡ false) xs → (m : Record) (k : ℕ) → IsMarkOf k m → k + 1 ≡ a.course.work.number → ReadsAs st (u.records ++ (xs ++ m ∷ [])) → Stand (sent_in jt) ct (u.records ++ (xs ++ m ∷ [])) → ⊥
  none_before [] inside m k is at read stand = by m is (is_later m [] read) stand where
    number : d.judged.point.before.number ≡ k + 1
    number = d.judged.number ∙ sym at

    by : (r : Record) → IsMarkOf k r → IsOfLater d.judged.point.before.number (making a.course.part d.judged.ticks d.judged.moves).owed r → Stand (sent_in jt) ct (u.records ++ r ∷ []) → ⊥
    by (kinds.Mark (marks.Cut l)) is late z = absurd (omega (arith, is, late, number))
    by (kinds.Mark (marks.Reset l)) is late z =
        not_anew (sent_in jt) ct u.records d.judged.made d.judged.since d.judged.begun (come_here d u.opens left whole rest stands next later answered) l (number ∙ ap (λ (n : ℕ). n + 1) is) not_on z
    by (kinds.Mark (marks.Dwell ms)) is late z = absurd is
    by (kinds.Mark (marks.Spindle code speed)) is late z = absurd is
    by (kinds.Mark (marks.Coolant on)) is late z = absurd is
    by (kinds.Head h) is late z = absurd is
    by (kinds.Event b) is late z = absurd is
    by kinds.End is late z = absurd is
  none_before (x ∷ xs) inside m k is at read stand = by m is stand where
    number : d.judged.point.before.number ≡ k + 1
    number = d.judged.number ∙ sym at

    owed : (making a.course.part d.judged.ticks d.judged.moves).owed ≡ []
    owed = plain_owed d.judged.point.before.number (making a.course.part d.judged.ticks d.judged.moves).owed x inside.0 (is_later x (xs ++ m ∷ []) read)

    by : (r : Record) → IsMarkOf k r → Stand (sent_in jt) ct (u.records ++ x ∷ (xs ++ r ∷ [])) → ⊥
    by (kinds.Mark (marks.Cut l)) is z =
        no_early_cut (sent_in jt) ct u.records d.judged.made d.judged.since d.judged.begun (come_here d u.opens left whole rest stands next later answered) owed x inside.0 xs inside.1 l (omega (arith, is, number)) z
    by (kinds.Mark (marks.Reset l)) is z =
        no_early_reset (sent_in jt) ct u.records d.judged.made d.judged.since d.judged.begun (come_here d u.opens left whole rest stands next later answered) owed x inside.0 xs inside.1 l (omega (arith, is, number)) z
    by (kinds.Mark (marks.Dwell ms)) is z = absurd is
    by (kinds.Mark (marks.Spindle code speed)) is z = absurd is
    by (kinds.Mark (marks.Coolant on)) is z = absurd is
    by (kinds.Head h) is z = absurd is
    by (kinds.Event b) is z = absurd is
    by kinds.End is z = absurd is

  -- nor of one before it
  pub none_early : (now : ℕ) → now ≡ a.course.work.number + 1 → NoneEarly jt ct st now u.records
  none_early now is_now xs inside m k is few read stand = by (nat_lt (k + 1) a.course.work.number) refl where
    by : (b : Bool) → nat_lt (k + 1) a.course.work.number ≡ b → ⊥
    by true e = d.early left rest whole (told_here d u.opens left whole rest stands next later answered).tells xs inside m k is (ltb-true (k + 1) a.course.work.number e) read stand
    by false e = let more = ltb-false (k + 1) a.course.work.number e in none_before xs inside m k is (omega (arith, more, few, is_now)) read stand

-- ---- the line

-- of one line: it is answered, or it waits
pub data ByOneLine (p q : Point) (kept : List ℕ) (told : List Reply) : Type 0 where
  is_answered : (o : Outcome) → IsPassed p kept o → q ≡ behind_line p kept o → told ≡ tells o.work → ByOneLine p q kept told
  is_waiting : (o : Outcome) → IsBroken p kept o → q ≡ behind_broken p o → told ≡ [] → ByOneLine p q kept told

pub by_one_line : (p q : Point) (kept : List ℕ) (course : List Passed) → LeadsTo p (a_text kept ∷ []) course q [] → RebasesNothing p (a_text kept ∷ []) course → ByOneLine p q kept (told_in course)
by_one_line p q kept [] f r = absurd (let e : ◌≡◌ {A = List Sent} [] (a_text kept ∷ []) = f.1 in cc)
by_one_line p q kept (a_cut k at ∷ ps) f r = absurd r
by_one_line p q kept (a_reset u ∷ ps) f r = absurd (let e : false ≡ true = f.0.comes in cc)
by_one_line p q kept (a_line o ∷ ps) f r =
    let s = stays_there (behind_line p kept o) q ps f.1 r in is_answered o f.0 s.0 (ap (λ (qs : List Passed). tells o.work ++ told_in qs) s.1 ∙ append-nil (tells o.work))
by_one_line p q kept (a_broken o ∷ ps) f r =
    let s = stays_there (behind_broken p o) q ps f.1 r in is_waiting o f.0 s.0 (ap told_in s.1)

-- what a judge says of a line that it has begun
pub record BeginsLine (j k : CourseJudge) (error : MotionError) (kept : List ℕ) : Type 0 where
  pub adds : AddsSent j k (a_text kept ∷ [])
  pub hears : HearsSent j k (a_text kept ∷ [])
  pub line : HearsLine j k error kept
  pub unanswered : k.unanswered ≡ false
  pub number : k.work.number ≡ j.work.number + 1
  pub lost : k.lost ≡ j.lost
  pub short : length k.work.left ≤ 64

-- it becomes what is left to do, and halts if that raises an alarm
module _ (j k : CourseJudge) (error : MotionError) (kept : List ℕ) (p : Point) (replies : List Reply) (begins : BeginsLine j k error kept) (h : HasHeard j p replies [] replies) where
  there : h.point ≡ p
  there = (stays_there p h.point h.course h.leads h.rebases).0

  found : (o : Outcome) × BecomesAt true h.point kept o × (k.work.left ≡ o.work)
      × ((u : Outcome) → BecomesAt true h.point kept u → (r : Reply) (xs ys : List Reply) → tells u.work ++ ys ≡ r ∷ xs → IsErrorOf error r → u ≡ o)
  found = begins.line p replies [] replies h

  becomes_there : BecomesAt true p kept found.0
  becomes_there = subst (λ (q : Point). BecomesAt true q kept found.0) there found.1

  heard : HasHeard k p replies (a_text kept ∷ []) replies
  heard = begins.hears p replies [] replies h

  left_is : left_to_tell k ≡ tells found.0.work
  left_is = ap (λ (b : Bool). cond b [] (tells k.work.left)) begins.unanswered ∙ ap tells found.2

  halting : (k.line.halts || has_halt k.work.left) ≡ raises_alarm found.0
  halting = by (by_one_line p heard.point kept heard.course heard.leads heard.rebases) where
    told : told_in heard.course ≡ tells found.0.work
    told = append_cancel_left replies (told_in heard.course) (left_to_tell k) heard.tells ∙ left_is

    alarmed : heard.point.before.alarmed ≡ (k.line.halts || has_halt k.work.left)
    alarmed = heard.line.alarmed ∙ ap (λ (b : Bool). not b && heard.line.limit) begins.unanswered ∙ sym heard.line.halts

    by : ByOneLine p heard.point kept (told_in heard.course) → (k.line.halts || has_halt k.work.left) ≡ raises_alarm found.0
    by (is_answered o is at tells_it) =
        let all : tells o.work ++ [] ≡ tells found.0.work ++ [] = ap (λ (rs : List Reply). rs ++ []) (sym tells_it ∙ told) in
        sym alarmed ∙ ap (λ (q : Point). q.before.alarmed) at ∙ (same_line p p kept o found.0 [] [] is.becomes becomes_there all).raises
    by (is_waiting o is at none) = both heard.point.unanswered (ap (λ (x : Point). x.unanswered) at) (heard.unanswered ∙ begins.unanswered)

module _ {a : Auditor} {j c s : SourceState} {jt ct st : List ℕ} (u : IsOnWay a j c s jt ct st) (short : IsTooLong ct st → ⊥) (next : Option Record) (looked : IsLooked a st u.records next) (later : IsLater a.course next)
    (calm : (not a.course.unanswered && a.course.line.halts) ≡ false) (none : TellsNoReset a.listening.known) (error : MotionError) (fits : IsErrorBy error a.listening.known) (hears : HearsNext a.listening.known ct u.replies)
    (k : CourseJudge) (q : Sending) (kept : List ℕ) (begins : BeginsLine a.course k error kept) (read : JobSoFar q j jt (u.sent ++ a_text kept ∷ [])) (untold : untold_of q ≡ []) (over : q.over ≡ false) (last : q.last ≡ None) where
  answered : a.course.unanswered ≡ false
  answered = none_waits u later.done none hears

  here : SafeHere a u.first jt ct st u.sent u.replies hears.0
  here = safe_by u short next looked later answered calm a.listening.known hears

  abbrev b : Auditor
  b = record a { course = k; sending = q }

  phase_now : Phase b u.first jt ct st (u.sent ++ a_text kept ∷ []) u.replies u.records
  phase_now = by u.phase where
    by : Phase a u.first jt ct st u.sent u.replies u.records → Phase b u.first jt ct st (u.sent ++ a_text kept ∷ []) u.replies u.records
    by (counting d) = counting (record {
      counts = d.counts;
      judged = begins.adds u.first u.sent u.replies u.records d.judged;
      early = λ left rest whole tells. none_early u next looked later answered hears.0 hears.1 (none_anew u later.done none hears) d k.work.number begins.number;
      stops = λ e. d.stops (sym begins.lost ∙ e);
    })
    by (broken d) = broken (record {
      at = d.at;
      broken = d.broken;
      front = d.front;
      later = d.later ++ a_text kept ∷ [];
      sent_is = ap (λ (ss : List Sent). ss ++ a_text kept ∷ []) d.sent_is ∙ append_assoc d.front d.later (a_text kept ∷ []);
      told = d.told;
      point = d.point;
      since = d.since;
      begun = d.begun;
      none_begun = d.none_begun;
      place = d.place;
      made = d.made;
      reached = d.reached;
      making = d.making;
      is_made = d.is_made;
      breaks = d.breaks;
      heard = begins.hears d.point d.told d.later u.replies d.heard;
    })

  -- what is left of the job begins with it
  more : (behind : List Sent) × (here.safe.waiting ≡ a_text kept ∷ behind)
  more =
      let f = front_sent q j jt (u.sent ++ a_text kept ∷ []) read in
      let behind : List Sent = untold_of q ++ f.later in
      (behind, append_cancel_left u.sent here.safe.waiting (a_text kept ∷ behind) (sym here.safe.whole ∙ f.split ∙ append_assoc u.sent (a_text kept ∷ []) behind))

  abbrev outcome : Outcome
  outcome = (found a.course k error kept here.safe.point u.replies begins here.heard).0

  becomes : BecomesAlone here.safe.point kept here.safe.rest outcome
  becomes = record {
    passed = record { free = here.safe.free; answered = here.safe.answered; becomes = becomes_there a.course k error kept here.safe.point u.replies begins here.heard };
    alone = λ o first rest behind is told text.
        (found a.course k error kept here.safe.point u.replies begins here.heard).3 o
        (subst (λ (p : Point). BecomesAt true p kept o) (sym (there a.course k error kept here.safe.point u.replies begins here.heard)) is.becomes) first rest [] (append-nil (tells o.work) ∙ told)
        (begins_fitting a.listening.known hears.0 u.are_read.console_so_far.early hears.2 none error fits first behind (first_no_bye here.safe.point kept o first rest is.becomes told) (sym here.rest_is ∙ text));
  }

  number_now : k.work.number ≡ here.safe.point.before.number + 1
  number_now =
      let judge = begins.number in
      let was = here.heard.numbered in
      omega (arith, judge, was)

  line_since : LineSince b u.first jt ct st u.sent u.replies a.answered here.safe (a_text kept ∷ []) []
  line_since = record {
    kept = kept;
    more = more.0;
    waiting_is = more.1;
    later_is = refl;
    not_anew = λ g. none_anew u later.done none hears (subst GoesOnAnew here.rest_is g);
    outcome = outcome;
    becomes = becomes;
    done = [];
    work = sym (found a.course k error kept here.safe.point u.replies begins here.heard).2;
    heard_is = refl;
    unanswered = begins.unanswered;
    halts = halting a.course k error kept here.safe.point u.replies begins here.heard;
    number = number_now;
    untold = untold;
    read_on = over;
    answered = refl;
  }

  pub line_begun : (n : ℕ) → n + length a.course.work.left ≤ done_by a u.sent u.records → Leads b j c s jt ct st n None
  line_begun n few = (
    record {
      first = u.first;
      opens = u.opens;
      sent = u.sent ++ a_text kept ∷ [];
      replies = u.replies;
      records = u.records;
      are_read = record { job_so_far = read; console_so_far = u.are_read.console_so_far; steps_so_far = u.are_read.steps_so_far };
      phase = phase_now;
      stage = behind_safe (record {
        front = u.sent;
        later = a_text kept ∷ [];
        sent_is = refl;
        told = u.replies;
        heard = [];
        replies_is = sym (append-nil u.replies);
        last = a.answered;
        safe = here.safe;
        since = by_line line_since;
      });
      calm = last;
    },
    (let one = length-append u.sent (a_text kept ∷ []) in
        let tasks = begins.short in
        omega (arith, few, one, tasks)),
  )
