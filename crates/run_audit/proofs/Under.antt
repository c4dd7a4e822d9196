-- An audit that is under way goes on.
use Rattle.std.proofs.Common.{◌≡◌, ◌≤◌, ℕ, Bool, true, false, List, [], ◌∷◌, ◌++◌, append_assoc, append-nil, length, map, Some, None, Ok, Err, IfOk, IfSome, sym, refl, ap, ◌∙◌, subst, inl, inr, ◌⊎◌, arith}
use Rattle.std.specs.declared.option.Option.{Option}
use Rattle.std.specs.declared.result.Result.{Result}
use Rattle.std.proofs.lemmas.List.{map-append}
use Rattle.outside.specs.Causes.{SourceState}
use Rattle.status_report.specs.Replies.{reply_text}
use Rattle.status_report.specs.declared.Reply.{Reply}
use Rattle.status_report.specs.declared.Reply.TheVariants.{Banner}
use Rattle.step_line.specs.declared.Mark.TheVariants.{Reset as ResetMark}
use Rattle.step_line.specs.declared.Record.{Record}
use Rattle.step_line.specs.declared.Record.TheVariants as kinds
use Rattle.run_rules.specs.Told.{replies_text}
use Rattle.run_texts.specs.Sent.{Sent}
use Rattle.run_texts.specs.Sent.Sent.{a_text, a_stop}
use Rattle.audit_course.specs.SoFar.{HasJudged, StaysSoFar, AddsSent, AddsReply, AddsRecord, AddsReset, EndsSoFar}
use Rattle.audit_rules.specs.Findings.{FitsWith, HasForeign, IsTooLong}
use Rattle.audit_rules.specs.Telling.{HasNoBanner}
use Rattle.audit_texts.specs.Audited.{AllAudited}
use Rattle.audit_texts.specs.SoFar.{JobSoFar, ConsoleSoFar, StepsSoFar, IsRead, IsReadTo, IsReadOn, EndsConsole, StaysSent, StaysTold, StaysRecorded, IsWhole, AreRecords, IsAllRead}
use Rattle.run_audit.specs.UnderWay.{AreRead, IsUnderWay, IsDropping, IsOpened, Finishes, FinishesSteps, MayFit, CanBeRead, GoesOn, IsNext, IsShort}
use Rattle.run_audit.specs.declared.auditor.Auditor.{Auditor}
use Rattle.audit_texts.specs.declared.listening.Listening.{Listening}
use Rattle.run_audit.specs.declared.auditor.Finding.{Finding}
use Rattle.run_audit.specs.declared.auditor.Finding.TheVariants.{Fits, Misfit, BadReplies, Foreign, TooLong}
use Rattle.audit_texts.specs.declared.sending.Sending.{Sending}
use Rattle.audit_texts.specs.declared.recorded.Recorded.{Recorded}
use Rattle.run_audit.proofs.Fitting.{fit_found}
use Rattle.run_audit.proofs.NoneForeign.{none_foreign_of}
use Rattle.audit_texts.proofs.JobTold.{told_audited}
use Rattle.audit_texts.proofs.ConsoleRead.{short_text, is_long}
use Rattle.audit_texts.proofs.StepsRead.{read_to}
use Rattle.audit_readers.specs.Windows.{KnowsEnd, too_long}

-- ---- one step after another

pub stays : (a : Auditor) (job console steps : SourceState) → GoesOn a a job console steps job console steps None
stays a job console steps = λ jt ct st u. u

pub goes_then : (a b d : Auditor) (j c s k l m n o p : SourceState) (found : Option Finding) → GoesOn a b j c s k l m None → GoesOn b d k l m n o p found → GoesOn a d j c s n o p found
goes_then a b d j c s k l m n o p None f g = λ jt ct st u. g jt ct st (f jt ct st u)
goes_then a b d j c s k l m n o p (Some found) f g = λ jt ct st u. g jt ct st (f jt ct st u)

-- what a call answers goes on, if what it found does
pub goes_on_by : {A : Type 0} {E : Type 0} {F : A → Type 0} {G : A → Type 0} (r : Result A E) → ((x : A) → F x → G x) → IfOk r F → IfOk r G
goes_on_by (Ok x) on f = on x f
goes_on_by (Err e) on f = f

pub can_read : (a : Auditor) (j c s : SourceState) (jt ct st : List ℕ) → IsUnderWay a j c s jt ct st → CanBeRead a j c s jt ct st
can_read a j c s jt ct st u = record {
  sent = u.sent;
  job_so_far = u.are_read.job_so_far;
  console_read = (replies_text (Banner ∷ u.are_read.console_so_far.behind), u.are_read.console_so_far.read);
  steps_read = read_to a.recorded s st u.records u.are_read.steps_so_far;
}

-- ---- what is read and not told

pub reads_on : (a b : Auditor) (j c s k l m : SourceState) → StaysSent a.sending b.sending j k → StaysTold a.listening b.listening c l → StaysRecorded a.recorded b.recorded s m
    → (b.broken ≡ None → (a.broken ≡ None) × StaysSoFar a.course b.course) → GoesOn a b j c s k l m None
reads_on a b j c s k l m job console steps judge = λ jt ct st u. record {
  first = u.first;
  opens = u.opens;
  sent = u.sent;
  replies = u.replies;
  records = u.records;
  are_read = record {
    job_so_far = job jt u.sent u.are_read.job_so_far;
    console_so_far = console ct u.replies u.are_read.console_so_far;
    steps_so_far = steps st u.records u.are_read.steps_so_far;
  };
  judged = λ none. (judge none).1 u.first u.sent u.replies u.records (u.judged (judge none).0);
}

-- the record that comes next stays so
pub next_stays : (a b : Auditor) (next : Option Record) → b.recorded ≡ a.recorded → b.broken ≡ a.broken → IsNext a next → IsNext b next
next_stays a b None recorded broken is = λ none. is (sym broken ∙ none)
next_stays a b (Some r) recorded broken is = ap (λ (x : Recorded). x.next) recorded ∙ is

-- a record breaks a rule, and none counts behind it
pub broken_by : (a b : Auditor) (j c s : SourceState) → b.sending ≡ a.sending → b.listening ≡ a.listening → b.recorded ≡ a.recorded → (b.broken ≡ None → ⊥) → GoesOn a b j c s j c s None
broken_by a b j c s sending listening recorded broken = λ jt ct st u. record {
  first = u.first;
  opens = u.opens;
  sent = u.sent;
  replies = u.replies;
  records = u.records;
  are_read = record {
    job_so_far = subst (λ (x : Sending). JobSoFar x j jt u.sent) (sym sending) u.are_read.job_so_far;
    console_so_far = subst (λ (x : Listening). ConsoleSoFar x c ct u.replies) (sym listening) u.are_read.console_so_far;
    steps_so_far = subst (λ (x : Recorded). StepsSoFar x s st u.records) (sym recorded) u.are_read.steps_so_far;
  };
  judged = λ none. absurd (broken none);
}

-- ---- what is told

pub record_told : (a b : Auditor) (r : Record) (j c s : SourceState) → StaysSent a.sending b.sending j j → StaysTold a.listening b.listening c c
    → ((text : List ℕ) (told : List Record) → StepsSoFar a.recorded s text told → StepsSoFar b.recorded s text (told ++ r ∷ [])) → b.broken ≡ a.broken → AddsRecord a.course b.course r → GoesOn a b j c s j c s None
record_told a b r j c s job console steps broken judge = λ jt ct st u. record {
  first = u.first;
  opens = u.opens;
  sent = u.sent;
  replies = u.replies;
  records = u.records ++ r ∷ [];
  are_read = record {
    job_so_far = job jt u.sent u.are_read.job_so_far;
    console_so_far = console ct u.replies u.are_read.console_so_far;
    steps_so_far = steps st u.records u.are_read.steps_so_far;
  };
  judged = λ none. judge u.first u.sent u.replies u.records (u.judged (sym broken ∙ none));
}

pub reply_told : (a b : Auditor) (r : Reply) (j c s l : SourceState) → StaysSent a.sending b.sending j j → StaysRecorded a.recorded b.recorded s s
    → ((text : List ℕ) (told : List Reply) → ConsoleSoFar a.listening c text told → ConsoleSoFar b.listening l text (told ++ r ∷ [])) → b.broken ≡ a.broken → AddsReply a.course b.course r → GoesOn a b j c s j l s None
reply_told a b r j c s l job steps console broken judge = λ jt ct st u. record {
  first = u.first;
  opens = u.opens;
  sent = u.sent;
  replies = u.replies ++ r ∷ [];
  records = u.records;
  are_read = record {
    job_so_far = job jt u.sent u.are_read.job_so_far;
    console_so_far = console ct u.replies u.are_read.console_so_far;
    steps_so_far = steps st u.records u.are_read.steps_so_far;
  };
  judged = λ none. judge u.first u.sent u.replies u.records (u.judged (sym broken ∙ none));
}

pub line_told : (a b : Auditor) (kept : List ℕ) (j c s : SourceState) → StaysTold a.listening b.listening c c → StaysRecorded a.recorded b.recorded s s
    → ((text : List ℕ) (told : List Sent) → JobSoFar a.sending j text told → JobSoFar b.sending j text (told ++ a_text kept ∷ [])) → (b.broken ≡ None → (a.broken ≡ None) × AddsSent a.course b.course (a_text kept ∷ [])) → GoesOn a b j c s j c s None
line_told a b kept j c s console steps job judge = λ jt ct st u. record {
  first = u.first;
  opens = u.opens;
  sent = u.sent ++ a_text kept ∷ [];
  replies = u.replies;
  records = u.records;
  are_read = record {
    job_so_far = job jt u.sent u.are_read.job_so_far;
    console_so_far = console ct u.replies u.are_read.console_so_far;
    steps_so_far = steps st u.records u.are_read.steps_so_far;
  };
  judged = λ none. (judge none).1 u.first u.sent u.replies u.records (u.judged (judge none).0);
}

-- ---- lines that are dropped

pub drops_none : (a : Auditor) (j c s : SourceState) (jt ct st : List ℕ) → IsUnderWay a j c s jt ct st → IsDropping a j c s jt ct st []
drops_none a j c s jt ct st u = record {
  first = u.first;
  opens = u.opens;
  sent = u.sent;
  replies = u.replies;
  records = u.records;
  are_read = subst (λ (ss : List Sent). AreRead a j c s jt ct st ss u.replies u.records) (sym (append-nil u.sent)) u.are_read;
  judged = u.judged;
}

-- something more of the job is not told
pub drops_more : (a b : Auditor) (j c s : SourceState) (more : List Sent) (x : Sent) (jt ct st : List ℕ) → StaysTold a.listening b.listening c c → StaysRecorded a.recorded b.recorded s s
    → ((text : List ℕ) (told : List Sent) → JobSoFar a.sending j text told → JobSoFar b.sending j text (told ++ x ∷ [])) → (b.broken ≡ None → (a.broken ≡ None) × StaysSoFar a.course b.course)
    → IsDropping a j c s jt ct st more → IsDropping b j c s jt ct st (more ++ x ∷ [])
drops_more a b j c s more x jt ct st console steps job judge u = record {
  first = u.first;
  opens = u.opens;
  sent = u.sent;
  replies = u.replies;
  records = u.records;
  are_read = record {
    job_so_far = subst (JobSoFar b.sending j jt) (append_assoc u.sent more (x ∷ [])) (job jt (u.sent ++ more) u.are_read.job_so_far);
    console_so_far = console ct u.replies u.are_read.console_so_far;
    steps_so_far = steps st u.records u.are_read.steps_so_far;
  };
  judged = λ none. (judge none).1 u.first u.sent u.replies u.records (u.judged (judge none).0);
}

pub drops_on : (a b : Auditor) (j c s k : SourceState) (more : List Sent) (jt ct st : List ℕ) → StaysSent a.sending b.sending j k → StaysTold a.listening b.listening c c → StaysRecorded a.recorded b.recorded s s
    → (b.broken ≡ None → (a.broken ≡ None) × StaysSoFar a.course b.course) → IsDropping a j c s jt ct st more → IsDropping b k c s jt ct st more
drops_on a b j c s k more jt ct st job console steps judge u = record {
  first = u.first;
  opens = u.opens;
  sent = u.sent;
  replies = u.replies;
  records = u.records;
  are_read = record {
    job_so_far = job jt (u.sent ++ more) u.are_read.job_so_far;
    console_so_far = console ct u.replies u.are_read.console_so_far;
    steps_so_far = steps st u.records u.are_read.steps_so_far;
  };
  judged = λ none. (judge none).1 u.first u.sent u.replies u.records (u.judged (judge none).0);
}

pub dropping_read : (a : Auditor) (j c s : SourceState) (jt ct st : List ℕ) (more : List Sent) → IsDropping a j c s jt ct st more → CanBeRead a j c s jt ct st
dropping_read a j c s jt ct st more u = record {
  sent = u.sent ++ more;
  job_so_far = u.are_read.job_so_far;
  console_read = (replies_text (Banner ∷ u.are_read.console_so_far.behind), u.are_read.console_so_far.read);
  steps_read = read_to a.recorded s st u.records u.are_read.steps_so_far;
}

-- the reset is made, with its record
pub reset_told : (a b : Auditor) (number dropped : ℕ) (lines : List (List ℕ)) (j c s : SourceState) (jt ct st : List ℕ) → StaysSent a.sending b.sending j j → StaysTold a.listening b.listening c c
    → ((text : List ℕ) (told : List Record) → StepsSoFar a.recorded s text told → StepsSoFar b.recorded s text (told ++ kinds.Mark (ResetMark number) ∷ [])) → b.broken ≡ a.broken
    → AddsReset a.course b.course number dropped → dropped ≡ length lines → IsDropping a j c s jt ct st (map a_text lines ++ a_stop ∷ []) → IsUnderWay b j c s jt ct st
reset_told a b number dropped lines j c s jt ct st job console steps broken judge few u = record {
  first = u.first;
  opens = u.opens;
  sent = u.sent ++ (map a_text lines ++ a_stop ∷ []);
  replies = u.replies;
  records = u.records ++ kinds.Mark (ResetMark number) ∷ [];
  are_read = record {
    job_so_far = job jt (u.sent ++ (map a_text lines ++ a_stop ∷ [])) u.are_read.job_so_far;
    console_so_far = console ct u.replies u.are_read.console_so_far;
    steps_so_far = steps st u.records u.are_read.steps_so_far;
  };
  judged = λ none. judge lines few u.first u.sent u.replies u.records (u.judged (sym broken ∙ none));
}

-- it is made where records count no more
pub reset_untold : (a b : Auditor) (more : List Sent) (j c s : SourceState) (jt ct st : List ℕ) → b.sending ≡ a.sending → b.listening ≡ a.listening → b.recorded ≡ a.recorded → (b.broken ≡ None → ⊥) → IsDropping a j c s jt ct st more → IsUnderWay b j c s jt ct st
reset_untold a b more j c s jt ct st sending listening recorded broken u = record {
  first = u.first;
  opens = u.opens;
  sent = u.sent ++ more;
  replies = u.replies;
  records = u.records;
  are_read = record {
    job_so_far = subst (λ (x : Sending). JobSoFar x j jt (u.sent ++ more)) (sym sending) u.are_read.job_so_far;
    console_so_far = subst (λ (x : Listening). ConsoleSoFar x c ct u.replies) (sym listening) u.are_read.console_so_far;
    steps_so_far = subst (λ (x : Recorded). StepsSoFar x s st u.records) (sym recorded) u.are_read.steps_so_far;
  };
  judged = λ none. absurd (broken none);
}

-- ---- the last step

pub finish_on : (a b d : Auditor) (j c s k l m n o : SourceState) (found : Option Finding) → ((jt ct st : List ℕ) → IsUnderWay a j c s jt ct st → IsUnderWay b k l m jt ct st) → Finishes b d k l m n o found → GoesOn a d j c s k n o found
finish_on a b d j c s k l m n o None f g = absurd g
finish_on a b d j c s k l m n o (Some found) f g = λ jt ct st u. g jt ct st (f jt ct st u)

-- ---- the end

-- the record of the end was told, and nothing follows
pub fits : (a b : Auditor) (j c s : SourceState) (events : ℕ) (jt ct st : List ℕ) → (u : IsUnderWay a j c s jt ct st) → a.broken ≡ None → IsWhole ct u.replies → AreRecords st (u.records ++ kinds.End ∷ [])
    → EndsSoFar a.course b.course → b.sending ≡ a.sending → IsAllRead b.sending b.course.line.halts b.course.work.number → b.course.cuts ≤ b.sending.cuts → b.sending.foreign ≡ 0 → events ≡ a.course.events
    → ((f : FitsWith jt ct st events) × AllAudited f.fit.sent) × (HasForeign jt ct st → ⊥)
fits a b j c s events jt ct st u none console steps ends same all few clean count =
    let so_far = u.judged none in
    let read : JobSoFar b.sending j jt u.sent = subst (λ (x : Sending). JobSoFar x j jt u.sent) (sym same) u.are_read.job_so_far in
    let f = fit_found b.course b.sending j jt ct st u.first u.sent u.replies u.records steps.lines events u.opens (ends u.first u.sent u.replies u.records so_far) read all few console steps.are_lines steps.are (count ∙ so_far.events)
    (told_audited b.sending j jt u.sent read clean) in
    ((f.fit, f.audited), λ h. none_foreign_of jt ct st events f.fit f.audited h)

-- ---- the banner

-- a console that is told begins with it
pub has_banner : {A : Type 0} (a : Auditor) (j c s : SourceState) (jt ct st : List ℕ) → IsUnderWay a j c s jt ct st → HasNoBanner ct → A
has_banner a j c s jt ct st u none =
    let read = u.are_read.console_so_far in
    absurd (none (replies_text read.behind ++ read.read.rest) (read.read.whole ∙ append_assoc (reply_text Banner) (replies_text read.behind) read.read.rest))

-- a reply is bad
pub bad_found : (a b : Auditor) (j c s k l m : SourceState) (found : Finding) → ((line : ℕ) × (found ≡ BadReplies line)) → ((jt ct st : List ℕ) → IsUnderWay a j c s jt ct st → CanBeRead b k l m jt ct st) → GoesOn a b j c s k l m (Some found)
bad_found a b j c s k l m found is read =
    subst (λ (f : Finding). GoesOn a b j c s k l m (Some f)) (sym is.1) (λ jt ct st u. (read jt ct st u, λ none. has_banner a j c s jt ct st u none))

-- it goes on, or a reply is bad
pub on_or_bad : (a b : Auditor) (j c s k l m : SourceState) (found : Option Finding) → IfSome found (λ (f : Finding). (line : ℕ) × (f ≡ BadReplies line))
    → ((jt ct st : List ℕ) → IsUnderWay a j c s jt ct st → IsUnderWay b k l m jt ct st) → GoesOn a b j c s k l m found
on_or_bad a b j c s k l m None bad on = on
on_or_bad a b j c s k l m (Some found) bad on = bad_found a b j c s k l m found bad (λ jt ct st u. can_read b k l m jt ct st (on jt ct st u))

-- at the end a reply is bad
pub bad_end : (a b : Auditor) (j c s l m : SourceState) (found : Finding) → ((line : ℕ) × (found ≡ BadReplies line)) → ((jt ct st : List ℕ) → IsUnderWay a j c s jt ct st → CanBeRead b j l m jt ct st) → Finishes a b j c s l m (Some found)
bad_end a b j c s l m found is read =
    subst (λ (f : Finding). Finishes a b j c s l m (Some f)) (sym is.1) (λ jt ct st u. (read jt ct st u, λ none. has_banner a j c s jt ct st u none))

pub ended_read : (a b : Auditor) (j c s l m : SourceState) → b.sending ≡ a.sending → IsReadOn a.listening.reader.window b.listening.reader.window c l a.listening.reader.place b.listening.reader.place → b.recorded ≡ a.recorded → m ≡ s
    → (jt ct st : List ℕ) → IsUnderWay a j c s jt ct st → CanBeRead b j l m jt ct st
ended_read a b j c s l m sending console steps same jt ct st u =
    let r = can_read a j c s jt ct st u in
    record {
      sent = r.sent;
      job_so_far = subst (λ (x : Sending). JobSoFar x j jt r.sent) (sym sending) r.job_so_far;
      console_read = console ct r.console_read;
      steps_read = subst (λ (x : Recorded). IsReadTo x.reader.window m x.reader.place st) (sym steps) (subst (λ (x : SourceState). IsReadTo a.recorded.reader.window x a.recorded.reader.place st) (sym same) r.steps_read);
    }

-- a record breaks a rule
pub steps_break : (a b : Auditor) (s m : SourceState) (at : ℕ) → b.sending ≡ a.sending → b.listening ≡ a.listening
    → ((text : List ℕ) (told : List Record) → StepsSoFar a.recorded s text told → IsReadTo b.recorded.reader.window m b.recorded.reader.place text) → FinishesSteps a b s m (Some (Misfit at))
steps_break a b s m at sending listening read = λ x j c l jt ct st u whole console. (
  record {
    sent = u.sent;
    job_so_far = subst (λ (y : Sending). JobSoFar y j jt u.sent) (sym sending) u.are_read.job_so_far;
    console_read = subst (λ (y : Listening). IsReadTo y.reader.window l y.reader.place ct) (sym listening) console;
    steps_read = read st u.records u.are_read.steps_so_far;
  },
  λ none. has_banner (record a { listening = x }) j c s jt ct st u none,
)

-- the end comes, and nothing follows
pub steps_fit : (a b : Auditor) (s m : SourceState) (events : ℕ) → b.sending ≡ a.sending → b.listening ≡ a.listening → a.broken ≡ None → MayFit a (record a { course = b.course }) → events ≡ a.course.events
    → ((text : List ℕ) (told : List Record) → StepsSoFar a.recorded s text told → IsReadTo b.recorded.reader.window m b.recorded.reader.place text × AreRecords text (told ++ kinds.End ∷ [])) → FinishesSteps a b s m (Some (Fits events))
steps_fit a b s m events sending listening none may count read = λ x j c l jt ct st u whole console.
    let r = read st u.records u.are_read.steps_so_far in (
      record {
        sent = u.sent;
        job_so_far = subst (λ (y : Sending). JobSoFar y j jt u.sent) (sym sending) u.are_read.job_so_far;
        console_read = subst (λ (y : Listening). IsReadTo y.reader.window l y.reader.place ct) (sym listening) console;
        steps_read = r.0;
      },
      fits (record a { listening = x }) (record a { course = b.course }) j c s events jt ct st u none whole r.1 may.ends refl may.told may.few may.audited count,
    )

pub read_console : (l : Listening) (s : SourceState) (text : List ℕ) (told : List Reply) → ConsoleSoFar l s text told → IsReadTo l.reader.window s l.reader.place text
read_console l s text told c = (replies_text (Banner ∷ c.behind), c.read)

-- the console is at its end
pub whole_end : (a b : Auditor) (x : Listening) (j c s l m : SourceState) (found : Option Finding) → EndsConsole true a.listening c → IsReadOn a.listening.reader.window x.reader.window c l a.listening.reader.place x.reader.place
    → FinishesSteps (record a { listening = x }) b s m found → Finishes a b j c s l m found
whole_end a b x j c s l m None ends read f = absurd f
whole_end a b x j c s l m (Some found) ends read f = λ jt ct st u.
    f a.listening j c l jt ct st u (ends refl ct u.replies u.are_read.console_so_far) (read ct (read_console a.listening c ct u.replies u.are_read.console_so_far))

-- ---- what is said

pub short_said : (ct st : List ℕ) (found : Finding) → (IsTooLong ct st → ⊥) → IsShort ct st found
short_said ct st (Fits n) short = short
short_said ct st (Misfit n) short = short
short_said ct st (BadReplies n) short = short
short_said ct st (Foreign n) short = short
short_said ct st TooLong short = tt

pub refuted : {P : Type 0} (b : Bool) → b ≡ false → (P → b ≡ true) → P → ⊥
refuted true none tells p = (let e : true ≡ false = none in cc)
refuted false none tells p = (let e : false ≡ true = tells p in cc)

-- neither text is too long
pub both_short : (a : Auditor) (j c s : SourceState) (jt ct st : List ℕ) → CanBeRead a j c s jt ct st → KnowsEnd a.listening.reader.window c → KnowsEnd a.recorded.reader.window s
    → IsRead a.listening.reader.window a.listening.reader.place → IsRead a.recorded.reader.window a.recorded.reader.place → (too_long ≤ a.listening.reader.place → ⊥) → (too_long ≤ a.recorded.reader.place → ⊥) → IsTooLong ct st → ⊥
both_short a j c s jt ct st r known knows over ended console steps (inl long) = short_text a.listening.reader.window c a.listening.reader.place ct r.console_read known over console long
both_short a j c s jt ct st r known knows over ended console steps (inr long) = short_text a.recorded.reader.window s a.recorded.reader.place st r.steps_read knows ended steps long

pub is_too_long : (a : Auditor) (j c s : SourceState) (jt ct st : List ℕ) → CanBeRead a j c s jt ct st → (too_long ≤ a.listening.reader.place) ⊎ (too_long ≤ a.recorded.reader.place) → IsTooLong ct st
is_too_long a j c s jt ct st r (inl long) = (let most = is_long a.listening.reader.window c a.listening.reader.place ct r.console_read in inl (omega (arith, long, most)))
is_too_long a j c s jt ct st r (inr long) = (let most = is_long a.recorded.reader.window s a.recorded.reader.place st r.steps_read in inr (omega (arith, long, most)))

pub not_broken : (o : Option ℕ) → ((n : ℕ) → o ≡ Some n → ⊥) → o ≡ None
not_broken None none = refl
not_broken (Some n) none = absurd (none n refl)

-- ---- the beginning

pub has_begun : (a : Auditor) (x : Listening) (j c s l : SourceState) (jt ct st : List ℕ) → IsOpened a j c s jt ct st → ConsoleSoFar x l ct [] → IsUnderWay (record a { listening = x }) j l s jt ct st
has_begun a x j c s l jt ct st o h = record {
  first = o.first;
  opens = o.opens;
  sent = [];
  replies = [];
  records = [];
  are_read = record { job_so_far = o.job_so_far; console_so_far = h; steps_so_far = o.steps_so_far };
  judged = λ none. o.judged;
}

pub not_begun : (a : Auditor) (x : Listening) (j c s l : SourceState) (jt ct st : List ℕ) → IsOpened a j c s jt ct st → IsReadTo x.reader.window l x.reader.place ct → CanBeRead (record a { listening = x }) j l s jt ct st
not_begun a x j c s l jt ct st o h = record { sent = []; job_so_far = o.job_so_far; console_read = h; steps_read = read_to a.recorded s st [] o.steps_so_far }

-- ---- what can be read on

pub can_be_read : (a b : Auditor) (j c s k l m : SourceState) → StaysSent a.sending b.sending j k
    → ((text : List ℕ) (told : List Reply) → ConsoleSoFar a.listening c text told → IsReadTo b.listening.reader.window l b.listening.reader.place text)
    → ((text : List ℕ) (told : List Record) → StepsSoFar a.recorded s text told → IsReadTo b.recorded.reader.window m b.recorded.reader.place text)
    → (jt ct st : List ℕ) → IsUnderWay a j c s jt ct st → CanBeRead b k l m jt ct st
can_be_read a b j c s k l m job console steps jt ct st u = record {
  sent = u.sent;
  job_so_far = job jt u.sent u.are_read.job_so_far;
  console_read = console ct u.replies u.are_read.console_so_far;
  steps_read = steps st u.records u.are_read.steps_so_far;
}

pub still_read : (a b : Auditor) (j c s k l m : SourceState) → StaysSent a.sending b.sending j k → IsReadOn a.listening.reader.window b.listening.reader.window c l a.listening.reader.place b.listening.reader.place
    → IsReadOn a.recorded.reader.window b.recorded.reader.window s m a.recorded.reader.place b.recorded.reader.place → (jt ct st : List ℕ) → CanBeRead a j c s jt ct st → CanBeRead b k l m jt ct st
still_read a b j c s k l m job console steps jt ct st r = record { sent = r.sent; job_so_far = job jt r.sent r.job_so_far; console_read = console ct r.console_read; steps_read = steps st r.steps_read }

-- more of the job was read, and nothing told
pub read_sent : (a b : Auditor) (j k c s : SourceState) (jt ct st : List ℕ) → StaysSent a.sending b.sending j k → b.listening ≡ a.listening → b.recorded ≡ a.recorded → CanBeRead a j c s jt ct st → CanBeRead b k c s jt ct st
read_sent a b j k c s jt ct st job console steps r = record {
  sent = r.sent;
  job_so_far = job jt r.sent r.job_so_far;
  console_read = subst (λ (l : Listening). IsReadTo l.reader.window c l.reader.place ct) (sym console) r.console_read;
  steps_read = subst (λ (l : Recorded). IsReadTo l.reader.window s l.reader.place st) (sym steps) r.steps_read;
}

pub taken_read : (a b : Auditor) (j c s : SourceState) (x : Sent) (jt ct st : List ℕ) → ((text : List ℕ) (told : List Sent) → JobSoFar a.sending j text told → JobSoFar b.sending j text (told ++ x ∷ [])) → b.listening ≡ a.listening → b.recorded ≡ a.recorded
    → CanBeRead a j c s jt ct st → CanBeRead b j c s jt ct st
taken_read a b j c s x jt ct st job console steps r = record {
  sent = r.sent ++ x ∷ [];
  job_so_far = job jt r.sent r.job_so_far;
  console_read = subst (λ (l : Listening). IsReadTo l.reader.window c l.reader.place ct) (sym console) r.console_read;
  steps_read = subst (λ (l : Recorded). IsReadTo l.reader.window s l.reader.place st) (sym steps) r.steps_read;
}

-- a line more is dropped
pub line_dropped : (a b d : Auditor) (j k c s : SourceState) (kept : List ℕ) (jt ct st : List ℕ) (lines : List (List ℕ)) → StaysSent a.sending b.sending j k → StaysTold a.listening b.listening c c → StaysRecorded a.recorded b.recorded s s
    → b.broken ≡ a.broken → b.course ≡ a.course
    → ((text : List ℕ) (told : List Sent) → JobSoFar b.sending k text told → JobSoFar d.sending k text (told ++ a_text kept ∷ [])) → d.listening ≡ b.listening → d.recorded ≡ b.recorded → d.broken ≡ b.broken → d.course ≡ b.course
    → IsDropping a j c s jt ct st (map a_text lines) → IsDropping d k c s jt ct st (map a_text (lines ++ kept ∷ []))
line_dropped a b d j k c s kept jt ct st lines stays console steps broken course taken l r q p u =
    let mid = drops_on a b j c s k (map a_text lines) jt ct st stays console steps (λ none. (sym broken ∙ none, λ f ss rs xs h. subst (λ x. HasJudged x f ss rs xs) (sym course) h)) u in
    let more = drops_more b d k c s (map a_text lines) (a_text kept) jt ct st (λ t ts h. subst (λ x. ConsoleSoFar x c t ts) (sym l) h) (λ t ts h. subst (λ x. StepsSoFar x s t ts) (sym r) h) taken
    (λ none. (sym q ∙ none, λ f ss rs xs h. subst (λ x. HasJudged x f ss rs xs) (sym p) h)) mid in
    subst (λ (ss : List Sent). IsDropping d k c s jt ct st ss) (sym (map-append a_text lines (kept ∷ []))) more
