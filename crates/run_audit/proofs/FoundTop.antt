-- What is said of texts that are read to their ends, where something was found of them.
use Rattle.std.proofs.Common.{◌≡◌, ◌≤◌, ◌<◌, ◌+◌, ◌⊎◌, ℕ, Bool, true, false, not, ◌&&◌, List, [], ◌∷◌, ◌++◌, append_assoc, length, length-append, Some, None, inl, inr, sym, refl, ap, ◌∙◌, subst, arith}
use Rattle.std.specs.declared.option.Option.{Option}
use Rattle.outside.specs.Causes.{SourceState}
use Rattle.status_report.specs.Replies.{reply_text}
use Rattle.status_report.specs.declared.Reply.TheVariants.{Banner}
use Rattle.run_rules.specs.Told.{replies_text}
use Rattle.run_rules.specs.Readings.{largest_job}
use Rattle.run_texts.specs.Points.{opening}
use Rattle.run_texts.specs.Sent.{Sent, kept_of}
use Rattle.audit_rules.specs.declared.Audit.TheVariants as audits
use Rattle.audit_rules.specs.Findings.{Finds, HasForeign, IsTooLong, is_foreign, foreign_in}
use Rattle.audit_rules.specs.Scanned.{scanned, sent_in}
use Rattle.audit_rules.specs.Telling.{HasAlarm, HasNoBanner}
use Rattle.audit_rules.specs.Telling.HasBadReply.{at_once}
use Rattle.audit_rules.proofs.Found.{none_earlier}
use Rattle.audit_course.specs.declared.judge.CourseJudge.{CourseJudge}
use Rattle.audit_texts.specs.Audited.{IsFirstForeign}
use Rattle.audit_texts.specs.SoFar.{ConsoleSoFar, IsItem, IsLeft, IsReadTo, JobSoFar, StaysSent, untold_of}
use Rattle.audit_texts.specs.declared.sending.Item.TheVariants.{Nothing}
use Rattle.audit_texts.specs.declared.listening.Listening.{Listening}
use Rattle.audit_texts.specs.declared.recorded.Recorded.{Recorded}
use Rattle.audit_texts.specs.declared.sending.Sending.{Sending}
use Rattle.audit_readers.proofs.Sizes.{few_sent}
use Rattle.audit_texts.proofs.JobRead.{front_sent}
use Rattle.audit_texts.proofs.JobTold.{differ, or_first, or_second}
use Rattle.run_audit.specs.Finding.{FindsSo, IsFound, IsSettled, KnowsAlarm, Leads, alarm_next, audit_of, has_told_alarm}
use Rattle.run_audit.specs.OnWay.{IsOnWay, done_by}
use Rattle.run_audit.specs.OnWay.Phase.{counting}
use Rattle.run_audit.specs.SafePoint.Stage.{at_safe}
use Rattle.run_audit.specs.UnderWay.{CanBeRead, IsOpened}
use Rattle.run_audit.specs.declared.auditor.Auditor.{Auditor}
use Rattle.run_audit.specs.declared.auditor.Finding.{Finding}
use Rattle.run_audit.specs.declared.auditor.Finding.TheVariants.{Fits, Misfit, BadReplies, Foreign, TooLong}

-- ---- the first line that is not audited

-- none is among the first lines, so one that is comes behind them
comes_behind : (xs more us : List (List ℕ)) (u : List ℕ) (vs : List (List ℕ)) → xs ++ more ≡ us ++ u ∷ vs → foreign_in xs ≡ false → is_foreign (kept_of u) ≡ true → length xs ≤ length us
comes_behind [] more us u vs same none is = omega arith
comes_behind (x ∷ xs) more [] u vs same none is = (let e : x ≡ u = cc in differ (is_foreign (kept_of u)) is (ap (λ (l : List ℕ). is_foreign (kept_of l)) (sym e) ∙ or_first (is_foreign (kept_of x)) (foreign_in xs) none))
comes_behind (x ∷ xs) more (v ∷ us) u vs same none is =
    let e : xs ++ more ≡ us ++ u ∷ vs = cc in
    let rest = comes_behind xs more us u vs e (or_second (is_foreign (kept_of x)) (foreign_in xs) none) is in
    omega (arith, rest)

-- it is among the lines that were read, if one of them is not audited
foreign_read : (s : Sending) (source : SourceState) (text : List ℕ) (told : List Sent) (line : ℕ) → JobSoFar s source text told → (s.foreign ≡ 0 → ⊥) → IsFirstForeign (scanned text).lines line → line ≤ s.lines
foreign_read s source text told line j some f =
    let g = j.foreign.some some in
    let same = sym f.split ∙ j.split ∙ ap (λ (ls : List (List ℕ)). ls ++ j.left.lines) g.split ∙ append_assoc g.before (g.here ∷ g.behind) j.left.lines in
    let early = comes_behind f.before (f.here ∷ f.behind) g.before g.here (g.behind ++ j.left.lines) same f.first g.is in
    let all : length j.lines ≡ length g.before + length (g.here ∷ g.behind) = ap length g.split ∙ length-append g.before (g.here ∷ g.behind) in
    let count = j.count in
    let number = f.number in
    omega (arith, early, all, count, number)

-- none of those is, and that line comes behind them
foreign_ahead : (s : Sending) (source : SourceState) (text : List ℕ) (told : List Sent) (before : List (List ℕ)) (here : List ℕ) (behind : List (List ℕ)) → JobSoFar s source text told → s.foreign ≡ 0 → (scanned text).lines ≡ before ++ here ∷ behind
    → is_foreign (kept_of here) ≡ true → s.lines ≤ length before
foreign_ahead s source text told before here behind j clean split is =
    let far = comes_behind j.lines j.left.lines before here behind (sym j.split ∙ split) (j.foreign.none clean) is in
    let count = j.count in
    omega (arith, far, count)

-- all lines were read
all_read : (s : Sending) (source : SourceState) (text : List ℕ) (told : List Sent) (j : JobSoFar s source text told) → s.last ≡ None → s.over ≡ true → length (scanned text).lines ≡ s.lines
all_read s source text told j calm over =
    let none : j.left.lines ≡ [] = subst (λ (b : Bool). IsLeft None b s.reader source j.left j.later) over (subst (λ (o : Option ℕ). IsLeft o s.over s.reader source j.left j.later) calm j.goes_on) in
    let all : length (scanned text).lines ≡ length j.lines + length j.left.lines = ap length j.split ∙ length-append j.lines j.left.lines in
    let left : length j.left.lines ≡ 0 = ap length none in
    let count = j.count in
    omega (arith, all, left, count)

-- ---- what is said

-- no line before it raises an alarm
no_alarm_before : (a : Auditor) (jt ct st : List ℕ) (line : ℕ) → line ≤ a.sending.lines → (b : Bool) → KnowsAlarm a jt ct st b → (k : ℕ) → k < line → HasAlarm (sent_in jt) ct st k → ⊥
no_alarm_before a jt ct st line among true alarm = none_earlier (sent_in jt) ct st line a.sending.lines alarm among
no_alarm_before a jt ct st line among false none = λ k less alarm. none k alarm

pub foreign_said : (a : Auditor) (j c s : SourceState) (jt ct st : List ℕ) (line : ℕ) (found : Finding) → CanBeRead a j c s jt ct st → (IsTooLong ct st → ⊥) → (a.sending.foreign ≡ 0 → ⊥) → IsFirstForeign (scanned jt).lines line
    → IsFound a jt ct st found → Finds jt ct st (audits.Foreign line)
foreign_said a j c s jt ct st line found r short some f is = (
  short,
  record {
    before = f.before;
    here = f.here;
    behind = f.behind;
    split = f.split;
    number = f.number;
    first = f.first;
    is = f.is;
    sent = no_alarm_before a jt ct st line (foreign_read a.sending j jt r.sent line r.job_so_far some f) (has_told_alarm a.course) is.alarm;
  },
)

-- Each line that is sent is audited: all were read, or those up to the line that raises an alarm.
none_foreign : (a : Auditor) (j c s : SourceState) (jt ct st : List ℕ) → CanBeRead a j c s jt ct st → a.sending.foreign ≡ 0 → (b : Bool) → KnowsAlarm a jt ct st b → (b ≡ false → a.sending.over ≡ true) → (b ≡ false → a.sending.last ≡ None)
    → HasForeign jt ct st → ⊥
none_foreign a j c s jt ct st r clean true alarm over calm h =
    let f = h.1 in
    let far = foreign_ahead a.sending j jt r.sent f.before f.here f.behind r.job_so_far clean f.split f.is in
    let number = f.number in
    f.sent a.sending.lines (omega (arith, far, number)) alarm
none_foreign a j c s jt ct st r clean false none over calm h =
    let f = h.1 in
    let far = foreign_ahead a.sending j jt r.sent f.before f.here f.behind r.job_so_far clean f.split f.is in
    let all = all_read a.sending j jt r.sent r.job_so_far (calm refl) (over refl) in
    let count : length (scanned jt).lines ≡ length f.before + length (f.here ∷ f.behind) = ap length f.split ∙ length-append f.before (f.here ∷ f.behind) in
    absurd (omega (arith, far, all, count))

finds_then : (jt ct st : List ℕ) (found : Finding) → (IsTooLong ct st → ⊥) → (HasForeign jt ct st → ⊥) → FindsSo jt ct st found → Finds jt ct st (audit_of found)
finds_then jt ct st (Fits events) short none is = (short, none, is)
finds_then jt ct st (Misfit at) short none is = (short, none, is.0, is.1)
finds_then jt ct st (BadReplies line) short none is = (short, none, is)
finds_then jt ct st (Foreign line) short none is = absurd is
finds_then jt ct st TooLong short none is = absurd is

so_found : (a : Auditor) (jt ct st : List ℕ) (found : Finding) → a.sending.foreign ≡ 0 → FindsSo jt ct st found ⊎ (IsSettled a × (a.sending.foreign ≡ 0 → FindsSo jt ct st found)) → FindsSo jt ct st found
so_found a jt ct st found clean (inl is) = is
so_found a jt ct st found clean (inr is) = is.1 clean

pub found_said : (a : Auditor) (j c s : SourceState) (jt ct st : List ℕ) (found : Finding) → CanBeRead a j c s jt ct st → (IsTooLong ct st → ⊥) → a.sending.foreign ≡ 0 → (has_told_alarm a.course ≡ false → a.sending.over ≡ true)
    → IsFound a jt ct st found → Finds jt ct st (audit_of found)
found_said a j c s jt ct st found r short clean over is =
    finds_then jt ct st found short (none_foreign a j c s jt ct st r clean (has_told_alarm a.course) is.alarm over is.calm) (so_found a jt ct st found clean is.finds)

-- ---- where the job was read to its end

settled_on : (a b : Auditor) → b.course ≡ a.course → (has_told_alarm a.course ≡ true → b.sending ≡ a.sending) → (a.sending.over ≡ true → IsItem Nothing a.sending → b.sending ≡ a.sending) → IsSettled a → (b.sending ≡ a.sending) × IsSettled b
settled_on a b course told over (inl t) = (told t, inl (ap has_told_alarm course ∙ t))
settled_on a b course told over (inr t) = (let same = over t.0 t.1 in (same, inr (ap (λ (s : Sending). s.over) same ∙ t.0, subst (IsItem Nothing) (sym same) t.1)))

finds_on : (a b : Auditor) (jt ct st : List ℕ) (found : Finding) → (IsSettled a → (b.sending ≡ a.sending) × IsSettled b) → FindsSo jt ct st found ⊎ (IsSettled a × (a.sending.foreign ≡ 0 → FindsSo jt ct st found))
    → FindsSo jt ct st found ⊎ (IsSettled b × (b.sending.foreign ≡ 0 → FindsSo jt ct st found))
finds_on a b jt ct st found settled (inl is) = inl is
finds_on a b jt ct st found settled (inr is) = (let now = settled is.0 in inr (now.1, λ clean. is.1 (ap (λ (s : Sending). s.foreign) (sym now.0) ∙ clean)))

alarm_on : (a b : Auditor) (jt ct st : List ℕ) (t : Bool) → (t ≡ true → b.sending ≡ a.sending) → KnowsAlarm a jt ct st t → KnowsAlarm b jt ct st t
alarm_on a b jt ct st true same alarm = subst (λ (s : Sending). HasAlarm (sent_in jt) ct st s.lines) (sym (same refl)) alarm
alarm_on a b jt ct st false same none = none

pub found_on : (a b : Auditor) (jt ct st : List ℕ) (found : Finding) → b.course ≡ a.course → (has_told_alarm a.course ≡ true → b.sending ≡ a.sending) → (a.sending.over ≡ true → IsItem Nothing a.sending → b.sending ≡ a.sending)
    → b.sending.last ≡ a.sending.last → IsFound a jt ct st found → IsFound b jt ct st found
found_on a b jt ct st found course told over last is = record {
  finds = finds_on a b jt ct st found (settled_on a b course told over) is.finds;
  alarm = subst (λ (x : CourseJudge). KnowsAlarm b jt ct st (has_told_alarm x)) (sym course) (alarm_on a b jt ct st (has_told_alarm a.course) told is.alarm);
  calm = λ none. last ∙ is.calm (ap has_told_alarm (sym course) ∙ none);
}

-- ---- how much is read

pub told_few : (s : Sending) (source : SourceState) (text : List ℕ) (told : List Sent) → JobSoFar s source text told → length told ≤ largest_job + 1
told_few s source text told j =
    let f = front_sent s source text told j in
    let all : length (sent_in text) ≡ length told + length (untold_of s ++ f.later) = ap length f.split ∙ length-append told (untold_of s ++ f.later) in
    let few = few_sent text in
    omega (arith, all, few)

-- something more of the job is taken
pub taken_on : (a b d : Auditor) (j k c s : SourceState) (x : Sent) (jt ct st : List ℕ) → StaysSent a.sending b.sending j k → ((text : List ℕ) (told : List Sent) → JobSoFar b.sending k text told → JobSoFar d.sending k text (told ++ x ∷ []))
    → d.listening ≡ a.listening → d.recorded ≡ a.recorded → (r : CanBeRead a j c s jt ct st) → (v : CanBeRead d k c s jt ct st) × (length v.sent ≡ length r.sent + 1)
taken_on a b d j k c s x jt ct st stays takes console steps r = (
  record {
    sent = r.sent ++ x ∷ [];
    job_so_far = takes jt r.sent (stays jt r.sent r.job_so_far);
    console_read = subst (λ (l : Listening). IsReadTo l.reader.window c l.reader.place ct) (sym console) r.console_read;
    steps_read = subst (λ (l : Recorded). IsReadTo l.reader.window s l.reader.place st) (sym steps) r.steps_read;
  },
  length-append r.sent (x ∷ []),
)

-- ---- the beginning

-- the banner was told, and nothing else
pub begins_on_way : (a : Auditor) (x : Listening) (j c s l : SourceState) (jt ct st : List ℕ) → IsOpened a j c s jt ct st → ConsoleSoFar x l ct []
    → (u : IsOnWay (record a { listening = x }) j l s jt ct st) × (0 + length a.course.work.left ≤ done_by (record a { listening = x }) u.sent u.records)
begins_on_way a x j c s l jt ct st o h = (
  record {
    first = o.first;
    opens = o.opens;
    sent = [];
    replies = [];
    records = [];
    are_read = record { job_so_far = o.job_so_far; console_so_far = h; steps_so_far = o.steps_so_far };
    phase = counting (record {
      counts = o.counts;
      judged = o.judged;
      early = λ left rest whole tells xs inside m k is less reads stand. (let number = o.judged.numbered in omega (arith, number, less));
      stops = λ lost. differ a.course.lost lost o.kept;
    });
    stage = at_safe (record {
      done = o.begins.done;
      unanswered = o.begins.answered;
      point = opening o.first;
      answered = refl;
      course = [];
      leads = (refl, refl);
      tells = refl;
      last_is = o.answered;
    }) o.begins.calm;
    calm = o.calm;
  },
  (let none : length a.course.work.left ≡ 0 = ap length o.begins.done in omega (arith, none)),
)

-- without the banner no line raises an alarm
no_alarm : (sent : List Sent) (ct st : List ℕ) → HasNoBanner ct → (k : ℕ) → HasAlarm sent ct st k → ⊥
no_alarm sent ct st none k alarm = (let t = alarm.stands.told in none (replies_text t.behind ++ alarm.rest) (t.text ∙ append_assoc (reply_text Banner) (replies_text t.behind) alarm.rest))

is_calm : (j : CourseJudge) → j.unanswered ≡ false → j.line.halts ≡ false → has_told_alarm j ≡ false
is_calm j answered calm = ap (λ (b : Bool). (not b && j.line.halts) && not (alarm_next j.work.left)) answered ∙ ap (λ (b : Bool). b && not (alarm_next j.work.left)) calm

-- the reply to line 1 is bad
pub begins_bad : (a : Auditor) (x : Listening) (j c s : SourceState) (jt ct st : List ℕ) → IsOpened a j c s jt ct st → HasNoBanner ct → IsFound (record a { listening = x }) jt ct st (BadReplies 1)
begins_bad a x j c s jt ct st o none = record {
  finds = inl (at_once none refl);
  alarm = subst (KnowsAlarm (record a { listening = x }) jt ct st) (sym (is_calm a.course o.begins.answered o.begins.calm)) (no_alarm (sent_in jt) ct st none);
  calm = λ told. o.calm;
}

-- ---- step by step

-- nothing was found yet
pub leads_on : (b : Auditor) (j c s : SourceState) (jt ct st : List ℕ) (n : ℕ) (found : Option Finding) → ((x : Finding) → found ≡ Some x → ⊥) → Leads b j c s jt ct st n found
    → (v : IsOnWay b j c s jt ct st) × (n + 1 + length b.course.work.left ≤ done_by b v.sent v.records)
leads_on b j c s jt ct st n None none l = (let more = l.1 in (l.0, omega (arith, more)))
leads_on b j c s jt ct st n (Some x) none l = absurd (none x refl)
