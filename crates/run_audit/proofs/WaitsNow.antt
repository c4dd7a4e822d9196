-- The last safe point of an audit where a reset is told next: it is here, or behind it a line waits.
use Rattle.std.proofs.Common.{◌≡◌, ℕ, ◌+◌, Bool, true, false, not, ◌&&◌, List, [], ◌∷◌, ◌++◌, append-nil, length, map, Some, refl, sym, ap, ◌∙◌, subst, arith}
use Rattle.std.specs.declared.option.Option.{Option}
use Rattle.outside.specs.Causes.{SourceState}
use Rattle.status_report.specs.Answering.{is_banner}
use Rattle.status_report.specs.Replies.{reply_text}
use Rattle.status_report.specs.declared.Reply.{Reply}
use Rattle.status_report.specs.declared.Reply.TheVariants.{Alarm, Banner}
use Rattle.step_line.specs.declared.Record.{Record}
use Rattle.run_rules.specs.Told.{replies_text}
use Rattle.run_rules.specs.declared.State.{State}
use Rattle.run_texts.specs.Points.{Point}
use Rattle.run_texts.specs.Sent.{Sent}
use Rattle.run_texts.specs.Sent.Sent.{a_text}
use Rattle.audit_rules.specs.Consoles.{GoesOnAnew, GoesOnWith, Tells, is_of_reset as tells_anew}
use Rattle.audit_rules.specs.Faults.{BeginsWithNoReport}
use Rattle.audit_rules.specs.Findings.{IsTooLong}
use Rattle.audit_rules.proofs.BehindText.{Onward, onward}
use Rattle.audit_rules.proofs.OneLine.{told_further}
use Rattle.audit_rules.proofs.OneWay.{both}
use Rattle.audit_rules.proofs.Replies.{all_reports}
use Rattle.audit_course.specs.SoFar.{is_of_reset}
use Rattle.audit_texts.specs.SoFar.{IsNextOn, StandsAt}
use Rattle.run_audit.specs.Coming.{is_alarm}
use Rattle.run_audit.specs.OnWay.{HearsNext, IsLater, IsLooked, IsOnWay, TellsReset}
use Rattle.run_audit.specs.SafePoint.{BeginsAnew, IsSince, SafePoint, Since, Stage, WaitSince}
use Rattle.run_audit.specs.SafePoint.Since.{by_line, by_reset, by_wait}
use Rattle.run_audit.specs.SafePoint.Stage.{at_safe, behind_safe}
use Rattle.run_audit.specs.declared.auditor.Auditor.{Auditor}
use Rattle.run_audit.proofs.BreaksOff.{stays_there}
use Rattle.run_audit.proofs.LineBegun.{no_report_first, one_rest, same_anew}
use Rattle.run_audit.proofs.SafeNow.{SafeHere, safe_by}

-- ---- a console that is left where no report follows

-- Behind what a console tells up to where no report follows, it goes on so behind some reports.
goes_onward : (console rest here : List ℕ) (told : List Reply) → Tells console told rest → Tells console told here → Onward [] here rest
goes_onward console rest here told a b =
    let t = told_further console here rest told told b a in
    onward told [] here rest record { one = t.one; other = t.other; one_may = t.one_may; other_may = t.other_may; one_is = t.one_is; other_is = t.other_is ∙ sym (append-nil told); text = t.text }

here_later : (here rest : List ℕ) → BeginsWithNoReport here → (o : Onward [] here rest) → here ≡ o.later
here_later here rest none o = no_report_first here o.later o.tells.replies none o.tells.text o.tells.each (all_reports o.tells.replies o.tells.are)

-- With reports before it, it goes on with the reply that comes next
pub goes_on_here : (console rest here : List ℕ) (told : List Reply) (reply : Reply) (later : List ℕ) → Tells console told rest → StandsAt console told here → here ≡ reply_text reply ++ later → GoesOnWith rest reply
goes_on_here console rest here told reply later a b e =
    let o = goes_onward console rest here told a b.tells in
    record { reports = o.reports; later = later; text = o.between ∙ ap (λ (text : List ℕ). replies_text o.reports ++ text) (sym (here_later here rest b.no_report o) ∙ e); each = o.each; are = o.are }

-- ---- what a reset tells first

pub also_anew : (r : Reply) → is_of_reset r ≡ true → tells_anew r ≡ true
also_anew r e = same_anew r ∙ e

-- it is a banner or an alarm
pub alarm_first : (r : Reply) → is_of_reset r ≡ true → not (is_banner r) ≡ is_alarm (Some r)
alarm_first Banner e = refl
alarm_first (Alarm n) e = refl
alarm_first _ e = absurd cc

-- the console goes on anew there
pub goes_on_with : {reply : Reply} {rest : List ℕ} → BeginsAnew reply rest → GoesOnWith rest reply
goes_on_with x = record { reports = []; later = x.later; text = x.text; each = tt; are = tt }

pub goes_anew : {reply : Reply} {rest : List ℕ} → BeginsAnew reply rest → GoesOnAnew rest
goes_anew {reply} x = (reply, also_anew reply x.of_reset, goes_on_with x)

-- if the reply that is known is one of these, it begins with it
pub begins_anew : {known : Option Reply} {console : List ℕ} {replies : List Reply} → (t : TellsReset known) → (h : HearsNext known console replies) → BeginsAnew t.0 h.0
begins_anew {known} {console} {replies} t h =
    let next = subst (λ (k : Option Reply). IsNextOn k h.0) t.1 h.2 in
    record { of_reset = t.2; later = next.0; text = next.1 }

-- ---- the last safe point

-- a line waits, where one is not answered
pub record Waits (a : Auditor) (first : State) (job console steps : List ℕ) (sent : List Sent) (replies : List Reply) : Type 0 where
  pub since : IsSince a first job console steps sent replies
  pub wait : WaitSince a first job console steps since.front since.told since.last since.safe since.later since.heard

pub waits_since : {a : Auditor} {first : State} {job console steps : List ℕ} {sent : List Sent} {replies : List Reply} → Stage a first job console steps sent replies → a.course.unanswered ≡ true → Waits a first job console steps sent replies
waits_since {a} (at_safe h calm) waiting = both a.course.unanswered waiting h.unanswered
waits_since {a} {first} {job} {console} {steps} {sent} {replies} (behind_safe s) waiting = by s.since refl where
  by : (x : Since a first job console steps s.front s.told s.last s.safe s.later s.heard) → s.since ≡ x → Waits a first job console steps sent replies
  by (by_line l) e = both a.course.unanswered waiting l.unanswered
  by (by_reset r) e = both a.course.unanswered waiting r.unanswered
  by (by_wait w) e = record { since = s; wait = w }

-- Where a reset is told next, nothing was heard since the last safe point. Of the job nothing has come since, or the line that waits.
pub record IsAnew (a : Auditor) (first : State) (job console steps : List ℕ) (sent : List Sent) (replies : List Reply) (reply : Reply) : Type 0 where
  pub front : List Sent
  pub begun : List (List ℕ)
  pub sent_is : sent ≡ front ++ map a_text begun
  pub told : List Reply
  pub heard : List Reply
  pub replies_is : replies ≡ told ++ heard
  pub none_heard : heard ≡ []
  pub last : ℕ
  pub safe : SafePoint first job console steps front told last
  pub answered : a.answered ≡ last
  pub anew : BeginsAnew reply safe.rest
  pub locked : safe.point.locked ≡ a.course.locked
  pub number : a.course.work.number ≡ safe.point.before.number + length begun
  pub one : a.course.unanswered ≡ true → length begun ≡ 1
  pub none : a.course.unanswered ≡ false → begun ≡ []

-- where each line is answered
abbrev pub anew_here : {a : Auditor} {first : State} {job console steps : List ℕ} {sent : List Sent} {replies : List Reply} (rest : List ℕ) (reply : Reply) → a.course.unanswered ≡ false → SafeHere a first job console steps sent replies rest → BeginsAnew reply rest
    → IsAnew a first job console steps sent replies reply
anew_here {a} {first} {job} {console} {steps} {sent} {replies} rest reply answered s anew =
    let there = (stays_there s.safe.point s.heard.point s.heard.course s.heard.leads s.heard.rebases).0 in
    let at = ap (λ (p : Point). p.before.number) (sym there) in
    let number = s.heard.number in
    record {
      front = sent;
      begun = [];
      sent_is = sym (append-nil sent);
      told = replies;
      heard = [];
      replies_is = sym (append-nil replies);
      none_heard = refl;
      last = a.answered;
      safe = s.safe;
      answered = refl;
      anew = subst (BeginsAnew reply) (sym s.rest_is) anew;
      locked = ap (λ (p : Point). p.locked) (sym there) ∙ s.heard.locked;
      number = omega (arith, at, number);
      one = λ waiting. both a.course.unanswered waiting answered;
      none = λ x. refl;
    }

-- where a line waits
abbrev pub anew_waiting : {a : Auditor} {first : State} {job console steps : List ℕ} {sent : List Sent} {replies : List Reply} (rest : List ℕ) (reply : Reply) → Waits a first job console steps sent replies → StandsAt console replies rest → BeginsAnew reply rest
    → IsAnew a first job console steps sent replies reply
anew_waiting {a} {first} {job} {console} {steps} {sent} {replies} rest reply x stands anew =
    let s = x.since in
    let w = x.wait in
    let there = (stays_there w.now w.stands.point w.stands.course w.stands.leads w.stands.rebases).0 in
    let same : replies ≡ s.told = s.replies_is ∙ ap (λ (rs : List Reply). s.told ++ rs) w.none ∙ append-nil s.told in
    record {
      front = s.front;
      begun = w.kept ∷ [];
      sent_is = s.sent_is ∙ ap (λ (ss : List Sent). s.front ++ ss) w.later_is;
      told = s.told;
      heard = s.heard;
      replies_is = s.replies_is;
      none_heard = w.none;
      last = s.last;
      safe = s.safe;
      answered = w.answered;
      anew = subst (BeginsAnew reply) (one_rest console s.told rest s.safe.rest (subst (λ (rs : List Reply). StandsAt console rs rest) same stands) s.safe.stands) anew;
      locked = sym w.locked ∙ ap (λ (p : Point). p.locked) (sym there) ∙ w.stands.locked;
      number = w.number;
      one = λ y. refl;
      none = λ answered. both a.course.unanswered w.unanswered answered;
    }

-- where a reset is told next
pub is_anew : {a : Auditor} {j c s : SourceState} {jt ct st : List ℕ} (u : IsOnWay a j c s jt ct st) → (IsTooLong ct st → ⊥) → (next : Option Record) → IsLooked a st u.records next → IsLater a.course next → (not a.course.unanswered && a.course.line.halts) ≡ false
    → (known : Option Reply) (r : TellsReset known) → HearsNext known ct u.replies → IsAnew a u.first jt ct st u.sent u.replies r.0
is_anew {a} {j} {c} {s} {jt} {ct} {st} u short next looked later calm known r hears = by a.course.unanswered refl where
  anew : BeginsAnew r.0 hears.0
  anew = begins_anew r hears

  by : (b : Bool) → a.course.unanswered ≡ b → IsAnew a u.first jt ct st u.sent u.replies r.0
  by true waiting = anew_waiting hears.0 r.0 (waits_since u.stage waiting) hears.1 anew
  by false answered = anew_here hears.0 r.0 answered (safe_by u short next looked later answered calm known hears) anew
