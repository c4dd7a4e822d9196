-- Texts are read on where the line at hand is done, and what comes next of them says what an audit does.
use Rattle.std.proofs.Common.{◌≡◌, inl, ℕ, ◌+◌, Bool, true, false, cond, not, ◌&&◌, List, [], ◌∷◌, Some, None, Result, Ok, Err, IfOk, IfSome, refl, sym, ap, ◌∙◌, subst}
use Rattle.std.specs.declared.option.Option.{Option}
use Rattle.outside.specs.Causes.{SourceState}
use Rattle.status_report.specs.declared.Reply.{Reply}
use Rattle.step_line.specs.declared.Record.{Record}
use Rattle.run_texts.specs.Sent.{Sent}
use Rattle.run_texts.specs.Sent.Sent.{a_text, a_stop}
use Rattle.audit_rules.specs.Consoles.{GoesOnAnew}
use Rattle.audit_rules.specs.Faults.{FailsAt}
use Rattle.audit_rules.specs.Findings.{IsTooLong}
use Rattle.audit_rules.specs.Scanned.{sent_in}
use Rattle.audit_rules.specs.Telling.{HasAlarm, HasBadReply}
use Rattle.audit_rules.proofs.ResetShort.{stop_fails}
use Rattle.audit_course.specs.SoFar.{begins_epoch}
use Rattle.audit_course.specs.declared.MotionError.{MotionError}
use Rattle.audit_texts.specs.SoFar.{IsItem, IsNextOn, JobSoFar, StandsSo, StaysTold, is_looked_for, looked_for}
use Rattle.audit_texts.specs.declared.listening.Listening.{Listening}
use Rattle.audit_texts.specs.declared.sending.Item.TheVariants.{Stop}
use Rattle.audit_texts.specs.declared.sending.Sending.{Sending}
use Rattle.audit_texts.proofs.JobTold.{next_sent}
use Rattle.run_audit.specs.Coming.{FitsError, IsResetTold}
use Rattle.run_audit.specs.Finding.{IsFound, LeadsOnIf, Looks, LooksAndHears}
use Rattle.run_audit.specs.OnWay.{HearsNext, IsErrorBy, IsLater, IsLooked, IsOnWay, TellsNoReset, TellsReset}
use Rattle.run_audit.specs.declared.auditor.Auditor.{Auditor}
use Rattle.run_audit.specs.declared.auditor.Finding.{Finding}
use Rattle.run_audit.specs.declared.auditor.Finding.TheVariants.{BadReplies}
use Rattle.run_audit.proofs.LineBegun.{none_anew, none_waits}
use Rattle.run_audit.proofs.NoReset.{bad_is_found, fails_there}
use Rattle.run_audit.proofs.ReadOn.{console_on_way}
use Rattle.run_audit.proofs.SafeNow.{SafeHere, safe_by}

-- what a call answers goes on, if this holds there
pub goes_on_given : {A : Type 0} {E : Type 0} {F : A → Type 0} {G : A → Type 0} {Q : Type 0} (r : Result A E) → (Q → IfOk r F) → ((x : A) → (Q → F x) → G x) → IfOk r G
goes_on_given (Ok x) f on = on x f
goes_on_given (Err e) f on = tt

-- ---- what comes next of the console

pub hears_next : {a : Auditor} {j c s : SourceState} {jt ct st : List ℕ} (u : IsOnWay a j c s jt ct st) → (IsTooLong ct st → ⊥) → (known found : Option Reply) → found ≡ known → StandsSo (IsNextOn found) a.listening c → HearsNext known ct u.replies
hears_next {a} {j} {c} {s} {jt} {ct} {st} u short known found same stands =
    let h = stands ct u.replies u.are_read.console_so_far (λ long. short (inl long)) in
    (h.0, h.1, subst (λ (o : Option Reply). IsNextOn o h.0) same h.2)

-- it is told at a reset, or not
pub reset_of : (known : Option Reply) → IfSome known (λ k. is_looked_for k ≡ true) → ((told : List Reply) → known ≡ looked_for told → IsResetTold known told) → TellsReset known
reset_of None early is = absurd (let e = (is [] refl).is in cc)
reset_of (Some r) early is = let t = is (r ∷ []) (sym (ap (λ (b : Bool). cond b (Some r) None) early)) in (t.first, t.is, t.of_reset)

pub no_reset_of : (known : Option Reply) → IfSome known (λ k. is_looked_for k ≡ true) → ((told : List Reply) → known ≡ looked_for told → begins_epoch told ≡ false) → TellsNoReset known
no_reset_of None early none = λ reply is. absurd cc
no_reset_of (Some r) early none = λ reply is.
    let same : r ≡ reply = cc in
    none (reply ∷ []) (is ∙ sym (ap (λ (b : Bool). cond b (Some reply) None) (sym (ap is_looked_for same) ∙ early)))

-- ---- what is found

-- a reset is next of the job, and the console does not go on anew
pub stop_found : {a : Auditor} {j c s : SourceState} {jt ct st : List ℕ} (u : IsOnWay a j c s jt ct st) → (IsTooLong ct st → ⊥) → (next : Option Record) → IsLooked a st u.records next → IsLater a.course next
    → (not a.course.unanswered && a.course.line.halts) ≡ false → TellsNoReset a.listening.known → HearsNext a.listening.known ct u.replies → (q : Sending) (k : SourceState) → JobSoFar q k jt u.sent → q.last ≡ a.sending.last → IsItem Stop q
    → IsFound (record a { sending = q }) jt ct st (BadReplies (a.answered + 1))
stop_found {a} {j} {c} {s} {jt} {ct} {st} u short next looked later calm none hears q k read last item = bad_is_found (record a { sending = q }) jt ct st (a.answered + 1) calm (last ∙ u.calm) found where
  here : SafeHere a u.first jt ct st u.sent u.replies hears.0
  here = safe_by u short next looked later (none_waits u later.done none hears) calm a.listening.known hears

  stop : (more : List Sent) × (here.safe.waiting ≡ a_stop ∷ more)
  stop = next_sent q Stop k jt u.sent here.safe.waiting (last ∙ u.calm) read here.safe.whole item (λ e. absurd cc)

  fails : FailsAt here.safe.point here.safe.waiting here.safe.rest a.answered (a.answered + 1)
  fails =
      subst (λ (ss : List Sent). FailsAt here.safe.point ss here.safe.rest a.answered (a.answered + 1)) (sym stop.1)
      (stop_fails here.safe.point stop.0 here.safe.rest here.safe.free here.safe.answered here.safe.stands.no_report (subst (λ (rest : List ℕ). GoesOnAnew rest → ⊥) (sym here.rest_is) (none_anew u later.done none hears)) a.answered)

  found : HasBadReply (sent_in jt) ct st (a.answered + 1) × ((n : ℕ) → HasAlarm (sent_in jt) ct st n → ⊥)
  found = fails_there here.safe (a.answered + 1) fails (λ kept more o is passed raises g. absurd (let e : a_text kept ∷ more ≡ a_stop ∷ stop.0 = sym is ∙ stop.1 in cc))

-- ---- the next step, by what comes next of the console

module _ (a b : Auditor) (l : Listening) (j c d s k : SourceState) (next : Option Record) {E : Type 0} (result : Result (Option Finding) E) {heard : Option Reply} (stays : StaysTold a.listening l c d) (known : heard ≡ l.known)
    (stands : StandsSo (IsNextOn heard) a.listening c) where
  abbrev heard_now : Auditor
  heard_now = record a { listening = l }

  -- a reset tells it
  pub reset_entered : ((told : List Reply) → heard ≡ looked_for told → IsResetTold heard told)
      → (TellsReset l.known → IfOk result (λ found. (console steps : SourceState) → LeadsOnIf (LooksAndHears heard_now next l.known) heard_now b j console steps k console steps found))
      → IfOk result (λ found. LeadsOnIf (Looks a next) a b j c s k d s found)
  reset_entered told leads =
      goes_on_given {F = λ found. (console steps : SourceState) → LeadsOnIf (LooksAndHears heard_now next l.known) heard_now b j console steps k console steps found} {Q = TellsReset l.known} result leads (λ found on jt ct st short u looked n few.
      let v = console_on_way u l stays in
      on (reset_of l.known v.are_read.console_so_far.early (subst (λ (o : Option Reply). (us : List Reply) → o ≡ looked_for us → IsResetTold o us) known told)) d s jt ct st short v (looked, hears_next u short l.known heard known stands) n few)

  -- or none
  pub line_entered : (m n : SourceState) (error : MotionError) → ((told : List Reply) → heard ≡ looked_for told → begins_epoch told ≡ false) → ((told : List Reply) → heard ≡ looked_for told → begins_epoch told ≡ false → FitsError error told)
      → (TellsNoReset l.known → IsErrorBy error l.known → IfOk result (λ found. LeadsOnIf (LooksAndHears heard_now next l.known) heard_now b j d s k m n found))
      → IfOk result (λ found. LeadsOnIf (Looks a next) a b j c s k m n found)
  line_entered m n error plain fits leads =
      goes_on_given {F = λ found. LeadsOnIf (LooksAndHears heard_now next l.known) heard_now b j d s k m n found} {Q = TellsNoReset l.known} result (λ none. leads none (λ told is. fits told (known ∙ is) (plain told (known ∙ is))))
      (λ found on jt ct st short u looked done few.
      let v = console_on_way u l stays in
      on (no_reset_of l.known v.are_read.console_so_far.early (λ told is. plain told (known ∙ is))) jt ct st short v (looked, hears_next u short l.known heard known stands) done few)
