-- Where a reset is told next that may not come, the line at fault has the bad reply.
use Rattle.std.proofs.Common.{◌≡◌, ℕ, ◌+◌, ◌-◌, Bool, true, false, cond, not, ◌&&◌, ◌||◌, nat_eq, List, [], ◌∷◌, ◌++◌, append_assoc, length, map, Some, None, inl, refl, sym, ap, ◌∙◌, subst, arith}
use Rattle.std.proofs.lemmas.Bool.{ne_eqb}
use Rattle.std.proofs.lemmas.List.{append_cancel_left, map-append}
use Rattle.flight.specs.Places.{origin}
use Rattle.outside.specs.Causes.{SourceState}
use Rattle.status_report.specs.declared.Reply.{Reply}
use Rattle.status_report.specs.declared.Reply.TheVariants.{Alarm}
use Rattle.run_rules.specs.Work.{Outcome, soft_limit, has_moves}
use Rattle.run_rules.specs.declared.State.{State}
use Rattle.run_texts.specs.Courses.{Reset, IsReset}
use Rattle.run_texts.specs.Points.{Point, IsBroken, behind_broken}
use Rattle.run_texts.specs.Sent.{Sent, has_reset, waiting_in}
use Rattle.run_texts.specs.Sent.Sent.{a_text, a_stop}
use Rattle.run_texts.proofs.Errors.{begun_one}
use Rattle.audit_rules.specs.Consoles.{GoesOnAnew}
use Rattle.audit_rules.specs.Faults.{FailsAt, ResetRefused}
use Rattle.audit_rules.specs.Onward.{TellsNoAlarm, TellsNoReset}
use Rattle.audit_rules.specs.Scanned.{sent_in}
use Rattle.audit_rules.specs.Telling.{HasAlarm, HasBadReply, IsAwaited, IsLineAtFault, last_answered}
use Rattle.audit_rules.specs.Telling.IsLineAtFault.{at_line, at_none}
use Rattle.audit_rules.proofs.NoAlarm.{no_alarm}
use Rattle.audit_rules.proofs.NoFurther.{bad_reply}
use Rattle.audit_rules.proofs.OneWay.{both}
use Rattle.audit_rules.proofs.ResetShort.{anew_fails, none_left, none_may}
use Rattle.audit_rules.proofs.ToldApart.{next_reply}
use Rattle.audit_course.specs.Heard.{HasHeard, HearsNoReset}
use Rattle.audit_course.specs.SoFar.{has_moved, is_of_reset}
use Rattle.audit_course.specs.declared.judge.CourseJudge.{CourseJudge}
use Rattle.audit_course.proofs.Ending.{calm_point}
use Rattle.audit_course.proofs.Parting.{moved_here}
use Rattle.audit_texts.specs.SoFar.{IsItem, JobSoFar, untold_of}
use Rattle.audit_texts.specs.declared.sending.Item.TheVariants.{Nothing}
use Rattle.audit_texts.specs.declared.sending.Sending.{Sending}
use Rattle.audit_texts.proofs.ConsoleRead.{looked_apart}
use Rattle.audit_texts.proofs.JobRead.{all_sent, front_sent}
use Rattle.run_audit.specs.Coming.{is_alarm}
use Rattle.run_audit.specs.Finding.{IsFound, KnowsAlarm, alarm_next}
use Rattle.run_audit.specs.OnWay.{line_waiting}
use Rattle.run_audit.specs.SafePoint.{BeginsAnew, SafePoint, WaitSince}
use Rattle.run_audit.specs.declared.auditor.Auditor.{Auditor}
use Rattle.run_audit.specs.declared.auditor.Finding.TheVariants.{BadReplies}
use Rattle.run_audit.proofs.BreaksOff.{stays_there}
use Rattle.run_audit.proofs.LineBegun.{anew_looked_for}
use Rattle.run_audit.proofs.WaitsNow.{IsAnew, alarm_first, also_anew, goes_anew, goes_on_with}

-- ---- what is left of a job

pub no_reset_in : (lines : List (List ℕ)) → has_reset (map a_text lines) ≡ false
no_reset_in [] = refl
no_reset_in (l ∷ ls) = no_reset_in ls

pub reset_behind : (lines : List (List ℕ)) (more : List Sent) → has_reset (map a_text lines ++ a_stop ∷ more) ≡ true
reset_behind [] more = refl
reset_behind (l ∷ ls) more = reset_behind ls more

-- if it was read to its end, and this more
pub left_all : (s : Sending) (source : SourceState) (text : List ℕ) (front waiting : List Sent) (begun lines : List (List ℕ)) → s.last ≡ None → s.over ≡ true → IsItem Nothing s
    → JobSoFar s source text ((front ++ map a_text begun) ++ map a_text lines) → sent_in text ≡ front ++ waiting → waiting ≡ map a_text (begun ++ lines)
left_all s source text front waiting begun lines calm over none read whole =
    append_cancel_left front waiting (map a_text (begun ++ lines))
    (sym whole
    ∙ sym (all_sent s source text ((front ++ map a_text begun) ++ map a_text lines) calm over none.0 none.1 read)
    ∙ append_assoc front (map a_text begun) (map a_text lines)
    ∙ ap (λ (ss : List Sent). front ++ ss) (sym (map-append a_text begun lines)))

-- if a reset was read behind this more
pub left_front : (s : Sending) (source : SourceState) (text : List ℕ) (front waiting : List Sent) (begun lines : List (List ℕ)) → JobSoFar s source text ((front ++ map a_text begun) ++ (map a_text lines ++ a_stop ∷ []))
    → sent_in text ≡ front ++ waiting → (more : List Sent) × (waiting ≡ map a_text (begun ++ lines) ++ a_stop ∷ more)
left_front s source text front waiting begun lines read whole =
    let f = front_sent s source text ((front ++ map a_text begun) ++ (map a_text lines ++ a_stop ∷ [])) read in
    let more = untold_of s ++ f.later in (
      more,
      append_cancel_left front waiting (map a_text (begun ++ lines) ++ a_stop ∷ more)
          (sym whole
          ∙ f.split
          ∙ ap (λ (ss : List Sent). ss ++ more) (append_assoc front (map a_text begun) (map a_text lines ++ a_stop ∷ []))
          ∙ append_assoc front (map a_text begun ++ (map a_text lines ++ a_stop ∷ [])) more
          ∙ ap (λ (ss : List Sent). front ++ (ss ++ more)) (sym (append_assoc (map a_text begun) (map a_text lines) (a_stop ∷ [])))
          ∙ ap (λ (ss : List Sent). front ++ ((ss ++ a_stop ∷ []) ++ more)) (sym (map-append a_text begun lines))
          ∙ ap (λ (ss : List Sent). front ++ ss) (append_assoc (map a_text (begun ++ lines)) (a_stop ∷ []) more)),
    )

-- ---- at a safe point

-- Where nothing is told at a safe point that may come there, the line at fault has the bad reply, and no line raises an alarm.
pub fails_there : {first : State} {job console steps : List ℕ} {front : List Sent} {told : List Reply} {last : ℕ} (s : SafePoint first job console steps front told last) (line : ℕ) → FailsAt s.point s.waiting s.rest last line
    → TellsNoAlarm s.point s.waiting s.rest → HasBadReply (sent_in job) console steps line × ((k : ℕ) → HasAlarm (sent_in job) console steps k → ⊥)
fails_there {first} {job} {console} {steps} s line f none =
    let b = s.comes f.nothing in
    let at = s.last_is ∙ ap (last_answered 1 0) (sym b.up_to.is) in (
      bad_reply (sent_in job) console steps b.up_to.steps_stand s.point s.waiting s.rest b.up_to.stands f.nothing f.some line (subst (λ (n : ℕ). IsLineAtFault s.point s.waiting s.rest n line) at f.is),
      no_alarm (sent_in job) console steps b.up_to.steps_stand s.point s.waiting s.rest b.up_to.stands f.nothing s.free none,
    )

-- The console goes on anew there, and no reset may come.
module _ {first : State} {job console steps : List ℕ} {front : List Sent} {told : List Reply} {last : ℕ} (s : SafePoint first job console steps front told last) (reply : Reply) (anew : BeginsAnew reply s.rest) (none : TellsNoReset s.point s.waiting s.rest) where
  no_alarm_told : TellsNoAlarm s.point s.waiting s.rest
  no_alarm_told kept more o is passed raises goes =
      let next = next_reply s.rest (Alarm soft_limit) s.stands.no_report goes in
      let same : reply ≡ Alarm soft_limit = looked_apart reply (Alarm soft_limit) anew.later next.0 (anew_looked_for reply anew.of_reset) refl (sym anew.text ∙ next.1) in
      both (is_of_reset reply) anew.of_reset (ap is_of_reset same)

  -- the line at fault has the bad reply, and no line raises an alarm
  pub bad_there : (line : ℕ) → IsLineAtFault s.point s.waiting s.rest last line → HasBadReply (sent_in job) console steps line × ((k : ℕ) → HasAlarm (sent_in job) console steps k → ⊥)
  bad_there line is = fails_there s line (anew_fails s.point s.waiting s.rest s.answered s.stands.no_report (goes_anew anew) none last line is) no_alarm_told

-- a reply is bad where no alarm was raised
pub bad_is_found : (b : Auditor) (jt ct st : List ℕ) (line : ℕ) → (not b.course.unanswered && b.course.line.halts) ≡ false → b.sending.last ≡ None → HasBadReply (sent_in jt) ct st line × ((k : ℕ) → HasAlarm (sent_in jt) ct st k → ⊥) → IsFound b jt ct st (BadReplies line)
bad_is_found b jt ct st line calm last found = record {
  finds = inl found.0;
  alarm = subst (λ (told : Bool). KnowsAlarm b jt ct st told) (sym (ap (λ (x : Bool). x && not (alarm_next b.course.work.left)) calm)) found.1;
  calm = λ told. last;
}

-- ---- no reset comes of the job

abbrev is_empty : List (List ℕ) → Bool
is_empty [] = true
is_empty (l ∷ ls) = false

none_counted : (lines : List (List ℕ)) → nat_eq (length lines) 0 ≡ is_empty lines
none_counted [] = refl
none_counted (l ∷ ls) = ne_eqb (length (l ∷ ls)) 0 (λ e. omega (arith, e))

at_fault : (p : Point) (rest : List ℕ) (last : ℕ) (lines : List (List ℕ)) → p.before.alarmed ≡ false → IsLineAtFault p (map a_text lines) rest last (cond (is_empty lines) (last + 1) p.before.number)
at_fault p rest last [] free = at_none free (λ is. is) refl
at_fault p rest last (l ∷ ls) free = at_line free (λ comes g. both (has_reset (map a_text ls)) comes (no_reset_in ls)) refl

-- its number is that of the line that waits
number_waiting : (j : CourseJudge) (begun lines : List (List ℕ)) (dropped answered last n : ℕ) → dropped ≡ length lines → answered ≡ last → j.work.number ≡ n + length begun → (j.unanswered ≡ true → length begun ≡ 1) → (j.unanswered ≡ false → begun ≡ [])
    → line_waiting j dropped answered ≡ cond (is_empty (begun ++ lines)) (last + 1) n
number_waiting j begun lines dropped answered last n count same number one none = by j.unanswered refl where
  some : (xs : List (List ℕ)) → length xs ≡ 1 → j.work.number ≡ n + length xs → j.work.number - 1 ≡ cond (is_empty (xs ++ lines)) (last + 1) n
  some [] e at = absurd (omega (arith, e))
  some (x ∷ xs) e at = less where
    less : j.work.number - 1 ≡ n
    less = omega (arith, e, at)

  nothing : (xs : List (List ℕ)) → xs ≡ [] → j.work.number ≡ n + length xs → cond (nat_eq dropped 0) (answered + 1) j.work.number ≡ cond (is_empty (xs ++ lines)) (last + 1) n
  nothing [] e at =
      ap (λ (k : ℕ). cond (nat_eq k 0) (answered + 1) j.work.number) count
      ∙ ap (λ (b : Bool). cond b (answered + 1) j.work.number) (none_counted lines)
      ∙ ap (λ (k : ℕ). cond (is_empty lines) (k + 1) j.work.number) same
      ∙ ap (λ (k : ℕ). cond (is_empty lines) (last + 1) k) (let is : j.work.number ≡ n = omega (arith, at) in is)
  nothing (x ∷ xs) e at = absurd cc

  by : (b : Bool) → j.unanswered ≡ b → cond b (j.work.number - 1) (cond (nat_eq dropped 0) (answered + 1) j.work.number) ≡ cond (is_empty (begun ++ lines)) (last + 1) n
  by true e = some begun (one e) number
  by false e = nothing begun (none e) number

pub none_comes_bad : {a : Auditor} {first : State} {jt ct st : List ℕ} {sent : List Sent} {replies : List Reply} {reply : Reply} (x : IsAnew a first jt ct st sent replies reply) (s : Sending) (source : SourceState) (lines : List (List ℕ)) (dropped : ℕ)
    → dropped ≡ length lines → s.last ≡ None → s.over ≡ true → IsItem Nothing s → JobSoFar s source jt (sent ++ map a_text lines)
    → HasBadReply (sent_in jt) ct st (line_waiting a.course dropped a.answered) × ((k : ℕ) → HasAlarm (sent_in jt) ct st k → ⊥)
none_comes_bad {a} {first} {jt} {ct} {st} {sent} {replies} {reply} x s source lines dropped count calm over none read =
    let left = left_all s source jt x.front x.safe.waiting x.begun lines calm over none (subst (λ (ss : List Sent). JobSoFar s source jt (ss ++ map a_text lines)) x.sent_is read) x.safe.whole in
    let line = number_waiting a.course x.begun lines dropped a.answered x.last x.safe.point.before.number count x.answered x.number x.one x.none in
    bad_there x.safe reply x.anew (none_left x.safe.point x.safe.waiting x.safe.rest (ap has_reset left ∙ no_reset_in (x.begun ++ lines))) (line_waiting a.course dropped a.answered)
    (subst (λ (n : ℕ). IsLineAtFault x.safe.point x.safe.waiting x.safe.rest x.last n) (sym line)
    (subst (λ (ss : List Sent). IsLineAtFault x.safe.point ss x.safe.rest x.last (cond (is_empty (x.begun ++ lines)) (x.last + 1) x.safe.point.before.number)) (sym left)
    (at_fault x.safe.point x.safe.rest x.last (x.begun ++ lines) x.safe.free)))

-- ---- the reset that comes is refused

or_more : (a b c : Bool) → (b || c) ≡ true → ((a || b) || c) ≡ true
or_more true b c e = refl
or_more false b c e = e

-- None that a judge refuses behind the line that waits may come there, or before it.
pub refused_since : {a : Auditor} {first : State} {job console steps : List ℕ} {front : List Sent} {told : List Reply} {last : ℕ} (s : SafePoint first job console steps front told last) (later : List Sent) (heard : List Reply) (w : WaitSince a first job console steps front told last s later heard)
    (alarm : Bool) → HearsNoReset a.course alarm → ResetRefused s.point s.waiting alarm
refused_since {a} {first} {job} {console} {steps} {front} {told} {last} s later heard w alarm none = record { here = here; behind = behind } where
  there : (left : List Sent) (u : Reset) → u.alarm ≡ alarm → IsReset (behind_broken s.point w.outcome) left u → ⊥
  there left u is at =
      let stays = (stays_there w.now w.stands.point w.stands.course w.stands.leads w.stands.rebases).0 in
      none w.now [] [] [] w.stands left u is (subst (λ (q : Point). IsReset q left u) (sym stays) (w.resets left u at))

  here : (u : Reset) → u.alarm ≡ alarm → IsReset s.point s.waiting u → ⊥
  here u is at =
      there w.more (record u { number = u.number + 1; dropped = length (waiting_in w.more) }) is
      (record {
        free = at.free;
        comes = sym (ap has_reset w.waiting_is) ∙ at.comes;
        number = ap (λ (n : ℕ). n + 1) at.number;
        dropped = refl;
        cause = λ tells. or_more (has_moves w.outcome.work) s.point.before.moved s.point.before.jog_moved (at.cause tells);
        locked = at.locked;
      })

  behind : (kept : List ℕ) (more : List Sent) (o : Outcome) (u : Reset) → s.waiting ≡ a_text kept ∷ more → IsBroken s.point kept o → u.alarm ≡ alarm → IsReset (behind_broken s.point o) more u → ⊥
  behind kept more o u split broken is at =
      let e : a_text kept ∷ more ≡ a_text w.kept ∷ w.more = sym split ∙ w.waiting_is in
      let same : kept ≡ w.kept = cc in
      let one : o ≡ w.outcome = begun_one s.point w.kept o w.outcome (subst (λ (text : List ℕ). IsBroken s.point text o) same broken).becomes w.broken.becomes in
      there more u is (subst (λ (x : Outcome). IsReset (behind_broken s.point x) more u) one at)

-- no line waits before it
pub not_awaited : (lines : List (List ℕ)) (more : List Sent) (rest : List ℕ) → GoesOnAnew rest → IsAwaited (map a_text lines ++ a_stop ∷ more) rest → ⊥
not_awaited [] more rest anew is = is
not_awaited (l ∷ ls) more rest anew is = is (reset_behind ls more) anew

-- so the reply of the reset is bad
pub refused_bad : {a : Auditor} {first : State} {jt ct st : List ℕ} {sent : List Sent} {replies : List Reply} {reply : Reply} (x : IsAnew a first jt ct st sent replies reply) (s : Sending) (source : SourceState) (lines : List (List ℕ)) (alarm : Bool)
    → alarm ≡ is_alarm (Some reply) → ResetRefused x.safe.point x.safe.waiting alarm → JobSoFar s source jt (sent ++ (map a_text lines ++ a_stop ∷ []))
    → HasBadReply (sent_in jt) ct st (a.answered + 1) × ((k : ℕ) → HasAlarm (sent_in jt) ct st k → ⊥)
refused_bad {a} {first} {jt} {ct} {st} {sent} {replies} {reply} x s source lines alarm same none read =
    let left = left_front s source jt x.front x.safe.waiting x.begun lines (subst (λ (ss : List Sent). JobSoFar s source jt (ss ++ (map a_text lines ++ a_stop ∷ []))) x.sent_is read) x.safe.whole in
    bad_there x.safe reply x.anew (none_may x.safe.point x.safe.waiting x.safe.rest reply (goes_on_with x.anew) (also_anew reply x.anew.of_reset) (subst (ResetRefused x.safe.point x.safe.waiting) (same ∙ sym (alarm_first reply x.anew.of_reset)) none)) (a.answered + 1)
    (at_none x.safe.free (λ is. not_awaited (x.begun ++ lines) left.0 x.safe.rest (goes_anew x.anew) (subst (λ (ss : List Sent). IsAwaited ss x.safe.rest) left.1 is)) (ap (λ (n : ℕ). n + 1) x.answered))

-- ---- it is not refused where each line is answered

pub not_refused : (j : CourseJudge) (p : Point) (before : List Reply) (sent : List Sent) (replies : List Reply) (h : HasHeard j p before sent replies) (alarm : Bool) → j.work.left ≡ [] → (not j.unanswered && j.line.halts) ≡ false → (alarm ≡ true → has_moved j ≡ true)
    → HearsNoReset j alarm → ⊥
not_refused j p before sent replies h alarm done calm cause none =
    let some = h.some in
    let numbered = h.numbered in
    let number = h.number in
    none p before sent replies h (a_stop ∷ []) (record { number = h.point.before.number - 1; dropped = 0; alarm = alarm; locked = alarm || h.point.locked; at = origin }) refl
    (record {
      free = calm_point j h.point h.hand h.line done calm;
      comes = refl;
      number = omega (arith, some, numbered, number);
      dropped = refl;
      cause = λ tells. moved_here j h.point h.hand h.line done ∙ cause tells;
      locked = refl;
    })

-- a judge of the same course knows the same of it
pub moved_alike : (j k : CourseJudge) (p : Point) (before : List Reply) (replies : List Reply) (h : HasHeard j p before [] replies) (i : HasHeard k p before [] replies) → j.work.left ≡ [] → k.work.left ≡ [] → has_moved k ≡ has_moved j
moved_alike j k p before replies h i done also =
    let one = (stays_there p h.point h.course h.leads h.rebases).0 in
    let other = (stays_there p i.point i.course i.leads i.rebases).0 in
    sym (moved_here k i.point i.hand i.line also) ∙ ap (λ (q : Point). q.before.moved || q.before.jog_moved) (other ∙ sym one) ∙ moved_here j h.point h.hand h.line done
