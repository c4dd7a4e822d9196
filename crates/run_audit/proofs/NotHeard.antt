-- A reply of the line at hand, or of a reset, is not told: the line at fault has the bad reply.
use Rattle.std.specs.List.{AllByRecursion, flat_map}
use Rattle.std.proofs.Common.{◌≡◌, ◌<◌, ℕ, ◌+◌, ◌-◌, ◌^◌, Bool, true, false, not, ◌&&◌, ◌||◌, List, [], ◌∷◌, ◌++◌, append_assoc, append-nil, length, drop, Some, None, inl, refl, sym, ap, ◌∙◌, subst, arith, cond}
use Rattle.std.specs.declared.option.Option.{Option}
use Rattle.std.proofs.lemmas.List.Concat.{flat_map-append}
use Rattle.outside.specs.Causes.{SourceState}
use Rattle.status_report.specs.Answering.{is_report}
use Rattle.status_report.specs.Replies.{reply_text}
use Rattle.status_report.specs.declared.Message.TheVariants.{ResetToContinue}
use Rattle.status_report.specs.declared.Reply.{Reply}
use Rattle.status_report.specs.declared.Reply.TheVariants.{Alarm, Message}
use Rattle.run_rules.specs.Reports.{raises_alarm}
use Rattle.run_rules.specs.Told.{replies_text}
use Rattle.run_rules.specs.Work.{Outcome, Task, halting_work, soft_limit, tells, told_by}
use Rattle.run_rules.specs.Work.Task.{halt, tell}
use Rattle.line_interpreter.specs.Lefts.{IsNextOf}
use Rattle.run_texts.specs.Sent.{Sent, sent_by}
use Rattle.run_texts.specs.Sent.Sent.{a_text}
use Rattle.run_texts.proofs.Determined.{line_answers}
use Rattle.audit_rules.specs.Consoles.{IsOnConsole, TellsNext}
use Rattle.audit_rules.specs.Faults.{FailsAt, TellsLineShort, TellsResetShort, TellsShort, told_with}
use Rattle.audit_rules.specs.Findings.{IsTooLong}
use Rattle.audit_rules.specs.Onward.{TellsNoAlarm}
use Rattle.audit_rules.specs.Scanned.{sent_in}
use Rattle.audit_rules.specs.StepTexts.{records_of}
use Rattle.audit_rules.specs.Telling.{HasAlarm, HasBadReply, IsAwaited, IsLineAtFault, StandsUpTo, last_answered}
use Rattle.audit_rules.specs.Telling.IsLineAtFault.{at_none}
use Rattle.audit_rules.proofs.Alarmed.{limits}
use Rattle.audit_rules.proofs.BehindText.{onward}
use Rattle.audit_rules.proofs.LineShort.{line_alarms, line_calm, line_fails}
use Rattle.audit_rules.proofs.NoFurther.{bad_reply}
use Rattle.audit_rules.proofs.OneLine.{told_further}
use Rattle.audit_rules.proofs.OneWay.{both}
use Rattle.audit_rules.proofs.ResetShort.{told_short}
use Rattle.audit_course.specs.Progressing.{has_halt}
use Rattle.audit_course.specs.SoFar.{left_to_tell, texts_among}
use Rattle.audit_course.specs.declared.judge.CourseJudge.{CourseJudge}
use Rattle.audit_course.proofs.Counting.{texts_on}
use Rattle.audit_texts.specs.SoFar.{IsHeardOn, JobSoFar, StandsAt, StandsSo, stops_of, untold_of}
use Rattle.audit_texts.specs.declared.sending.Sending.{Sending}
use Rattle.run_audit.specs.Coming.{is_alarm}
use Rattle.run_audit.specs.Finding.{FindsSo, IsFound, KnowsAlarm, alarm_next, has_told_alarm, is_greeting}
use Rattle.run_audit.specs.OnWay.{IsOnWay}
use Rattle.run_audit.specs.SafePoint.{IsSince, LineSince, ResetSince, Since, Stage}
use Rattle.run_audit.specs.SafePoint.Since.{by_line, by_reset, by_wait}
use Rattle.run_audit.specs.SafePoint.Stage.{at_safe, behind_safe}
use Rattle.run_audit.specs.declared.auditor.Auditor.{Auditor}
use Rattle.run_audit.specs.declared.auditor.Finding.{Finding}
use Rattle.run_audit.specs.declared.auditor.Finding.TheVariants.{BadReplies}
use Rattle.run_audit.proofs.Bounded.{answered_on_way, number_on_way}
use Rattle.run_audit.proofs.LineReplies.{GreetsNot, line_tells_plainly}
use Rattle.run_audit.proofs.LinesTold.{texts_of}
use Rattle.run_audit.proofs.NoReset.{bad_there, fails_there, not_awaited}
use Rattle.run_audit.proofs.WaitsNow.{alarm_first, also_anew, goes_anew, goes_on_with}

next_told : (r : Reply) (tasks : List Task) → IsNextOf (tell r) tasks → tells tasks ≡ r ∷ tells (drop 1 tasks)
next_told r tasks is = ap tells is

next_of_line : (j : CourseJudge) (r : Reply) → j.unanswered ≡ false → IsNextOf (tell r) j.work.left → left_to_tell j ≡ r ∷ tells (drop 1 j.work.left)
next_of_line j r answered is = ap (λ (b : Bool). cond b [] (tells j.work.left)) answered ∙ next_told r j.work.left is

-- ---- what a console tells

-- behind what was told it tells what was heard then
heard_next : (console : List ℕ) (told heard : List Reply) (rest now : List ℕ) → StandsAt console told rest → StandsAt console (told ++ heard) now → TellsNext rest heard now
heard_next console told heard rest now first then =
    let on = onward told heard rest now (told_further console rest now told (told ++ heard) first.tells then.tells) in
    by on.reports on.later on.tells on.between on.each on.are where
      by : (reports : List Reply) (later : List ℕ) → TellsNext rest heard later → now ≡ replies_text reports ++ later → AllByRecursion IsOnConsole reports → AllByRecursion (λ r. is_report r ≡ true) reports → TellsNext rest heard now
      by [] later tells is each are = subst (λ (text : List ℕ). TellsNext rest heard text) (sym is) tells
      by (r ∷ rs) later tells is each are = absurd (then.no_report r (replies_text rs ++ later) are.0 each.0 (is ∙ append_assoc (reply_text r) (replies_text rs) later))

-- ---- which replies greet

-- what holds of each reply holds of this one
of_each : (P : Reply → Type 0) (xs ys : List Reply) (r : Reply) → AllByRecursion P (xs ++ r ∷ ys) → P r
of_each P [] ys r each = each.0
of_each P (x ∷ xs) ys r each = of_each P xs ys r each.1

reset_greets : (alarm locked : Bool) → AllByRecursion (λ r. is_greeting r ≡ true) (told_with alarm locked)
reset_greets true locked = (refl, (refl, (refl, tt)))
reset_greets false true = (refl, (refl, tt))
reset_greets false false = (refl, tt)

-- ---- the tasks of a line that raises an alarm

-- Where a reply comes next, it is the alarm, which is told first; or that was told.
data HaltsSo (done left : List Task) : Type 0 where
  alarm_comes : tells done ≡ [] → alarm_next left ≡ true → HaltsSo done left
  alarm_told : (tells done ≡ [] → ⊥) → has_halt left ≡ false → alarm_next left ≡ false → HaltsSo done left

halts_so : (done left : List Task) (r : Reply) → done ++ left ≡ halting_work → left ≡ tell r ∷ drop 1 left → HaltsSo done left
halts_so [] left r is next = absurd (let e : tell r ∷ drop 1 left ≡ halt ∷ tell (Alarm soft_limit) ∷ tell (Message ResetToContinue) ∷ [] = sym next ∙ is in cc)
halts_so (t ∷ []) left r is next =
    let first : t ≡ halt = cc in
    let behind : left ≡ tell (Alarm soft_limit) ∷ tell (Message ResetToContinue) ∷ [] = cc in
    alarm_comes (ap (λ (x : Task). tells (x ∷ [])) first) (ap alarm_next behind)
halts_so (t ∷ x ∷ []) left r is next =
    let first : t ≡ halt = cc in
    let second : x ≡ tell (Alarm soft_limit) = cc in
    let behind : left ≡ tell (Message ResetToContinue) ∷ [] = cc in
    alarm_told (λ none. let e : Alarm soft_limit ∷ [] ≡ [] = sym (ap (λ (y : Task). tells (y ∷ tell (Alarm soft_limit) ∷ [])) first) ∙ ap (λ (y : Task). tells (t ∷ y ∷ [])) (sym second) ∙ none in cc)
    (ap has_halt behind) (ap alarm_next behind)
halts_so (t ∷ x ∷ y ∷ ts) left r is next = none ts (let behind : ts ++ left ≡ [] = cc in behind) where
  none : (ts : List Task) → ts ++ left ≡ [] → HaltsSo (t ∷ x ∷ y ∷ ts) left
  none [] e = absurd (let f : tell r ∷ drop 1 left ≡ [] = sym next ∙ e in cc)
  none (z ∷ zs) e = absurd cc

-- ---- whether the line at hand has told its alarm

told_by_halt : (unanswered halts comes : Bool) → ((not unanswered && halts) && not comes) ≡ true → (halts ≡ true) × (comes ≡ false)
told_by_halt true halts comes e = absurd cc
told_by_halt false true true e = absurd cc
told_by_halt false true false e = (refl, refl)
told_by_halt false false comes e = absurd cc

told_so : (unanswered halts comes : Bool) → unanswered ≡ false → halts ≡ true → comes ≡ false → ((not unanswered && halts) && not comes) ≡ true
told_so true halts comes u h c = absurd cc
told_so false true true u h c = absurd cc
told_so false true false u h c = refl
told_so false false comes u h c = absurd cc

told_none : (unanswered halts comes : Bool) → halts ≡ false → ((not unanswered && halts) && not comes) ≡ false
told_none true halts comes h = refl
told_none false true comes h = absurd cc
told_none false false comes h = refl

halted_by : (halts left : Bool) → (halts || left) ≡ true → left ≡ false → halts ≡ true
halted_by true left e none = refl
halted_by false left e none = sym none ∙ e

-- ---- the job

-- The lines of a job are those that were told, where nothing was read behind the last of these.
lines_read : (s : Sending) (source : SourceState) (text : List ℕ) (sent front : List Sent) (kept : List ℕ) → sent ≡ front ++ a_text kept ∷ [] → JobSoFar s source text sent → untold_of s ≡ [] → s.over ≡ false → s.last ≡ None
    → {n : ℕ} → n ≡ texts_among front + 1 → s.lines ≡ n
lines_read s source text sent front kept is j untold read_on calm {n} number =
    let all : sent ≡ flat_map sent_by j.lines ++ [] =
    sym (append-nil sent) ∙ ap (λ (ss : List Sent). sent ++ ss) (sym untold) ∙ j.told_are ∙ ap (λ (o : Option ℕ). flat_map sent_by j.lines ++ stops_of o s.over j.left.rest) calm
    ∙ ap (λ (b : Bool). flat_map sent_by j.lines ++ stops_of None b j.left.rest) read_on in
    let lines : texts_among (flat_map sent_by j.lines ++ []) ≡ length j.lines + 0 = texts_of j.lines [] in
    let count : texts_among sent ≡ texts_among front + 1 = ap texts_among is ∙ texts_on front (a_text kept ∷ []) in
    let same = ap texts_among all in
    let of = j.count in
    omega (arith, lines, count, same, of, number)

module _ {a : Auditor} {j c s : SourceState} {jt ct st : List ℕ} (u : IsOnWay a j c s jt ct st) (r : Reply) (next : IsNextOf (tell r) a.course.work.left) (answered : a.course.unanswered ≡ false)
    (x : IsSince a u.first jt ct st u.sent u.replies) (rest : List ℕ) (stands : StandsAt ct u.replies rest) (unheard : IsHeardOn false r rest) where
  short : TellsShort x.safe.rest x.heard r
  short = record {
    rest = rest;
    tells = heard_next ct x.told x.heard x.safe.rest rest x.safe.stands (subst (λ (rs : List Reply). StandsAt ct rs rest) x.replies_is stands);
    goes_on = record { no_report = stands.no_report; other = unheard };
  }

  -- the line at fault has the bad reply
  bad_at : (line : ℕ) → FailsAt x.safe.point x.safe.waiting x.safe.rest x.last line → HasBadReply (sent_in jt) ct st line
  bad_at line f =
      let z = (x.safe.comes f.nothing).up_to in
      bad_reply (sent_in jt) ct st z.steps_stand x.safe.point x.safe.waiting x.safe.rest z.stands f.nothing f.some line
      (subst (λ (last : ℕ). IsLineAtFault x.safe.point x.safe.waiting x.safe.rest last line) (x.safe.last_is ∙ ap (last_answered 1 0) (sym z.is)) f.is)

  -- ---- of a line

  module _ (l : LineSince a u.first jt ct st x.front x.told x.last x.safe x.later x.heard) where
    told : tells l.outcome.work ≡ x.heard ++ r ∷ tells (drop 1 a.course.work.left)
    told =
        ap tells l.work ∙ flat_map-append told_by l.done a.course.work.left ∙ ap (λ (rs : List Reply). rs ++ tells a.course.work.left) (sym l.heard_is)
        ∙ ap (λ (rs : List Reply). x.heard ++ rs) (ap tells next)

    abbrev line_short : TellsLineShort x.safe.point l.kept x.safe.rest
    line_short = record {
      no_report = x.safe.stands.no_report;
      not_anew = l.not_anew;
      outcome = l.outcome;
      becomes = l.becomes;
      heard = x.heard;
      reply = r;
      more = tells (drop 1 a.course.work.left);
      work = told;
      short = short;
    }

    fails : FailsAt x.safe.point x.safe.waiting x.safe.rest x.last x.safe.point.before.number
    fails = subst (λ (ss : List Sent). FailsAt x.safe.point ss x.safe.rest x.last x.safe.point.before.number) (sym l.waiting_is) (line_fails x.safe.point l.kept l.more x.safe.rest line_short x.last)

    line_plain : is_greeting r ≡ false
    line_plain =
        of_each (λ q. is_greeting q ≡ false) x.heard (tells (drop 1 a.course.work.left)) r
        (subst GreetsNot told (line_tells_plainly true x.safe.point l.kept l.outcome l.becomes.passed.becomes))

    -- the tasks, if it raises an alarm
    halting : raises_alarm l.outcome ≡ true → HaltsSo l.done a.course.work.left
    halting raises =
        halts_so l.done a.course.work.left r
        (sym l.work ∙ ap (λ (o : Outcome). o.work) (limits x.safe.point.before l.outcome (line_answers true x.safe.point l.kept l.outcome l.becomes.passed.becomes) raises)) next

    line_bad : HasBadReply (sent_in jt) ct st (a.course.work.number - 1)
    line_bad = bad_at (a.course.work.number - 1) (subst (λ (n : ℕ). FailsAt x.safe.point x.safe.waiting x.safe.rest x.last n) (let n = l.number in omega (arith, n)) fails)

    -- it is the last line that was read
    last_read : a.sending.lines ≡ x.safe.point.before.number
    last_read = lines_read a.sending j jt u.sent x.front l.kept (x.sent_is ∙ ap (λ (ss : List Sent). x.front ++ ss) l.later_is) u.are_read.job_so_far l.untold l.read_on u.calm x.safe.number

    line_alarm : (told_alarm : Bool) → has_told_alarm a.course ≡ told_alarm → KnowsAlarm a jt ct st told_alarm
    line_alarm true is =
        let z = (x.safe.comes fails.nothing).up_to in
        let told = told_by_halt a.course.unanswered a.course.line.halts (alarm_next a.course.work.left) is in
        let raises : raises_alarm l.outcome ≡ true = sym l.halts ∙ ap (λ (t : Bool). t || has_halt a.course.work.left) told.0 in
        subst (λ (n : ℕ). HasAlarm (sent_in jt) ct st n) (sym last_read)
        (line_alarms x.safe.point l.kept l.more x.safe.rest line_short (sent_in jt) ct st z.steps_stand
        (subst (λ (ss : List Sent). StandsUpTo (sent_in jt) ct (records_of z.steps_stand.done) x.safe.point ss x.safe.rest) l.waiting_is z.stands) raises (some (halting raises) told.1)) where
          some : HaltsSo l.done a.course.work.left → alarm_next a.course.work.left ≡ false → x.heard ≡ [] → ⊥
          some (alarm_comes untold now) other heard = both (alarm_next a.course.work.left) now other
          some (alarm_told untold quiet now) other heard = untold (sym l.heard_is ∙ heard)
    line_alarm false is =
        (fails_there x.safe x.safe.point.before.number fails
        (subst (λ (ss : List Sent). TellsNoAlarm x.safe.point ss x.safe.rest) (sym l.waiting_is) (line_calm x.safe.point l.kept l.more x.safe.rest line_short (λ raises. none raises (halting raises))))).1 where
          none : raises_alarm l.outcome ≡ true → HaltsSo l.done a.course.work.left → x.heard ≡ []
          none raises (alarm_comes untold now) = l.heard_is ∙ untold
          none raises (alarm_told some quiet now) =
              let halted : a.course.line.halts ≡ true = halted_by a.course.line.halts (has_halt a.course.work.left) (l.halts ∙ raises) quiet in
              both (has_told_alarm a.course) (told_so a.course.unanswered a.course.line.halts (alarm_next a.course.work.left) answered halted now) is

  -- ---- of a reset

  module _ (y : ResetSince a u.first jt ct st x.front x.told x.last x.safe x.later x.heard) where
    told_reset : told_with (is_alarm (Some y.reply)) x.safe.point.locked ≡ x.heard ++ r ∷ tells (drop 1 a.course.work.left)
    told_reset = y.greets ∙ ap (λ (rs : List Reply). x.heard ++ rs) (next_of_line a.course r answered next)

    reset_short : TellsResetShort x.safe.point x.safe.rest
    reset_short = record {
      first = y.reply;
      is = also_anew y.reply y.anew.of_reset;
      goes_on = goes_on_with y.anew;
      heard = x.heard;
      reply = r;
      more = tells (drop 1 a.course.work.left);
      told = ap (λ (alarm : Bool). told_with alarm x.safe.point.locked) (alarm_first y.reply y.anew.of_reset) ∙ told_reset;
      short = short;
    }

    -- the reset is bad, and the console does not go on with the alarm of a soft limit
    reset_fails : HasBadReply (sent_in jt) ct st (x.last + 1) × ((k : ℕ) → HasAlarm (sent_in jt) ct st k → ⊥)
    reset_fails =
        bad_there x.safe y.reply y.anew (told_short x.safe.point x.safe.waiting x.safe.rest reset_short) (x.last + 1)
        (at_none x.safe.free (λ is. not_awaited y.lines y.more x.safe.rest (goes_anew y.anew) (subst (λ (ss : List Sent). IsAwaited ss x.safe.rest) y.waiting_is is)) refl)

    reset_bad : HasBadReply (sent_in jt) ct st (a.answered + 1)
    reset_bad = subst (λ (n : ℕ). HasBadReply (sent_in jt) ct st (n + 1)) (sym y.answered) reset_fails.0

    reset_greeting : is_greeting r ≡ true
    reset_greeting =
        of_each (λ q. is_greeting q ≡ true) x.heard (tells (drop 1 a.course.work.left)) r
        (subst (λ (rs : List Reply). AllByRecursion (λ q. is_greeting q ≡ true) rs) told_reset (reset_greets (is_alarm (Some y.reply)) x.safe.point.locked))

    reset_alarm : KnowsAlarm a jt ct st (has_told_alarm a.course)
    reset_alarm = subst (λ (t : Bool). KnowsAlarm a jt ct st t) (sym (told_none a.course.unanswered a.course.line.halts (alarm_next a.course.work.left) y.calm)) reset_fails.1

-- ---- what is found

-- A reply of the line at hand, or of a reset, does not come next. All stays but what was read of the console.
pub unheard_found : {a : Auditor} {j c s : SourceState} {jt ct st : List ℕ} (u : IsOnWay a j c s jt ct st) (b : Auditor) → (IsTooLong ct st → ⊥) → (r : Reply) → IsNextOf (tell r) a.course.work.left → a.course.unanswered ≡ false
    → StandsSo (IsHeardOn false r) a.listening c → b.course ≡ a.course → b.sending ≡ a.sending → (found : Finding)
    → (is_greeting r ≡ false → found ≡ BadReplies (a.course.work.number - 1)) → (is_greeting r ≡ true → a.answered < 2 ^ 32 - 1 → found ≡ BadReplies (a.answered + 1)) → IsFound b jt ct st found
unheard_found {a} {j} {c} {s} {jt} {ct} {st} u b short r next answered unheard course sending found line behind = by u.stage where
  here : (rest : List ℕ) × StandsAt ct u.replies rest × IsHeardOn false r rest
  here = unheard ct u.replies u.are_read.console_so_far (λ long. short (inl long))

  found_by : (n : ℕ) → found ≡ BadReplies n → HasBadReply (sent_in jt) ct st n → KnowsAlarm a jt ct st (has_told_alarm a.course) → IsFound b jt ct st found
  found_by n is bad alarm = record {
    finds = inl (subst (FindsSo jt ct st) (sym is) bad);
    alarm = alarm_as course sending alarm;
    calm = λ told. ap (λ (x : Sending). x.last) sending ∙ u.calm;
  } where
    alarm_as : b.course ≡ a.course → b.sending ≡ a.sending → KnowsAlarm a jt ct st (has_told_alarm a.course) → KnowsAlarm b jt ct st (has_told_alarm b.course)
    alarm_as course sending alarm = subst (λ (k : CourseJudge). KnowsAlarm b jt ct st (has_told_alarm k)) (sym course) (same (has_told_alarm a.course) alarm) where
      same : (t : Bool) → KnowsAlarm a jt ct st t → KnowsAlarm b jt ct st t
      same true known = subst (λ (x : Sending). HasAlarm (sent_in jt) ct st x.lines) (sym sending) known
      same false known = known

  since : (x : IsSince a u.first jt ct st u.sent u.replies) → Since a u.first jt ct st x.front x.told x.last x.safe x.later x.heard → IsFound b jt ct st found
  since x (by_line l) =
      found_by (a.course.work.number - 1) (line (line_plain u r next answered x here.0 here.1 here.2 l)) (line_bad u r next answered x here.0 here.1 here.2 l)
      (line_alarm u r next answered x here.0 here.1 here.2 l (has_told_alarm a.course) refl)
  since x (by_wait w) = both a.course.unanswered w.unanswered answered
  since x (by_reset y) =
      found_by (a.answered + 1) (behind (reset_greeting u r next answered x here.0 here.1 here.2 y) (let before = answered_on_way u in let few = number_on_way u in omega (arith, before, few)))
      (reset_bad u r next answered x here.0 here.1 here.2 y) (reset_alarm u r next answered x here.0 here.1 here.2 y)

  by : Stage a u.first jt ct st u.sent u.replies → IsFound b jt ct st found
  by (at_safe h calm) = absurd (let e : tell r ∷ drop 1 a.course.work.left ≡ [] = sym next ∙ h.done in cc)
  by (behind_safe x) = since x x.since
