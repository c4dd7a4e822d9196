-- A reset of the job, behind lines that were read: what each call on the way to it answers.
use Rattle.std.proofs.Common.{append-nil, append_assoc, ◌≡◌, ◌≤◌, ◌<◌, ◌^◌, ◌-◌, ℕ, ◌+◌, Bool, true, false, not, ◌&&◌, ◌||◌, List, [], ◌∷◌, ◌++◌, length, map, Some, None, refl, sym, ap, ◌∙◌, subst, arith}
use Rattle.std.specs.declared.option.Option.{Option}
use Rattle.std.proofs.lemmas.List.{length_push, map-append}
use Rattle.outside.specs.Causes.{SourceState}
use Rattle.status_report.specs.declared.Reply.{Reply}
use Rattle.step_line.specs.declared.Mark.TheVariants.{Reset as ResetMark}
use Rattle.step_line.specs.declared.Record.{Record}
use Rattle.step_line.specs.declared.Record.TheVariants as kinds
use Rattle.run_rules.specs.Readings.{largest_job}
use Rattle.line_interpreter.specs.Lefts.{greeting}
use Rattle.run_texts.specs.Sent.{Sent}
use Rattle.run_texts.specs.Sent.Sent.{a_text, a_stop}
use Rattle.audit_rules.specs.Scanned.{sent_in}
use Rattle.audit_rules.specs.Telling.{HasAlarm, HasBadReply}
use Rattle.audit_course.specs.Heard.{HearsNoReset, HearsReset}
use Rattle.audit_course.specs.Progressing.{has_halt}
use Rattle.audit_course.specs.SoFar.{AddsReset, left_to_tell}
use Rattle.audit_course.specs.declared.judge.CourseJudge.{CourseJudge}
use Rattle.audit_texts.specs.SoFar.{IsItem, JobSoFar, StaysSent, StepsSoFar}
use Rattle.audit_texts.specs.declared.listening.Listening.{Listening}
use Rattle.audit_texts.specs.declared.sending.Item.TheVariants.{Nothing}
use Rattle.audit_texts.specs.declared.recorded.Recorded.{Recorded}
use Rattle.audit_texts.specs.declared.sending.Sending.{Sending}
use Rattle.run_audit.specs.Coming.{is_alarm}
use Rattle.run_audit.specs.Finding.{IsFound, Leads, LeadsOnIf, LooksAndHears, ReadsOnIf}
use Rattle.run_audit.specs.OnWay.{HasCause, IsLater, IsMarkBehind, Phase, TellsReset, line_waiting}
use Rattle.run_audit.specs.OnWay.Phase.{broken, counting}
use Rattle.run_audit.specs.UnderWay.{OthersStay, mark_of}
use Rattle.run_audit.specs.declared.auditor.Auditor.{Auditor}
use Rattle.run_audit.specs.declared.auditor.Finding.{Finding}
use Rattle.run_audit.specs.declared.auditor.Finding.TheVariants.{BadReplies}
use Rattle.run_audit.proofs.Bounded.{answered_on_way, dropped_on_way, number_on_way}
use Rattle.run_audit.proofs.NoReset.{bad_is_found, none_comes_bad, not_refused, refused_bad, refused_since}
use Rattle.run_audit.proofs.ResetMade.{reset_breaks, reset_counts}
use Rattle.run_audit.proofs.WaitsNow.{IsAnew, anew_waiting, begins_anew, is_anew, waits_since}

-- the alarm that is known is that of the reply that a reset tells
pub alarm_known : (known : Option Reply) (r : TellsReset known) (alarm : Bool) → alarm ≡ is_alarm known → alarm ≡ is_alarm (Some r.0)
alarm_known known r alarm same = same ∙ ap is_alarm r.1

-- ---- the reset is passed

module _ (a : Auditor) (lines : List (List ℕ)) (count : ℕ) (counted : count ≡ length lines) (alarm : Bool) (known : Option Reply) (resets : TellsReset known) (same : alarm ≡ is_alarm known) (calm : (not a.course.unanswered && a.course.line.halts) ≡ false) (last : a.sending.last ≡ None) where
  abbrev pub more : List Sent
  more = map a_text lines ++ a_stop ∷ []

  -- with its mark
  pub mark_taken : (k : CourseJudge) (recorded : Recorded) (n : ℕ) → IsLater a.course (Some (kinds.Mark (ResetMark n))) → AddsReset a.course k n count → left_to_tell k ≡ greeting alarm (alarm || a.course.locked) → k.unanswered ≡ false → k.line.halts ≡ false → has_halt k.work.left ≡ false
      → length k.work.left ≤ 3 → k.has_line ≡ false → k.lost ≡ false → (job console steps : SourceState) → ((text : List ℕ) (told : List Record) → StepsSoFar a.recorded steps text told → StepsSoFar recorded steps text (told ++ kinds.Mark (ResetMark n) ∷ []))
      → ReadsOnIf more (LooksAndHears a (Some (kinds.Mark (ResetMark n))) known) a (record a { course = k; recorded = recorded }) job console steps job console steps None
  mark_taken k recorded n later adds greets answered halts quiet short no_line kept job console steps told earlier before jt ct st fits u read looks done least = by u.phase where
    x : IsAnew (record a { sending = earlier }) u.first jt ct st u.sent u.replies resets.0
    x = is_anew u fits (Some (kinds.Mark (ResetMark n))) looks.0 later calm known resets looks.1

    by : Phase (record a { sending = earlier }) u.first jt ct st u.sent u.replies u.records → Leads (record a { course = k; recorded = recorded }) job console steps jt ct st done None
    by (counting d) =
        reset_counts a earlier before job console steps jt ct st u k lines resets.0 alarm x read last (alarm_known known resets alarm same) greets answered halts quiet short count counted d recorded n adds no_line kept told done least
    by (broken d) = absurd (let e : Some d.at ≡ None = sym d.broken ∙ looks.0.0 in cc)

  -- where records count no more
  module _ (gone : a.broken ≡ None → ⊥) (later : IsLater a.course None) where
    pub reset_passed : (k : CourseJudge) → HearsReset a.course k count → left_to_tell k ≡ greeting alarm (alarm || a.course.locked) → k.unanswered ≡ false → k.line.halts ≡ false → has_halt k.work.left ≡ false → length k.work.left ≤ 3
        → (job console steps : SourceState) → ReadsOnIf more (LooksAndHears a None known) a (record a { course = k }) job console steps job console steps None
    reset_passed k hears greets answered halts quiet short job console steps earlier before jt ct st fits u read looks done least = by u.phase where
      x : IsAnew (record a { sending = earlier }) u.first jt ct st u.sent u.replies resets.0
      x = is_anew u fits None looks.0 later calm known resets looks.1

      by : Phase (record a { sending = earlier }) u.first jt ct st u.sent u.replies u.records → Leads (record a { course = k }) job console steps jt ct st done None
      by (counting d) = absurd (gone d.counts)
      by (broken d) =
          reset_breaks a earlier before job console steps jt ct st u k lines resets.0 alarm x read last (alarm_known known resets alarm same) greets answered halts quiet short count counted d hears done least

    -- it may not come
    pub reset_refused : (k : CourseJudge) (found : Finding) → HasCause a.course known → (a.course.work.left ≡ [] → a.course.work.number + count < 2 ^ 32 → HearsNoReset a.course alarm) → k.unanswered ≡ a.course.unanswered → k.line.halts ≡ a.course.line.halts
        → (a.answered < 2 ^ 32 - 1 → found ≡ BadReplies (a.answered + 1)) → (job console steps : SourceState) → ReadsOnIf more (LooksAndHears a None known) a (record a { course = k }) job console steps job console steps (Some found)
    reset_refused k found cause refuses unanswered halts is job console steps earlier before jt ct st fits u read looks done least =
        let below = answered_on_way u in
        let most = number_on_way u in
        subst (λ (f : Finding). IsFound (record a { course = k }) jt ct st f) (sym (is (omega (arith, below, most))))
        (bad_is_found (record a { course = k }) jt ct st (a.answered + 1) still last (by u.phase a.course.unanswered refl)) where
          still : (not k.unanswered && k.line.halts) ≡ false
          still = ap (λ (b : Bool). not b && k.line.halts) unanswered ∙ ap (λ (b : Bool). not a.course.unanswered && b) halts ∙ calm

          none : HearsNoReset a.course alarm
          none = (let all = dropped_on_way u a.sending job lines (a_stop ∷ []) read in refuses later.done (omega (arith, all, counted)))

          by : Phase (record a { sending = earlier }) u.first jt ct st u.sent u.replies u.records → (b : Bool) → a.course.unanswered ≡ b → HasBadReply (sent_in jt) ct st (a.answered + 1) × ((l : ℕ) → HasAlarm (sent_in jt) ct st l → ⊥)
          by (counting d) b e = absurd (gone d.counts)
          by (broken d) false answered = absurd (not_refused a.course d.point d.told d.later u.replies d.heard alarm later.done calm (λ alarmed. cause (sym same ∙ alarmed) answered) none)
          by (broken d) true waiting =
              let w = waits_since u.stage waiting in
              refused_bad (anew_waiting looks.1.0 resets.0 w looks.1.1 (begins_anew resets looks.1)) a.sending job lines alarm (alarm_known known resets alarm same)
              (refused_since w.since.safe w.since.later w.since.heard w.wait alarm none) read

-- ---- lines were read up to what comes next

-- A reset is made, as `make_reset` says.
abbrev pub MakesReset : Auditor → Auditor → Option ℕ → ℕ → Bool → Option Finding → Type 0
MakesReset a b mark count alarm result =
    IsLater a.course (mark_of mark) → IsMarkBehind mark a.course.work.number → (not a.course.unanswered && a.course.line.halts) ≡ false → HasCause a.course a.listening.known → TellsReset a.listening.known → alarm ≡ is_alarm a.listening.known
    → (lines : List (List ℕ)) → count ≡ length lines → a.sending.last ≡ None → (job console steps : SourceState) → ReadsOnIf (map a_text lines ++ a_stop ∷ []) (LooksAndHears a (mark_of mark) a.listening.known) a b job console steps job console steps result

-- of the job so many lines were read, and then this
abbrev pub ReadsLines : Sending → Sending → SourceState → SourceState → ℕ → List Sent → Type 0
ReadsLines old now job after count more = (text : List ℕ) (sent : List Sent) → JobSoFar old job text sent → (lines : List (List ℕ)) × (count ≡ length lines) × JobSoFar now after text (sent ++ (map a_text lines ++ more))

pub stop_made : (a b : Auditor) (mark : Option ℕ) (count : ℕ) (alarm : Bool) (result : Option Finding) (now : Sending) (job after : SourceState) → MakesReset (record a { sending = now }) b mark count alarm result
    → IsLater a.course (mark_of mark) → IsMarkBehind mark a.course.work.number → HasCause a.course a.listening.known → (not a.course.unanswered && a.course.line.halts) ≡ false → TellsReset a.listening.known → alarm ≡ is_alarm a.listening.known → now.last ≡ a.sending.last
    → ReadsLines a.sending now job after count (a_stop ∷ []) → (console steps : SourceState) → LeadsOnIf (LooksAndHears a (mark_of mark) a.listening.known) a b job console steps after console steps result
stop_made a b mark count alarm result now job after makes later behind cause calm resets same last reads console steps jt ct st fits u looks done least =
    let d = reads jt u.sent u.are_read.job_so_far in
    makes later behind calm cause resets same d.0 d.1 (last ∙ u.calm) after console steps a.sending job jt ct st fits u d.2 looks done least

-- nothing comes
pub none_found : (a : Auditor) (next : Option Record) (count : ℕ) (found : Finding) (now : Sending) (job after : SourceState) → IsLater a.course next → (not a.course.unanswered && a.course.line.halts) ≡ false → TellsReset a.listening.known → now.last ≡ a.sending.last → now.over ≡ true → IsItem Nothing now
    → (a.course.work.number < 2 ^ 32 - 1 → a.answered < 2 ^ 32 - 1 → found ≡ BadReplies (line_waiting a.course count a.answered)) → ReadsLines a.sending now job after count [] → (console steps : SourceState)
    → LeadsOnIf (LooksAndHears a next a.listening.known) a (record a { sending = now }) job console steps after console steps (Some found)
none_found a next count found now job after later calm resets last over none is reads console steps jt ct st fits u looks done least =
    let d = reads jt u.sent u.are_read.job_so_far in
    let below = answered_on_way u in
    let most = number_on_way u in
    let line = is (omega (arith, most)) (omega (arith, below, most)) in
    subst (λ (f : Finding). IsFound (record a { sending = now }) jt ct st f) (sym line)
    (bad_is_found (record a { sending = now }) jt ct st (line_waiting a.course count a.answered) calm (last ∙ u.calm)
    (none_comes_bad (is_anew u fits next looks.0 later calm a.listening.known resets looks.1) now after d.0 count d.1 (last ∙ u.calm) over none
    (subst (λ (ss : List Sent). JobSoFar now after jt (u.sent ++ ss)) (append-nil (map a_text d.0)) d.2)))

-- what is found there
abbrev pub FindsWaiting : Auditor → ℕ → Finding → Type 0
FindsWaiting a count found = a.course.work.number < 2 ^ 32 - 1 → a.answered < 2 ^ 32 - 1 → found ≡ BadReplies (line_waiting a.course count a.answered)

-- more lines than a job can have do not come
pub not_so_many_lines : (a b : Auditor) (next : Option Record) (count : ℕ) (found : Finding) (now : Sending) (job after : SourceState) → largest_job + 1 ≤ count → ReadsLines a.sending now job after count [] → (console steps : SourceState)
    → LeadsOnIf (LooksAndHears a next a.listening.known) a b job console steps after console steps (Some found)
not_so_many_lines a b next count found now job after many reads console steps jt ct st fits u looks done least =
    let d = reads jt u.sent u.are_read.job_so_far in
    let counted = d.1 in
    let all = dropped_on_way u now after d.0 [] d.2 in
    let below = answered_on_way u in
    absurd (omega (arith, many, counted, all, below))

-- ---- the loop

-- all stays but what was read of the job
pub same_but_sending : (a b : Auditor) → OthersStay a b → b.answered ≡ a.answered → b ≡ record a { sending = b.sending }
same_but_sending a b others answered =
    ap (λ (x : CourseJudge). record b { course = x }) others.course
    ∙ ap (λ (x : Listening). record b { course = a.course; listening = x }) others.listening
    ∙ ap (λ (x : Recorded). record b { course = a.course; listening = a.listening; recorded = x }) others.recorded
    ∙ ap (λ (x : Option ℕ). record b { course = a.course; listening = a.listening; recorded = a.recorded; broken = x }) others.broken
    ∙ ap (λ (x : ℕ). record a { sending = b.sending; answered = x }) answered

-- a line more
pub line_more : (old mid look now : Sending) (job before after : SourceState) (count one : ℕ) (kept : List ℕ) → one ≡ count + 1 → ReadsLines old mid job before count [] → StaysSent mid look before after
    → ((text : List ℕ) (told : List Sent) → JobSoFar look after text told → JobSoFar now after text (told ++ a_text kept ∷ [])) → ReadsLines old now job after one []
line_more old mid look now job before after count one kept is reads stays takes = λ text sent h.
    let d = reads text sent h in
    let counted = d.1 in
    let push = length_push d.0 kept in
    let all : sent ++ (map a_text (d.0 ++ kept ∷ []) ++ []) ≡ (sent ++ (map a_text d.0 ++ [])) ++ a_text kept ∷ [] =
    ap (λ (ss : List Sent). sent ++ ss) (append-nil (map a_text (d.0 ++ kept ∷ [])) ∙ map-append a_text d.0 (kept ∷ [])) ∙ sym (append_assoc sent (map a_text d.0) (a_text kept ∷ []))
    ∙ ap (λ (ss : List Sent). (sent ++ ss) ++ a_text kept ∷ []) (sym (append-nil (map a_text d.0))) in
    (d.0 ++ kept ∷ [], omega (arith, is, counted, push), subst (JobSoFar now after text) (sym all) (takes text (sent ++ (map a_text d.0 ++ [])) (stays text (sent ++ (map a_text d.0 ++ [])) d.2)))

-- nothing more
pub lines_looked : (old mid look : Sending) (job before after : SourceState) (count : ℕ) → ReadsLines old mid job before count [] → StaysSent mid look before after → ReadsLines old look job after count []
lines_looked old mid look job before after count reads stays = λ text sent h.
    let d = reads text sent h in (d.0, d.1, stays text (sent ++ (map a_text d.0 ++ [])) d.2)

-- the reset
pub stop_more : (old mid look now : Sending) (job before after : SourceState) (count : ℕ) → ReadsLines old mid job before count [] → StaysSent mid look before after
    → ((text : List ℕ) (told : List Sent) → JobSoFar look after text told → JobSoFar now after text (told ++ a_stop ∷ [])) → ReadsLines old now job after count (a_stop ∷ [])
stop_more old mid look now job before after count reads stays takes = λ text sent h.
    let d = reads text sent h in
    let all : (sent ++ (map a_text d.0 ++ [])) ++ a_stop ∷ [] ≡ sent ++ (map a_text d.0 ++ a_stop ∷ []) =
    ap (λ (ss : List Sent). (sent ++ ss) ++ a_stop ∷ []) (append-nil (map a_text d.0)) ∙ append_assoc sent (map a_text d.0) (a_stop ∷ []) in
    (d.0, d.1, subst (JobSoFar now after text) all (takes text (sent ++ (map a_text d.0 ++ [])) (stays text (sent ++ (map a_text d.0 ++ [])) d.2)))
