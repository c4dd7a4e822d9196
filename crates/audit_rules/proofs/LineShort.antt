-- A line that is at hand, and that a console does not tell whole.
use Rattle.std.proofs.Common.{◌≡◌, ℕ, List, [], ◌∷◌, ◌++◌, append-nil, true, false, Bool, refl, sym, ap, ◌∙◌, subst}
use Rattle.status_report.specs.Replies.{reply_text}
use Rattle.status_report.specs.declared.Message.TheVariants.{ResetToContinue}
use Rattle.status_report.specs.declared.Reply.{Reply}
use Rattle.status_report.specs.declared.Reply.TheVariants.{Alarm, Message}
use Rattle.run_rules.specs.Outcomes.{either}
use Rattle.run_rules.specs.Reports.{raises_alarm}
use Rattle.run_rules.specs.Work.{Outcome, soft_limit, tells}
use Rattle.run_texts.specs.Points.{Point, IsPassed, behind_broken}
use Rattle.run_texts.specs.Sent.{Sent}
use Rattle.run_texts.specs.Sent.Sent.{a_text}
use Rattle.run_texts.proofs.Determined.{line_answers}
use Rattle.audit_rules.specs.Consoles.{GoesOnAnew, GoesOnWith, TellsNext}
use Rattle.audit_rules.specs.Faults.{BeginsWithNoReport, FailsAt, TellsLineShort}
use Rattle.audit_rules.specs.Onward.{TellsNoAlarm, TellsNoLine, TellsNoReset}
use Rattle.audit_rules.specs.Standing.{StandTo}
use Rattle.audit_rules.specs.StepTexts.{records_of}
use Rattle.audit_rules.specs.Telling.{HasAlarm, IsOver, StandsUpTo}
use Rattle.audit_rules.specs.Telling.IsLineAtFault.{at_line}
use Rattle.audit_rules.proofs.Alarmed.{limits}
use Rattle.audit_rules.proofs.BehindText.{first_of_line}
use Rattle.audit_rules.proofs.OneWay.{both}
use Rattle.audit_rules.proofs.Replies.{comes_next}
use Rattle.audit_rules.proofs.Stands.{goes_on_anew}
use Rattle.audit_rules.proofs.ToldApart.{begins_with, next_reply, not_told}

-- ---- no reset is told

-- where a text does not go on anew
pub no_reset_told : (p : Point) (left : List Sent) (rest : List ℕ) → (GoesOnAnew rest → ⊥) → TellsNoReset p left rest
no_reset_told p left rest none = record {
  here = λ r later is told. none (goes_on_anew p left rest (record { reset = r; is = is; later = later; tells = told }));
  behind = λ kept more o r later e broken is told. none (goes_on_anew (behind_broken p o) more rest (record { reset = r; is = is; later = later; tells = told }));
}

-- ---- what is told of the line

record FirstTold (p : Point) (kept : List ℕ) (rest : List ℕ) (u : Outcome) : Type 0 where
  first : Reply
  more : List Reply
  is : tells u.work ≡ first ∷ more
  later : List ℕ
  begins : rest ≡ reply_text first ++ later

first_told : (p : Point) (kept rest : List ℕ) (u : Outcome) (later : List ℕ) → BeginsWithNoReport rest → IsPassed p kept u → TellsNext rest (tells u.work) later → FirstTold p kept rest u
first_told p kept rest u later none passed told =
    let f = first_of_line p kept u [] passed.becomes in
    let is : tells u.work ≡ f.first ∷ f.more = sym (append-nil (tells u.work)) ∙ f.is in
    let b = begins_with rest later f.first f.more none (subst (λ (rs : List Reply). TellsNext rest rs later) is told) in
    record { first = f.first; more = f.more; is = is; later = b.later; begins = b.is }

-- what an alarm tells
alarm_told : (p : Point) (kept : List ℕ) (u : Outcome) → IsPassed p kept u → raises_alarm u ≡ true → tells u.work ≡ Alarm soft_limit ∷ Message ResetToContinue ∷ []
alarm_told p kept u passed raises = ap (λ (x : Outcome). tells x.work) (limits p.before u (line_answers true p kept u passed.becomes) raises)

module _ (p : Point) (kept : List ℕ) (more : List Sent) (rest : List ℕ) (t : TellsLineShort p kept rest) where
  none_told : TellsNoLine p (a_text kept ∷ more) rest
  none_told line others u later e passed told =
      let same : line ≡ kept = cc in
      let is : IsPassed p kept u = subst (λ (text : List ℕ). IsPassed p text u) same passed in
      let f = first_told p kept rest u later t.no_report is told in
      let one = t.becomes.alone u f.first f.more f.later is f.is f.begins in
      not_told rest later t.heard t.more t.reply t.short (subst (λ (rs : List Reply). TellsNext rest rs later) (ap (λ (x : Outcome). tells x.work) one ∙ t.work) told)

  not_over : IsOver p (a_text kept ∷ more) → ⊥
  not_over over = by_alarm p.before.alarmed refl where
    by_alarm : (b : Bool) → p.before.alarmed ≡ b → ⊥
    by_alarm true e = both p.before.alarmed e t.becomes.passed.free
    by_alarm false e = absurd (let none : ◌≡◌ {A = List Sent} (a_text kept ∷ more) [] = subst (λ (b : Bool). either b (Unit {0}) ((a_text kept ∷ more) ≡ [])) e over.rest in cc)

  pub line_fails : (last : ℕ) → FailsAt p (a_text kept ∷ more) rest last p.before.number
  line_fails last = record {
    nothing = record { answered = t.becomes.passed.answered; line = none_told; reset = no_reset_told p (a_text kept ∷ more) rest t.not_anew; no_report = t.no_report };
    some = λ e over. not_over over;
    is = at_line t.becomes.passed.free (λ comes. t.not_anew) refl;
  }

  -- ---- the alarm

  -- whatever raises it is that
  pub line_calm : (raises_alarm t.outcome ≡ true → t.heard ≡ []) → TellsNoAlarm p (a_text kept ∷ more) rest
  line_calm unheard line others u e passed raises g =
      let same : line ≡ kept = cc in
      let is : IsPassed p kept u = subst (λ (text : List ℕ). IsPassed p text u) same passed in
      let alarm = Alarm soft_limit in
      let n = next_reply rest alarm t.no_report g in
      let one = t.becomes.alone u alarm (Message ResetToContinue ∷ []) n.0 is (alarm_told p kept u is raises) n.1 in
      let this : raises_alarm t.outcome ≡ true = sym (ap raises_alarm one) ∙ raises in
      let work : t.heard ++ t.reply ∷ t.more ≡ alarm ∷ Message ResetToContinue ∷ [] = sym t.work ∙ alarm_told p kept t.outcome t.becomes.passed this in
      let first : t.reply ∷ t.more ≡ alarm ∷ Message ResetToContinue ∷ [] = sym (ap (λ (rs : List Reply). rs ++ t.reply ∷ t.more) (unheard this)) ∙ work in
      let reply_is : t.reply ≡ alarm = cc in
      let all : t.heard ++ t.reply ∷ [] ≡ alarm ∷ [] = ap (λ (rs : List Reply). rs ++ t.reply ∷ []) (unheard this) ∙ ap (λ (r : Reply). r ∷ []) reply_is in
      let told : TellsNext rest (alarm ∷ []) n.0 = record { replies = alarm ∷ []; text = n.1 ∙ ap (λ (bytes : List ℕ). bytes ++ n.0) (sym (append-nil (reply_text alarm))); each = (tt, tt); are = refl } in
      not_told rest n.0 t.heard [] t.reply t.short (subst (λ (rs : List Reply). TellsNext rest rs n.0) (sym all) told)

  pub line_alarms : (sent : List Sent) (console steps : List ℕ) (z : StandTo sent console steps) → StandsUpTo sent console (records_of z.done) p (a_text kept ∷ more) rest → raises_alarm t.outcome ≡ true → (t.heard ≡ [] → ⊥)
      → HasAlarm sent console steps p.before.number
  line_alarms sent console steps z s raises some = record {
    steps_stand = z;
    point = p;
    line = kept;
    left = more;
    rest = rest;
    stands = s;
    outcome = t.outcome;
    passed = t.becomes.passed;
    raises = raises;
    tells = by_heard t.heard t.work t.short.tells some;
    number = refl;
  } where
    by_heard : (heard : List Reply) → tells t.outcome.work ≡ heard ++ t.reply ∷ t.more → TellsNext rest heard t.short.rest → (heard ≡ [] → ⊥) → GoesOnWith rest (Alarm soft_limit)
    by_heard [] is told some = absurd (some refl)
    by_heard (r ∷ rs) is told some =
        let alarm : r ∷ (rs ++ t.reply ∷ t.more) ≡ Alarm soft_limit ∷ Message ResetToContinue ∷ [] = sym is ∙ alarm_told p kept t.outcome t.becomes.passed raises in
        let same : r ≡ Alarm soft_limit = cc in
        subst (λ (text : List ℕ). GoesOnWith text (Alarm soft_limit)) (sym told.text)
        (comes_next told.replies (Alarm soft_limit) rs t.short.rest (told.are ∙ ap (λ (q : Reply). q ∷ rs) same) told.each)
