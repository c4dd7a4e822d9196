-- A reset that a console does not tell, or not whole, and what is left of it behind all that may come.
use Rattle.std.proofs.Common.{◌≡◌, ℕ, ◌+◌, List, [], ◌∷◌, ◌++◌, append-nil, true, false, Bool, ◌||◌, cond, not, refl, sym, ap, ◌∙◌, subst}
use Rattle.status_report.specs.Answering.{is_banner}
use Rattle.status_report.specs.declared.Message.TheVariants.{Locked}
use Rattle.status_report.specs.declared.Reply.{Reply}
use Rattle.status_report.specs.declared.Reply.TheVariants.{Banner, Alarm, Message}
use Rattle.run_rules.specs.Outcomes.{either}
use Rattle.run_rules.specs.Work.{tells}
use Rattle.run_texts.specs.Courses.{Reset}
use Rattle.run_texts.specs.Points.{Point}
use Rattle.run_texts.specs.Sent.{Sent, has_reset}
use Rattle.run_texts.specs.Sent.Sent.{a_text, a_stop}
use Rattle.run_texts.specs.Told.{told_at_reset}
use Rattle.audit_rules.specs.Consoles.{GoesOnAnew, GoesOnWith, TellsNext, is_of_reset}
use Rattle.audit_rules.specs.Faults.{BeginsWithNoReport, FailsAt, ResetRefused, TellsResetShort, told_with}
use Rattle.audit_rules.specs.Onward.{TellsNoReset}
use Rattle.audit_rules.specs.Telling.{IsAwaited, IsLineAtFault, IsOver}
use Rattle.audit_rules.specs.Telling.IsLineAtFault.{at_none, behind_alarm}
use Rattle.audit_rules.proofs.BehindText.{alarm_told, anew_alone, of_reset_plain}
use Rattle.audit_rules.proofs.LineShort.{no_reset_told}
use Rattle.audit_rules.proofs.OneText.{begins_so, first_byte, no_bye}
use Rattle.audit_rules.proofs.OneWay.{both}
use Rattle.audit_rules.proofs.ToldApart.{next_reply, not_told}

-- ---- what is told at a reset

told_so : (r : Reset) (locked : Bool) → r.locked ≡ (r.alarm || locked) → told_at_reset r ≡ told_with r.alarm locked
told_so r locked is = ap (λ (b : Bool). cond r.alarm (Alarm 3 ∷ []) [] ++ Banner ∷ cond b (Message Locked ∷ []) []) is

-- its first reply says whether it has an alarm
has_alarm : (rest later : List ℕ) (r : Reset) (first : Reply) → TellsNext rest (told_at_reset r) later → GoesOnWith rest first → is_of_reset first ≡ true → r.alarm ≡ not (is_banner first)
has_alarm rest later r first told g is = alarm_told rest later [] r first (subst (λ (rs : List Reply). TellsNext rest rs later) (sym (append-nil (told_at_reset r))) told) g is

pub told_short : (p : Point) (left : List Sent) (rest : List ℕ) → TellsResetShort p rest → TellsNoReset p left rest
told_short p left rest t = record {
  here = λ r later is told. none r later is.locked told;
  behind = λ kept more o r later e broken is told. none r later is.locked told;
} where
  none : (r : Reset) (later : List ℕ) → r.locked ≡ (r.alarm || p.locked) → TellsNext rest (told_at_reset r) later → ⊥
  none r later locked told =
      let alarm = has_alarm rest later r t.first told t.goes_on t.is in
      let all : told_at_reset r ≡ t.heard ++ t.reply ∷ t.more = told_so r p.locked locked ∙ ap (λ (a : Bool). told_with a p.locked) alarm ∙ t.told in
      not_told rest later t.heard t.more t.reply t.short (subst (λ (rs : List Reply). TellsNext rest rs later) all told)

pub none_left : (p : Point) (left : List Sent) (rest : List ℕ) → has_reset left ≡ false → TellsNoReset p left rest
none_left p left rest none = record {
  here = λ r later is told. both (has_reset left) is.comes none;
  behind = λ kept more o r later e broken is told. both (has_reset left) (ap has_reset e ∙ is.comes) none;
}

pub none_may : (p : Point) (left : List Sent) (rest : List ℕ) (first : Reply) → GoesOnWith rest first → is_of_reset first ≡ true → ResetRefused p left (not (is_banner first)) → TellsNoReset p left rest
none_may p left rest first g of_reset n = record {
  here = λ r later is told. n.here r (has_alarm rest later r first told g of_reset) is;
  behind = λ kept more o r later e broken is told. n.behind kept more o r e broken (has_alarm rest later r first told g of_reset) is;
}

-- ---- where a console goes on anew

some_left : (rest : List ℕ) → BeginsWithNoReport rest → GoesOnAnew rest → rest ≡ [] → ⊥
some_left rest none g empty =
    let n = next_reply rest g.0 none g.2 in
    let plain = of_reset_plain g.0 g.1 in
    let b = begins_so g.0 (no_bye g.0 plain.1) in
    absurd (let e : ◌≡◌ {A = List ℕ} [] (first_byte g.0 ∷ (b.0 ++ n.0)) = sym empty ∙ n.1 ∙ ap (λ (bytes : List ℕ). bytes ++ n.0) b.1 in cc)

pub anew_fails : (p : Point) (left : List Sent) (rest : List ℕ) → p.unanswered ≡ false → BeginsWithNoReport rest → GoesOnAnew rest → TellsNoReset p left rest → (last line : ℕ) → IsLineAtFault p left rest last line → FailsAt p left rest last line
anew_fails p left rest answered none anew no_reset last line at = record {
  nothing = record {
    answered = answered;
    line = λ kept more o later e passed told.
        anew_alone p kept o [] told.replies later passed.becomes (told.are ∙ sym (append-nil (tells o.work))) told.each (subst GoesOnAnew told.text anew);
    reset = no_reset;
    no_report = none;
  };
  some = λ empty over. some_left rest none anew empty;
  is = at;
}

-- ---- where it does not

pub stop_fails : (p : Point) (more : List Sent) (rest : List ℕ) → p.before.alarmed ≡ false → p.unanswered ≡ false → BeginsWithNoReport rest → (GoesOnAnew rest → ⊥) → (last : ℕ) → FailsAt p (a_stop ∷ more) rest last (last + 1)
stop_fails p more rest free answered none not_anew last = record {
  nothing = record { answered = answered; line = λ kept others o later e passed told. absurd cc; reset = no_reset_told p (a_stop ∷ more) rest not_anew; no_report = none };
  some = λ empty over. absurd (let e : ◌≡◌ {A = List Sent} (a_stop ∷ more) [] = subst (λ (b : Bool). either b (Unit {0}) ((a_stop ∷ more) ≡ [])) free over.rest in cc);
  is = at_none free (λ awaited. awaited) refl;
}

-- ---- behind all that may come

over_fails_by : (p : Point) (left : List Sent) (rest : List ℕ) (alarmed : Bool) → p.before.alarmed ≡ alarmed → IsOver p left → BeginsWithNoReport rest → (rest ≡ [] → ⊥) → (last : ℕ) → FailsAt p left rest last (last + 1)
over_fails_by p left rest true alarmed over none some last = record {
  nothing = record {
    answered = over.answered;
    line = λ kept more o later e passed told. both p.before.alarmed alarmed passed.free;
    reset = record {
      here = λ r later is told. both p.before.alarmed alarmed is.free;
      behind = λ kept more o r later e broken is told. both p.before.alarmed alarmed broken.free;
    };
    no_report = none;
  };
  some = λ empty also. some empty;
  is = behind_alarm alarmed refl;
}
over_fails_by p left rest false free over none some last =
    let nothing : left ≡ [] = subst (λ (b : Bool). either b (Unit {0}) (left ≡ [])) free over.rest in
    record {
      nothing = record {
        answered = over.answered;
        line = λ kept more o later e passed told. absurd (let f : ◌≡◌ {A = List Sent} [] (a_text kept ∷ more) = sym nothing ∙ e in cc);
        reset = none_left p left rest (ap has_reset nothing);
        no_report = none;
      };
      some = λ empty also. some empty;
      is = at_none free (λ awaited. subst (λ (ss : List Sent). IsAwaited ss rest) nothing awaited) refl;
    }

pub over_fails : (p : Point) (left : List Sent) (rest : List ℕ) → IsOver p left → BeginsWithNoReport rest → (rest ≡ [] → ⊥) → (last : ℕ) → FailsAt p left rest last (last + 1)
over_fails p left rest over none some last = over_fails_by p left rest p.before.alarmed refl over none some last
