-- Where a course has come to, it stands; and where all is told, nothing more may be.
use Rattle.std.proofs.Common.{◌≡◌, ℕ, List, [], ◌∷◌, ◌++◌, append-nil, true, false, Bool, cond, refl, sym, ap, ◌∙◌, subst}
use Rattle.std.specs.List.{AllByRecursion}
use Rattle.std.proofs.lemmas.List.Concat.{flat_map-append}
use Rattle.status_report.specs.Answering.{without_reports}
use Rattle.status_report.specs.Replies.{reply_text}
use Rattle.status_report.specs.declared.Reply.{Reply}
use Rattle.status_report.specs.declared.Reply.TheVariants.{Alarm, Banner}
use Rattle.step_line.specs.declared.Record.{Record}
use Rattle.run_rules.specs.Told.{replies_text}
use Rattle.run_rules.specs.Work.{Outcome, soft_limit, tells}
use Rattle.run_texts.specs.Courses.{Passed}
use Rattle.run_texts.specs.Courses.Passed.{a_line}
use Rattle.run_texts.specs.Points.{Point, IsPassed, behind_line}
use Rattle.run_texts.specs.Sent.{Sent}
use Rattle.run_texts.specs.Sent.Sent.{a_text}
use Rattle.run_texts.specs.SoFar.{LeadsTo, RebasesNothing}
use Rattle.run_texts.specs.Told.{told_in, told_of, told_at_reset}
use Rattle.audit_rules.specs.Consoles.{IsOnConsole, Tells, TellsNext}
use Rattle.audit_rules.specs.Onward.{HasCome, TellsNothing, TellsNoAlarm}
use Rattle.audit_rules.specs.Standing.{MayWait, Stand}
use Rattle.audit_rules.specs.Telling.{StandsUpTo, IsOver}
use Rattle.audit_rules.proofs.Behind.{leads as come_leads, tells as come_tells, makes as come_makes}
use Rattle.audit_rules.proofs.NoFurther.{told_on}
use Rattle.audit_rules.proofs.OneText.{begins_so, first_byte, no_bye}
use Rattle.audit_rules.proofs.OneWay.{none_passed}

-- ---- it stands

module _ (sent : List Sent) (console : List ℕ) (records : List Record) (since begun : List Outcome) (made : List Record) (c : HasCome sent console records since begun made) where
  pub stand : Stand sent console records
  stand = record {
    first = c.first;
    opens = c.opens;
    course = c.reached.course;
    point = c.point;
    left = c.left;
    leads = come_leads sent console records since begun made c;
    rest = c.rest;
    told = come_tells sent console records since begun made c;
    waits = c.waits;
    made = come_makes sent console records since begun made c;
  }

  -- and whatever goes on behind it without records stands as far
  pub stands_on : (q : Point) (gone : List Sent) (later : List ℕ) (ps : List Passed) → LeadsTo c.point c.left ps q gone → RebasesNothing c.point c.left ps → TellsNext c.rest (told_in ps) later → MayWait q gone later → StandsUpTo sent console records q gone later
  stands_on q gone later ps goes_on rebases told waits = record {
    first = c.first;
    opens = c.opens;
    course = c.reached.course;
    between = c.point;
    waiting = c.left;
    leads = come_leads sent console records since begun made c;
    made = come_makes sent console records since begun made c;
    others = ps;
    goes_on = goes_on;
    rebases = rebases;
    told = subst (λ (rs : List Reply). Tells console rs later) (sym (flat_map-append told_of c.reached.course ps)) (told_on console (told_in c.reached.course) (told_in ps) c.rest later (come_tells sent console records since begun made c) told);
    waits = waits;
  }

  pub stands_here : StandsUpTo sent console records c.point c.left c.rest
  stands_here = stands_on c.point c.left c.rest [] (refl, refl) tt (record { replies = []; text = refl; each = tt; are = refl }) c.waits

-- ---- all is told

-- nothing is told by no text
none_told : (told : List Reply) (later : List ℕ) → TellsNext [] told later → told ≡ []
none_told told later t = by t.replies t.text t.each t.are where
  by : (rs : List Reply) → [] ≡ replies_text rs ++ later → AllByRecursion IsOnConsole rs → without_reports rs ≡ told → told ≡ []
  by [] text each are = sym are
  by (r ∷ rs) text each are =
      let some = begins_so r (no_bye r each.0) in
      absurd (let e : ◌≡◌ {A = List ℕ} [] (first_byte r ∷ ((some.0 ++ replies_text rs) ++ later)) = text ∙ ap (λ (bytes : List ℕ). (bytes ++ replies_text rs) ++ later) some.1 in cc)

some_at_reset : {A : Type 0} (alarm : Bool) (more : List Reply) → cond alarm (Alarm 3 ∷ []) [] ++ Banner ∷ more ≡ [] → A
some_at_reset true more none = absurd cc
some_at_reset false more none = absurd cc

-- a line tells something
some_of_line : {A : Type 0} (p : Point) (kept : List ℕ) (o : Outcome) → IsPassed p kept o → tells o.work ≡ [] → A
some_of_line p kept o is none =
    let e = none_passed p (behind_line p kept o) (a_text kept ∷ []) [] (a_line o ∷ []) (kept, [], refl, is, (refl, refl, refl, refl)) (append-nil (tells o.work) ∙ none) in
    absurd cc

pub over_tells_nothing : (p : Point) (left : List Sent) → IsOver p left → TellsNothing p left []
over_tells_nothing p left over = record {
  answered = over.answered;
  line = λ kept more o later is passed told. some_of_line p kept o passed (none_told (tells o.work) later told);
  reset = record {
    here = λ r later at told. some_at_reset r.alarm _ (none_told (told_at_reset r) later told);
    behind = λ kept more o r later is broken at told. some_at_reset r.alarm _ (none_told (told_at_reset r) later told);
  };
  no_report = λ report later is on e. nothing report later on e;
} where
  nothing : (report : Reply) (later : List ℕ) → IsOnConsole report → ◌≡◌ {A = List ℕ} [] (reply_text report ++ later) → ⊥
  nothing report later on e =
      let some = begins_so report (no_bye report on) in
      absurd (let f : ◌≡◌ {A = List ℕ} [] (first_byte report ∷ (some.0 ++ later)) = e ∙ ap (λ (bytes : List ℕ). bytes ++ later) some.1 in cc)

pub over_tells_no_alarm : (p : Point) (left : List Sent) → TellsNoAlarm p left []
over_tells_no_alarm p left kept more o is passed raises g = by g.reports g.each g.text where
  by : (rs : List Reply) → AllByRecursion IsOnConsole rs → ◌≡◌ {A = List ℕ} [] (replies_text rs ++ (reply_text (Alarm soft_limit) ++ g.later)) → ⊥
  by [] each e = let some = begins_so (Alarm soft_limit) refl in absurd (let f : ◌≡◌ {A = List ℕ} [] (first_byte (Alarm soft_limit) ∷ (some.0 ++ g.later)) = e ∙ ap (λ (bytes : List ℕ). bytes ++ g.later) some.1 in cc)
  by (r ∷ rs) each e =
      let some = begins_so r (no_bye r each.0) in
      absurd (let f : ◌≡◌ {A = List ℕ} [] (first_byte r ∷ ((some.0 ++ replies_text rs) ++ (reply_text (Alarm soft_limit) ++ g.later))) = e ∙ ap (λ (bytes : List ℕ). (bytes ++ replies_text rs) ++ (reply_text (Alarm soft_limit) ++ g.later)) some.1 in cc)
