-- A console that stands up to a point where an alarm of a soft limit was raised: the last line that was passed has raised it.
use Rattle.std.proofs.Common.{◌≡◌, ℕ, Bool, ◌+◌, true, false, List, [], ◌∷◌, ◌++◌, append_assoc, append-nil, refl, sym, ap, ◌∙◌, subst, arith}
use Rattle.run_texts.specs.Courses.{Passed}
use Rattle.run_texts.specs.Courses.Passed.{a_line, a_broken, a_cut, a_reset}
use Rattle.run_texts.specs.Courses.{behind_the_reset}
use Rattle.run_texts.specs.Points.{Point, behind_line, behind_broken}
use Rattle.run_texts.specs.Sent.{Sent, behind_reset}
use Rattle.run_texts.specs.Sent.Sent.{a_text, a_stop}
use Rattle.run_texts.specs.SoFar.{RebasesNothing}
use Rattle.run_texts.specs.Told.{told_in}
use Rattle.run_texts.proofs.Determined.{line_answers}
use Rattle.audit_rules.specs.Consoles.{Tells}
use Rattle.audit_rules.specs.Standing.{StandTo}
use Rattle.audit_rules.specs.StepTexts.{records_of}
use Rattle.audit_rules.specs.Telling.{HasAlarm, StandsUpTo}
use Rattle.audit_rules.proofs.Alarmed.{alarm_at_end, alarm_by_course, limits, nothing_passed, to_alarm}
use Rattle.audit_rules.proofs.OneWay.{both}

-- what begins a course that goes on without a rebase does so itself
rebases_first : (p : Point) (sent : List Sent) (ps qs : List Passed) → RebasesNothing p sent (ps ++ qs) → RebasesNothing p sent ps
rebases_first p sent [] qs r = tt
rebases_first p sent (a_cut k at ∷ ps) qs r = r
rebases_first p sent (a_reset u ∷ ps) qs r = (r.0, rebases_first (behind_the_reset u p) (behind_reset sent) ps qs r.1)
rebases_first p [] (a_line o ∷ ps) qs r = r
rebases_first p (a_stop ∷ sent) (a_line o ∷ ps) qs r = r
rebases_first p (a_text line ∷ sent) (a_line o ∷ ps) qs r = rebases_first (behind_line p line o) sent ps qs r
rebases_first p [] (a_broken o ∷ ps) qs r = r
rebases_first p (a_stop ∷ sent) (a_broken o ∷ ps) qs r = r
rebases_first p (a_text line ∷ sent) (a_broken o ∷ ps) qs r = rebases_first (behind_broken p o) sent ps qs r

module _ (sent : List Sent) (console steps : List ℕ) (z : StandTo sent console steps) (p : Point) (left : List Sent) (rest : List ℕ) (s : StandsUpTo sent console (records_of z.done) p left rest) (alarmed : p.before.alarmed ≡ true) (k : ℕ)
    (number : p.before.number ≡ k + 1) where
  -- it makes records with the lines before it
  by_course : s.others ≡ [] → p ≡ s.between → HasAlarm sent console steps k
  by_course none same =
      alarm_by_course sent console steps z s.first s.opens s.course s.between s.waiting rest s.leads s.made (subst (λ (ps : List Passed). Tells console (told_in ps) rest) (ap (λ (ps : List Passed). s.course ++ ps) none ∙ append-nil s.course) s.told)
      (subst (λ (q : Point). q.before.alarmed ≡ true) same alarmed) k (subst (λ (q : Point). q.before.number ≡ k + 1) same number)

  -- or it comes behind all that makes records
  by_others : s.between.before.alarmed ≡ false → HasAlarm sent console steps k
  by_others free =
      let a = alarm_at_end s.between p s.waiting left s.others s.goes_on free alarmed in
      let is = limits a.point.before a.outcome (line_answers true a.point a.line a.outcome a.passed.becomes) a.raises in
      let split : s.course ++ s.others ≡ (s.course ++ a.front) ++ a_line a.outcome ∷ [] = ap (λ (ps : List Passed). s.course ++ ps) a.split ∙ sym (append_assoc s.course a.front (a_line a.outcome ∷ [])) in
      let t = to_alarm console (s.course ++ a.front) a.point.before a.outcome rest is (subst (λ (ps : List Passed). Tells console (told_in ps) rest) split s.told) in
      let behind = a.number in
      record {
        steps_stand = z;
        point = a.point;
        line = a.line;
        left = a.left;
        rest = t.rest;
        stands = record {
          first = s.first;
          opens = s.opens;
          course = s.course;
          between = s.between;
          waiting = s.waiting;
          leads = s.leads;
          made = s.made;
          others = a.front;
          goes_on = a.leads;
          rebases = rebases_first s.between s.waiting a.front (a_line a.outcome ∷ []) (subst (λ (ps : List Passed). RebasesNothing s.between s.waiting ps) a.split s.rebases);
          told = t.told;
          waits = λ unanswered. both a.point.unanswered unanswered a.passed.answered;
        };
        outcome = a.outcome;
        passed = a.passed;
        raises = a.raises;
        tells = t.goes_on;
        number = omega (arith, behind, number);
      }

  pub last_alarm : HasAlarm sent console steps k
  last_alarm = by s.between.before.alarmed refl where
    by : (b : Bool) → s.between.before.alarmed ≡ b → HasAlarm sent console steps k
    by true e = let n = nothing_passed s.between p s.waiting left s.others s.goes_on e in by_course n.none n.same
    by false e = by_others e
