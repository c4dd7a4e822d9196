-- Courses that go on behind one that has come so far.
use Rattle.std.proofs.Common.{◌≡◌, ℕ, ◌+◌, true, false, List, [], ◌∷◌, ◌++◌, sym, ap, ◌∙◌, subst, arith}
use Rattle.run_rules.specs.declared.State.{State}
use Rattle.run_texts.specs.Courses.{Passed, behind_the_reset}
use Rattle.run_texts.specs.Courses.Passed.{a_line, a_broken, a_cut, a_reset}
use Rattle.run_texts.specs.Points.{Point, behind_line, behind_broken, opening}
use Rattle.run_texts.specs.Sent.{Sent, behind_reset}
use Rattle.run_texts.specs.Sent.Sent.{a_text, a_stop}
use Rattle.run_texts.specs.SoFar.{LeadsTo, RebasesNothing}
use Rattle.run_texts.specs.Told.{told_in, told_at_reset}
use Rattle.run_texts.proofs.Going.{behind_on, reset_on}
use Rattle.audit_rules.specs.Consoles.{TellsNext}
use Rattle.audit_rules.specs.Standing.{GoesOnWithReset}
use Rattle.audit_rules.proofs.NoFurther.{first_half}
use Rattle.audit_rules.proofs.OneWay.{both}
use Rattle.audit_course.specs.SoFar.{texts_among}
use Rattle.run_audit.proofs.Bounded.{lines_counted}

-- its lines are counted
pub number_there : (first : State) (q : Point) (sent : List Sent) (ps : List Passed) → LeadsTo (opening first) sent ps q [] → q.before.number ≡ texts_among sent + 1
number_there first q sent ps f = let all = lines_counted (opening first) q sent [] ps f in omega (arith, all)

-- ---- more is left of the job

pub rebases_with_more : (p q : Point) (sent left more : List Sent) (ps : List Passed) → LeadsTo p sent ps q left → RebasesNothing p sent ps → RebasesNothing p (sent ++ more) ps
rebases_with_more p q sent left more [] f r = tt
rebases_with_more p q sent left more (a_cut k at ∷ ps) f r = absurd r
rebases_with_more p q sent left more (a_reset u ∷ ps) f r = (
  r.0,
  subst (λ (ss : List Sent). RebasesNothing (behind_the_reset u p) ss ps) (sym (behind_on sent more f.0.comes)) (rebases_with_more (behind_the_reset u p) q (behind_reset sent) left more ps f.1 r.1),
)
rebases_with_more p q [] left more (a_line o ∷ ps) f r = absurd f
rebases_with_more p q (a_stop ∷ sent) left more (a_line o ∷ ps) f r = absurd f
rebases_with_more p q (a_text line ∷ sent) left more (a_line o ∷ ps) f r = rebases_with_more (behind_line p line o) q sent left more ps f.1 r
rebases_with_more p q [] left more (a_broken o ∷ ps) f r = absurd f
rebases_with_more p q (a_stop ∷ sent) left more (a_broken o ∷ ps) f r = absurd f
rebases_with_more p q (a_text line ∷ sent) left more (a_broken o ∷ ps) f r = rebases_with_more (behind_broken p o) q sent left more ps f.1 r

-- behind a line that waits a reset comes first, if all lines are answered in the end
pub reset_first : (p q : Point) (sent left more : List Sent) (text later : List ℕ) (ps : List Passed) → p.unanswered ≡ true → q.unanswered ≡ false → LeadsTo p sent ps q left → RebasesNothing p sent ps → TellsNext text (told_in ps) later
    → GoesOnWithReset p (sent ++ more) text
reset_first p q sent left more text later [] waits answered f r told = both p.unanswered waits (sym (ap (λ (x : Point). x.unanswered) f.0) ∙ answered)
reset_first p q sent left more text later (a_cut k at ∷ ps) waits answered f r told = absurd r
reset_first p q sent left more text later (a_reset u ∷ ps) waits answered f r told =
    let t = first_half text (told_at_reset u) (told_in ps) later told in record { reset = u; is = reset_on p sent more u f.0; later = t.0; tells = t.1 }
reset_first p q [] left more text later (a_line o ∷ ps) waits answered f r told = absurd f
reset_first p q (a_stop ∷ sent) left more text later (a_line o ∷ ps) waits answered f r told = absurd f
reset_first p q (a_text line ∷ sent) left more text later (a_line o ∷ ps) waits answered f r told = both p.unanswered waits f.0.answered
reset_first p q [] left more text later (a_broken o ∷ ps) waits answered f r told = absurd f
reset_first p q (a_stop ∷ sent) left more text later (a_broken o ∷ ps) waits answered f r told = absurd f
reset_first p q (a_text line ∷ sent) left more text later (a_broken o ∷ ps) waits answered f r told = both p.unanswered waits f.0.answered
