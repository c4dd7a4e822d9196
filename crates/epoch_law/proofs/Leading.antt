-- A course leads to where nothing more is asked for.
use Rattle.std.proofs.Common.{◌≡◌, Bool, true, false, List, [], ◌∷◌, refl, sym, ap, ◌∙◌, subst, append-nil}
use Rattle.run_rules.specs.Outcomes.{either}
use Rattle.run_texts.specs.Courses.{Passed, Follows, IsLeft}
use Rattle.run_texts.specs.Courses.Passed.{a_line, a_broken, a_cut, a_reset}
use Rattle.run_texts.specs.Points.{Point}
use Rattle.run_texts.specs.Sent.{Sent, behind_reset}
use Rattle.run_texts.specs.Sent.Sent.{a_text, a_stop}
use Rattle.run_texts.specs.SoFar.{LeadsTo}
use Rattle.run_texts.proofs.SoFar.{goes_on_from}

-- a course that leads to where nothing more is asked for follows
pub follows_to_end : (p last : Point) (sent left : List Sent) (ps : List Passed) → LeadsTo p sent ps last left → IsLeft last left → Follows p sent ps last
follows_to_end p last sent left ps f is =
    subst (λ (qs : List Passed). Follows p sent qs last) (append-nil ps) (goes_on_from p last last sent left ps [] f (refl, is))

-- of a run in which no line has raised an alarm nothing is left; and else one reset at most, the last that comes
pub left_of_all : (last : Point) (left : List Sent) → last.unanswered ≡ false → (last.before.alarmed ≡ true → behind_reset left ≡ []) → (last.before.alarmed ≡ false → left ≡ []) → IsLeft last left
left_of_all last left complete alarm calm = record { answered = complete; rest = go last.before.alarmed refl }
  where
    go : (t : Bool) → last.before.alarmed ≡ t → either t (behind_reset left ≡ []) (left ≡ [])
    go true e = alarm e
    go false e = calm e

-- while no line has raised an alarm none has before
pub calm_before : (p last : Point) (sent left : List Sent) (ps : List Passed) → LeadsTo p sent ps last left → last.before.alarmed ≡ false → p.before.alarmed ≡ false
calm_before p last sent left [] f calm = ap (λ (x : Point). x.before.alarmed) (sym f.0) ∙ calm
calm_before p last sent left (a_cut k at ∷ ps) f calm = f.0.free
calm_before p last sent left (a_reset r ∷ ps) f calm = f.0.free
calm_before p last [] left (a_line o ∷ ps) f calm = absurd f
calm_before p last (a_stop ∷ sent) left (a_line o ∷ ps) f calm = absurd f
calm_before p last (a_text line ∷ sent) left (a_line o ∷ ps) f calm = f.0.free
calm_before p last [] left (a_broken o ∷ ps) f calm = absurd f
calm_before p last (a_stop ∷ sent) left (a_broken o ∷ ps) f calm = absurd f
calm_before p last (a_text line ∷ sent) left (a_broken o ∷ ps) f calm = f.0.free
