-- What causes cuts, and what resets drop, where more comes of the job.
use Rattle.std.proofs.Common.{ℕ, ◌+◌, List, [], ◌∷◌, ◌++◌, length, ap, subst, sym, arith}
use Rattle.run_rules.specs.Lines.{ended}
use Rattle.run_texts.specs.Besides.{CutsHaveCauses, DropsAreFew}
use Rattle.run_texts.specs.Courses.{Passed, behind_cut, behind_the_reset}
use Rattle.run_texts.specs.Courses.Passed.{a_line, a_broken, a_cut, a_reset}
use Rattle.run_texts.specs.Points.{Point, behind_line, behind_broken}
use Rattle.run_texts.specs.Sent.{Sent, behind_reset}
use Rattle.run_texts.specs.Sent.Sent.{a_text, a_stop}
use Rattle.run_texts.specs.SoFar.{LeadsTo}
use Rattle.run_texts.proofs.Going.{waiting_on, behind_on}

pub causes_with_more : (p last : Point) (sent left more : List Sent) (ps : List Passed) → LeadsTo p sent ps last left → CutsHaveCauses p sent ps → CutsHaveCauses p (sent ++ more) ps
causes_with_more p last sent left more [] f has = tt
causes_with_more p last sent left more (a_cut k at ∷ ps) f has = (has.0, causes_with_more (behind_cut at p) last sent left more ps f.1 has.1)
causes_with_more p last sent left more (a_reset r ∷ ps) f has =
    subst (λ (ss : List Sent). CutsHaveCauses (behind_the_reset r p) ss ps) (sym (behind_on sent more f.0.comes)) (causes_with_more (behind_the_reset r p) last (behind_reset sent) left more ps f.1 has)
causes_with_more p last [] left more (a_line o ∷ ps) f has = absurd f
causes_with_more p last (a_stop ∷ sent) left more (a_line o ∷ ps) f has = absurd f
causes_with_more p last (a_text line ∷ sent) left more (a_line o ∷ ps) f has = causes_with_more (behind_line p line o) last sent left more ps f.1 has
causes_with_more p last [] left more (a_broken o ∷ ps) f has = absurd f
causes_with_more p last (a_stop ∷ sent) left more (a_broken o ∷ ps) f has = absurd f
causes_with_more p last (a_text line ∷ sent) left more (a_broken o ∷ ps) f has = causes_with_more (behind_broken p o) last sent left more ps f.1 has

pub drops_with_more : (room taken : ℕ) (p last : Point) (sent left more : List Sent) (ps : List Passed) → LeadsTo p sent ps last left → DropsAreFew room taken sent ps → DropsAreFew room taken (sent ++ more) ps
drops_with_more room taken p last sent left more [] f has = tt
drops_with_more room taken p last sent left more (a_cut k at ∷ ps) f has = drops_with_more room taken (behind_cut at p) last sent left more ps f.1 has
drops_with_more room taken p last sent left more (a_reset r ∷ ps) f has = (
  (let e = ap (λ (ls : List (List ℕ)). length (ended ls)) (waiting_on sent more f.0.comes) in let few = has.0 in omega (arith, e, few)),
  subst (λ (ss : List Sent). DropsAreFew room 0 ss ps) (sym (behind_on sent more f.0.comes)) (drops_with_more room 0 (behind_the_reset r p) last (behind_reset sent) left more ps f.1 has.1),
)
drops_with_more room taken p last [] left more (a_line o ∷ ps) f has = absurd f
drops_with_more room taken p last (a_stop ∷ sent) left more (a_line o ∷ ps) f has = absurd f
drops_with_more room taken p last (a_text line ∷ sent) left more (a_line o ∷ ps) f has = drops_with_more room 0 (behind_line p line o) last sent left more ps f.1 has
drops_with_more room taken p last [] left more (a_broken o ∷ ps) f has = absurd f
drops_with_more room taken p last (a_stop ∷ sent) left more (a_broken o ∷ ps) f has = absurd f
drops_with_more room taken p last (a_text line ∷ sent) left more (a_broken o ∷ ps) f has = drops_with_more room (length line + 1) (behind_broken p o) last sent left more ps f.1 has
