-- A reset of a course drops few lines, if those of its epoch that it leaves without an answer are few.
use Rattle.std.proofs.Common.{◌≡◌, ℕ, ◌+◌, ◌≤◌, List, [], ◌∷◌, ◌++◌, length, map, length-append, refl, sym, ap, ◌∙◌, subst, arith}
use Rattle.run_rules.specs.Lines.{ended}
use Rattle.run_texts.specs.Besides.{DropsAreFew}
use Rattle.run_texts.specs.Courses.{Passed, Reset}
use Rattle.run_texts.specs.Courses.Passed.{a_line, a_broken, a_cut, a_reset}
use Rattle.run_texts.specs.Sent.{Sent, waiting_in, behind_reset}
use Rattle.run_texts.specs.Sent.Sent.{a_text, a_stop}
use Rattle.epoch_links.specs.Drops.{AreCuts, PassesLines}

waiting_all : (lines : List (List ℕ)) (sent : List Sent) → waiting_in (map a_text lines ++ a_stop ∷ sent) ≡ lines
waiting_all [] sent = refl
waiting_all (l ∷ lines) sent = ap (λ (ls : List (List ℕ)). l ∷ ls) (waiting_all lines sent)

behind_all : (lines : List (List ℕ)) (sent : List Sent) → behind_reset (map a_text lines ++ a_stop ∷ sent) ≡ sent
behind_all [] sent = refl
behind_all (l ∷ lines) sent = behind_all lines sent

at_reset : (room taken : ℕ) (lines : List (List ℕ)) (r : Reset) (sent : List Sent) (course : List Passed) → taken + length (ended lines) ≤ room → DropsAreFew room 0 sent course
    → DropsAreFew room taken (map a_text lines ++ a_stop ∷ sent) (a_reset r ∷ course)
at_reset room taken lines r sent course few rest = (
  (let e = ap (λ (ls : List (List ℕ)). length (ended ls)) (waiting_all lines sent) in omega (arith, e, few)),
  subst (λ (s : List Sent). DropsAreFew room 0 s course) (sym (behind_all lines sent)) rest,
)

behind_cuts : (room taken : ℕ) (lines : List (List ℕ)) (passed : List Passed) (r : Reset) (sent : List Sent) (course : List Passed) → AreCuts passed → taken + length (ended lines) ≤ room → DropsAreFew room 0 sent course
    → DropsAreFew room taken (map a_text lines ++ a_stop ∷ sent) (passed ++ a_reset r ∷ course)
behind_cuts room taken lines [] r sent course cuts few rest = at_reset room taken lines r sent course few rest
behind_cuts room taken lines (a_cut k at ∷ ps) r sent course cuts few rest = behind_cuts room taken lines ps r sent course cuts few rest
behind_cuts room taken lines (_ ∷ ps) r sent course cuts few rest = absurd cuts

pub course_drops : (room : ℕ) (lines dropped : List (List ℕ)) (passed : List Passed) (r : Reset) (sent : List Sent) (course : List Passed) → PassesLines lines passed dropped → length (ended dropped) ≤ room → DropsAreFew room 0 sent course
    → DropsAreFew room 0 (map a_text lines ++ a_stop ∷ sent) (passed ++ a_reset r ∷ course)
course_drops room lines dropped [] r sent course passes few rest =
    at_reset room 0 lines r sent course (let e = ap (λ (ls : List (List ℕ)). length (ended ls)) passes in omega (arith, e, few)) rest
course_drops room lines dropped (a_cut k at ∷ ps) r sent course passes few rest = course_drops room lines dropped ps r sent course passes few rest
course_drops room (l ∷ lines) dropped (a_line o ∷ ps) r sent course passes few rest = course_drops room lines dropped ps r sent course passes few rest
course_drops room (l ∷ lines) dropped (a_broken o ∷ ps) r sent course passes few rest =
    behind_cuts room (length l + 1) lines ps r sent course passes.1
    (let e = ap (λ (ls : List (List ℕ)). length (ended ls)) passes.0 in let a = length-append (l ++ 10 ∷ []) (ended lines) in let b = length-append l (10 ∷ []) in omega (arith, e, few, a, b)) rest
course_drops room [] dropped (a_line o ∷ ps) r sent course passes few rest = absurd passes
course_drops room [] dropped (a_broken o ∷ ps) r sent course passes few rest = absurd passes
course_drops room lines dropped (a_reset s ∷ ps) r sent course passes few rest = absurd passes
