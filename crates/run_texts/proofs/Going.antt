-- A course goes on at its end: by a line, by a cut, or by a reset.
use Rattle.std.proofs.Common.{◌≡◌, ℕ, List, [], ◌∷◌, ◌++◌, map, length, true, false, Bool, ◌&&◌, append-nil, sym, refl, ap, ◌∙◌, subst}
use Rattle.units.specs.declared.Steps3.{Steps3}
use Rattle.run_rules.specs.Outcomes.{Before, either}
use Rattle.run_rules.specs.Outcomes.{Becomes, IsBegun, Passed as RulesPassed, Follows as RulesFollow}
use Rattle.run_rules.specs.Outcomes.Passed.{a_line as line_passed, a_cut as cut_passed}
use Rattle.run_rules.specs.Work.{Outcome}
use Rattle.run_texts.specs.Courses.{Passed, Reset, Follows, IsCut, IsReset, IsLeft, behind_cut, behind_the_reset}
use Rattle.run_texts.specs.Courses.Passed.{a_line, a_broken, a_cut, a_reset}
use Rattle.run_texts.specs.Epochs.{CutsHaveLines, TakesCourse}
use Rattle.run_texts.specs.Points.{Point, IsPassed, IsBroken, BecomesLocked, behind_line, behind_broken}
use Rattle.run_texts.specs.Sent.{Sent, waiting_in, has_reset, behind_reset}
use Rattle.run_texts.specs.Sent.Sent.{a_text, a_stop}

has_on : (sent more : List Sent) → has_reset sent ≡ true → has_reset (sent ++ more) ≡ true
has_on [] more e = absurd cc
has_on (a_text line ∷ sent) more e = has_on sent more e
has_on (a_stop ∷ sent) more e = refl

pub waiting_on : (sent more : List Sent) → has_reset sent ≡ true → waiting_in (sent ++ more) ≡ waiting_in sent
waiting_on [] more e = absurd cc
waiting_on (a_text line ∷ sent) more e = ap (λ (ls : List (List ℕ)). line ∷ ls) (waiting_on sent more e)
waiting_on (a_stop ∷ sent) more e = refl

pub behind_on : (sent more : List Sent) → has_reset sent ≡ true → behind_reset (sent ++ more) ≡ behind_reset sent ++ more
behind_on [] more e = absurd cc
behind_on (a_text line ∷ sent) more e = behind_on sent more e
behind_on (a_stop ∷ sent) more e = refl

pub reset_on : (p : Point) (sent more : List Sent) (r : Reset) → IsReset p sent r → IsReset p (sent ++ more) r
reset_on p sent more r is =
    let same = waiting_on sent more is.comes in
    record {
      free = is.free;
      comes = has_on sent more is.comes;
      number = is.number;
      dropped = is.dropped ∙ ap length (sym same);
      cause = is.cause;
      locked = is.locked;
    }

nothing_left : (p : Point) (sent : List Sent) → p.before.alarmed ≡ false → IsLeft p sent → sent ≡ []
nothing_left p sent free left = go p.before.alarmed free left.rest where
  go : (alarmed : Bool) → alarmed ≡ false → either alarmed (behind_reset sent ≡ []) (sent ≡ []) → sent ≡ []
  go true free left = absurd cc
  go false free left = left

-- a course that has come to a point goes on by one from there
pub together : (p between last : Point) (sent more : List Sent) (ps qs : List Passed) → between.before.alarmed ≡ false
    → Follows p sent ps between → Follows between more qs last → Follows p (sent ++ more) (ps ++ qs) last
together p between last sent more [] qs free f g =
    let free_here : p.before.alarmed ≡ false = sym (ap (λ (x : Point). x.before.alarmed) f.0) ∙ free in
    let none : sent ≡ [] = nothing_left p sent free_here f.1 in
    subst (λ (ss : List Sent). Follows p (ss ++ more) qs last) (sym none) (subst (λ (x : Point). Follows x more qs last) f.0 g)
together p between last sent more (a_cut k at ∷ ps) qs free f g = (f.0, together (behind_cut at p) between last sent more ps qs free f.1 g)
together p between last sent more (a_reset r ∷ ps) qs free f g = (
  reset_on p sent more r f.0,
  subst (λ (ss : List Sent). Follows (behind_the_reset r p) ss (ps ++ qs) last) (sym (behind_on sent more f.0.comes)) (together (behind_the_reset r p) between last (behind_reset sent) more ps qs free f.1 g),
)
together p between last [] more (a_line o ∷ ps) qs free f g = absurd f
together p between last (a_stop ∷ sent) more (a_line o ∷ ps) qs free f g = absurd f
together p between last (a_text line ∷ sent) more (a_line o ∷ ps) qs free f g = (f.0, together (behind_line p line o) between last sent more ps qs free f.1 g)
together p between last [] more (a_broken o ∷ ps) qs free f g = absurd f
together p between last (a_stop ∷ sent) more (a_broken o ∷ ps) qs free f g = absurd f
together p between last (a_text line ∷ sent) more (a_broken o ∷ ps) qs free f g = (f.0, together (behind_broken p o) between last sent more ps qs free f.1 g)

-- a course leads to a point where all that was begun is answered
idle_there : (p last : Point) (sent : List Sent) (ps : List Passed) → Follows p sent ps last → last.unanswered ≡ false
idle_there p last sent [] f = ap (λ (x : Point). x.unanswered) f.0 ∙ f.1.answered
idle_there p last sent (a_cut k at ∷ ps) f = idle_there (behind_cut at p) last sent ps f.1
idle_there p last sent (a_reset r ∷ ps) f = idle_there (behind_the_reset r p) last (behind_reset sent) ps f.1
idle_there p last [] (a_line o ∷ ps) f = absurd f
idle_there p last (a_stop ∷ sent) (a_line o ∷ ps) f = absurd f
idle_there p last (a_text line ∷ sent) (a_line o ∷ ps) f = idle_there (behind_line p line o) last sent ps f.1
idle_there p last [] (a_broken o ∷ ps) f = absurd f
idle_there p last (a_stop ∷ sent) (a_broken o ∷ ps) f = absurd f
idle_there p last (a_text line ∷ sent) (a_broken o ∷ ps) f = idle_there (behind_broken p o) last sent ps f.1

pub still_left : (p : Point) → p.unanswered ≡ false → IsLeft p []
still_left p answered = record { answered = answered; rest = go p.before.alarmed } where
  go : (alarmed : Bool) → either alarmed (behind_reset [] ≡ []) (◌≡◌ {A = List Sent} [] [])
  go true = refl
  go false = refl

pub by_line : (p last : Point) (sent : List Sent) (ps : List Passed) (line : List ℕ) (o : Outcome) → Follows p sent ps last → IsPassed last line o
    → Follows p (sent ++ a_text line ∷ []) (ps ++ a_line o ∷ []) (behind_line last line o)
by_line p last sent ps line o f is = together p last (behind_line last line o) sent (a_text line ∷ []) ps (a_line o ∷ []) is.free f (is, (refl, still_left (behind_line last line o) refl))

pub by_cut : (p last : Point) (sent : List Sent) (ps : List Passed) (k : ℕ) (at : Steps3) → Follows p sent ps last → IsCut last k → Follows p sent (ps ++ a_cut k at ∷ []) (behind_cut at last)
by_cut p last sent ps k at f is =
    subst (λ (ss : List Sent). Follows p ss (ps ++ a_cut k at ∷ []) (behind_cut at last)) (append-nil sent) (together p last (behind_cut at last) sent [] ps (a_cut k at ∷ []) is.free f (is, (refl, still_left (behind_cut at last) (idle_there p last sent ps f))))

behind_all : (lines : List (List ℕ)) → behind_reset (map a_text lines ++ a_stop ∷ []) ≡ []
behind_all [] = refl
behind_all (line ∷ lines) = behind_all lines

ends_there : (q : Point) (lines : List (List ℕ)) → q.unanswered ≡ false → q.before.alarmed ≡ false → Follows q (behind_reset (map a_text lines ++ a_stop ∷ [])) [] q
ends_there q lines answered free = subst (λ (ss : List Sent). Follows q ss [] q) (sym (behind_all lines)) (refl, still_left q answered)

pub by_reset : (p last : Point) (sent : List Sent) (ps : List Passed) (lines : List (List ℕ)) (r : Reset) → Follows p sent ps last → IsReset last (map a_text lines ++ a_stop ∷ []) r
    → Follows p (sent ++ (map a_text lines ++ a_stop ∷ [])) (ps ++ a_reset r ∷ []) (behind_the_reset r last)
by_reset p last sent ps lines r f is =
    together p last (behind_the_reset r last) sent (map a_text lines ++ a_stop ∷ []) ps (a_reset r ∷ []) is.free f (is, ends_there (behind_the_reset r last) lines refl refl)

pub by_broken : (p last : Point) (sent : List Sent) (ps : List Passed) (line : List ℕ) (o : Outcome) (lines : List (List ℕ)) (r : Reset) → Follows p sent ps last → IsBroken last line o
    → IsReset (behind_broken last o) (map a_text lines ++ a_stop ∷ []) r
    → Follows p (sent ++ a_text line ∷ (map a_text lines ++ a_stop ∷ [])) (ps ++ a_broken o ∷ a_reset r ∷ []) (behind_the_reset r (behind_broken last o))
by_broken p last sent ps line o lines r f breaks is =
    let q = behind_the_reset r (behind_broken last o) in
    together p last q sent (a_text line ∷ (map a_text lines ++ a_stop ∷ [])) ps (a_broken o ∷ a_reset r ∷ []) breaks.free f (breaks, (is, ends_there q lines refl refl))

-- ---- one epoch

free_passed : (p : Point) (line : List ℕ) (o : Outcome) → p.locked ≡ false → p.unanswered ≡ false → IsBegun true p.before line o → IsPassed p line o
free_passed p line o calm answered is = record { free = is.free; answered = answered; becomes = go p.locked calm } where
  go : (locked : Bool) → locked ≡ false → either locked (BecomesLocked p.before line o) (Becomes true p.before line o)
  go true e = absurd cc
  go false e = is.becomes

both_false : (a b : Bool) → a ≡ false → (a && b) ≡ false
both_false true b e = absurd cc
both_false false b e = refl

-- lines and cuts that follow by the rules take a course
pub one_epoch : (p : Point) (last : Before) (lines : List (List ℕ)) (ps : List RulesPassed) → p.locked ≡ false → p.unanswered ≡ false → CutsHaveLines p.has_line ps
    → RulesFollow true p.before lines ps last → TakesCourse p lines ps last
one_epoch p last [] [] calm answered some f = record { point = p; follows = (refl, still_left p answered); before = sym f; calm = calm }
one_epoch p last (line ∷ lines) [] calm answered some f = absurd f
one_epoch p last [] (line_passed o ∷ ps) calm answered some f = absurd f
one_epoch p last (line ∷ lines) (line_passed o ∷ ps) calm answered some f =
    let q = behind_line p line o in
    let rest = one_epoch q last lines ps (both_false p.locked _ calm) refl some f.1 in
    record { point = rest.point; follows = (free_passed p line o calm answered f.0, rest.follows); before = rest.before; calm = rest.calm }
one_epoch p last lines (cut_passed k at ∷ ps) calm answered some f =
    let rest = one_epoch (behind_cut at p) last lines ps calm answered some.1 f.1 in
    record { point = rest.point; follows = (record { free = f.0.free; number = f.0.number; has_line = some.0 }, rest.follows); before = rest.before; calm = rest.calm }
