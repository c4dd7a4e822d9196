-- Two courses of one job that one console tells: one goes on behind the other, or with lines that the other does not have.
use Rattle.std.proofs.Common.{◌≡◌, ℕ, ◌+◌, ◌≤◌, List, [], ◌∷◌, ◌++◌, true, Bool, ◌||◌, append-nil, sym, refl, ap, ◌∙◌, subst, arith}
use Rattle.units.specs.declared.Steps3.{Steps3}
use Rattle.status_report.specs.declared.Reply.{Reply}
use Rattle.run_rules.specs.Work.{Outcome, tells}
use Rattle.run_texts.specs.Courses.{Passed, Reset, IsReset, behind_cut, behind_the_reset}
use Rattle.run_texts.specs.Courses.Passed.{a_line, a_broken, a_cut, a_reset}
use Rattle.run_texts.specs.Points.{Point, BecomesAt, behind_line, behind_broken}
use Rattle.run_texts.specs.Sent.{Sent, behind_reset}
use Rattle.run_texts.specs.Sent.Sent.{a_text, a_stop}
use Rattle.run_texts.specs.SoFar.{LeadsTo}
use Rattle.run_texts.specs.Told.{told_at_reset, told_in}
use Rattle.run_texts.proofs.Errors.{begun_one}
use Rattle.run_texts.proofs.Stops.{Stop, stops_of}
use Rattle.run_texts.proofs.Stops.Stop.{cut_at, reset_at}
use Rattle.audit_rules.specs.Consoles.{GoesOnAnew}
use Rattle.audit_rules.specs.Standing.{MayWait}
use Rattle.audit_rules.proofs.BehindText.{BothTold, turned, behind_all, anew_alone, same_outcome, same_alarm}
use Rattle.audit_rules.proofs.OneWay.{stop_number}
use Rattle.audit_rules.proofs.Stands.{goes_on_anew, waits_before}

-- the place of a cut or a reset
abbrev stop_place : Stop → Steps3
stop_place (cut_at k at) = at
stop_place (reset_at k at) = at

-- ---- lines that the other course does not have

-- The next cut or reset of one course has come before lines that another one has passed, which leads to a point.
pub record IsPassedBy (s : Stop) (others more : List Stop) (last : Point) : Type 0 where
  pub next : s ∷ others ≡ more
  pub number : stop_number s + 2 ≤ last.before.number

too_late : {A : Type 0} (s first : Stop) (others rest : List Stop) (n : ℕ) → s ∷ others ≡ first ∷ rest → n ≡ stop_number first + 1 → stop_number s + 2 ≤ n → A
too_late s first others rest n e number late =
    let same : s ≡ first = cc in
    let numbers : stop_number s ≡ stop_number first = ap stop_number same in
    absurd (omega (arith, numbers, number, late))

-- a course that has passed the number of a cut or a reset does not have it
pub ahead : (p last : Point) (sent left : List Sent) (ps : List Passed) (s : Stop) (others more : List Stop) → LeadsTo p sent ps last left → s ∷ others ≡ stops_of ps ++ more → stop_number s + 2 ≤ p.before.number → IsPassedBy s others more last
ahead p last sent left [] s others more f e late = record { next = e; number = subst (λ (x : Point). stop_number s + 2 ≤ x.before.number) (sym f.0) late }
ahead p last sent left (a_cut k at ∷ ps) s others more f e late = too_late s (cut_at k at) others (stops_of ps ++ more) p.before.number e f.0.number late
ahead p last sent left (a_reset r ∷ ps) s others more f e late = too_late s (reset_at r.number r.at) others (stops_of ps ++ more) p.before.number e (sym f.0.number) late
ahead p last [] left (a_line o ∷ ps) s others more f e late = absurd f
ahead p last (a_stop ∷ sent) left (a_line o ∷ ps) s others more f e late = absurd f
ahead p last (a_text line ∷ sent) left (a_line o ∷ ps) s others more f e late =
    let on : stop_number s + 2 ≤ p.before.number + 1 = omega (arith, late) in
    ahead (behind_line p line o) last sent left ps s others more f.1 e on
ahead p last [] left (a_broken o ∷ ps) s others more f e late = absurd f
ahead p last (a_stop ∷ sent) left (a_broken o ∷ ps) s others more f e late = absurd f
ahead p last (a_text line ∷ sent) left (a_broken o ∷ ps) s others more f e late =
    let on : stop_number s + 2 ≤ p.before.number + 1 = omega (arith, late) in
    ahead (behind_broken p o) last sent left ps s others more f.1 e on

pub line_ahead : (p last : Point) (sent left : List Sent) (o : Outcome) (ps : List Passed) (s : Stop) (others more : List Stop) → LeadsTo p sent (a_line o ∷ ps) last left → s ∷ others ≡ stops_of ps ++ more → p.before.number ≡ stop_number s + 1
    → IsPassedBy s others more last
line_ahead p last [] left o ps s others more f e number = absurd f
line_ahead p last (a_stop ∷ sent) left o ps s others more f e number = absurd f
line_ahead p last (a_text line ∷ sent) left o ps s others more f e number =
    let on : stop_number s + 2 ≤ p.before.number + 1 = omega (arith, number) in
    ahead (behind_line p line o) last sent left ps s others more f.1 e on

pub broken_ahead : (p last : Point) (sent left : List Sent) (o : Outcome) (ps : List Passed) (s : Stop) (others more : List Stop) → LeadsTo p sent (a_broken o ∷ ps) last left → s ∷ others ≡ stops_of ps ++ more → p.before.number ≡ stop_number s + 1
    → IsPassedBy s others more last
broken_ahead p last [] left o ps s others more f e number = absurd f
broken_ahead p last (a_stop ∷ sent) left o ps s others more f e number = absurd f
broken_ahead p last (a_text line ∷ sent) left o ps s others more f e number =
    let on : stop_number s + 2 ≤ p.before.number + 1 = omega (arith, number) in
    ahead (behind_broken p o) last sent left ps s others more f.1 e on

-- so a course that begins with a line has no cut and no reset that could come before it
pub nothing_passed : {A : Type 0} (s : Stop) (others : List Stop) (last : Point) → IsPassedBy s others [] last → A
nothing_passed s others last is = absurd (let e = is.next in cc)

-- ---- how two courses compare

-- One course leads to a point. The other, which has these cuts and resets more, goes on behind it; or it is the other with
-- lines more; or it has passed lines where the other has its next cut or reset.
pub data Compared (ps qs : List Passed) (last : Point) (more : List Stop) : Type 0 where
  further : (os : List Passed) → qs ≡ ps ++ os → Compared ps qs last more
  behind : (os : List Passed) → stops_of os ≡ [] → ps ≡ qs ++ os → Compared ps qs last more
  passed_by : (s : Stop) (others : List Stop) → more ≡ s ∷ others → stop_number s + 2 ≤ last.before.number → Compared ps qs last more

onto : (z : Passed) (ps qs : List Passed) (last : Point) (more : List Stop) → Compared ps qs last more → Compared (z ∷ ps) (z ∷ qs) last more
onto z ps qs last more (further os e) = further os (ap (λ (xs : List Passed). z ∷ xs) e)
onto z ps qs last more (behind os none e) = behind os none (ap (λ (xs : List Passed). z ∷ xs) e)
onto z ps qs last more (passed_by s others e number) = passed_by s others e number

onto_same : (z v : Passed) (ps qs : List Passed) (last : Point) (more : List Stop) → z ≡ v → Compared ps qs last more → Compared (z ∷ ps) (v ∷ qs) last more
onto_same z v ps qs last more e c = subst (λ (x : Passed). Compared (z ∷ ps) (x ∷ qs) last more) e (onto z ps qs last more c)

by_passing : (ps qs : List Passed) (last : Point) (s : Stop) (others more : List Stop) → IsPassedBy s others more last → Compared ps qs last more
by_passing ps qs last s others more is = passed_by s others (sym is.next) is.number

none_first : (xs ys : List Stop) → [] ≡ xs ++ ys → xs ≡ []
none_first [] ys e = refl
none_first (x ∷ xs) ys e = absurd cc

pub with_none : (s : Stop) (others xs : List Stop) → xs ≡ s ∷ others → s ∷ others ≡ xs ++ []
with_none s others xs e = sym e ∙ sym (append-nil xs)

-- ---- resets

-- two resets with one number, of one place, that are told alike
one_reset : (p : Point) (sent : List Sent) (r u : Reset) (us vs : List Reply) (x y : List ℕ) → IsReset p sent r → IsReset p sent u → r.number ≡ u.number → r.at ≡ u.at → BothTold (told_at_reset r ++ us) (told_at_reset u ++ vs) x y → r ≡ u
one_reset p sent r u us vs x y a b number at told =
    let dropped : r.dropped ≡ u.dropped = a.dropped ∙ sym b.dropped in
    let alarm : r.alarm ≡ u.alarm = same_alarm r.alarm u.alarm _ _ us vs x y told in
    let locked : r.locked ≡ u.locked = a.locked ∙ ap (λ (c : Bool). c || p.locked) alarm ∙ sym b.locked in
    ap (λ n. record r { number = n }) number
    ∙ ap (λ n. record r { number = u.number; dropped = n }) dropped
    ∙ ap (λ c. record u { alarm = c; locked = r.locked; at = r.at }) alarm
    ∙ ap (λ c. record u { locked = c; at = r.at }) locked
    ∙ ap (λ place. record u { at = place }) at

same_first : (s t : Stop) (xs ys : List Stop) → ◌≡◌ {A = List Stop} (s ∷ xs) (t ∷ ys) → (s ≡ t) × (xs ≡ ys)
same_first s t xs ys e =
    let first : s ≡ t = cc in
    let rest : xs ≡ ys = cc in
    (first, rest)

-- ---- a line that is answered in one course, and waits in the other

waits_alone : {A : Type 0} (p last : Point) (line : List ℕ) (sent left : List Sent) (o u : Outcome) (us : List Reply) (qs : List Passed) (x y : List ℕ) → BecomesAt true p line o → LeadsTo (behind_broken p u) sent qs last left
    → BothTold (tells o.work ++ us) (told_in qs) x y → MayWait last left y → A
waits_alone p last line sent left o u us qs x y is f told waits =
    let w = waits_before (behind_broken p u) last sent left qs told.other y f told.other_is told.other_may waits refl in
    anew_alone p line o us told.one x is told.one_is told.one_may (subst GoesOnAnew (sym told.text) (goes_on_anew (behind_broken p u) sent _ w))

-- ---- two courses

pub compare : (p last end : Point) (sent left gone : List Sent) (ps qs : List Passed) (more : List Stop) (x y : List ℕ) → LeadsTo p sent ps last left → LeadsTo p sent qs end gone → stops_of qs ≡ stops_of ps ++ more
    → BothTold (told_in ps) (told_in qs) x y → MayWait last left x → MayWait end gone y → Compared ps qs last more
compare p last end sent left gone [] qs more x y e f stops told wait_x wait_y = further qs refl
compare p last end sent left gone (z ∷ ps) [] more x y e f stops told wait_x wait_y = behind (z ∷ ps) (none_first (stops_of (z ∷ ps)) more stops) refl
compare p last end sent left gone (a_cut k at ∷ ps) (a_cut j there ∷ qs) more x y e f stops told wait_x wait_y =
    let same = same_first (cut_at j there) (cut_at k at) (stops_of qs) (stops_of ps ++ more) stops in
    let number : k ≡ j = sym (ap stop_number same.0) in
    let place : at ≡ there = sym (ap stop_place same.0) in
    onto_same (a_cut k at) (a_cut j there) ps qs last more (ap (λ (n : ℕ). a_cut n at) number ∙ ap (a_cut j) place)
    (compare (behind_cut at p) last end sent left gone ps qs more x y e.1 (subst (λ (a : Steps3). LeadsTo (behind_cut a p) sent qs end gone) (sym place) f.1) same.1 told wait_x wait_y)
compare p last end sent left gone (a_cut k at ∷ ps) (a_reset r ∷ qs) more x y e f stops told wait_x wait_y = absurd cc
compare p last end sent left gone (a_reset r ∷ ps) (a_cut k at ∷ qs) more x y e f stops told wait_x wait_y = absurd cc
compare p last end sent left gone (a_reset r ∷ ps) (a_reset u ∷ qs) more x y e f stops told wait_x wait_y =
    let firsts = same_first (reset_at u.number u.at) (reset_at r.number r.at) (stops_of qs) (stops_of ps ++ more) stops in
    let number : r.number ≡ u.number = sym (ap stop_number firsts.0) in
    let place : r.at ≡ u.at = sym (ap stop_place firsts.0) in
    let same : r ≡ u = one_reset p sent r u (told_in ps) (told_in qs) x y e.0 f.0 number place told in
    let on : BothTold (told_in ps) (told_in qs) x y =
    behind_all (told_at_reset r) (told_in ps) (told_in qs) x y (subst (λ (w : Reset). BothTold (told_at_reset r ++ told_in ps) (told_at_reset w ++ told_in qs) x y) (sym same) told) in
    onto_same (a_reset r) (a_reset u) ps qs last more (ap a_reset same)
    (compare (behind_the_reset r p) last end (behind_reset sent) left gone ps qs more x y e.1 (subst (λ (w : Reset). LeadsTo (behind_the_reset w p) (behind_reset sent) qs end gone) (sym same) f.1) firsts.1 on wait_x wait_y)
compare p last end sent left gone (a_cut k at ∷ ps) (a_line u ∷ qs) more x y e f stops told wait_x wait_y =
    nothing_passed (cut_at k at) (stops_of ps ++ more) end (line_ahead p end sent gone u qs (cut_at k at) (stops_of ps ++ more) [] f (with_none (cut_at k at) (stops_of ps ++ more) (stops_of qs) stops) e.0.number)
compare p last end sent left gone (a_cut k at ∷ ps) (a_broken u ∷ qs) more x y e f stops told wait_x wait_y =
    nothing_passed (cut_at k at) (stops_of ps ++ more) end (broken_ahead p end sent gone u qs (cut_at k at) (stops_of ps ++ more) [] f (with_none (cut_at k at) (stops_of ps ++ more) (stops_of qs) stops) e.0.number)
compare p last end sent left gone (a_reset r ∷ ps) (a_line u ∷ qs) more x y e f stops told wait_x wait_y =
    nothing_passed (reset_at r.number r.at) (stops_of ps ++ more) end
    (line_ahead p end sent gone u qs (reset_at r.number r.at) (stops_of ps ++ more) [] f (with_none (reset_at r.number r.at) (stops_of ps ++ more) (stops_of qs) stops) (sym e.0.number))
compare p last end sent left gone (a_reset r ∷ ps) (a_broken u ∷ qs) more x y e f stops told wait_x wait_y =
    nothing_passed (reset_at r.number r.at) (stops_of ps ++ more) end
    (broken_ahead p end sent gone u qs (reset_at r.number r.at) (stops_of ps ++ more) [] f (with_none (reset_at r.number r.at) (stops_of ps ++ more) (stops_of qs) stops) (sym e.0.number))
compare p last end sent left gone (a_line o ∷ ps) (a_cut k at ∷ qs) more x y e f stops told wait_x wait_y =
    by_passing (a_line o ∷ ps) (a_cut k at ∷ qs) last (cut_at k at) (stops_of qs) more (line_ahead p last sent left o ps (cut_at k at) (stops_of qs) more e stops f.0.number)
compare p last end sent left gone (a_line o ∷ ps) (a_reset u ∷ qs) more x y e f stops told wait_x wait_y =
    by_passing (a_line o ∷ ps) (a_reset u ∷ qs) last (reset_at u.number u.at) (stops_of qs) more (line_ahead p last sent left o ps (reset_at u.number u.at) (stops_of qs) more e stops (sym f.0.number))
compare p last end sent left gone (a_broken o ∷ ps) (a_cut k at ∷ qs) more x y e f stops told wait_x wait_y =
    by_passing (a_broken o ∷ ps) (a_cut k at ∷ qs) last (cut_at k at) (stops_of qs) more (broken_ahead p last sent left o ps (cut_at k at) (stops_of qs) more e stops f.0.number)
compare p last end sent left gone (a_broken o ∷ ps) (a_reset u ∷ qs) more x y e f stops told wait_x wait_y =
    by_passing (a_broken o ∷ ps) (a_reset u ∷ qs) last (reset_at u.number u.at) (stops_of qs) more (broken_ahead p last sent left o ps (reset_at u.number u.at) (stops_of qs) more e stops (sym f.0.number))
compare p last end [] left gone (a_line o ∷ ps) (a_line u ∷ qs) more x y e f stops told wait_x wait_y = absurd e
compare p last end (a_stop ∷ sent) left gone (a_line o ∷ ps) (a_line u ∷ qs) more x y e f stops told wait_x wait_y = absurd e
compare p last end [] left gone (a_line o ∷ ps) (a_broken u ∷ qs) more x y e f stops told wait_x wait_y = absurd e
compare p last end (a_stop ∷ sent) left gone (a_line o ∷ ps) (a_broken u ∷ qs) more x y e f stops told wait_x wait_y = absurd e
compare p last end [] left gone (a_broken o ∷ ps) (a_line u ∷ qs) more x y e f stops told wait_x wait_y = absurd e
compare p last end (a_stop ∷ sent) left gone (a_broken o ∷ ps) (a_line u ∷ qs) more x y e f stops told wait_x wait_y = absurd e
compare p last end [] left gone (a_broken o ∷ ps) (a_broken u ∷ qs) more x y e f stops told wait_x wait_y = absurd e
compare p last end (a_stop ∷ sent) left gone (a_broken o ∷ ps) (a_broken u ∷ qs) more x y e f stops told wait_x wait_y = absurd e
compare p last end (a_text line ∷ sent) left gone (a_line o ∷ ps) (a_line u ∷ qs) more x y e f stops told wait_x wait_y =
    let same : o ≡ u = same_outcome p line o u (told_in ps) (told_in qs) x y e.0.becomes f.0.becomes told in
    let on : BothTold (told_in ps) (told_in qs) x y =
    behind_all (tells o.work) (told_in ps) (told_in qs) x y (subst (λ (w : Outcome). BothTold (tells o.work ++ told_in ps) (tells w.work ++ told_in qs) x y) (sym same) told) in
    onto_same (a_line o) (a_line u) ps qs last more (ap a_line same)
    (compare (behind_line p line o) last end sent left gone ps qs more x y e.1 (subst (λ (w : Outcome). LeadsTo (behind_line p line w) sent qs end gone) (sym same) f.1) stops on wait_x wait_y)
compare p last end (a_text line ∷ sent) left gone (a_line o ∷ ps) (a_broken u ∷ qs) more x y e f stops told wait_x wait_y =
    waits_alone p end line sent gone o u (told_in ps) qs x y e.0.becomes f.1 told wait_y
compare p last end (a_text line ∷ sent) left gone (a_broken o ∷ ps) (a_line u ∷ qs) more x y e f stops told wait_x wait_y =
    waits_alone p last line sent left u o (told_in qs) ps y x f.0.becomes e.1 (turned (told_in ps) (tells u.work ++ told_in qs) x y told) wait_x
compare p last end (a_text line ∷ sent) left gone (a_broken o ∷ ps) (a_broken u ∷ qs) more x y e f stops told wait_x wait_y =
    let same : o ≡ u = begun_one p line o u e.0.becomes f.0.becomes in
    onto_same (a_broken o) (a_broken u) ps qs last more (ap a_broken same)
    (compare (behind_broken p o) last end sent left gone ps qs more x y e.1 (subst (λ (w : Outcome). LeadsTo (behind_broken p w) sent qs end gone) (sym same) f.1) stops told wait_x wait_y)
