-- The numbers of the cuts and resets of a course are no more than the lines of its job.
use Rattle.std.proofs.Common.{◌≡◌, ℕ, zero, suc, refl, ◌+◌, ◌≤◌, ◌<◌, List, [], ◌∷◌, ◌++◌, length, replicate, arith}
use Rattle.std.specs.List.{AllByRecursion, flat_map}
use Rattle.run_rules.specs.Work.{Outcome}
use Rattle.run_texts.specs.Courses.{Passed, Follows, behind_cut, behind_the_reset}
use Rattle.run_texts.specs.Courses.Passed.{a_line, a_broken, a_cut, a_reset}
use Rattle.run_texts.specs.Parts.{Ending, Part, parts_of, onto_first, begun_first}
use Rattle.run_texts.specs.Parts.Ending.{by_cut, by_reset, by_end}
use Rattle.run_texts.specs.Points.{Point, behind_line, behind_broken}
use Rattle.run_texts.specs.Sent.{Sent, sent_by, sent_of, waiting_in, behind_reset, resets_of, kept_of}
use Rattle.run_texts.specs.Sent.Sent.{a_text, a_stop}

-- a part ends with a number below this
abbrev pub EndsBelow : ℕ → Ending → Type 0
EndsBelow n (by_cut k at) = k < n
EndsBelow n (by_reset r) = r.number < n
EndsBelow n by_end = Unit {0}

abbrev pub AreBelow : ℕ → List Part → Type 0
AreBelow n ps = AllByRecursion (λ p. EndsBelow n p.ending) ps

-- how many lines come
abbrev pub texts_among : List Sent → ℕ
texts_among [] = 0
texts_among (a_text line ∷ more) = texts_among more + 1
texts_among (a_stop ∷ more) = texts_among more

texts_on : (xs ys : List Sent) → texts_among (xs ++ ys) ≡ texts_among xs + texts_among ys
texts_on [] ys = omega arith
texts_on (a_text line ∷ xs) ys = let on = texts_on xs ys in omega (arith, on)
texts_on (a_stop ∷ xs) ys = texts_on xs ys

stops_alone : (n : ℕ) → texts_among (replicate n a_stop) ≡ 0
stops_alone zero = refl
stops_alone (suc n) = stops_alone n

one_text : (line : List ℕ) → texts_among (sent_by line) ≡ 1
one_text line =
    let on = texts_on (replicate (resets_of line) a_stop) (a_text (kept_of line) ∷ []) in
    let none = stops_alone (resets_of line) in
    omega (arith, on, none)

texts_of_lines : (lines : List (List ℕ)) → texts_among (flat_map sent_by lines) ≡ length lines
texts_of_lines [] = refl
texts_of_lines (line ∷ lines) =
    let on = texts_on (sent_by line) (flat_map sent_by lines) in
    let one = one_text line in
    let more = texts_of_lines lines in
    omega (arith, on, one, more)

pub texts_sent : (lines : List (List ℕ)) (rest : List ℕ) → texts_among (sent_of lines rest) ≡ length lines
texts_sent lines rest =
    let on = texts_on (flat_map sent_by lines) (replicate (resets_of rest) a_stop) in
    let all = texts_of_lines lines in
    let none = stops_alone (resets_of rest) in
    omega (arith, on, all, none)

pub texts_behind : (sent : List Sent) → length (waiting_in sent) + texts_among (behind_reset sent) ≤ texts_among sent
texts_behind [] = omega arith
texts_behind (a_text line ∷ more) = let on = texts_behind more in omega (arith, on)
texts_behind (a_stop ∷ more) = omega arith

onto_below : (n : ℕ) (o : Outcome) (ps : List Part) → AreBelow n ps → AreBelow n (onto_first o ps)
onto_below n o [] below = tt
onto_below n o (p ∷ ps) below = below

begun_below : (n : ℕ) (o : Outcome) (ps : List Part) → AreBelow n ps → AreBelow n (begun_first o ps)
begun_below n o [] below = tt
begun_below n o (p ∷ ps) below = below

parts_below : (n : ℕ) (p : Point) (sent : List Sent) (course : List Passed) (last : Point) → p.before.number + texts_among sent ≤ n → Follows p sent course last → AreBelow n (parts_of course)
parts_below n p sent [] last few follows = (tt, tt)
parts_below n p sent (a_cut k at ∷ ps) last few follows =
    let number = follows.0.number in
    (omega (arith, number, few), parts_below n (behind_cut at p) sent ps last few follows.1)
parts_below n p sent (a_reset r ∷ ps) last few follows =
    let number = follows.0.number in
    let dropped = follows.0.dropped in
    let behind = texts_behind sent in
    (omega (arith, number, few), parts_below n (behind_the_reset r p) (behind_reset sent) ps last (omega (arith, number, few, dropped, behind)) follows.1)
parts_below n p [] (a_line o ∷ ps) last few follows = absurd follows
parts_below n p (a_stop ∷ sent) (a_line o ∷ ps) last few follows = absurd follows
parts_below n p (a_text line ∷ sent) (a_line o ∷ ps) last few follows =
    onto_below n o (parts_of ps) (parts_below n (behind_line p line o) sent ps last (omega (arith, few)) follows.1)
parts_below n p [] (a_broken o ∷ ps) last few follows = absurd follows
parts_below n p (a_stop ∷ sent) (a_broken o ∷ ps) last few follows = absurd follows
parts_below n p (a_text line ∷ sent) (a_broken o ∷ ps) last few follows =
    begun_below n o (parts_of ps) (parts_below n (behind_broken p o) sent ps last (omega (arith, few)) follows.1)

-- of a job of these lines, from the first line on
pub numbers_below : (n : ℕ) (p : Point) (lines : List (List ℕ)) (rest : List ℕ) (course : List Passed) (last : Point) → p.before.number + length lines ≤ n → Follows p (sent_of lines rest) course last → AreBelow n (parts_of course)
numbers_below n p lines rest course last few follows =
    let all = texts_sent lines rest in
    parts_below n p (sent_of lines rest) course last (omega (arith, few, all)) follows
