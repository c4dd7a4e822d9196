-- Fronts of the lines that were begun; and a report that fits a run still fits it when more was done.
use Rattle.std.proofs.Common.{◌≡◌, ℕ, zero, suc, ◌+◌, ◌≤◌, ◌<◌, ◌⊎◌, inl, inr, List, [], ◌∷◌, ◌++◌, length, take, drop, min, Bool, true, false, cond, ◌||◌, refl, sym, ap, ◌∙◌, arith, subst, length-append}
use Rattle.std.specs.List.{list_any, sum}
use Rattle.std.proofs.lemmas.List.{take-append-le, take_all, drop-append-le, length-take, length-take-le}
use Rattle.std.proofs.lemmas.Bool.{or_left}
use Rattle.std.proofs.lemmas.List.Folds.{list_any-append}
use Rattle.line_words.proofs.Tests.{or_false}
use Rattle.flight.specs.Places.{moved_by}
use Rattle.status_report.specs.Answering.{answers_in}
use Rattle.status_report.specs.declared.Reply.{Reply}
use Rattle.status_report.specs.declared.Reply.TheVariants as replies
use Rattle.status_report.specs.declared.reports.Report.{Report}
use Rattle.step_line.specs.declared.Record.{Record}
use Rattle.units.specs.declared.Steps3.{Steps3}
use Rattle.run_rules.specs.declared.State.{State}
use Rattle.run_rules.specs.Work.{Outcome}
use Rattle.board_rules.proofs.Counting.{sum_on}
use Rattle.run_rules.specs.Reports.{settles, settled_to, moves, has_pause, raises_alarm, state_behind, fewest, most, may_move, place_at, Shows, Course, MayAlarm, IsAhead, FitsReport, Reported}

-- ---- lines that settle

any_last : (os : List Outcome) (o : Outcome) → o.settles ≡ true → list_any settles (os ++ o ∷ []) ≡ true
any_last [] o is = ap (λ (b : Bool). b || false) is
any_last (p ∷ os) o is = by_first p.settles (any_last os o is)
  where
    by_first : (b : Bool) → list_any settles (os ++ o ∷ []) ≡ true → (b || list_any settles (os ++ o ∷ [])) ≡ true
    by_first true e = refl
    by_first false e = e

pub settled_last : (os : List Outcome) (o : Outcome) → o.settles ≡ true → settled_to (os ++ o ∷ []) ≡ length (os ++ o ∷ [])
settled_last [] o is = ap (λ (b : Bool). cond (b || false) 1 0) is
settled_last (p ∷ os) o is =
    ap (λ (b : Bool). cond b (settled_to (os ++ o ∷ []) + 1) 0) (any_last (p ∷ os) o is)
    ∙ (let e = settled_last os o is in omega (arith, e))

any_other : (os : List Outcome) (o : Outcome) → o.settles ≡ false → list_any settles (os ++ o ∷ []) ≡ list_any settles os
any_other [] o is = ap (λ (b : Bool). b || false) is
any_other (p ∷ os) o is = ap (λ (b : Bool). p.settles || b) (any_other os o is)

pub settled_other : (os : List Outcome) (o : Outcome) → o.settles ≡ false → settled_to (os ++ o ∷ []) ≡ settled_to os
settled_other [] o is = ap (λ (b : Bool). cond (b || false) 1 0) is
settled_other (p ∷ os) o is =
    ap (λ (b : Bool). cond b (settled_to (os ++ o ∷ []) + 1) 0) (any_other (p ∷ os) o is)
    ∙ ap (λ (n : ℕ). cond (list_any settles (p ∷ os)) (n + 1) 0) (settled_other os o is)

pub settled_below : (os : List Outcome) → settled_to os ≤ length os
settled_below [] = omega arith
settled_below (o ∷ os) = by_any (list_any settles (o ∷ os)) (settled_below os)
  where
    by_any : (b : Bool) → settled_to os ≤ length os → cond b (settled_to os + 1) 0 ≤ length (o ∷ os)
    by_any true low = omega (arith, low)
    by_any false low = omega arith

-- the last of some lines does not settle
abbrev pub LastStays : List Outcome → Type 0
LastStays [] = ⊥
LastStays (o ∷ []) = o.settles ≡ false
LastStays (o ∷ p ∷ os) = LastStays (p ∷ os)

pub last_stays : (os : List Outcome) (o : Outcome) → o.settles ≡ false → LastStays (os ++ o ∷ [])
last_stays [] o is = is
last_stays (p ∷ []) o is = is
last_stays (p ∷ q ∷ os) o is = last_stays (q ∷ os) o is

below_one : (b : Bool) (n m : ℕ) → n < m → cond b (n + 1) 0 < m + 1
below_one true n m less = omega (arith, less)
below_one false n m less = omega arith

-- so no front of them settles to the last
pub settled_short : (os : List Outcome) → LastStays os → (k : ℕ) → settled_to (take k os) < length os
settled_short [] is k = absurd is
settled_short (o ∷ os) is zero = omega arith
settled_short (o ∷ []) is (suc k) = by_front (take k []) (settled_to (take k [])) (take_all k [] (omega arith))
  where
    by_front : (front : List Outcome) (n : ℕ) → front ≡ [] → cond (list_any settles (o ∷ front)) (n + 1) 0 < 1
    by_front front n none = subst (λ (b : Bool). cond b (n + 1) 0 < 1) (sym (ap (λ (xs : List Outcome). list_any settles (o ∷ xs)) none ∙ ap (λ (b : Bool). b || false) is)) (omega arith)
settled_short (o ∷ p ∷ os) is (suc k) =
    let less = below_one (list_any settles (o ∷ take k (p ∷ os))) (settled_to (take k (p ∷ os))) (length (p ∷ os)) (settled_short (p ∷ os) is k) in
    omega (arith, less)

-- ---- lists behind one another

pub state_on : (s : State) (xs : List Outcome) (o : Outcome) → state_behind s (xs ++ o ∷ []) ≡ o.next
state_on s [] o = refl
state_on s (x ∷ xs) o = state_on x.next xs o

-- a front grows behind
front_grows : {A : Type 0} (n : ℕ) (xs ys : List A) → (more : List A) × (take n (xs ++ ys) ≡ take n xs ++ more)
front_grows zero xs ys = ([], refl)
front_grows (suc n) [] ys = (take (suc n) ys, refl)
front_grows {A} (suc n) (x ∷ xs) ys = let g = front_grows n xs ys in (g.0, ap (λ (zs : List A). x ∷ zs) g.1)

-- ---- what is said of the lines

settled_same : (k : ℕ) (os more : List Outcome) → k ≤ length os → settled_to (take k (os ++ more)) ≡ settled_to (take k os)
settled_same k os more low = ap settled_to (take-append-le k os more low)

settled_few : (k : ℕ) (os : List Outcome) → k ≤ length os → settled_to (take k os) ≤ k
settled_few k os low = let e = settled_below (take k os) in let f = length-take-le k os low in omega (arith, e, f)

-- where a line is begun
pub fewest_same : (k : ℕ) (os more : List Outcome) (ns later : List ℕ) → k ≤ length os → length ns ≡ length os → fewest k (os ++ more) (ns ++ later) ≡ fewest k os ns
fewest_same k os more ns later low as_many =
    ap (λ (n : ℕ). sum (take n (ns ++ later))) (settled_same k os more low)
    ∙ ap sum (take-append-le (settled_to (take k os)) ns later (let e = settled_few k os low in omega (arith, e, low, as_many)))

pub most_grows : (k : ℕ) (ns later : List ℕ) → most k ns ≤ most k (ns ++ later)
most_grows k ns later =
    let g = front_grows (k + 1) ns later in
    let e : most k (ns ++ later) ≡ sum (take (k + 1) ns) + sum g.0 = ap sum g.1 ∙ sum_on (take (k + 1) ns) g.0 in
    omega (arith, e)

-- fewer lines move no more
moves_fewer : (k : ℕ) (os more : List Outcome) → k ≤ length os → may_move k (os ++ more) ≡ false → may_move k os ≡ false
moves_fewer k os more low none =
    let g = front_grows (k + 1) os more in
    let s = settled_to (take k os) in
    let A = take (k + 1) os in
    let len : length A ≡ min (k + 1) (length os) = length-take (k + 1) os in
    let few : s ≤ length A = (let e = settled_few k os low in omega arith) in
    let e : may_move k (os ++ more) ≡ (list_any moves (drop s A) || list_any moves g.0) =
    ap (λ (n : ℕ). list_any moves (drop n (take (k + 1) (os ++ more)))) (settled_same k os more low)
    ∙ ap (λ (xs : List Outcome). list_any moves (drop s xs)) g.1
    ∙ ap (list_any moves) (drop-append-le s A g.0 few)
    ∙ list_any-append moves (drop s A) g.0 in
    (or_false (list_any moves (drop s A)) (list_any moves g.0) (sym e ∙ none)).0

any_more : (p : Outcome → Bool) (k : ℕ) (os more : List Outcome) → list_any p (take (k + 1) os) ≡ true → list_any p (take (k + 1) (os ++ more)) ≡ true
any_more p k os more is =
    let g = front_grows (k + 1) os more in
    ap (list_any p) g.1 ∙ list_any-append p (take (k + 1) os) g.0
    ∙ or_left (list_any p (take (k + 1) os)) (list_any p g.0) is

-- ---- what fits

-- More was done: lines were begun, jogs were cut, or the machine was halted. What counts of the lines is no more than before up to any that settles, and
-- no less than what was given up to any.
pub record Grows (c e : Course) : Type 0 where
  pub first : e.first ≡ c.first
  pub place : e.place ≡ c.place
  pub locked : e.locked ≡ c.locked
  pub more : List Outcome
  pub outcomes : e.outcomes ≡ c.outcomes ++ more
  pub low : (k : ℕ) → k ≤ length c.outcomes → fewest k e.outcomes e.counts ≤ fewest k c.outcomes c.counts
  pub high : (k n : ℕ) → n ≤ c.given → n ≤ most k c.counts → n ≤ most k e.counts
  pub later : List Record
  pub ticks : e.ticks ≡ c.ticks ++ later
  pub given : c.given ≤ e.given
  pub held : c.held ≡ true → e.held ≡ true
  pub changed : e.changed ≡ false → c.changed ≡ false

abbrev IsHeldIn : Course → ℕ → Type 0
IsHeldIn c k = (c.held ≡ true) ⊎ ((list_any has_pause (take (k + 1) c.outcomes) ≡ true) ⊎ MayAlarm c k)

any_still : (p : Outcome → Bool) (c e : Course) (k : ℕ) → Grows c e → list_any p (take (k + 1) c.outcomes) ≡ true → list_any p (take (k + 1) e.outcomes) ≡ true
any_still p c e k g is = ap (λ (os : List Outcome). list_any p (take (k + 1) os)) g.outcomes ∙ any_more p k c.outcomes g.more is

held_still : (c e : Course) (k : ℕ) → Grows c e → IsHeldIn c k → IsHeldIn e k
held_still c e k g (inl some) = inl (g.held some)
held_still c e k g (inr (inl is)) = inr (inl (any_still has_pause c e k g is))
held_still c e k g (inr (inr is)) = inr (inr (any_still raises_alarm c e k g is))

place_same : (place : Steps3) (ticks later : List Record) (d : ℕ) → d ≤ length ticks → place_at place (ticks ++ later) d ≡ place_at place ticks d
place_same place ticks later d made = ap (moved_by place) (take-append-le d ticks later made)

ahead_still : (c e : Course) (k d f : ℕ) → Grows c e → (f ≡ 0) ⊎ IsAhead c k d → (f ≡ 0) ⊎ IsAhead e k d
ahead_still c e k d f g (inl none) = inl none
ahead_still c e k d f g (inr is) = inr (record {
  given = is.given;
  below = is.below;
  asked = g.high k is.given is.whole is.asked;
  whole = (let a = is.whole in let b = g.given in omega (arith, a, b));
})

alarm_still : (c e : Course) (k : ℕ) → Grows c e → (c.locked ≡ true) ⊎ MayAlarm c k → (e.locked ≡ true) ⊎ MayAlarm e k
alarm_still c e k g (inl locked) = inl (g.locked ∙ locked)
alarm_still c e k g (inr is) = inr (any_still raises_alarm c e k g is)

-- a feed is told only where more than these ticks is given of the lines
stands_there : (c : Course) (k d f : ℕ) → (f ≡ 0) ⊎ IsAhead c k d → d ≡ most k c.counts → f ≡ 0
stands_there c k d f (inl none) at = none
stands_there c k d f (inr is) at = absurd (let a = is.below in let b = is.asked in omega (arith, a, b, at))

fits_still : (c e : Course) (k d : ℕ) (r : Report) → length c.ticks ≤ c.given → Grows c e → FitsReport c k d r → FitsReport e k d r
fits_still c e k d r within g f =
    let outcomes = g.outcomes in
    let longer : length e.outcomes ≡ length c.outcomes + length g.more = ap (λ (os : List Outcome). length os) outcomes ∙ length-append c.outcomes g.more in
    let later : length e.ticks ≡ length c.ticks + length g.later = ap (λ (rs : List Record). length rs) g.ticks ∙ length-append c.ticks g.later in
    let few : fewest k e.outcomes e.counts ≤ fewest k c.outcomes c.counts = g.low k f.answered in
    let many : d ≤ most k e.counts = g.high k d (let a = f.made in omega (arith, a, within)) f.high in
    let ahead = ahead_still c e k d r.f g f.ahead in
    let place : place_at e.place e.ticks d ≡ place_at c.place c.ticks d =
    ap (λ (at : Steps3). place_at at e.ticks d) g.place ∙ ap (λ (rs : List Record). place_at c.place rs d) g.ticks ∙ place_same c.place c.ticks g.later d f.made in
    let state : state_behind e.first (take f.lines e.outcomes) ≡ state_behind c.first (take f.lines c.outcomes) =
    ap (λ (s : State). state_behind s (take f.lines e.outcomes)) g.first
    ∙ ap (λ (os : List Outcome). state_behind c.first (take f.lines os)) outcomes
    ∙ ap (state_behind c.first) (take-append-le f.lines c.outcomes g.more f.begun) in
    record {
      lines = f.lines;
      of_lines = f.of_lines;
      begun = (let b = f.begun in omega (arith, b, longer));
      answered = (let b = f.answered in omega (arith, b, longer));
      made = (let b = f.made in omega (arith, b, later));
      low = (let b = f.low in omega (arith, b, few));
      high = many;
      shows = subst (λ (s : State). Shows (place_at e.place e.ticks d) s r) (sym state) (subst (λ (p : Steps3). Shows p (state_behind c.first (take f.lines c.outcomes)) r) (sym place) f.shows);
      speed = λ at. stands_there e k d r.f ahead at;
      ahead = ahead;
      state = λ none. f.state (moves_fewer k c.outcomes g.more f.answered (sym (ap (λ (os : List Outcome). may_move k os) outcomes) ∙ none));
      holds = λ is. held_still c e k g (f.holds is);
      alarm = λ is. alarm_still c e k g (f.alarm is);
      overrides = λ none. f.overrides (g.changed none);
    }

pub reported_still : (c e : Course) (said : List Reply) (top : ℕ) → length c.ticks ≤ c.given → Grows c e → Reported c said top → Reported e said top
reported_still c e [] top within g is = tt
reported_still c e (replies.Report r ∷ earlier) top within g is =
    (is.0, is.1, fits_still c e (answers_in earlier) is.0 r within g is.2, reported_still c e earlier is.0 within g is.3)
reported_still c e (r ∷ earlier) top within g is = reported_still c e earlier top within g is

pub reported_below : (c : Course) (said : List Reply) (top high : ℕ) → top ≤ high → Reported c said top → Reported c said high
reported_below c [] top high below is = tt
reported_below c (replies.Report r ∷ earlier) top high below is = (is.0, (let low = is.1 in omega (arith, low, below)), is.2, is.3)
reported_below c (r ∷ earlier) top high below is = reported_below c earlier top high below is
