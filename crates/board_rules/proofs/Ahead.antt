-- What is left of a line's work behind a step, and how much comes of it before the next poll.
use Rattle.std.proofs.Common.{◌≡◌, ℕ, ◌+◌, ◌≤◌, Bool, List, [], ◌∷◌, ◌-◌, ◌&&◌, cond, drop, true, false, not, refl, sym, ap, ◌∙◌, subst, arith}
use Rattle.run_rules.specs.Work.{Task, pauses}
use Rattle.run_rules.specs.Work.Task.{ask, tell, pause, normal, finish, halt}
use Rattle.status_report.specs.Answering.{is_bye}
use Rattle.planner_runs.specs.declared.Action.{Action}
use Rattle.planner_runs.specs.declared.Action.TheVariants.{Add, Mark, Rest}
use Rattle.board_journal.specs.Steps.{left_by, without_asks}
use Rattle.board_rules.specs.Turns.{only_replies, counts_tries}
use Rattle.units.specs.Truths.{one_if}
use Rattle.board_rules.specs.Within.{tells_none, last_three, work_ahead, ahead}
use Rattle.board_rules.proofs.Truths.{both_left, both_right}

-- nothing is left of nothing
pub none_left : (a : Action) → left_by a [] ≡ []
none_left (Add m) = refl
none_left _ = refl

pub no_more : (n : ℕ) → n ≤ n
no_more n = omega arith

-- no more pauses are left behind the first task
pub fewer_pauses : (ts : List Task) → pauses (drop 1 ts) ≤ pauses ts
fewer_pauses [] = omega arith
fewer_pauses (pause ∷ ts) = omega arith
fewer_pauses (_ ∷ ts) = no_more (pauses ts)

pub pauses_by : (a : Action) (ts : List Task) → pauses (left_by a ts) ≤ pauses ts
pauses_by (Add m) ts = fewer_pauses ts
pauses_by (Mark m) ts = fewer_pauses ts
pauses_by Rest ts = fewer_pauses ts
pauses_by _ ts = no_more (pauses ts)

-- ---- what comes before the next poll

pub three_at_most : (ts : List Task) → last_three ts ≤ 3
three_at_most [] = omega arith
three_at_most (t ∷ []) = omega arith
three_at_most (t ∷ u ∷ []) = omega arith
three_at_most (t ∷ u ∷ v ∷ ts) = omega arith

pub three_most : (ts : List Task) (back : Bool) → work_ahead ts back ≤ 3
three_most ts back = by_replies (only_replies ts)
  where
    by_replies : (only : Bool) → cond only (last_three ts - one_if back) 3 ≤ 3
    by_replies true = let few = three_at_most ts in omega (arith, few)
    by_replies false = omega arith

-- behind the first task no more comes, and where a try is counted so is one then
pub record Shrinks (ts us : List Task) : Type 0 where
  pub ahead : (back : Bool) → work_ahead us back ≤ work_ahead ts back
  pub counts : (back : Bool) → counts_tries ts back ≡ true → counts_tries us back ≡ true

pub shrinks_same : (ts : List Task) → Shrinks ts ts
shrinks_same ts = record { ahead = λ back. no_more (work_ahead ts back); counts = λ back e. e }

fewer_last : (ts : List Task) → last_three (drop 1 ts) ≤ last_three ts
fewer_last [] = omega arith
fewer_last (t ∷ []) = omega arith
fewer_last (t ∷ u ∷ []) = omega arith
fewer_last (t ∷ u ∷ v ∷ ts) = three_at_most (u ∷ v ∷ ts)

pub replies_behind : (ts : List Task) → only_replies ts ≡ true → only_replies (drop 1 ts) ≡ true
replies_behind [] only = refl
replies_behind (tell r ∷ ts) only = both_right (not (is_bye r)) (only_replies ts) only
replies_behind (ask a ∷ ts) only = absurd cc
replies_behind (pause ∷ ts) only = absurd cc
replies_behind (normal ∷ ts) only = absurd cc
replies_behind (finish ∷ ts) only = absurd cc
replies_behind (halt ∷ ts) only = absurd cc

-- where replies alone are left, replies alone of fewer tasks come, no more
fewer_ahead : (now was : Bool) (m n : ℕ) (back : Bool) → (was ≡ true → (now ≡ true) × (m ≤ n)) → n ≤ 3 → m ≤ 3 → cond now (m - one_if back) 3 ≤ cond was (n - one_if back) 3
fewer_ahead true true m n back fewer most few = let f = fewer refl in let less = f.1 in omega (arith, less)
fewer_ahead false true m n back fewer most few = absurd (let f = fewer refl in let e = f.0 in cc)
fewer_ahead true false m n back fewer most few = omega (arith, few)
fewer_ahead false false m n back fewer most few = omega arith

-- a try that is counted is so behind them
counted_behind : (ts us : List Task) (back : Bool) → (only_replies ts ≡ true → only_replies us ≡ true) → (ts ≡ [] → us ≡ []) → counts_tries ts back ≡ true → counts_tries us back ≡ true
counted_behind ts [] back only none counts = refl
counted_behind [] (u ∷ us) back only none counts = absurd (let e = none refl in cc)
counted_behind (t ∷ ts) (u ∷ us) back only none counts = ap (λ (b : Bool). b && only_replies (u ∷ us)) (both_left (not back) (only_replies (t ∷ ts)) counts) ∙ only (both_right (not back) (only_replies (t ∷ ts)) counts)

pub shrinks_first : (ts : List Task) → Shrinks ts (drop 1 ts)
shrinks_first ts = record {
  ahead = λ back. fewer_ahead (only_replies (drop 1 ts)) (only_replies ts) (last_three (drop 1 ts)) (last_three ts) back (λ only. (replies_behind ts only, fewer_last ts)) (three_at_most ts) (three_at_most (drop 1 ts));
  counts = λ back. counted_behind ts (drop 1 ts) back (replies_behind ts) (λ none. ap (λ (us : List Task). drop 1 us) none);
}

-- a cut leaves replies as they are
replies_kept : (ts : List Task) → only_replies ts ≡ true → without_asks ts ≡ ts
replies_kept [] only = refl
replies_kept (tell r ∷ ts) only = ap (λ (us : List Task). tell r ∷ us) (replies_kept ts (both_right (not (is_bye r)) (only_replies ts) only))
replies_kept (ask a ∷ ts) only = absurd cc
replies_kept (pause ∷ ts) only = absurd cc
replies_kept (normal ∷ ts) only = absurd cc
replies_kept (finish ∷ ts) only = absurd cc
replies_kept (halt ∷ ts) only = absurd cc

pub shrinks_cut : (ts : List Task) → Shrinks ts (without_asks ts)
shrinks_cut ts = record {
  ahead = λ back. fewer_ahead (only_replies (without_asks ts)) (only_replies ts) (last_three (without_asks ts)) (last_three ts) back
      (λ only. let same = replies_kept ts only in (ap only_replies same ∙ only, subst (λ (us : List Task). last_three us ≤ last_three ts) (sym same) (no_more (last_three ts)))) (three_at_most ts) (three_at_most (without_asks ts));
  counts = λ back. counted_behind ts (without_asks ts) back (λ only. ap only_replies (replies_kept ts only) ∙ only) (λ none. ap without_asks none);
}

pub shrinks_by : (a : Action) (ts : List Task) → Shrinks ts (left_by a ts)
shrinks_by (Add m) ts = shrinks_first ts
shrinks_by (Mark m) ts = shrinks_first ts
shrinks_by Rest ts = shrinks_first ts
shrinks_by _ ts = shrinks_same ts

-- at most so much comes
pub ahead_most : (ts : List Task) (whole back : Bool) → ahead ts whole back ≤ 4
ahead_most ts true back = omega arith
ahead_most ts false back = let few = three_most ts back in omega (arith, few)

-- and less where no line waits to be begun
pub ahead_partial : (ts : List Task) (whole back : Bool) → whole ≡ false → ahead ts whole back ≡ work_ahead ts back
ahead_partial ts whole back partial = ap (λ w. ahead ts w back) partial

pub ahead_less : (ts : List Task) (whole back : Bool) → whole ≡ false → ahead ts whole back ≤ 3
ahead_less ts whole back partial = let few = three_most ts back in let same = ahead_partial ts whole back partial in omega (arith, few, same)

pub shrinks_ahead : (ts us : List Task) (whole back : Bool) → Shrinks ts us → ahead us whole back ≤ ahead ts whole back
shrinks_ahead ts us true back s = omega arith
shrinks_ahead ts us false back s = s.ahead back

pub ahead_behind : (ts : List Task) (whole back : Bool) → ahead (drop 1 ts) whole back ≤ ahead ts whole back
ahead_behind ts whole back = shrinks_ahead ts (drop 1 ts) whole back (shrinks_first ts)

-- what comes is one less, or the same, where a reply that is next was handed back, and the same where none is next
pub less_ahead : (ts : List Task) (back : Bool) → work_ahead ts false ≤ work_ahead ts back + 1
less_ahead ts back = by_replies (only_replies ts) back
  where
    by_replies : (only b : Bool) → cond only (last_three ts - 0) 3 ≤ cond only (last_three ts - one_if b) 3 + 1
    by_replies true true = omega arith
    by_replies true false = omega arith
    by_replies false b = omega arith

pub ahead_back : (ts : List Task) (whole back : Bool) → ahead ts whole false ≤ ahead ts whole back + 1
ahead_back ts true back = omega arith
ahead_back ts false back = less_ahead ts back

pub none_ahead : (ts : List Task) (a b : Bool) → tells_none ts ≡ true → work_ahead ts a ≡ work_ahead ts b
none_ahead [] a b none = by_backs a b
  where
    by_backs : (x y : Bool) → 0 - one_if x ≡ 0 - one_if y
    by_backs x y = omega arith
none_ahead (t ∷ ts) a b none = by_replies (only_replies (t ∷ ts)) none
  where
    by_replies : (only : Bool) → not only ≡ true → cond only (last_three (t ∷ ts) - one_if a) 3 ≡ cond only (last_three (t ∷ ts) - one_if b) 3
    by_replies true e = absurd cc
    by_replies false e = refl

pub ahead_unspoken : (ts : List Task) (whole a b : Bool) → tells_none ts ≡ true → ahead ts whole a ≡ ahead ts whole b
ahead_unspoken ts true a b none = refl
ahead_unspoken ts false a b none = none_ahead ts a b none
