-- A front of records that ends before a tick has none of what stands from there on.
use Rattle.std.proofs.Common.{◌≡◌, ◌≤◌, ◌⊎◌, inl, inr, Bool, true, false, cond, List, [], ◌∷◌, ◌++◌, length, subst, arith}
use Rattle.std.specs.List.{AllByRecursion}
use Rattle.step_line.specs.Asking.{ticks_among}
use Rattle.step_line.specs.Records.{IsRecord, is_tick}
use Rattle.step_line.specs.declared.Mark.{Mark}
use Rattle.step_line.specs.declared.Record.{Record}
use Rattle.step_line.specs.declared.Record.TheVariants as kinds

-- nothing stands behind the good ones, or a tick that is one too many
abbrev pub StopsBy : (mine good later : List Record) → Type 0
StopsBy mine good later = (later ≡ []) ⊎ ((m : Mark) × (more : List Record) × (later ≡ kinds.Mark m ∷ more) × (length (ticks_among mine) ≤ length (ticks_among good)))

one_less : (b : Bool) (r : Record) (xs ys : List Record) → length (cond b (r ∷ xs) xs) ≤ length (cond b (r ∷ ys) ys) → length xs ≤ length ys
one_less true r xs ys few = omega (arith, few)
one_less false r xs ys few = few

stops_on : (r : Record) (mine good later : List Record) → StopsBy (r ∷ mine) (r ∷ good) later → StopsBy mine good later
stops_on r mine good later stops = elim stops [
  | inl none ↦ inl none
  | inr mark ↦ inr (mark.0, mark.1, mark.2, one_less (is_tick r) r (ticks_among mine) (ticks_among good) mark.3)
]

too_many : {A : Type 0} (r : Record) (mine more later : List Record) → (r ∷ mine) ++ more ≡ later → StopsBy (r ∷ mine) [] later → A
too_many r mine more later same stops = elim stops [
  | inl none ↦ absurd cc
  | inr mark ↦
      let first : r ≡ kinds.Mark mark.0 = cc in
      let few = subst (λ (x : Record). length (ticks_among (x ∷ mine)) ≤ 0) first mark.3 in
      absurd (omega (arith, few))
]

pub front_each : (mine more good later : List Record) → mine ++ more ≡ good ++ later → AllByRecursion IsRecord good → StopsBy mine good later → AllByRecursion IsRecord mine
front_each [] more good later same each stops = tt
front_each (r ∷ mine) more [] later same each stops = too_many r mine more later same stops
front_each (r ∷ mine) more (g ∷ good) later same each stops =
    let first : g ≡ r = cc in
    let tails : mine ++ more ≡ good ++ later = cc in
    let here = subst (λ (x : Record). StopsBy (r ∷ mine) (x ∷ good) later) first stops in
    (subst IsRecord first each.0, front_each mine more good later tails each.1 (stops_on r mine good later here))
