-- What is told up to somewhere in the records of it.
use Rattle.std.proofs.Common.{◌≡◌, List, [], ◌∷◌, ◌++◌, map, sym, refl, ap, ◌∙◌, append-nil, append_assoc}
use Rattle.std.specs.List.{flat_map, AllByRecursion}
use Rattle.std.specs.declared.option.Option.{Option}
use Rattle.legal_heads.specs.Speeds.{IsToldRight, AreLegalBehind, told_records, latest_behind}
use Rattle.legal_heads.specs.declared.Told.{Told}
use Rattle.legal_heads.specs.declared.ToldHead.{ToldHead}
use Rattle.step_line.specs.declared.Bits.{Bits}
use Rattle.step_line.specs.declared.Record.{Record}
use Rattle.step_line.specs.declared.Record.TheVariants as kinds
use Rattle.run_texts.specs.Fronts.{BeginsWith}
use Rattle.run_texts.proofs.Making.{first_record, events_told, told_parts}

-- ---- a front of two lists

-- it is within the first, or goes on in the second
pub data Reaches {A : Type 0} (xs ys front rest : List A) : Type 0 where
  within : BeginsWith xs front → Reaches xs ys front rest
  beyond : (more : List A) → front ≡ xs ++ more → ys ≡ more ++ rest → Reaches xs ys front rest

reaches_on : {A : Type 0} (x y : A) (xs ys front rest : List A) → x ≡ y → Reaches xs ys front rest → Reaches (x ∷ xs) ys (y ∷ front) rest
reaches_on x y xs ys front rest same (within b) = within (record { rest = b.rest; is = ap (λ z. z ∷ xs) same ∙ ap (λ zs. y ∷ zs) b.is })
reaches_on x y xs ys front rest same (beyond more e more_is) = beyond more (ap (λ z. z ∷ front) (sym same) ∙ ap (λ zs. x ∷ zs) e) more_is

pub reaches : {A : Type 0} (xs ys front rest : List A) → xs ++ ys ≡ front ++ rest → Reaches xs ys front rest
reaches [] ys front rest e = beyond front refl e
reaches (x ∷ xs) ys [] rest e = within (record { rest = x ∷ xs; is = refl })
reaches (x ∷ xs) ys (y ∷ front) rest e =
    let both : x ∷ (xs ++ ys) ≡ y ∷ (front ++ rest) = e in
    let same : x ≡ y = cc in
    let tails : xs ++ ys ≡ front ++ rest = cc in
    reaches_on x y xs ys front rest same (reaches xs ys front rest tails)

-- ---- of what is told

-- records end among some events, and the others are missing; or they go on behind them
data Walked (bs : List Bits) (front lost rest : List Record) : Type 0 where
  among : (missing : List Bits) → map kinds.Event bs ≡ front ++ map kinds.Event missing → lost ≡ map kinds.Event missing ++ rest → Walked bs front lost rest
  behind : (more : List Record) → front ≡ map kinds.Event bs ++ more → rest ≡ more ++ lost → Walked bs front lost rest

walked_on : (b : Bits) (r : Record) (bs : List Bits) (front lost rest : List Record) → kinds.Event b ≡ r → Walked bs front lost rest → Walked (b ∷ bs) (r ∷ front) lost rest
walked_on b r bs front lost rest same (among missing e l) = among missing (ap (λ x. x ∷ map kinds.Event bs) same ∙ ap (λ (rs : List Record). r ∷ rs) e) l
walked_on b r bs front lost rest same (behind more e l) = behind more (ap (λ x. x ∷ front) (sym same) ∙ ap (λ (rs : List Record). kinds.Event b ∷ rs) e) l

walk : (bs : List Bits) (front lost rest : List Record) → map kinds.Event bs ++ rest ≡ front ++ lost → Walked bs front lost rest
walk [] front lost rest e = behind front refl e
walk (b ∷ bs) [] lost rest e = among (b ∷ bs) refl (sym e)
walk (b ∷ bs) (r ∷ front) lost rest e =
    let both : kinds.Event b ∷ (map kinds.Event bs ++ rest) ≡ r ∷ (front ++ lost) = e in
    let same : kinds.Event b ≡ r = cc in
    let tails : map kinds.Event bs ++ rest ≡ front ++ lost = cc in
    walked_on b r bs front lost rest same (walk bs front lost rest tails)

-- What is told up to the end of some records, but for events that are missing of what is told last.
pub record ToldUpTo (told : List Told) (mine lost : List Record) : Type 0 where
  pub early : List Told
  pub late : List Told
  pub both : told ≡ early ++ late
  pub missing : List Bits
  pub recorded : flat_map told_records early ≡ mine ++ map kinds.Event missing
  pub left : lost ≡ map kinds.Event missing ++ flat_map told_records late

nothing_told : (told : List Told) (lost : List Record) → flat_map told_records told ≡ lost → ToldUpTo told [] lost
nothing_told told lost e = record { early = []; late = told; both = refl; missing = []; recorded = refl; left = sym e }

one_told : (t : Told) (told : List Told) (r : Record) (front lost : List Record) → first_record t ≡ r
    → ((more : List Record) → flat_map told_records told ≡ more ++ lost → ToldUpTo told more lost)
    → Walked (events_told t) front lost (flat_map told_records told) → ToldUpTo (t ∷ told) (r ∷ front) lost
one_told t told r front lost same later (among missing e l) = record {
  early = t ∷ [];
  late = told;
  both = refl;
  missing = missing;
  recorded = append-nil (told_records t) ∙ told_parts t ∙ ap (λ x. x ∷ map kinds.Event (events_told t)) same ∙ ap (λ (rs : List Record). r ∷ rs) e;
  left = l;
}
one_told t told r front lost same later (behind more e l) =
    let rest = later more l in
    record {
      early = t ∷ rest.early;
      late = rest.late;
      both = ap (λ (ts : List Told). t ∷ ts) rest.both;
      missing = rest.missing;
      recorded =
          ap (λ (rs : List Record). rs ++ flat_map told_records rest.early) (told_parts t ∙ ap (λ x. x ∷ map kinds.Event (events_told t)) same)
          ∙ ap (λ (rs : List Record). r ∷ (map kinds.Event (events_told t) ++ rs)) rest.recorded
          ∙ ap (λ (rs : List Record). r ∷ rs) (sym (append_assoc (map kinds.Event (events_told t)) more (map kinds.Event rest.missing)))
          ∙ ap (λ (rs : List Record). r ∷ (rs ++ map kinds.Event rest.missing)) (sym e);
      left = rest.left;
    }

pub told_up_to : (told : List Told) (mine lost : List Record) → flat_map told_records told ≡ mine ++ lost → ToldUpTo told mine lost
told_up_to [] [] lost e = nothing_told [] lost e
told_up_to [] (r ∷ mine) lost e = absurd cc
told_up_to (t ∷ told) [] lost e = nothing_told (t ∷ told) lost e
told_up_to (t ∷ told) (r ∷ mine) lost e =
    let both : first_record t ∷ (map kinds.Event (events_told t) ++ flat_map told_records told) ≡ r ∷ (mine ++ lost) =
    ap (λ (rs : List Record). rs ++ flat_map told_records told) (sym (told_parts t)) ∙ e in
    let same : first_record t ≡ r = cc in
    let tails : map kinds.Event (events_told t) ++ flat_map told_records told ≡ mine ++ lost = cc in
    one_told t told r mine lost same (λ more l. told_up_to told more lost l) (walk (events_told t) mine lost (flat_map told_records told) tails)

-- ---- what holds of all that is told holds of the first of it

pub right_first : (xs ys : List Told) → AllByRecursion IsToldRight (xs ++ ys) → AllByRecursion IsToldRight xs
right_first [] ys all = tt
right_first (x ∷ xs) ys all = (all.0, right_first xs ys all.1)

pub legal_first : (xs ys : List Told) (before : Option ToldHead) → AreLegalBehind before (xs ++ ys) → AreLegalBehind before xs
legal_first [] ys before all = tt
legal_first (x ∷ xs) ys before all = (all.0, legal_first xs ys (latest_behind x) all.1)
