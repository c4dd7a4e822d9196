-- What a flight knows of its pieces.
use Rattle.std.proofs.Common.{◌≡◌, ℕ, zero, suc, ◌+◌, ◌-◌, ◌≤◌, ◌<◌, ◌⊎◌, Bool, true, false, List, [], ◌∷◌, ◌++◌, length, take, max, min, inl, inr, sym, refl, ap, ◌∙◌, arith, subst, append_assoc}
use Rattle.std.specs.List.{flat_map, filter, All}
use Rattle.std.proofs.lemmas.Bool.{cases_lt}
use Rattle.std.proofs.lemmas.Bool.Decides.{nat_tests}
use Rattle.std.proofs.lemmas.List.{take-append-le}
use Rattle.std.proofs.lemmas.List.Elements.{filter-append, filter_passes, All-head, All-tail}
use Rattle.units.specs.declared.Steps3.{Steps3}
use Rattle.step_line.specs.declared.Piece.{Piece}
use Rattle.step_line.specs.declared.Record.{Record}
use Rattle.step_line.specs.Pieces.{ticks_of}
use Rattle.step_line.specs.Finishing.{tick_count, ticks_together, unfinished}
use Rattle.step_line.proofs.Finished.{together, together_both, together_on, fewer_later, all_done as finished_all}
use Rattle.flight.specs.Places.{moved_by, machine_from, end_from}
use Rattle.flight.specs.Flights.{BeginsAt, Join, Flying, Flies, has_ticks, EndsWithin}
use Rattle.flight.proofs.Places.{moved_both, moved_on, end_on_from, some_behind_from}
use Rattle.flight.proofs.Counts.{Ticking, same_ticks, same_count, count_behind, count_begun}

all_behind : (ps qs : List Piece) → All Ticking (ps ++ qs) → All Ticking qs
all_behind [] qs all = all
all_behind (p ∷ ps) qs all = all_behind ps qs (All-tail Ticking p (ps ++ qs) all)

module _ (start : Steps3) (f : Flying) (published : List Piece) (known : ℕ) (is : Flies start f published known) where
  ticks_split : flat_map ticks_of published ≡ flat_map ticks_of (is.finished ++ f.kept)
  ticks_split = sym (same_ticks published) ∙ ap (flat_map ticks_of) is.order

  pub all_is : ticks_together published ≡ f.before + ticks_together f.kept
  all_is = ap length ticks_split ∙ together_both is.finished f.kept ∙ ap (λ n. n + ticks_together f.kept) (sym is.before)

  pub end_is : end_from start published ≡ moved_by f.from (flat_map ticks_of f.kept)
  end_is = ap (moved_by start) ticks_split ∙ moved_both start is.finished f.kept ∙ ap (λ (p : Steps3). moved_by p (flat_map ticks_of f.kept)) (sym is.from)

  known_is : known ≡ ticks_together is.finished + (known - f.before)
  known_is = let low = is.low in let before = is.before in omega arith

  pub machine_is : machine_from start published known ≡ moved_by f.from (take (known - f.before) (flat_map ticks_of f.kept))
  machine_is =
      ap (λ (rs : List Record). moved_by start (take known rs)) ticks_split
      ∙ ap (machine_from start (is.finished ++ f.kept)) known_is
      ∙ some_behind_from start is.finished f.kept (known - f.before)
      ∙ ap (λ (p : Steps3). moved_by p (take (known - f.before) (flat_map ticks_of f.kept))) (sym is.from)

  have_ticks : All Ticking f.kept
  have_ticks = all_behind is.finished f.kept (subst (All Ticking) is.order (filter_passes has_ticks published))

  pub count_is : length f.kept ≡ unfinished published known
  count_is =
      sym (sym (same_count published known) ∙ ap (λ (ps : List Piece). unfinished ps known) is.order
      ∙ count_behind is.finished f.kept known (let low = is.low in let before = is.before in omega arith)
      ∙ count_begun f.kept (known - ticks_together is.finished) have_ticks (subst (λ n. EndsWithin f.kept (known - n)) is.before is.within))

-- a piece behind others
pub joined_on : (place : Steps3) (ps : List Piece) (p : Piece) → Join place ps → BeginsAt (moved_by place (flat_map ticks_of ps)) p → Join place (ps ++ p ∷ [])
joined_on place [] p joined begins = (begins, tt)
joined_on place (q ∷ ps) p joined begins =
    (joined.0, joined_on (moved_by place (ticks_of q)) ps p joined.1 (subst (λ (at : Steps3). BeginsAt at p) (moved_on place (ticks_of q) (flat_map ticks_of ps)) begins))

kept_alone : (p : Piece) (b : Bool) → has_ticks p ≡ b → b ≡ true → filter has_ticks (p ∷ []) ≡ p ∷ []
kept_alone p true has e = rw has refl
kept_alone p false has e = absurd (let no : false ≡ true = e in cc)

pub within_on : (ps : List Piece) (p : Piece) (done : ℕ) → 0 < tick_count p → EndsWithin ps done → EndsWithin (ps ++ p ∷ []) done
within_on [] p done some within = let none : done ≡ 0 = within in omega arith
within_on (q ∷ ps) p done some within = within

has_some : (p : Piece) → 0 < tick_count p → has_ticks p ≡ true
has_some p some = grind (arith, nat_tests)

pub pushed : (start : Steps3) (f : Flying) (published : List Piece) (known : ℕ) (p : Piece) → 0 < tick_count p → Flies start f published known → BeginsAt (end_from start published) p
    → Flies start (record f { kept = f.kept ++ p ∷ [] }) (published ++ p ∷ []) known
pushed start f published known p some is begins = record {
  done = is.done;
  finished = is.finished;
  order = filter-append has_ticks published (p ∷ []) ∙ ap (λ (ps : List Piece). filter has_ticks published ++ ps) (kept_alone p (has_ticks p) refl (has_some p some))
      ∙ ap (λ (ps : List Piece). ps ++ p ∷ []) is.order ∙ append_assoc is.finished f.kept (p ∷ []);
  before = is.before;
  from = is.from;
  joined = joined_on f.from f.kept p is.joined (subst (λ (at : Steps3). BeginsAt at p) (end_is start f published known is) begins);
  low = is.low;
  within = within_on f.kept p (known - f.before) some is.within;
}

-- ---- the first piece is finished

begun : (ps : List Piece) (done : ℕ) → done ≡ 0 → All Ticking ps → EndsWithin ps done
begun [] done none has = none
begun (p ∷ ps) done none has = let some : has_ticks p ≡ true = All-head Ticking p ps has in let more : 0 < tick_count p = grind (arith, nat_tests) in omega arith

pub first_begins : (start : Steps3) (f : Flying) (published : List Piece) (known : ℕ) (p : Piece) (ps : List Piece) → Flies start f published known → f.kept ≡ p ∷ ps → BeginsAt f.from p
first_begins start f published known p ps is kept_is = (subst (Join f.from) kept_is is.joined).0

pub dropped : (start : Steps3) (f : Flying) (published : List Piece) (p : Piece) (ps : List Piece) (place : Steps3) (done : ℕ) → Flies start f published f.known → f.kept ≡ p ∷ ps → (BeginsAt f.from p → place ≡ moved_by f.from (ticks_of p))
    → done ≡ f.before + tick_count p → Flies start (record { kept = ps; from = place; before = done; known = done }) published done
dropped start f published p ps place done is kept_is leads done_is =
    let joined = subst (Join f.from) kept_is is.joined in
    let there = leads joined.0 in
    record {
      done = refl;
      finished = is.finished ++ p ∷ [];
      order = is.order ∙ ap (λ (qs : List Piece). is.finished ++ qs) kept_is ∙ sym (append_assoc is.finished (p ∷ []) ps);
      before = done_is ∙ ap (λ n. n + tick_count p) is.before ∙ sym (together_on is.finished p);
      from = there ∙ ap (λ (at : Steps3). moved_by at (ticks_of p)) is.from ∙ sym (end_on_from start is.finished p);
      joined = subst (λ (at : Steps3). Join at ps) (sym there) joined.1;
      low = omega arith;
      within = begun ps (done - done) (omega arith) (All-tail Ticking p ps (subst (All Ticking) kept_is (have_ticks start f published f.known is)));
    }

pub learned : (start : Steps3) (f : Flying) (published : List Piece) (done : ℕ) → f.known ≤ done → EndsWithin f.kept (done - f.before) → Flies start f published f.known → Flies start (record f { known = done }) published done
learned start f published done later within is = record {
  done = refl;
  finished = is.finished;
  order = is.order;
  before = is.before;
  from = is.from;
  joined = is.joined;
  low = let low = is.low in omega arith;
  within = within;
}

-- ---- where the machine is

pub place_in : (start : Steps3) (f : Flying) (published : List Piece) (known : ℕ) (p : Piece) (ps : List Piece) (j : ℕ) → Flies start f published known → f.kept ≡ p ∷ ps → j ≡ f.known - f.before → j ≤ tick_count p
    → moved_by f.from (take j (ticks_of p)) ≡ machine_from start published known
place_in start f published known p ps j is kept_is j_is few =
    let same : known - f.before ≡ j = let e = is.done in omega arith in
    sym (machine_is start f published known is ∙ ap (λ n. moved_by f.from (take n (flat_map ticks_of f.kept))) same ∙ ap (λ (qs : List Piece). moved_by f.from (take j (flat_map ticks_of qs))) kept_is
    ∙ ap (moved_by f.from) (take-append-le j (ticks_of p) (flat_map ticks_of ps) few))

take_none : (n : ℕ) → take n (flat_map ticks_of []) ≡ []
take_none zero = refl
take_none (suc n) = refl

pub place_behind : (start : Steps3) (f : Flying) (published : List Piece) (known : ℕ) → Flies start f published known → f.kept ≡ [] → f.from ≡ machine_from start published known
place_behind start f published known is none =
    sym (machine_is start f published known is ∙ ap (λ (ps : List Piece). moved_by f.from (take (known - f.before) (flat_map ticks_of ps))) none ∙ ap (moved_by f.from) (take_none (known - f.before)))

all_done : (ps : List Piece) (done : ℕ) → EndsWithin ps done → done ≡ ticks_together ps → ps ≡ []
all_done [] done within all = refl
all_done (p ∷ ps) done within all = let e = together p ps in absurd (omega (arith, within))

pub none_left : (start : Steps3) (f : Flying) (published : List Piece) (known : ℕ) → Flies start f published known → known ≡ ticks_together published → f.kept ≡ []
none_left start f published known is all = all_done f.kept (known - f.before) is.within (let e = all_is start f published known is in omega arith)

pub all_there : (start : Steps3) (f : Flying) (published : List Piece) (known : ℕ) → Flies start f published known → f.kept ≡ [] → known ≡ ticks_together published
all_there start f published known is none =
    let e = all_is start f published known is in
    let left : ticks_together f.kept ≡ 0 = ap ticks_together none in
    let within : known - f.before ≡ 0 = subst (λ (ps : List Piece). EndsWithin ps (known - f.before)) none is.within in
    let low = is.low in
    omega arith

-- ---- ticks are found done

few_within : (ps : List Piece) (done : ℕ) → EndsWithin ps done → done ≤ ticks_together ps
few_within [] done within = let none : done ≡ 0 = within in omega arith
few_within (p ∷ ps) done within = let e = together p ps in omega (arith, within)

pub known_few : (start : Steps3) (f : Flying) (published : List Piece) (known : ℕ) → Flies start f published known → known ≤ ticks_together published
known_few start f published known is =
    let e = all_is start f published known is in
    let few = few_within f.kept (known - f.before) is.within in
    omega arith

pub none_more : (start : Steps3) (f : Flying) (published : List Piece) (done : ℕ) → f.kept ≡ [] → Flies start f published f.known → Flies start f published (max f.known (min done (ticks_together published)))
none_more start f published done none is =
    let all = all_there start f published f.known is none in
    subst (Flies start f published) (let e : f.known ≡ max f.known (min done (ticks_together published)) = grind arith in e) is

within_both : (ps : List Piece) (a b c : ℕ) → EndsWithin ps (a - c) → EndsWithin ps (b - c) → EndsWithin ps (max a b - c)
within_both [] a b c one other = let x : a - c ≡ 0 = one in let y : b - c ≡ 0 = other in grind arith
within_both (p ∷ ps) a b c one other = grind (arith, one, other)

pub learned_within : (start : Steps3) (f : Flying) (published : List Piece) (done : ℕ) → 0 < length f.kept → EndsWithin f.kept (done - f.before) → Flies start f published f.known
    → Flies start (record f { known = max f.known done }) published (max f.known (min done (ticks_together published)))
learned_within start f published done some within is =
    let all = all_is start f published f.known is in
    let few = few_within f.kept (done - f.before) within in
    let known = known_few start f published f.known is in
    let same : max f.known done ≡ max f.known (min done (ticks_together published)) = grind arith in
    subst (Flies start (record f { known = max f.known done }) published) same
    (learned start f published (max f.known done) (omega arith) (within_both f.kept f.known done f.before is.within within) is)

-- what is known once the loop is over
pub known_at_last : (before known done all : ℕ) → before ≤ known → known ≤ max before done → known ≤ all → max known (min done all) ≡ max before (min done all)
known_at_last before known done all low high few = grind arith

pub fewer_found : (published : List Piece) (known done : ℕ) → known ≤ ticks_together published → unfinished published (max known (min done (ticks_together published))) ≤ unfinished published done
fewer_found published known done few = elim (cases_lt (ticks_together published) done) [
  | inl over ↦ let none = finished_all published (max known (min done (ticks_together published))) (grind arith) in omega arith
  | inr under ↦ fewer_later published done (max known (min done (ticks_together published))) (grind arith)
]

pub no_pieces : (ps : List Piece) → length ps ≡ 0 → ps ≡ []
no_pieces [] none = refl
no_pieces (p ∷ ps) none = absurd (omega arith)

pub some_pieces : (ps : List Piece) (done : ℕ) → 0 < length ps → (ps ≡ []) ⊎ EndsWithin ps done → EndsWithin ps done
some_pieces ps done some (inl none) = absurd (let no : length ps ≡ 0 = ap length none in omega arith)
some_pieces ps done some (inr within) = within
