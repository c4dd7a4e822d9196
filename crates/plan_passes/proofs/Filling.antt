-- The tables of gaps and caps, one more entry at a time.
use Rattle.std.proofs.Common.{◌≡◌, ℕ, zero, suc, ◌+◌, ◌-◌, ◌*◌, ◌^◌, ◌≤◌, ◌<◌, max, inl, inr, refl, arith, ap, sym, ◌∙◌, subst}
use Rattle.std.proofs.Common.{List, [], ◌∷◌, ◌++◌, length, get_or, map, take, drop, set, add-one, get_or-set_same, get_or-set_other}
use Rattle.std.specs.List.{All}
use Rattle.std.proofs.lemmas.List.{take_more, take_more_set, take_all, take-append-le, drop-take, get_or-map, get_or_past}
use Rattle.std.proofs.lemmas.List.{length_push, length-map, map_push}
use Rattle.std.proofs.lemmas.List.Elements.{All-get_or}
use Rattle.std.proofs.lemmas.Bool.{cases_lt, cases_eq}
use Rattle.std.proofs.Math.Nat.{mul-le-mul}
use Rattle.profile.specs.Profiles.{place, profile, greatest}
use Rattle.profile.specs.Caps.{caps, planned}
use Rattle.profile.specs.Settled.{IsPlannedTo}
use Rattle.profile.proofs.Places.{profile_at}
use Rattle.profile.proofs.Caps.{caps_inner, caps_last}
use Rattle.line_geom.specs.declared.Block.{Block}
use Rattle.overrides.specs.declared.Overrides.{Overrides}
use Rattle.plan_rules.specs.Blocks.{IsBlock, left_of, gap_of, gaps_of, joints, soft_of, softs_of}
use Rattle.plan_passes.specs.Tables.{IsMovedUp}
use Rattle.plan_rules.proofs.Bounds.{bounds_of}
use Rattle.plan_rules.proofs.Junctions.{length-gaps, length-joints, joints_push}

-- a block that stands
pub standing : (bs : List Block) (i : ℕ) (b : Block) → i < length bs → ((d : Block) → b ≡ get_or bs i d)
    → All IsBlock bs → IsBlock b
standing bs i b h is all = subst IsBlock (sym (is b)) (All-get_or IsBlock bs i b h all)

-- one more entry of a table that is filled from the front
pub filled_more : (to xs : List ℕ) (i x : ℕ) → i < length xs → i < length to → x ≡ get_or xs i 0
    → take i to ≡ take i xs → take (i + 1) (set to i x) ≡ take (i + 1) xs
filled_more to xs i x h h' e is =
    take_more_set to i x h' ∙ ap (λ s. s ++ x ∷ []) is ∙ ap (λ y. take i xs ++ y ∷ []) e ∙ sym (take_more xs i 0 h)

-- a number of each block
pub number_at : (f : Block → ℕ) (bs : List Block) (i : ℕ) (b : Block) → i < length bs → ((d : Block) → b ≡ get_or bs i d)
    → f b ≡ get_or (map f bs) i 0
number_at f bs i b h is = ap f (is b) ∙ sym (get_or-map f bs i b 0 h)

-- that of one more block
pub number_filled : (f : Block → ℕ) (bs : List Block) (row : List ℕ) (i x : ℕ) (b : Block) → i < length bs → i < length row
    → ((d : Block) → b ≡ get_or bs i d) → x ≡ f b
    → take i row ≡ take i (map f bs) → take (i + 1) (set row i x) ≡ take (i + 1) (map f bs)
number_filled f bs row i x b h size is e filled =
    let n = length-map bs f in
    filled_more row (map f bs) i x (omega (arith, n)) size (e ∙ number_at f bs i b h is) filled

-- the number of a junction
pub joints_in : (f : Block → Block → ℕ) (bs : List Block) (i : ℕ) (d : Block) → suc i < length bs
    → get_or (joints f bs) i 0 ≡ f (get_or bs i d) (get_or bs (suc i) d)
joints_in f [] i d h = absurd (omega arith)
joints_in f (b ∷ []) i d h = absurd (omega arith)
joints_in f (a ∷ b ∷ bs) zero d h = refl
joints_in f (a ∷ b ∷ bs) (suc i) d h = joints_in f (b ∷ bs) i d (omega arith)

joints_at : (f : Block → Block → ℕ) (bs : List Block) (i : ℕ) (a b : Block) → i + 1 < length bs
    → ((d : Block) → a ≡ get_or bs i d) → ((d : Block) → b ≡ get_or bs (i + 1) d) → f a b ≡ get_or (joints f bs) i 0
joints_at f bs i a b h first second =
    let e : b ≡ get_or bs (suc i) a = rw add-one at (second a) in
    ap (λ x. f x b) (first a) ∙ ap (λ x. f (get_or bs i a) x) e ∙ sym (joints_in f bs i a (omega arith))

-- how much a block's gap is at most
pub gap_small : (b : Block) → IsBlock b → gap_of b < 2 ^ 71
unfolding gap_of
gap_small b is =
    let bounds = bounds_of b is in
    let few : left_of b ≤ 200000000 = omega (arith, bounds.n_high) in
    let le : b.geom.q * left_of b ≤ 8000000000000 * 200000000 = mul-le-mul bounds.q_high few in
    omega (arith, le)

pub gap_at_small : (bs : List Block) (i : ℕ) → All IsBlock bs → get_or (gaps_of bs) i 0 < 2 ^ 71
gap_at_small [] i all = omega arith
gap_at_small (b ∷ bs) i all =
    elim (cases_lt i (length (b ∷ bs))) [
      | inl m ↦
          let is = All-get_or IsBlock (b ∷ bs) i b m all in
          rw (get_or-map gap_of (b ∷ bs) i b 0 m) (gap_small (get_or (b ∷ bs) i b) is)
      | inr m ↦
          let n = length-gaps (b ∷ bs) in
          rw (get_or_past (gaps_of (b ∷ bs)) i 0 (omega (arith, n))) (omega arith)
    ]

-- that of one more junction
pub joint_filled : (f : Block → Block → ℕ) (bs : List Block) (row : List ℕ) (i x : ℕ) (a b : Block) → i + 1 < length bs → i < length row
    → ((d : Block) → a ≡ get_or bs i d) → ((d : Block) → b ≡ get_or bs (i + 1) d) → x ≡ f a b
    → take i row ≡ take i (joints f bs) → take (i + 1) (set row i x) ≡ take (i + 1) (joints f bs)
joint_filled f bs row i x a b h size first second e filled =
    let n = length-joints f bs in
    filled_more row (joints f bs) i x (omega (arith, n)) size (e ∙ joints_at f bs i a b h first second) filled

-- all of them, up to the last one
pub number_all : (f : Block → ℕ) (bs : List Block) (row : List ℕ) (i : ℕ) → i ≡ length bs → take i row ≡ take i (map f bs)
    → take (length bs) row ≡ map f bs
number_all f bs row i on filled =
    let n = length-map bs f in
    subst (λ n. take n row ≡ take n (map f bs)) on filled ∙ take_all (length bs) (map f bs) (omega (arith, n))

pub number_none : (f : Block → ℕ) (bs : List Block) (row : List ℕ) → length bs ≡ 0 → take (length bs) row ≡ map f bs
number_none f [] row none = refl
number_none f (b ∷ bs) row none = absurd (omega (arith, none))

-- that of the last block
pub number_last : (f : Block → ℕ) (bs : List Block) (row : List ℕ) (count x : ℕ) (b : Block) → count ≡ length bs → 0 < length bs
    → length bs ≤ length row → ((d : Block) → b ≡ get_or bs (count - 1) d) → x ≡ f b
    → take (length bs - 1) row ≡ take (length bs - 1) (map f bs) → take (length bs) (set row (count - 1) x) ≡ map f bs
number_last f bs row count x b many some room is e filled =
    let at : length bs - 1 ≡ count - 1 = omega arith in
    number_all f bs (set row (count - 1) x) (count - 1 + 1) (omega arith)
    (number_filled f bs row (count - 1) x b (omega arith) (omega arith) is e (subst (λ i. take i row ≡ take i (map f bs)) at filled))

-- fewer than two blocks have no junction
pub joint_none : (f : Block → Block → ℕ) (bs : List Block) (row : List ℕ) → length bs < 2 → take (length bs - 1) row ≡ joints f bs
joint_none f [] row h = refl
joint_none f (b ∷ []) row h = refl
joint_none f (a ∷ b ∷ bs) row h = absurd (omega arith)

pub joints_none : (f : Block → Block → ℕ) (bs : List Block) (row : List ℕ) → length bs ≡ 0 → take (length bs - 1) row ≡ joints f bs
joints_none f bs row none = joint_none f bs row (omega (arith, none))

-- all junctions, up to the last one
pub joint_all : (f : Block → Block → ℕ) (bs : List Block) (row : List ℕ) (i : ℕ) → i ≡ length bs - 1
    → take i row ≡ take i (joints f bs) → take (length bs - 1) row ≡ joints f bs
joint_all f bs row i on filled =
    let n = length-joints f bs in
    subst (λ n. take n row ≡ take n (joints f bs)) on filled ∙ take_all (length bs - 1) (joints f bs) (omega (arith, n))

-- that of the last junction
pub joint_last : (f : Block → Block → ℕ) (bs : List Block) (row : List ℕ) (i x : ℕ) (a b : Block) → i + 2 ≡ length bs → i < length row
    → ((d : Block) → a ≡ get_or bs i d) → ((d : Block) → b ≡ get_or bs (i + 1) d) → x ≡ f a b
    → take (length bs - 2) row ≡ take (length bs - 2) (joints f bs) → take (length bs - 1) (set row i x) ≡ joints f bs
joint_last f bs row i x a b many size first second e filled =
    let at : length bs - 2 ≡ i = omega (arith, many) in
    joint_all f bs (set row i x) (i + 1) (omega (arith, many))
    (joint_filled f bs row i x a b (omega (arith, many)) size first second e (subst (λ k. take k row ≡ take k (joints f bs)) at filled))

-- those behind the first, where that is gone
pub joints_up : (f : Block → Block → ℕ) (N : ℕ) (row row' : List ℕ) (b : Block) (bs : List Block) → length (b ∷ bs) < N → IsMovedUp N row row'
    → take (length (b ∷ bs) - 1) row ≡ joints f (b ∷ bs) → take (length bs - 1) row' ≡ joints f bs
joints_up f N row row' b [] room up is = refl
joints_up f N row row' b (c ∷ cs) room up is =
    let m = length (c ∷ cs) - 1 in
    let on : length (b ∷ c ∷ cs) - 1 ≡ 1 + m = omega arith in
    up m (omega arith) ∙ sym (drop-take 1 m row) ∙ ap (drop 1) (subst (λ k. take k row ≡ joints f (b ∷ c ∷ cs)) on is)

-- those of the blocks in front of the last
pub numbers_before : (f : Block → ℕ) (bs bs' : List Block) (b : Block) (row : List ℕ) → bs' ≡ bs ++ b ∷ [] → take (length bs) row ≡ map f bs
    → take (length bs' - 1) row ≡ take (length bs' - 1) (map f bs')
numbers_before f bs bs' b row e is =
    let n = length-map bs f in
    let more : length bs' ≡ length bs + 1 = ap length e ∙ length_push bs b in
    let many : length bs ≡ length bs' - 1 = omega (arith, more) in
    let front : take (length bs) (map f bs') ≡ map f bs =
    ap (take (length bs)) (ap (map f) e ∙ map_push f bs b) ∙ take-append-le (length bs) (map f bs) (f b ∷ []) (omega (arith, n))
    ∙ take_all (length bs) (map f bs) (omega (arith, n)) in
    subst (λ n. take n row ≡ take n (map f bs')) many (is ∙ sym front)

-- those of the junctions in front of the last
pub joints_before : (f : Block → Block → ℕ) (bs bs' : List Block) (b : Block) (row : List ℕ) → bs' ≡ bs ++ b ∷ []
    → take (length bs - 1) row ≡ joints f bs → take (length bs' - 2) row ≡ take (length bs' - 2) (joints f bs')
joints_before f [] bs' b row e is =
    let none : 0 ≡ length bs' - 2 = omega (arith, ap length e) in
    subst (λ n. take n row ≡ take n (joints f bs')) none refl
joints_before f (a ∷ bs) bs' b row e is =
    let joint = joints_push f a bs b in
    let n = length-joints f (a ∷ bs) in
    let more : length bs' ≡ length (a ∷ bs) + 1 = ap length e ∙ length_push (a ∷ bs) b in
    let many : length (a ∷ bs) - 1 ≡ length bs' - 2 = omega (arith, more) in
    let front : take (length (a ∷ bs) - 1) (joints f bs') ≡ joints f (a ∷ bs) =
    ap (take (length (a ∷ bs) - 1)) (ap (joints f) e ∙ joint.1)
    ∙ take-append-le (length (a ∷ bs) - 1) (joints f (a ∷ bs)) (joint.0 ∷ []) (omega (arith, n))
    ∙ take_all (length (a ∷ bs) - 1) (joints f (a ∷ bs)) (omega (arith, n)) in
    subst (λ n. take n row ≡ take n (joints f bs')) many (is ∙ sym front)

pub softs_before : (o over : Overrides) (bs bs' : List Block) (b : Block) (row : List ℕ) → bs' ≡ bs ++ b ∷ []
    → (0 < length bs → o ≡ over) → take (length bs - 1) row ≡ softs_of over bs
    → take (length bs' - 2) row ≡ take (length bs' - 2) (softs_of o bs')
softs_before o over [] bs' b row e same is = joints_before (soft_of o) [] bs' b row e refl
softs_before o over (a ∷ bs) bs' b row e same is =
    joints_before (soft_of o) (a ∷ bs) bs' b row e (is ∙ ap (λ o. softs_of o (a ∷ bs)) (sym (same (omega arith))))

-- no gap in a row is great
pub row_small : (bs : List Block) (n : ℕ) (row : List ℕ) (i : ℕ) → n ≡ length bs → take (length bs) row ≡ gaps_of bs
    → All IsBlock bs → get_or (take n row) i 0 < 2 ^ 71
row_small bs n row i many is all =
    subst (λ n. get_or (take n row) i 0 < 2 ^ 71) (sym many)
    (subst (λ gs. get_or gs i 0 < 2 ^ 71) (sym is) (gap_at_small bs i all))

-- the cap of one more junction is written down
pub cap_put : (from w : ℕ) (gaps softs speeds : List ℕ) (i p v : ℕ) → i < length softs → i + 1 < length speeds
    → p ≡ place gaps (i + 1) → v ≡ max (get_or softs i 0) (w - p)
    → ((j : ℕ) → from < j → j ≤ i → get_or speeds j 0 ≡ get_or (caps w gaps softs) j 0)
    → (j : ℕ) → from < j → j ≤ i + 1 → get_or (set speeds (i + 1) v) j 0 ≡ get_or (caps w gaps softs) j 0
cap_put from w gaps softs speeds i p v size room at value filled j l u = elim (cases_lt i j) [
  | inr m ↦ get_or-set_other speeds (i + 1) j v 0 (omega (arith, m)) ∙ filled j l m
  | inl m ↦
      let e : i + 1 ≡ j = omega (arith, m, u) in
      let here = caps_inner w gaps softs i size in
      subst (λ j. get_or (set speeds (i + 1) v) j 0 ≡ get_or (caps w gaps softs) j 0) e
      (get_or-set_same speeds (i + 1) v 0 room ∙ omega (arith, here, at, value))
]

-- and 0 at the end
pub last_put : (from w i : ℕ) (gaps softs speeds : List ℕ) → length speeds ≡ length gaps + 1 → length softs + 1 ≡ length gaps
    → i ≡ length softs → ((j : ℕ) → from < j → j ≤ i → get_or speeds j 0 ≡ get_or (caps w gaps softs) j 0)
    → (j : ℕ) → from < j → j ≤ length gaps → get_or (set speeds (length softs + 1) 0) j 0 ≡ get_or (caps w gaps softs) j 0
last_put from w i gaps softs speeds size many at filled j l u = elim (cases_lt i j) [
  | inr m ↦ get_or-set_other speeds (length softs + 1) j 0 0 (omega (arith, m, at)) ∙ filled j l m
  | inl m ↦
      let e : length softs + 1 ≡ j = omega (arith, m, u, at, many) in
      subst (λ j. get_or (set speeds (length softs + 1) 0) j 0 ≡ get_or (caps w gaps softs) j 0) e
      (get_or-set_same speeds (length softs + 1) 0 0 (omega (arith, size, many)) ∙ sym (caps_last w gaps softs))
]

-- a plan up to a point, and the caps behind it
pub planned_to : (w from : ℕ) (gaps softs speeds was : List ℕ) → length speeds ≡ length gaps + 1 → planned w gaps softs 0 ≡ w
    → get_or speeds 0 0 ≡ w
    → ((j : ℕ) → 0 < j → j ≤ from → get_or was j 0 ≡ planned w gaps softs j)
    → ((j : ℕ) → 0 < j → j ≤ from → get_or speeds j 0 ≡ get_or was j 0)
    → ((j : ℕ) → from < j → j ≤ length gaps → get_or speeds j 0 ≡ get_or (caps w gaps softs) j 0)
    → IsPlannedTo gaps (caps w gaps softs) from speeds
unfolding planned
planned_to w from gaps softs speeds was size first here at same left = record {
  points = size;
  planned = λ i h. elim (cases_eq i 0) [
    | inl z ↦ subst (λ i. get_or speeds i 0 ≡ greatest gaps (caps w gaps softs) i) (sym z) (here ∙ sym first)
    | inr nz ↦ same i (omega (arith, nz)) h ∙ at i (omega (arith, nz)) h
  ];
  left = left;
}

-- what the passes leave at each point
pub planned_is : (w j : ℕ) (gaps softs done : List ℕ) → done ≡ profile gaps (caps w gaps softs) → j ≤ length gaps
    → get_or done j 0 ≡ planned w gaps softs j
unfolding planned
planned_is w j gaps softs done all h = ap (λ s. get_or s j 0) all ∙ profile_at gaps (caps w gaps softs) j h
