-- The planned speeds that a plan keeps, while a segment of its tail is taken.
use Rattle.std.proofs.Common.{◌≡◌, ◌≢◌, ℕ, ◌+◌, ◌-◌, ◌*◌, ◌≤◌, ◌<◌, ◌⊎◌, inl, inr, refl, arith, ap, sym, ◌∙◌, subst}
use Rattle.std.proofs.Common.{List, [], ◌∷◌, length, get_or, take, drop, set, get_or-take, get_or-drop}
use Rattle.std.proofs.lemmas.Bool.{cases_eq}
use Rattle.std.proofs.lemmas.List.{drop-take}
use Rattle.std.proofs.lemmas.List.Elements.{All-head}
use Rattle.line_geom.specs.declared.Block.{Block}
use Rattle.overrides.specs.declared.Overrides.{Overrides}
use Rattle.overrides.specs.Percents.{IsOverrides}
use Rattle.profile.specs.Profiles.{distance}
use Rattle.profile.specs.Caps.{caps, planned}
use Rattle.profile.specs.Settled.{IsSettled, IsLastSettled}
use Rattle.profile.proofs.Kept.{kept_within_reach, dropped_keeps}
use Rattle.profile.proofs.Slowing.{planned_first}
use Rattle.profile.proofs.Settled.{settled_none}
use Rattle.profile.proofs.Settling.{settled_first, settled_within_reach, settled_dropped}
use Rattle.plan_rules.specs.Blocks.{IsBlock, left_of, top_of, gap_of, gaps_of, soft_of, softs_of, hard_of, hards_of}
use Rattle.plan_passes.specs.Tables.{IsTabled, IsMovedUp, KeepsPlan}
use Rattle.plan_rules.specs.Plans.{planned_at, IsReached, IsSettledAt, IsPointer, IsLastPoint}
use Rattle.plan_rules.specs.Segments.{IsGoing, IsHolding, IsSegment, moved}
use Rattle.plan_rules.proofs.Junctions.{length-gaps, length-joints}
use Rattle.plan_rules.proofs.Reached.{plan_of, reached_cleared, softer, segment_steps, moved_reached, length-moved, gap_split, kept_gap, gone_gap, left_gap}
use Rattle.plan_passes.proofs.Moved.{tail_gone, tail_left}
use Rattle.plan_passes.proofs.Filling.{joints_up}

-- some slots
pub one_below : (N : ℕ) → 2 ≤ N → 1 < N
one_below N some = omega (arith, some)

pub none_below : (N : ℕ) → 2 ≤ N → 0 < N
none_below N some = omega (arith, some)

-- the soft caps know nothing of what is prepared
softs_same : (o : Overrides) (b : Block) (n : ℕ) (bs : List Block)
    → softs_of o (record b { prepared = n } ∷ bs) ≡ softs_of o (b ∷ bs)
unfolding soft_of hard_of top_of
softs_same o b n [] = refl
softs_same o b n (c ∷ cs) = refl

module _ (b : Block) (bs : List Block) (w n v : ℕ) (o : Overrides) (is : IsReached (plan_of (b ∷ bs) w o))
    (way : IsGoing (plan_of (b ∷ bs) w o) b n v ⊎ IsHolding (plan_of (b ∷ bs) w o) b n v)
    (reach : distance v (planned_at (plan_of (b ∷ bs) w o) 1) ≤ b.geom.q * (left_of b - n)) where
  -- no planned speed ahead changes
  ahead : (i : ℕ) → i ≤ length bs
      → planned v (b.geom.q * (left_of b - n) ∷ gaps_of bs) (softs_of o (b ∷ bs)) (i + 1)
      ≡ planned_at (plan_of (b ∷ bs) w o) (i + 1)
  unfolding planned_at
  ahead i h =
      let steps = segment_steps b bs w n v o is way in
      let whole = gap_split b n steps.within in
      let long = length-gaps bs in
      let q = b.geom.q in
      let left = left_of b - n in
      let gaps = gaps_of bs in
      let softs = softs_of o (b ∷ bs) in
      let many : length gaps ≡ length softs = omega (arith, long, length-joints (soft_of o) (b ∷ bs)) in
      let near : distance v (planned w (q * (left + n) ∷ gaps) softs 1) ≤ q * left =
      subst (λ g. distance v (planned w (g ∷ gaps) softs 1) ≤ q * left) whole reach in
      kept_within_reach w v q n left gaps softs i many steps.near near (omega (arith, h, long))
      ∙ ap (λ g. planned w (g ∷ gaps) softs (i + 1)) (sym whole)

  -- some of the tail is left
  ahead_left : (i : ℕ) → i ≤ length bs
      → planned_at (plan_of (record b { prepared = b.prepared + n } ∷ bs) v o) (i + 1)
      ≡ planned_at (plan_of (b ∷ bs) w o) (i + 1)
  unfolding planned_at
  ahead_left i h =
      let b' : Block = record b { prepared = b.prepared + n } in
      let gap = b.geom.q * (left_of b - n) in
      ap (λ g. planned v (g ∷ gaps_of bs) (softs_of o (b' ∷ bs)) (i + 1)) (sym (kept_gap b n))
      ∙ ap (λ softs. planned v (gap ∷ gaps_of bs) softs (i + 1)) (softs_same o b (b.prepared + n) bs) ∙ ahead i h

  -- a settled point ahead stays settled
  pointed : (i : ℕ) → i ≤ length bs → IsSettledAt (plan_of (b ∷ bs) w o) (i + 1)
      → IsSettled (b.geom.q * (left_of b - n) ∷ gaps_of bs) (caps v (b.geom.q * (left_of b - n) ∷ gaps_of bs) (softs_of o (b ∷ bs))) (i + 1)
  unfolding planned_at
  pointed i h settled =
      let steps = segment_steps b bs w n v o is way in
      let whole = gap_split b n steps.within in
      let long = length-gaps bs in
      let q = b.geom.q in
      let left = left_of b - n in
      let gaps = gaps_of bs in
      let softs = softs_of o (b ∷ bs) in
      let many : length gaps ≡ length softs = omega (arith, long, length-joints (soft_of o) (b ∷ bs)) in
      let near : distance v (planned w (q * (left + n) ∷ gaps) softs 1) ≤ q * left =
      subst (λ g. distance v (planned w (g ∷ gaps) softs 1) ≤ q * left) whole reach in
      let was : IsSettled (q * (left + n) ∷ gaps) (caps w (q * (left + n) ∷ gaps) softs) (i + 1) =
      subst (λ g. IsSettled (g ∷ gaps) (caps w (g ∷ gaps) softs) (i + 1)) whole settled in
      settled_within_reach w v q n left gaps softs i many steps.near near (omega (arith, h, long)) was

  -- some of the tail is left
  pointed_left : (i : ℕ) → i ≤ length bs → IsSettledAt (plan_of (b ∷ bs) w o) (i + 1)
      → IsSettledAt (plan_of (record b { prepared = b.prepared + n } ∷ bs) v o) (i + 1)
  pointed_left i h settled =
      let b' : Block = record b { prepared = b.prepared + n } in
      subst (λ softs. IsSettled (gaps_of (b' ∷ bs)) (caps v (gaps_of (b' ∷ bs)) softs) (i + 1)) (sym (softs_same o b (b.prepared + n) bs))
      (subst (λ g. IsSettled (g ∷ gaps_of bs) (caps v (g ∷ gaps_of bs) (softs_of o (b ∷ bs))) (i + 1)) (kept_gap b n) (pointed i h settled))

-- the present place is settled
pub reached_settled : (bs : List Block) (w : ℕ) (o : Overrides) → IsReached (plan_of bs w o) → IsSettledAt (plan_of bs w o) 0
reached_settled [] w o is = settled_none [] (caps w [] []) refl
reached_settled (b ∷ bs) w o is =
    let long = length-gaps (b ∷ bs) in
    let many : length (gaps_of (b ∷ bs)) ≡ length (hards_of (b ∷ bs)) + 1 = omega (arith, long, length-joints hard_of (b ∷ bs)) in
    settled_first w (gaps_of (b ∷ bs)) (hards_of (b ∷ bs)) (softs_of o (b ∷ bs)) many (softer o (b ∷ bs)) is.slowable

-- and has the present speed
pub reached_first : (bs : List Block) (w : ℕ) (o : Overrides) → 0 < length bs → IsReached (plan_of bs w o)
    → planned w (gaps_of bs) (softs_of o bs) 0 ≡ w
reached_first bs w o some is =
    let long = length-gaps bs in
    let many : length (gaps_of bs) ≡ length (hards_of bs) + 1 = omega (arith, some, long, length-joints hard_of bs) in
    planned_first w (gaps_of bs) (softs_of o bs) (hards_of bs) many is.slowable (softer o bs)

-- no block stands
pub pointer_none : (bs : List Block) (w : ℕ) (o : Overrides) → bs ≡ [] → IsPointer (plan_of bs w o) 0
pointer_none bs w o e =
    let none = ap length e in
    let long = length-gaps bs in
    record {
      before = λ some. some;
      none = λ z. refl;
      settled = settled_none (gaps_of bs) (caps w (gaps_of bs) (softs_of o bs)) (omega (arith, none, long));
    }

-- nothing of the tail is left: each point has the number before it
ahead_gone : (b : Block) (bs : List Block) (w n v : ℕ) (o : Overrides) (is : IsReached (plan_of (b ∷ bs) w o))
    (way : IsGoing (plan_of (b ∷ bs) w o) b n v ⊎ IsHolding (plan_of (b ∷ bs) w o) b n v)
    (reach : distance v (planned_at (plan_of (b ∷ bs) w o) 1) ≤ b.geom.q * (left_of b - n))
    → n ≡ left_of b → (j : ℕ) → 0 < j → j ≤ length bs
    → planned_at (plan_of bs v o) j ≡ planned_at (plan_of (b ∷ bs) w o) (j + 1)
unfolding planned_at
ahead_gone b [] w n v o is way reach same j some h = absurd (omega arith)
ahead_gone b (c ∷ cs) w n v o is way reach same j some h =
    let long = length-gaps (c ∷ cs) in
    let gaps = gaps_of (c ∷ cs) in
    let softs = softs_of o (c ∷ cs) in
    let many : length gaps ≡ length softs + 1 = omega (arith, long, length-joints (soft_of o) (c ∷ cs)) in
    sym (dropped_keeps v (soft_of o b c) gaps softs j many (omega (arith, h, long)))
    ∙ ap (λ g. planned v (g ∷ gaps) (softs_of o (b ∷ c ∷ cs)) (j + 1)) (sym (gone_gap b n same))
    ∙ ahead b (c ∷ cs) w n v o is way reach j h

pointer_gone : (b : Block) (bs : List Block) (w n v settled settled' : ℕ) (o : Overrides) (is : IsReached (plan_of (b ∷ bs) w o))
    (way : IsGoing (plan_of (b ∷ bs) w o) b n v ⊎ IsHolding (plan_of (b ∷ bs) w o) b n v)
    (reach : distance v (planned_at (plan_of (b ∷ bs) w o) 1) ≤ b.geom.q * (left_of b - n))
    → n ≡ left_of b → IsReached (plan_of bs v o) → settled' ≡ settled - 1 → IsPointer (plan_of (b ∷ bs) w o) settled
    → IsPointer (plan_of bs v o) settled'
pointer_gone b [] w n v settled settled' o is way reach same reached e was =
    let low = was.before (omega arith) in
    let zero : settled' ≡ 0 = omega (arith, e, low) in
    subst (λ j. IsPointer (plan_of [] v o) j) (sym zero) (pointer_none [] v o refl)
pointer_gone b (c ∷ cs) w n v settled settled' o is way reach same reached e was =
    let low = was.before (omega arith) in
    elim (cases_eq settled 0) [
      | inl z ↦
          let zero : settled' ≡ 0 = omega (arith, e, z) in
          record {
            before = λ some. omega (arith, zero);
            none = λ none. zero;
            settled = subst (λ j. IsSettledAt (plan_of (c ∷ cs) v o) j) (sym zero) (reached_settled (c ∷ cs) v o reached);
          }
      | inr nz ↦
          let i = settled - 1 in
          let on : settled ≡ i + 1 = omega (arith, nz) in
          let long = length-gaps (c ∷ cs) in
          let gaps = gaps_of (c ∷ cs) in
          let softs = softs_of o (c ∷ cs) in
          let many : length gaps ≡ length softs + 1 = omega (arith, long, length-joints (soft_of o) (c ∷ cs)) in
          let at = pointed b (c ∷ cs) w n v o is way reach i (omega (arith, low))
          (subst (λ j. IsSettledAt (plan_of (b ∷ c ∷ cs) w o) j) on was.settled) in
          let at_none : IsSettled (0 ∷ gaps) (caps v (0 ∷ gaps) (softs_of o (b ∷ c ∷ cs))) (i + 1) =
          subst (λ g. IsSettled (g ∷ gaps) (caps v (g ∷ gaps) (softs_of o (b ∷ c ∷ cs))) (i + 1)) (gone_gap b n same) at in
          record {
            before = λ some. omega (arith, e, low, nz);
            none = λ none. absurd (omega (arith, none));
            settled = subst (λ j. IsSettledAt (plan_of (c ∷ cs) v o) j) (sym e)
                (settled_dropped v (soft_of o b c) gaps softs i many (omega (arith, low, long)) at_none);
          }
    ]

pointer_left : (b : Block) (bs : List Block) (w n v settled : ℕ) (o : Overrides) (is : IsReached (plan_of (b ∷ bs) w o))
    (way : IsGoing (plan_of (b ∷ bs) w o) b n v ⊎ IsHolding (plan_of (b ∷ bs) w o) b n v)
    (reach : distance v (planned_at (plan_of (b ∷ bs) w o) 1) ≤ b.geom.q * (left_of b - n))
    → IsReached (plan_of (record b { prepared = b.prepared + n } ∷ bs) v o) → IsPointer (plan_of (b ∷ bs) w o) settled
    → IsPointer (plan_of (record b { prepared = b.prepared + n } ∷ bs) v o) settled
pointer_left b bs w n v settled o is way reach reached was =
    let b' : Block = record b { prepared = b.prepared + n } in
    let low = was.before (omega arith) in
    elim (cases_eq settled 0) [
      | inl z ↦ record {
        before = λ some. omega (arith, low);
        none = λ none. z;
        settled = subst (λ j. IsSettledAt (plan_of (b' ∷ bs) v o) j) (sym z) (reached_settled (b' ∷ bs) v o reached);
      }
      | inr nz ↦
          let i = settled - 1 in
          let on : settled ≡ i + 1 = omega (arith, nz) in
          record {
            before = λ some. omega (arith, low);
            none = λ none. absurd (omega (arith, none));
            settled = subst (λ j. IsSettledAt (plan_of (b' ∷ bs) v o) j) (sym on)
                (pointed_left b bs w n v o is way reach i (omega (arith, low))
                (subst (λ j. IsSettledAt (plan_of (b ∷ bs) w o) j) on was.settled));
          }
    ]

-- the last settled point, of a plan that is made anew
pub last_point : (w count settled : ℕ) (bs : List Block) (o : Overrides) (gap_row soft_row : List ℕ) → IsTabled bs o gap_row soft_row
    → count ≡ length bs → (0 < count → IsLastSettled (take count gap_row) (caps w (take count gap_row) (take (count - 1) soft_row)) settled)
    → (count ≡ 0 → settled ≡ 0) → IsLastPoint (plan_of bs w o) settled
last_point w count settled bs o gap_row soft_row tabled many last none =
    let long = length-gaps bs in
    let stands : 0 < length bs → IsLastSettled (gaps_of bs) (caps w (gaps_of bs) (softs_of o bs)) settled = λ some.
    subst (λ softs. IsLastSettled (gaps_of bs) (caps w (gaps_of bs) softs) settled) tabled.softs
    (subst (λ gaps. IsLastSettled gaps (caps w gaps (take (length bs - 1) soft_row)) settled) tabled.gaps
    (subst (λ n. IsLastSettled (take n gap_row) (caps w (take n gap_row) (take (n - 1) soft_row)) settled) many (last (omega (arith, some, many))))) in
    record {
      point = record {
        before = λ some. let low = (stands some).before in omega (arith, low, long);
        none = λ z. none (omega (arith, z, many));
        settled = elim (cases_eq (length bs) 0) [
          | inl z ↦
              let zero = none (omega (arith, z, many)) in
              subst (λ j. IsSettledAt (plan_of bs w o) j) (sym zero) (settled_none (gaps_of bs) (caps w (gaps_of bs) (softs_of o bs)) (omega (arith, z, long)))
          | inr nz ↦ (stands (omega (arith, nz))).settled
        ];
      };
      last = λ i h is. (stands (omega (arith, h))).last i (omega (arith, h, long)) is;
    }

-- the plan is made anew
pub kept_anew : (N w count settled : ℕ) (bs : List Block) (o : Overrides) (speeds gap_row soft_row : List ℕ) → 2 ≤ N → N ≤ 64
    → length bs < N → IsReached (plan_of bs w o) → IsTabled bs o gap_row soft_row → count ≡ length bs
    → ((j : ℕ) → 0 < j → j ≤ count → get_or speeds j 0 ≡ planned w (take count gap_row) (take (count - 1) soft_row) j)
    → (0 < count → IsLastSettled (take count gap_row) (caps w (take count gap_row) (take (count - 1) soft_row)) settled)
    → (count ≡ 0 → settled ≡ 0)
    → KeepsPlan N (plan_of bs w o) speeds gap_row soft_row settled
unfolding planned_at
kept_anew N w count settled bs o speeds gap_row soft_row some few room is tabled many at last none = record {
  some = some;
  few = few;
  room = room;
  reached = is;
  planned = λ j h l.
      at j h (omega arith) ∙ ap (λ n. planned w (take n gap_row) (take (n - 1) soft_row) j) many
      ∙ ap (λ gaps. planned w gaps (take (length bs - 1) soft_row) j) tabled.gaps
      ∙ ap (λ softs. planned w (gaps_of bs) softs j) tabled.softs;
  tabled = tabled;
  pointer = (last_point w count settled bs o gap_row soft_row tabled many last none).point;
}

-- no block stands, at rest
pub kept_none : (N : ℕ) (bs : List Block) (o : Overrides) (speeds gap_row soft_row : List ℕ) → 2 ≤ N → N ≤ 64 → IsOverrides o → bs ≡ []
    → KeepsPlan N (plan_of bs 0 o) speeds gap_row soft_row 0
kept_none N bs o speeds gap_row soft_row some few right none =
    subst (λ bs. KeepsPlan N (plan_of bs 0 o) speeds gap_row soft_row 0) (sym none) record {
      some = some;
      few = few;
      room = omega (arith, some);
      reached = reached_cleared o right;
      planned = λ j h l. absurd (omega (arith, h, l));
      tabled = record { gaps = refl; softs = refl };
      pointer = pointer_none [] 0 o refl;
    }

-- what stands beside the blocks while a segment of the tail is taken
module _ (N n g : ℕ) (o : Overrides) (gap_row gap_row' soft_row soft_row' : List ℕ)
    (gaps_left : g ≢ 0 → gap_row' ≡ set gap_row 0 g) (softs_left : g ≢ 0 → soft_row' ≡ soft_row)
    (gaps_gone : g ≡ 0 → IsMovedUp N gap_row gap_row') (softs_gone : g ≡ 0 → IsMovedUp N soft_row soft_row') where
  -- nothing of the tail is left
  gaps_up : (b : Block) (bs : List Block) → length (b ∷ bs) < N → take (length (b ∷ bs)) gap_row ≡ gaps_of (b ∷ bs) → g ≡ 0
      → take (length bs) gap_row' ≡ gaps_of bs
  gaps_up b bs room is none =
      let on : length (b ∷ bs) ≡ 1 + length bs = omega arith in
      gaps_gone none (length bs) (omega arith) ∙ sym (drop-take 1 (length bs) gap_row)
      ∙ ap (drop 1) (subst (λ k. take k gap_row ≡ gaps_of (b ∷ bs)) on is)

  -- some of the tail is left
  gap_put : (b b' : Block) (bs : List Block) (row : List ℕ) → take (length (b ∷ bs)) row ≡ gaps_of (b ∷ bs) → g ≡ gap_of b'
      → take (length (b' ∷ bs)) (set row 0 g) ≡ gaps_of (b' ∷ bs)
  gap_put b b' bs [] is e = absurd (let long = ap length is in omega (arith, long))
  gap_put b b' bs (x ∷ xs) is e = ap (λ k. k ∷ take (length bs) xs) e ∙ ap (λ gs. gap_of b' ∷ gs) (ap (drop 1) is)

  tabled_gone : (b : Block) (bs : List Block) → length (b ∷ bs) < N → IsTabled (b ∷ bs) o gap_row soft_row → g ≡ 0
      → IsTabled bs o gap_row' soft_row'
  tabled_gone b bs room is none = record {
    gaps = gaps_up b bs room is.gaps none;
    softs = joints_up (soft_of o) N soft_row soft_row' b bs room (softs_gone none) is.softs;
  }

  tabled_left : (b : Block) (bs : List Block) → IsTabled (b ∷ bs) o gap_row soft_row → g ≢ 0
      → g ≡ gap_of (record b { prepared = b.prepared + n })
      → IsTabled (record b { prepared = b.prepared + n } ∷ bs) o gap_row' soft_row'
  tabled_left b bs is left e =
      let b' : Block = record b { prepared = b.prepared + n } in
      record {
        gaps = ap (take (length (b' ∷ bs))) (gaps_left left) ∙ gap_put b b' bs gap_row is.gaps e;
        softs = ap (take (length (b' ∷ bs) - 1)) (softs_left left) ∙ is.softs ∙ sym (softs_same o b (b.prepared + n) bs);
      }

  pub tabled_moved : (w v settled : ℕ) (speeds : List ℕ) (bs bs' : List Block) → KeepsPlan N (plan_of bs w o) speeds gap_row soft_row settled
      → IsSegment (plan_of bs w o) n v → bs' ≡ moved n bs
      → ((b : Block) (rest : List Block) → bs ≡ b ∷ rest → g ≡ b.geom.q * (left_of b - n)) → IsTabled bs' o gap_row' soft_row'
  tabled_moved w v settled speeds [] bs' is segment e gap = absurd segment
  tabled_moved w v settled speeds (b ∷ bs) bs' is segment e gap =
      let b' : Block = record b { prepared = b.prepared + n } in
      let steps = segment_steps b bs w n v o is.reached segment in
      let block = All-head IsBlock b bs is.reached.each in
      let now = gap b bs refl in
      elim (cases_eq g 0) [
        | inl none ↦
            let same = left_gap b n block steps.within (sym now ∙ none) in
            subst (λ bs. IsTabled bs o gap_row' soft_row') (sym (tail_gone b bs bs' n e same))
            (tabled_gone b bs is.room is.tabled none)
        | inr left ↦
            subst (λ bs. IsTabled bs o gap_row' soft_row') (sym (tail_left b bs bs' n g e now left))
            (tabled_left b bs is.tabled left (now ∙ kept_gap b n))
      ]

-- a segment is taken, and the speed at the tail's end stays within reach
module _ (N w n v g settled settled' : ℕ) (o : Overrides) (speeds speeds' gap_row soft_row gap_row' soft_row' : List ℕ)
    (left_same : g ≢ 0 → speeds' ≡ speeds) (gone_up : g ≡ 0 → IsMovedUp N speeds speeds')
    (point_left : g ≢ 0 → settled' ≡ settled) (point_gone : g ≡ 0 → settled' ≡ settled - 1) where
  reach_is : (b : Block) (bs : List Block) → KeepsPlan N (plan_of (b ∷ bs) w o) speeds gap_row soft_row settled → g ≡ b.geom.q * (left_of b - n)
      → distance v (get_or speeds 1 0) ≤ g
      → distance v (planned_at (plan_of (b ∷ bs) w o) 1) ≤ b.geom.q * (left_of b - n)
  reach_is b bs is gap reach =
      let exit = is.planned 1 (omega arith) (omega arith) in
      omega (arith, exit, gap, reach)

  -- what stood one place further on
  up_at : (j : ℕ) → g ≡ 0 → j + 1 < N → get_or speeds' j 0 ≡ get_or speeds (j + 1) 0
  up_at j none room =
      let on : 1 + j ≡ j + 1 = omega arith in
      sym (get_or-take (j + 1) speeds' j 0 (omega arith)) ∙ ap (λ l. get_or l j 0) (gone_up none (j + 1) room)
      ∙ get_or-take (j + 1) (drop 1 speeds) j 0 (omega arith) ∙ get_or-drop 1 speeds j 0 ∙ ap (λ k. get_or speeds k 0) on

  pub kept_on : (bs bs' : List Block) → KeepsPlan N (plan_of bs w o) speeds gap_row soft_row settled → IsSegment (plan_of bs w o) n v
      → bs' ≡ moved n bs → ((b : Block) (rest : List Block) → bs ≡ b ∷ rest → g ≡ b.geom.q * (left_of b - n))
      → distance v (get_or speeds 1 0) ≤ g → IsTabled bs' o gap_row' soft_row' → KeepsPlan N (plan_of bs' v o) speeds' gap_row' soft_row' settled'
  kept_on [] bs' is segment e gap reach tabled = absurd segment
  kept_on (b ∷ bs) bs' is segment e gap reach tabled =
      let b' : Block = record b { prepared = b.prepared + n } in
      let now = gap b bs refl in
      let reach' = reach_is b bs is now reach in
      let steps = segment_steps b bs w n v o is.reached segment in
      let block = All-head IsBlock b bs is.reached.each in
      let fewer = length-moved n (b ∷ bs) in
      let many = ap length e in
      let room = is.room in
      let left_at : g ≢ 0 → (j : ℕ) → 0 < j → j ≤ length bs' → get_or speeds' j 0 ≡ planned_at (plan_of bs' v o) j = λ left j h l.
      let put : bs' ≡ b' ∷ bs = tail_left b bs bs' n g e now left in
      let back : j - 1 + 1 ≡ j = omega arith in
      let size = ap length put in
      let same = ahead_left b bs w n v o is.reached segment reach' (j - 1) (omega (arith, size)) in
      ap (λ l. get_or l j 0) (left_same left) ∙ is.planned j h (omega (arith, size))
      ∙ subst (λ j. planned_at (plan_of (b ∷ bs) w o) j ≡ planned_at (plan_of (b' ∷ bs) v o) j) back (sym same)
      ∙ ap (λ bs. planned_at (plan_of bs v o) j) (sym put) in
      let gone_at : g ≡ 0 → (j : ℕ) → 0 < j → j ≤ length bs' → get_or speeds' j 0 ≡ planned_at (plan_of bs' v o) j = λ none j h l.
      let same = left_gap b n block steps.within (sym now ∙ none) in
      let put : bs' ≡ bs = tail_gone b bs bs' n e same in
      let size = ap length put in
      up_at j none (omega (arith, size, room)) ∙ is.planned (j + 1) (omega arith) (omega (arith, size))
      ∙ sym (ahead_gone b bs w n v o is.reached segment reach' same j h (omega (arith, size)))
      ∙ ap (λ bs. planned_at (plan_of bs v o) j) (sym put) in
      let now_reached = moved_reached (b ∷ bs) bs' w n v o e is.reached segment in
      record {
        some = is.some;
        few = is.few;
        room = omega (arith, room, fewer, many);
        reached = now_reached;
        planned = λ j h l. elim (cases_eq g 0) [ inl none ↦ gone_at none j h l | inr left ↦ left_at left j h l ];
        tabled = tabled;
        pointer = elim (cases_eq g 0) [
          | inl none ↦
              let same = left_gap b n block steps.within (sym now ∙ none) in
              let put : bs' ≡ bs = tail_gone b bs bs' n e same in
              subst (λ bs. IsPointer (plan_of bs v o) settled') (sym put)
              (pointer_gone b bs w n v settled settled' o is.reached segment reach' same (subst (λ bs. IsReached (plan_of bs v o)) put now_reached)
              (point_gone none) is.pointer)
          | inr left ↦
              let put : bs' ≡ b' ∷ bs = tail_left b bs bs' n g e now left in
              subst (λ bs. IsPointer (plan_of bs v o) settled') (sym put)
              (subst (λ j. IsPointer (plan_of (b' ∷ bs) v o) j) (sym (point_left left))
              (pointer_left b bs w n v settled o is.reached segment reach' (subst (λ bs. IsReached (plan_of bs v o)) put now_reached) is.pointer))
        ];
      }
