-- What is true of every plan stays true.
use Rattle.std.proofs.Common.{◌≡◌, ℕ, zero, suc, ◌+◌, ◌-◌, ◌*◌, ◌≤◌, ◌<◌, ◌⊎◌, inl, inr, min, refl, arith, ap, sym, ◌∙◌, subst}
use Rattle.std.proofs.Common.{List, [], ◌∷◌, ◌++◌, length, get_or, drop, cond, nat_eq, Bool, true, false}
use Rattle.std.proofs.Common.{Some, None, IfSome, Bor}
use Rattle.std.specs.declared.option.Option.{Option}
use Rattle.std.specs.List.{All}
use Rattle.std.proofs.Math.Nat.{mul-le-mul_left}
use Rattle.std.proofs.lemmas.Nat.{le-div}
use Rattle.std.proofs.lemmas.Bool.{cases_eq}
use Rattle.std.proofs.lemmas.Bool.Decides.{nat_tests}
use Rattle.std.proofs.lemmas.List.{map_push}
use Rattle.std.proofs.lemmas.List.Elements.{All-push, All-head, All-tail, All-cons}
use Rattle.line_geom.specs.declared.Cap.{Cap}
use Rattle.line_geom.specs.declared.Cap.TheVariants.{At, Free}
use Rattle.line_geom.specs.Geometry.{IsGeomOf}
use Rattle.line_geom.proofs.Geometries.{bounded}
use Rattle.units.specs.Limits.{IsRate}
use Rattle.line_geom.specs.declared.Block.{Block}
use Rattle.overrides.specs.declared.Overrides.{Overrides}
use Rattle.overrides.specs.Percents.{IsOverrides}
use Rattle.profile.specs.Profiles.{distance}
use Rattle.profile.specs.Caps.{IsSofter, planned}
use Rattle.profile.specs.Slowing.{IsSlowable, speed_after}
use Rattle.profile.proofs.Places.{profile_within, profile_at, greatest_of_all}
use Rattle.profile.proofs.Slowing.{slow_cleared, slow_first, slow_added, slow_gone, slow_holding, slow_dropped, slow_ended}
use Rattle.profile.proofs.Slowing.{gone_below, gone_near, planned_first}
use Rattle.plan_rules.specs.Blocks.{IsBlock, top_of, squared, left_of, gap_of, under, hard_of, soft_of}
use Rattle.plan_rules.specs.Blocks.{joints, gaps_of, hards_of, softs_of}
use Rattle.plan_rules.specs.Plans.{Planned, exit_of, planned_at, IsReached, IsWithinRapid, IsTail, caps_of, profile_of, IsGreatest}
use Rattle.plan_rules.specs.Segments.{IsGoing, IsHolding, IsSegment, count_of, stop_of, moved, IsLegalEnd, IsLegalStep}
use Rattle.plan_rules.proofs.Bounds.{bounds_of, top_le}
use Rattle.plan_rules.proofs.Junctions.{length-gaps, length-joints, joints_push}

abbrev pub plan_of : List Block → ℕ → Overrides → Planned
plan_of bs w o = record { blocks = bs; speed = w; overrides = o }

joints_le : (f g : Block → Block → ℕ) → ((a b : Block) → f a b ≤ g a b)
    → (bs : List Block) (j : ℕ) → get_or (joints f bs) j 0 ≤ get_or (joints g bs) j 0
joints_le f g le [] j = omega arith
joints_le f g le (b ∷ []) j = omega arith
joints_le f g le (a ∷ b ∷ bs) zero = le a b
joints_le f g le (a ∷ b ∷ bs) (suc j) = joints_le f g le (b ∷ bs) j

soft_le : (o : Overrides) (a b : Block) → soft_of o a b ≤ hard_of a b
unfolding soft_of
soft_le o a b = omega arith

pub softer : (o : Overrides) (bs : List Block) → IsSofter (softs_of o bs) (hards_of bs)
softer o bs = record {
  as_many = length-joints (soft_of o) bs ∙ sym (length-joints hard_of bs);
  below = λ j h. joints_le (soft_of o) hard_of (soft_le o) bs j;
}

under_le : (c : Cap) (n : ℕ) → under c n ≤ n
under_le (At cap) n = omega arith
under_le Free n = omega arith

hard_le : (a b : Block) → hard_of a b ≤ squared b.geom.rapid
unfolding hard_of
hard_le a b = let le = under_le b.entry (min (squared a.geom.rapid) (squared b.geom.rapid)) in omega (arith, le)

-- the hard caps know nothing of what is prepared
hards_same : (b b' : Block) (bs : List Block) → b'.geom ≡ b.geom → hards_of (b' ∷ bs) ≡ hards_of (b ∷ bs)
unfolding hard_of
hards_same b b' [] e = refl
hards_same b b' (c ∷ cs) e =
    ap (λ g. under c.entry (min (squared g.rapid) (squared c.geom.rapid)) ∷ hards_of (c ∷ cs)) e

-- a block is added
reached_added : (bs : List Block) (w : ℕ) (over o : Overrides) (b : Block) → IsReached (plan_of bs w over) → IsBlock b
    → IsOverrides o → IsReached (plan_of (bs ++ b ∷ []) w o)
reached_added [] w over o b is block right =
    let stands : 0 ≡ w = let stops = is.slowable.stops in omega (arith, stops) in
    record {
      each = All-cons IsBlock b [] block is.each;
      overrides = right;
      slowable = subst (λ w. IsSlowable w (gap_of b ∷ []) []) stands (slow_first (gap_of b));
      rapid = omega arith;
    }
reached_added (a ∷ bs) w over o b is block right =
    let more = joints_push hard_of a bs b in
    let n = length-gaps (a ∷ bs) in
    let m = length-joints hard_of (a ∷ bs) in
    record {
      each = All-push IsBlock (a ∷ bs) b is.each block;
      overrides = right;
      slowable = rw (map_push gap_of (a ∷ bs) b, more.1)
          (slow_added w (gap_of b) more.0 (gaps_of (a ∷ bs)) (hards_of (a ∷ bs)) (omega (arith, n, m)) is.slowable);
      rapid = is.rapid;
    }

-- a block whose events are all left, with whatever cap at its entry
pub fresh_block : (b : Block) (entry : Cap) → IsRate b.rate → IsGeomOf b.mv b.geom → b.prepared ≡ 0
    → IsBlock (record b { entry = entry })
fresh_block b entry rate geom fresh =
    let bounds = bounded b.mv geom.limits b.geom geom.places geom.in_range geom.geom in
    let some = bounds.n_low in
    record { rate = rate; geom = geom; left = omega (arith, some, fresh) }

pub added_reached : (bs bs' : List Block) (w : ℕ) (over o : Overrides) (b : Block) → bs' ≡ bs ++ b ∷ []
    → IsReached (plan_of bs w over) → IsBlock b → IsOverrides o → IsReached (plan_of bs' w o)
added_reached bs bs' w over o b put is block right =
    subst (λ bs. IsReached (plan_of bs w o)) (sym put) (reached_added bs w over o b is block right)

-- overrides change
pub reached_replanned : (bs : List Block) (w : ℕ) (over o : Overrides) → IsReached (plan_of bs w over) → IsOverrides o
    → IsReached (plan_of bs w o)
reached_replanned bs w over o is right =
    record { each = is.each; overrides = right; slowable = is.slowable; rapid = is.rapid }

-- nothing stands
pub reached_cleared : (o : Overrides) → IsOverrides o → IsReached (plan_of [] 0 o)
reached_cleared o right = record { each = λ k d h. absurd (omega arith); overrides = right; slowable = slow_cleared; rapid = tt }

-- what n events of the tail do to the speed
pub record Steps (b : Block) (bs : List Block) (w n v : ℕ) : Type 0 where
  pub some : 0 < n
  pub within : n ≤ left_of b
  pub slows : IsSlowable v (b.geom.q * (left_of b - n) ∷ gaps_of bs) (hards_of (b ∷ bs))
  pub rapid : v ≤ squared b.geom.rapid
  pub near : distance w v ≤ b.geom.q * n

count_within : (b : Block) (w : ℕ) → IsBlock b → (0 < count_of b w) × (count_of b w ≤ left_of b)
count_within b w block = let some = block.left in (omega arith, omega (arith, some))

pub gap_split : (b : Block) (n : ℕ) → n ≤ left_of b → gap_of b ≡ b.geom.q * (left_of b - n + n)
unfolding gap_of
gap_split b n h = let e : left_of b ≡ left_of b - n + n = omega arith in ap (λ k. b.geom.q * k) e

module _ (b : Block) (bs : List Block) (w n v : ℕ) (o : Overrides) (is : IsReached (plan_of (b ∷ bs) w o)) where
  block : IsBlock b
  block = All-head IsBlock b bs is.each

  slow : n ≤ left_of b → IsSlowable w (b.geom.q * (left_of b - n + n) ∷ gaps_of bs) (hards_of (b ∷ bs))
  slow h = subst (λ g. IsSlowable w (g ∷ gaps_of bs) (hards_of (b ∷ bs))) (gap_split b n h) is.slowable

  going_steps : IsGoing (plan_of (b ∷ bs) w o) b n v → Steps b bs w n v
  unfolding planned_at
  going_steps go =
      let within = count_within b w block in
      let events = go.events in
      let inside : n ≤ left_of b = omega (arith, events, within.1) in
      let q = b.geom.q in
      let left = left_of b - n in
      let top = top_of o b in
      let gaps = gaps_of bs in
      let hards = hards_of (b ∷ bs) in
      let softs = softs_of o (b ∷ bs) in
      let exit = planned w (q * (left + n) ∷ gaps) softs 1 in
      let speed : v ≡ speed_after w q n left exit top =
      go.speed ∙ ap (λ g. speed_after w q n left (planned w (g ∷ gaps) softs 1) top) (gap_split b n inside) in
      let many : length gaps ≡ length hards = omega (arith, length-gaps bs, length-joints hard_of (b ∷ bs)) in
      let after = slow_gone w q n left top gaps hards softs many (softer o (b ∷ bs)) (slow inside) in
      let near = gone_near w q n left top gaps hards softs many (softer o (b ∷ bs)) (slow inside) in
      let below = gone_below w q n left exit top in
      let capped = top_le o b is.overrides block in
      let rapid = is.rapid in
      record {
        some = omega (arith, events, within.0);
        within = inside;
        slows = subst (λ v. IsSlowable v (q * left ∷ gaps) hards) (sym speed) after;
        rapid = omega (arith, speed, below, capped, rapid);
        near = subst (λ v. distance w v ≤ q * n) (sym speed) near;
      }

  holding_steps : IsHolding (plan_of (b ∷ bs) w o) b n v → Steps b bs w n v
  holding_steps hold =
      let within = count_within b w block in
      let events = hold.events in
      let speed = hold.speed in
      let moves = hold.moves in
      let q_low : 0 < b.geom.q = let low = (bounds_of b block).q_low in omega (arith, low) in
      let stop : 1 ≤ stop_of b w = le-div 1 (w + b.geom.q - 1) b.geom.q q_low (omega (arith, moves)) in
      let inside : n ≤ left_of b = omega (arith, events, within.1) in
      let rapid = is.rapid in
      record {
        some = omega (arith, events, within.0, stop);
        within = inside;
        slows = subst (λ v. IsSlowable v (b.geom.q * (left_of b - n) ∷ gaps_of bs) (hards_of (b ∷ bs))) (sym speed)
            (slow_holding w b.geom.q n (left_of b - n) (gaps_of bs) (hards_of (b ∷ bs)) (slow inside));
        rapid = omega (arith, speed, rapid);
        near = omega (arith, speed);
      }

  pub segment_steps : IsGoing (plan_of (b ∷ bs) w o) b n v ⊎ IsHolding (plan_of (b ∷ bs) w o) b n v → Steps b bs w n v
  segment_steps way = elim way [ inl go ↦ going_steps go | inr hold ↦ holding_steps hold ]

-- the tail is gone: the speed is at most the hard cap there, and so at most the rapid speed of the next block
dropped : (b : Block) (bs : List Block) (v : ℕ) → IsSlowable v (0 ∷ gaps_of bs) (hards_of (b ∷ bs))
    → IsSlowable v (gaps_of bs) (hards_of bs) × IsWithinRapid bs v
dropped b [] v slow = (subst (λ w. IsSlowable w [] []) (sym (slow_ended v slow)) slow_cleared, tt)
dropped b (c ∷ cs) v slow =
    let both = slow_dropped v (hard_of b c) (gaps_of (c ∷ cs)) (hards_of (c ∷ cs)) slow in
    let le = hard_le b c in
    (both.1, omega (arith, le, both.0))

kept : (b : Block) (n : ℕ) → IsBlock b → n < left_of b → IsBlock (record b { prepared = b.prepared + n })
kept b n is h = record { rate = is.rate; geom = is.geom; left = omega (arith, h) }

pub kept_gap : (b : Block) (n : ℕ) → b.geom.q * (left_of b - n) ≡ gap_of (record b { prepared = b.prepared + n })
unfolding gap_of
kept_gap b n = let e : left_of b - n ≡ b.geom.n - (b.prepared + n) = omega arith in ap (λ k. b.geom.q * k) e

-- nothing is left of a block
pub gone_gap : (b : Block) (n : ℕ) → n ≡ left_of b → b.geom.q * (left_of b - n) ≡ 0
gone_gap b n same = let z : left_of b - n ≡ 0 = omega arith in ap (λ k. b.geom.q * k) z ∙ omega arith

-- nothing is left of it only then
pub left_gap : (b : Block) (n : ℕ) → IsBlock b → n ≤ left_of b → b.geom.q * (left_of b - n) ≡ 0 → n ≡ left_of b
left_gap b n is within none = elim (cases_eq n (left_of b)) [
  | inl same ↦ same
  | inr other ↦
      let some : 1 ≤ left_of b - n = omega (arith, other, within) in
      let le : b.geom.q * 1 ≤ b.geom.q * (left_of b - n) = mul-le-mul_left b.geom.q some in
      let low = (bounds_of b is).q_low in
      absurd (omega (arith, le, low, none))
]

-- a segment is taken
pub reached_moved : (bs : List Block) (w n v : ℕ) (o : Overrides) → IsReached (plan_of bs w o)
    → IsSegment (plan_of bs w o) n v → IsReached (plan_of (moved n bs) v o)
reached_moved [] w n v o is segment = absurd segment
reached_moved (b ∷ bs) w n v o is segment =
    let steps = segment_steps b bs w n v o is segment in
    let rest = All-tail IsBlock b bs is.each in
    let b' : Block = record b { prepared = b.prepared + n } in
    elim (cases_eq n (left_of b)) [
      | inl same ↦
          let test : true ≡ nat_eq n (left_of b) = grind (arith, nat_tests) in
          let slow = subst (λ g. IsSlowable v (g ∷ gaps_of bs) (hards_of (b ∷ bs))) (gone_gap b n same) steps.slows in
          let both = dropped b bs v slow in
          subst (λ t. IsReached (plan_of (cond t bs (b' ∷ bs)) v o)) test
          (record { each = rest; overrides = is.overrides; slowable = both.0; rapid = both.1 })
      | inr other ↦
          let test : false ≡ nat_eq n (left_of b) = grind (arith, nat_tests) in
          let slow = subst (λ g. IsSlowable v (g ∷ gaps_of bs) (hards_of (b ∷ bs))) (kept_gap b n) steps.slows in
          let block = All-head IsBlock b bs is.each in
          subst (λ t. IsReached (plan_of (cond t bs (b' ∷ bs)) v o)) test
          (record {
            each = All-cons IsBlock b' bs (kept b n block (omega (arith, steps.within))) rest;
            overrides = is.overrides;
            slowable = subst (λ hs. IsSlowable v (gap_of b' ∷ gaps_of bs) hs) (sym (hards_same b b' bs refl)) slow;
            rapid = steps.rapid;
          })
    ]

pub moved_reached : (bs bs' : List Block) (w n v : ℕ) (o : Overrides) → bs' ≡ moved n bs → IsReached (plan_of bs w o)
    → IsSegment (plan_of bs w o) n v → IsReached (plan_of bs' v o)
moved_reached bs bs' w n v o e is segment =
    subst (λ bs. IsReached (plan_of bs v o)) (sym e) (reached_moved bs w n v o is segment)

pub length-moved : (n : ℕ) (bs : List Block) → length (moved n bs) ≤ length bs
length-moved n [] = omega arith
length-moved n (b ∷ bs) = at (nat_eq n (left_of b)) where
  at : (t : Bool) → length (cond t bs (record b { prepared = b.prepared + n } ∷ bs)) ≤ length (b ∷ bs)
  at true = omega arith
  at false = omega arith

legal_end : (b : Block) (bs : List Block) (v : ℕ) → IsSlowable v (0 ∷ gaps_of bs) (hards_of (b ∷ bs)) → IsLegalEnd b bs v
legal_end b [] v slow = slow_ended v slow
legal_end b (c ∷ cs) v slow = (slow_dropped v (hard_of b c) (gaps_of (c ∷ cs)) (hards_of (c ∷ cs)) slow).0

pub legal_step : (bs : List Block) (w n v : ℕ) (o : Overrides) → IsReached (plan_of bs w o)
    → IsSegment (plan_of bs w o) n v → IsLegalStep bs w n v
legal_step [] w n v o is segment = absurd segment
legal_step (b ∷ bs) w n v o is segment =
    let steps = segment_steps b bs w n v o is segment in
    record {
      change = steps.near;
      rapid = steps.rapid;
      at_end = λ same.
          let slow = subst (λ g. IsSlowable v (g ∷ gaps_of bs) (hards_of (b ∷ bs))) (gone_gap b n same) steps.slows in
          legal_end b bs v slow;
    }

-- a segment is one of a block
pub segment_some : (bs : List Block) (w n v : ℕ) (o : Overrides) → IsSegment (plan_of bs w o) n v → 0 < length bs
segment_some [] w n v o segment = absurd segment
segment_some (b ∷ bs) w n v o segment = omega arith

-- how far a segment may go
pub segment_within : (bs : List Block) (w n v : ℕ) (o : Overrides) → IsReached (plan_of bs w o)
    → IsSegment (plan_of bs w o) n v → (b : Block) (rest : List Block) → bs ≡ b ∷ rest → n ≤ left_of b
segment_within bs w n v o is segment b rest e =
    let is' = subst (λ bs. IsReached (plan_of bs w o)) e is in
    let segment' = subst (λ bs. IsSegment (plan_of bs w o) n v) e segment in
    (segment_steps b rest w n v o is' segment').within

-- the tail, and the speed on it
tail_is : (p : Planned) (b : Block) → p.blocks ≡ b ∷ drop 1 p.blocks → IsReached p → IsTail p b
tail_is p b e is = record {
  stands = e;
  block = All-head IsBlock b (drop 1 p.blocks) (subst (All IsBlock) e is.each);
  rapid = subst (λ bs. IsWithinRapid bs p.speed) e is.rapid;
}

pub tail_if : (r : Option (Bor Block)) (p : Planned) → IfSome r (λ b. p.blocks ≡ b.now ∷ drop 1 p.blocks) → IsReached p
    → IfSome r (λ b. IsTail p b.now)
tail_if None p e is = tt
tail_if (Some b) p e is = tail_is p b.now e is

pub greatest_plan : (p : Planned) → IsReached p → 0 < length p.blocks → IsGreatest p
unfolding planned
greatest_plan p is some =
    let gaps = gaps_of p.blocks in
    let n = length-gaps p.blocks in
    let many : length gaps ≡ length (hards_of p.blocks) + 1 = omega (arith, n, length-joints hard_of p.blocks) in
    let softs = softs_of p.overrides p.blocks in
    let first = planned_first p.speed gaps softs (hards_of p.blocks) many is.slowable (softer p.overrides p.blocks) in
    record {
      first = profile_at gaps (caps_of p) 0 (omega arith) ∙ first;
      within = profile_within gaps (caps_of p);
      greatest = λ speeds within j h.
          let inside : j ≤ length gaps = omega (arith, n) in
          rw (profile_at gaps (caps_of p) j inside) (greatest_of_all gaps (caps_of p) speeds within j inside);
    }

pub exit_at : (p : Planned) → 0 < length p.blocks → exit_of p ≡ get_or (profile_of p) 1 0
unfolding planned_at planned
exit_at p some = let n = length-gaps p.blocks in sym (profile_at (gaps_of p.blocks) (caps_of p) 1 (omega (arith, n)))
