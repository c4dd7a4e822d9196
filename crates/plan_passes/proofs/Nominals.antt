-- The nominal speeds that a plan keeps of its blocks, and what the soft caps are by them.
use Rattle.std.proofs.Common.{◌≡◌, ◌≢◌, ℕ, suc, ◌+◌, ◌-◌, ◌*◌, ◌≤◌, ◌<◌, min, inl, inr, refl, arith, ap, sym, ◌∙◌, subst}
use Rattle.std.proofs.Common.{List, [], ◌∷◌, ◌++◌, length, get_or, take, drop, add-one, get_or-take}
use Rattle.std.proofs.Math.Nat.{mul-le-mul}
use Rattle.std.proofs.lemmas.Bool.{cases_eq}
use Rattle.std.proofs.lemmas.List.{drop-take, get_or-map}
use Rattle.std.proofs.lemmas.List.Elements.{All-head}
use Rattle.line_geom.specs.declared.Block.{Block}
use Rattle.overrides.specs.declared.Overrides.{Overrides}
use Rattle.plan_rules.specs.Blocks.{IsBlock, nominal_speed, squared, left_of, top_of, hard_of, hards_of, soft_of, softs_of}
use Rattle.plan_rules.specs.Plans.{Planned, IsReached, IsTail}
use Rattle.plan_rules.specs.Segments.{IsSegment, moved}
use Rattle.plan_passes.specs.Tables.{IsMovedUp, nominals_of}
use Rattle.overrides.specs.Percents.{IsOverrides}
use Rattle.plan_rules.proofs.Bounds.{bounds_of, nominal_below}
use Rattle.plan_rules.proofs.Reached.{plan_of, segment_steps, left_gap}
use Rattle.plan_passes.proofs.Moved.{tail_gone, tail_left}
use Rattle.plan_passes.proofs.Filling.{number_at, numbers_before, joints_in}

-- how fast a block is to go at most
pub nominal_small : (o : Overrides) (b : Block) → IsOverrides o → IsBlock b → nominal_speed o b ≤ 33333333
nominal_small o b is block =
    let le = nominal_below o b is block in
    let high = (bounds_of b block).rapid_high in
    omega (arith, le, high)

-- the square of such a speed
pub square_small : (v : ℕ) → v ≤ 33333333 → v * v ≤ 1111111088888889
square_small v most = mul-le-mul most most

-- the soft cap of two blocks that are to go so fast, whose junction has such a hard one
pub soft_is : (o : Overrides) (a b : Block) (hard first second cap : ℕ) → hard ≡ hard_of a b → first ≡ nominal_speed o a
    → second ≡ nominal_speed o b → cap ≡ min hard (min (squared first) (squared second)) → cap ≡ soft_of o a b
unfolding soft_of top_of
soft_is o a b hard first second cap held fast near is =
    is ∙ ap (λ h. min h (min (squared first) (squared second))) held
    ∙ ap (λ x. min (hard_of a b) (min (squared x) (squared second))) fast
    ∙ ap (λ y. min (hard_of a b) (min (squared (nominal_speed o a)) (squared y))) near

-- that of a junction, by what stands in the rows
pub soft_next : (o : Overrides) (bs : List Block) (i : ℕ) (d : Block) (hard first second cap : ℕ) → i + 1 < length bs
    → hard ≡ get_or (hards_of bs) i 0 → first ≡ get_or (nominals_of o bs) i 0 → second ≡ get_or (nominals_of o bs) (i + 1) 0
    → cap ≡ min hard (min (squared first) (squared second)) → cap ≡ get_or (softs_of o bs) i 0
soft_next o bs i d hard first second cap h held fast near is =
    let next : second ≡ get_or (nominals_of o bs) (suc i) 0 = rw add-one at near in
    soft_is o (get_or bs i d) (get_or bs (suc i) d) hard first second cap
    (held ∙ joints_in hard_of bs i d (omega arith)) (fast ∙ get_or-map (nominal_speed o) bs i d 0 (omega arith))
    (next ∙ get_or-map (nominal_speed o) bs (suc i) d 0 (omega arith)) is
    ∙ sym (joints_in (soft_of o) bs i d (omega arith))

-- what the row says of a block
pub nominal_at : (o : Overrides) (bs : List Block) (row : List ℕ) (i : ℕ) (b : Block) → i < length bs → ((d : Block) → b ≡ get_or bs i d)
    → take (length bs) row ≡ nominals_of o bs → get_or row i 0 ≡ nominal_speed o b
nominal_at o bs row i b h at is =
    sym (get_or-take (length bs) row i 0 h) ∙ ap (λ l. get_or l i 0) is ∙ sym (number_at (nominal_speed o) bs i b h at)

pub nominal_of_tail : (p : Planned) (b : Block) (row : List ℕ) → IsTail p b → take (length p.blocks) row ≡ nominals_of p.overrides p.blocks
    → get_or row 0 0 ≡ nominal_speed p.overrides b
nominal_of_tail p b row tail is =
    let bs = b ∷ drop 1 p.blocks in
    nominal_at p.overrides bs row 0 b (omega arith) (λ d. refl)
    (subst (λ bs. take (length bs) row ≡ nominals_of p.overrides bs) tail.stands is)

-- a block is added
pub nominals_before : (o over : Overrides) (bs bs' : List Block) (b : Block) (row : List ℕ) → bs' ≡ bs ++ b ∷ []
    → (0 < length bs → o ≡ over) → take (length bs) row ≡ nominals_of over bs
    → take (length bs' - 1) row ≡ take (length bs' - 1) (nominals_of o bs')
nominals_before o over [] bs' b row e same is = numbers_before (nominal_speed o) [] bs' b row e refl
nominals_before o over (a ∷ bs) bs' b row e same is =
    numbers_before (nominal_speed o) (a ∷ bs) bs' b row e (is ∙ ap (λ o. nominals_of o (a ∷ bs)) (sym (same (omega arith))))

-- a segment is taken
pub nominals_moved : (N n g w v : ℕ) (o : Overrides) (row row' : List ℕ) (bs bs' : List Block) → (g ≢ 0 → row' ≡ row) → (g ≡ 0 → IsMovedUp N row row')
    → length bs < N → IsReached (plan_of bs w o) → IsSegment (plan_of bs w o) n v → bs' ≡ moved n bs
    → ((b : Block) (rest : List Block) → bs ≡ b ∷ rest → g ≡ b.geom.q * (left_of b - n))
    → take (length bs) row ≡ nominals_of o bs → take (length bs') row' ≡ nominals_of o bs'
nominals_moved N n g w v o row row' [] bs' left gone room reached segment e gap is = absurd segment
nominals_moved N n g w v o row row' (b ∷ bs) bs' left gone room reached segment e gap is =
    let b' : Block = record b { prepared = b.prepared + n } in
    let steps = segment_steps b bs w n v o reached segment in
    let block = All-head IsBlock b bs reached.each in
    let now = gap b bs refl in
    elim (cases_eq g 0) [
      | inl none ↦
          let same = left_gap b n block steps.within (sym now ∙ none) in
          let on : length (b ∷ bs) ≡ 1 + length bs = omega arith in
          subst (λ bs. take (length bs) row' ≡ nominals_of o bs) (sym (tail_gone b bs bs' n e same))
          (gone none (length bs) (omega arith) ∙ sym (drop-take 1 (length bs) row)
          ∙ ap (drop 1) (subst (λ k. take k row ≡ nominals_of o (b ∷ bs)) on is))
      | inr some ↦
          subst (λ bs. take (length bs) row' ≡ nominals_of o bs) (sym (tail_left b bs bs' n g e now some))
          (ap (take (length (b' ∷ bs))) (left some) ∙ is)
    ]
