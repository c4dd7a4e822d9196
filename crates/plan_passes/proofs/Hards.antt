-- The hard caps that a plan keeps of its junctions.
use Rattle.std.proofs.Common.{◌≡◌, ◌≢◌, ℕ, ◌+◌, ◌-◌, ◌*◌, ◌<◌, inl, inr, refl, ap, sym, ◌∙◌, subst}
use Rattle.std.proofs.Common.{List, [], ◌∷◌, length, take}
use Rattle.std.proofs.lemmas.Bool.{cases_eq}
use Rattle.std.proofs.lemmas.List.Elements.{All-head}
use Rattle.line_geom.specs.declared.Block.{Block}
use Rattle.overrides.specs.declared.Overrides.{Overrides}
use Rattle.plan_rules.specs.Blocks.{IsBlock, left_of, hard_of, hards_of}
use Rattle.plan_rules.specs.Plans.{IsReached}
use Rattle.plan_rules.specs.Segments.{IsSegment, moved}
use Rattle.plan_passes.specs.Tables.{IsMovedUp}
use Rattle.plan_rules.proofs.Reached.{plan_of, segment_steps, left_gap}
use Rattle.plan_passes.proofs.Moved.{tail_gone, tail_left}
use Rattle.plan_passes.proofs.Filling.{joints_up}

-- they know nothing of what is prepared
hards_same : (b : Block) (n : ℕ) (bs : List Block) → hards_of (record b { prepared = n } ∷ bs) ≡ hards_of (b ∷ bs)
unfolding hard_of
hards_same b n [] = refl
hards_same b n (c ∷ cs) = refl

-- a segment is taken
pub hards_moved : (N n g w v : ℕ) (o : Overrides) (row row' : List ℕ) (bs bs' : List Block) → (g ≢ 0 → row' ≡ row) → (g ≡ 0 → IsMovedUp N row row')
    → length bs < N → IsReached (plan_of bs w o) → IsSegment (plan_of bs w o) n v → bs' ≡ moved n bs
    → ((b : Block) (rest : List Block) → bs ≡ b ∷ rest → g ≡ b.geom.q * (left_of b - n))
    → take (length bs - 1) row ≡ hards_of bs → take (length bs' - 1) row' ≡ hards_of bs'
hards_moved N n g w v o row row' [] bs' left gone room reached segment e gap is = absurd segment
hards_moved N n g w v o row row' (b ∷ bs) bs' left gone room reached segment e gap is =
    let b' : Block = record b { prepared = b.prepared + n } in
    let steps = segment_steps b bs w n v o reached segment in
    let block = All-head IsBlock b bs reached.each in
    let now = gap b bs refl in
    elim (cases_eq g 0) [
      | inl none ↦
          let same = left_gap b n block steps.within (sym now ∙ none) in
          subst (λ bs. take (length bs - 1) row' ≡ hards_of bs) (sym (tail_gone b bs bs' n e same))
          (joints_up hard_of N row row' b bs room (gone none) is)
      | inr some ↦
          subst (λ bs. take (length bs - 1) row' ≡ hards_of bs) (sym (tail_left b bs bs' n g e now some))
          (ap (take (length (b' ∷ bs) - 1)) (left some) ∙ is ∙ sym (hards_same b (b.prepared + n) bs))
    ]
