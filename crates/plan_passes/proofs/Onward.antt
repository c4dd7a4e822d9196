-- From where a plan is made on: the settled point that it has, or the present place.
use Rattle.std.proofs.Common.{◌≡◌, ℕ, ◌+◌, ◌-◌, ◌≤◌, ◌<◌, arith, ap, sym, ◌∙◌, subst, List, [], ◌∷◌, ◌++◌, length, get_or, take}
use Rattle.std.proofs.lemmas.List.{length_push, map_push}
use Rattle.line_geom.specs.declared.Block.{Block}
use Rattle.overrides.specs.declared.Overrides.{Overrides}
use Rattle.profile.specs.Caps.{planned}
use Rattle.profile.proofs.Settling.{added_keeps, added_settled}
use Rattle.plan_rules.specs.Blocks.{gap_of, gaps_of, soft_of, softs_of}
use Rattle.plan_rules.specs.Plans.{planned_at, IsReached, IsPointer}
use Rattle.plan_passes.specs.Tables.{IsTabled, IsOnward}
use Rattle.plan_rules.proofs.Junctions.{length-gaps, length-joints, joints_push}
use Rattle.plan_rules.proofs.Reached.{plan_of}
use Rattle.plan_passes.proofs.Kept.{reached_settled, reached_first}

-- from the present place
pub onward_first : (bs : List Block) (w : ℕ) (o : Overrides) (speeds : List ℕ) → 0 < length bs → IsReached (plan_of bs w o)
    → IsOnward w 0 (gaps_of bs) (softs_of o bs) speeds
onward_first bs w o speeds some is = record {
  first = reached_first bs w o some is;
  planned_to = λ j h l. absurd (omega (arith, h, l));
  settled = reached_settled bs w o is;
}

-- where a block is added, from the settled point that the plan has
onward_added : (a : Block) (bs : List Block) (b : Block) (w settled : ℕ) (o : Overrides) (speeds : List ℕ)
    → IsPointer (plan_of (a ∷ bs) w o) settled
    → ((j : ℕ) → 0 < j → j ≤ length (a ∷ bs) → get_or speeds j 0 ≡ planned_at (plan_of (a ∷ bs) w o) j)
    → IsReached (plan_of (a ∷ bs ++ b ∷ []) w o)
    → IsOnward w settled (gaps_of (a ∷ bs ++ b ∷ [])) (softs_of o (a ∷ bs ++ b ∷ [])) speeds
unfolding planned_at
onward_added a bs b w settled o speeds pointer at is =
    let gaps = gaps_of (a ∷ bs) in
    let softs = softs_of o (a ∷ bs) in
    let low = pointer.before (omega arith) in
    let long = length-gaps (a ∷ bs) in
    let many : length gaps ≡ length softs + 1 = omega (arith, long, length-joints (soft_of o) (a ∷ bs)) in
    let inside : settled < length gaps = omega (arith, low, long) in
    let more = joints_push (soft_of o) a bs b in
    let gs : gaps_of (a ∷ bs ++ b ∷ []) ≡ gaps ++ gap_of b ∷ [] = map_push gap_of (a ∷ bs) b in
    let ss : softs_of o (a ∷ bs ++ b ∷ []) ≡ softs ++ more.0 ∷ [] = more.1 in
    let on : IsOnward w settled (gaps ++ gap_of b ∷ []) (softs ++ more.0 ∷ []) speeds = record {
      first = subst (λ gs. planned w gs (softs ++ more.0 ∷ []) 0 ≡ w) gs
          (subst (λ ss. planned w (gaps_of (a ∷ bs ++ b ∷ [])) ss 0 ≡ w) ss (reached_first (a ∷ bs ++ b ∷ []) w o (omega arith) is));
      planned_to = λ j h l.
          at j h (omega (arith, l, low)) ∙ sym (added_keeps w (gap_of b) more.0 gaps softs many settled inside pointer.settled j l);
      settled = added_settled w (gap_of b) more.0 gaps softs many settled inside pointer.settled;
    } in
    subst (λ gs. IsOnward w settled gs (softs_of o (a ∷ bs ++ b ∷ [])) speeds) (sym gs)
    (subst (λ ss. IsOnward w settled (gaps ++ gap_of b ∷ []) ss speeds) (sym ss) on)

onward_put : (bs : List Block) (b : Block) (w settled : ℕ) (over o : Overrides) (speeds : List ℕ) → (0 < length bs → o ≡ over)
    → IsPointer (plan_of bs w over) settled
    → ((j : ℕ) → 0 < j → j ≤ length bs → get_or speeds j 0 ≡ planned_at (plan_of bs w over) j)
    → IsReached (plan_of (bs ++ b ∷ []) w o)
    → IsOnward w settled (gaps_of (bs ++ b ∷ [])) (softs_of o (bs ++ b ∷ [])) speeds
onward_put [] b w settled over o speeds same pointer at is =
    let zero = pointer.none (omega arith) in
    subst (λ j. IsOnward w j (gaps_of (b ∷ [])) (softs_of o (b ∷ [])) speeds) (sym zero) (onward_first (b ∷ []) w o speeds (omega arith) is)
onward_put (a ∷ bs) b w settled over o speeds same pointer at is =
    let e = sym (same (omega arith)) in
    onward_added a bs b w settled o speeds (subst (λ o. IsPointer (plan_of (a ∷ bs) w o) settled) e pointer)
    (λ j h l. at j h l ∙ ap (λ o. planned_at (plan_of (a ∷ bs) w o) j) e) is

-- what stands beside the blocks says so
onward_rows : (w count settled : ℕ) (bs : List Block) (o : Overrides) (speeds gap_row soft_row : List ℕ) → count ≡ length bs
    → IsTabled bs o gap_row soft_row → IsOnward w settled (gaps_of bs) (softs_of o bs) speeds
    → IsOnward w settled (take count gap_row) (take (count - 1) soft_row) speeds
onward_rows w count settled bs o speeds gap_row soft_row many tabled on =
    let gs : take count gap_row ≡ gaps_of bs = ap (λ n. take n gap_row) many ∙ tabled.gaps in
    let ss : take (count - 1) soft_row ≡ softs_of o bs = ap (λ n. take (n - 1) soft_row) many ∙ tabled.softs in
    subst (λ gs. IsOnward w settled gs (take (count - 1) soft_row) speeds) (sym gs)
    (subst (λ ss. IsOnward w settled (gaps_of bs) ss speeds) (sym ss) on)

pub onward_anew : (w count : ℕ) (bs : List Block) (o : Overrides) (speeds gap_row soft_row : List ℕ) → count ≡ length bs
    → IsTabled bs o gap_row soft_row → IsReached (plan_of bs w o) → 0 < count
    → IsOnward w 0 (take count gap_row) (take (count - 1) soft_row) speeds
onward_anew w count bs o speeds gap_row soft_row many tabled is some =
    onward_rows w count 0 bs o speeds gap_row soft_row many tabled (onward_first bs w o speeds (omega (arith, some, many)) is)

pub onward_more : (w count settled : ℕ) (bs bs' : List Block) (b : Block) (over o : Overrides) (speeds gap_row soft_row : List ℕ)
    → bs' ≡ bs ++ b ∷ [] → (0 < length bs → o ≡ over) → count ≡ length bs' → IsTabled bs' o gap_row soft_row
    → IsPointer (plan_of bs w over) settled
    → ((j : ℕ) → 0 < j → j ≤ length bs → get_or speeds j 0 ≡ planned_at (plan_of bs w over) j)
    → IsReached (plan_of bs' w o) → IsOnward w settled (take count gap_row) (take (count - 1) soft_row) speeds
onward_more w count settled bs bs' b over o speeds gap_row soft_row e same many tabled pointer at is =
    onward_rows w count settled bs' o speeds gap_row soft_row many tabled
    (subst (λ bs'. IsOnward w settled (gaps_of bs') (softs_of o bs') speeds) (sym e)
    (onward_put bs b w settled over o speeds same pointer at (subst (λ bs'. IsReached (plan_of bs' w o)) e is)))

-- the settled point lies in front of the end
pub onward_before : (bs bs' : List Block) (b : Block) (w settled count : ℕ) (over : Overrides) → bs' ≡ bs ++ b ∷ [] → count ≡ length bs'
    → IsPointer (plan_of bs w over) settled → settled < count
onward_before [] bs' b w settled count over e many pointer =
    let zero = pointer.none (omega arith) in
    let long = ap length e in
    omega (arith, zero, long, many)
onward_before (a ∷ bs) bs' b w settled count over e many pointer =
    let low = pointer.before (omega arith) in
    let long : length bs' ≡ length (a ∷ bs) + 1 = ap length e ∙ length_push (a ∷ bs) b in
    omega (arith, low, long, many)
