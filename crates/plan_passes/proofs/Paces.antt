-- The pace that a plan keeps of its tail.
use Rattle.std.proofs.Common.{◌≡◌, ◌≢◌, ℕ, ◌+◌, ◌-◌, ◌*◌, ◌/◌, ◌≤◌, ◌<◌, min, max, inl, inr, refl, arith, ap, sym, ◌∙◌, subst}
use Rattle.std.proofs.Common.{List, [], ◌∷◌, ◌++◌, length, get_or, drop, Some, Bor}
use Rattle.std.proofs.lemmas.Bool.{cases_eq}
use Rattle.units.specs.Roots.{root_of}
use Rattle.profile.specs.Slowing.{speed_after}
use Rattle.line_geom.specs.declared.Block.{Block}
use Rattle.overrides.specs.declared.Overrides.{Overrides}
use Rattle.plan_passes.specs.declared.Pace.{Pace}
use Rattle.plan_rules.specs.Blocks.{left_of, top_of}
use Rattle.plan_rules.specs.Plans.{Planned, IsReached, IsTail, exit_of}
use Rattle.plan_rules.specs.Segments.{IsSegment, count_of, moved}
use Rattle.plan_passes.specs.Paces.{IsPaceOf, IsPaceOfTail, IsSteady, IsSteadyOf}
use Rattle.plan_passes.specs.Tables.{KeepsPlan}
use Rattle.plan_rules.proofs.Reached.{plan_of, tail_if}
use Rattle.plan_passes.proofs.Moved.{tail_left}

-- no pace is kept
pub no_pace : (bs : List Block) (o : Overrides) (s : Pace) → s.n ≡ 0 → IsPaceOfTail o bs s
no_pace [] o s none = none
no_pace (b ∷ bs) o s none = λ some. absurd (omega (arith, none, some))

-- a block is added
pub pace_added : (bs bs' : List Block) (x : Block) (o o' : Overrides) (s : Pace) → bs' ≡ bs ++ x ∷ [] → (0 < length bs → o' ≡ o)
    → IsPaceOfTail o bs s → IsPaceOfTail o' bs' s
pace_added [] bs' x o o' s e same none = no_pace bs' o' s none
pace_added (b ∷ bs) bs' x o o' s e same is =
    subst (λ bs. IsPaceOfTail o' bs s) (sym e) (subst (λ o. IsPaceOfTail o (b ∷ bs ++ x ∷ []) s) (sym (same (omega arith))) is)

-- a segment is taken
pub pace_moved : (w n v g : ℕ) (o : Overrides) (s s' : Pace) (bs bs' : List Block) → (g ≢ 0 → s' ≡ s) → (g ≡ 0 → s'.n ≡ 0)
    → IsReached (plan_of bs w o) → IsSegment (plan_of bs w o) n v → bs' ≡ moved n bs
    → ((b : Block) (rest : List Block) → bs ≡ b ∷ rest → g ≡ b.geom.q * (left_of b - n)) → IsPaceOfTail o bs s → IsPaceOfTail o bs' s'
unfolding top_of
pace_moved w n v g o s s' [] bs' left gone is segment e gap pace = absurd segment
pace_moved w n v g o s s' (b ∷ bs) bs' left gone is segment e gap pace =
    let b' : Block = record b { prepared = b.prepared + n } in
    let now = gap b bs refl in
    elim (cases_eq g 0) [
      | inl none ↦ no_pace bs' o s' (gone none)
      | inr some ↦
          let put : bs' ≡ b' ∷ bs = tail_left b bs bs' n g e now some in
          let kept : IsPaceOfTail o (b' ∷ bs) s = λ h.
          let p = pace h in
          record { top = p.top; events = p.events; cycles = p.cycles; some = p.some } in
          subst (λ bs. IsPaceOfTail o bs s') (sym put) (subst (λ s. IsPaceOfTail o (b' ∷ bs) s) (sym (left some)) kept)
    ]

-- the next segment is one at that pace
least_speed : (w c d exit : ℕ) → w ≤ exit + d → w ≡ min (exit + d) (max (min (w + c) w) (w - c))
least_speed w c d exit h = omega (arith, h)

steady_is : (p : Planned) (s : Pace) (b : Block) (exit : ℕ) → IsTail p b → IsPaceOfTail p.overrides p.blocks s → 0 < s.n
    → p.speed ≡ s.w → exit ≡ exit_of p → s.n < left_of b → s.w ≤ exit + b.geom.q * (left_of b - s.n) → IsSteadyOf p p.blocks s
steady_is p s b exit tail pace some same exit_is left reach =
    let q = b.geom.q in
    let rest = left_of b - s.n in
    let at : IsPaceOf p.overrides b s = subst (λ bs. IsPaceOfTail p.overrides bs s) tail.stands pace some in
    let x = root_of (s.w + q) * 10 * b.geom.n / b.geom.length in
    let counted : s.n ≡ max 1 (min (left_of b) x) = omega (arith, at.events, left) in
    let low : s.w ≤ exit_of p + q * rest = subst (λ e. s.w ≤ e + q * rest) exit_is reach in
    let top : s.w ≡ speed_after s.w q s.n rest (exit_of p) (top_of p.overrides b) =
    subst (λ t. s.w ≡ speed_after s.w q s.n rest (exit_of p) t) at.top (least_speed s.w (q * s.n) (q * rest) (exit_of p) low) in
    let is : IsSteady p b s = record {
      going = record {
        events = subst (λ w. s.n ≡ count_of b w) (sym same) counted;
        speed = subst (λ w. s.w ≡ speed_after w q s.n rest (exit_of p) (top_of p.overrides b)) (sym same) top;
      };
      speed = same;
      cycles = at.cycles;
      some = (some, at.some);
      left = left;
    } in
    subst (λ bs. IsSteadyOf p bs s) (sym tail.stands) is

-- by what the fields of a plan keep
pub tail_kept : (N w settled : ℕ) (bs : List Block) (o : Overrides) (speeds gap_row soft_row : List ℕ) (b : Bor Block)
    → KeepsPlan N (plan_of bs w o) speeds gap_row soft_row settled → bs ≡ b.now ∷ drop 1 bs → IsTail (plan_of bs w o) b.now
tail_kept N w settled bs o speeds gap_row soft_row b kept e = tail_if (Some b) (plan_of bs w o) e kept.reached

pub steady_kept : (N w settled exit : ℕ) (bs : List Block) (o : Overrides) (speeds gap_row soft_row : List ℕ) (b : Bor Block) (s : Pace)
    → KeepsPlan N (plan_of bs w o) speeds gap_row soft_row settled → bs ≡ b.now ∷ drop 1 bs → IsPaceOfTail o bs s → s.n ≢ 0 → w ≡ s.w
    → exit ≡ get_or speeds 1 0 → (s.n < left_of b.now) × (s.w ≤ exit + b.now.geom.q * (left_of b.now - s.n)) → IsSteadyOf (plan_of bs w o) bs s
steady_kept N w settled exit bs o speeds gap_row soft_row b s kept e pace some same at on =
    let long = ap length e in
    let planned = kept.planned 1 (omega arith) (omega (arith, long)) in
    steady_is (plan_of bs w o) s b.now exit (tail_kept N w settled bs o speeds gap_row soft_row b kept e) pace (omega (arith, some)) same (at ∙ planned)
    on.0 on.1
