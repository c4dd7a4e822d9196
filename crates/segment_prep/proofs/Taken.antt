-- What holds of the segment that a plan gives.
use Rattle.std.proofs.Common.{◌≡◌, ℕ, ◌+◌, ◌*◌, ◌/◌, ◌^◌, ◌≤◌, ◌<◌, ◌⊎◌, true, false, Bool, min, max, inl, inr, [], ◌∷◌, length, drop, refl, ap, sym, ◌∙◌, subst, arith}
use Rattle.units.specs.Roots.{root_of}
use Rattle.units.specs.Lengths.{IsMove}
use Rattle.step_line.specs.declared.Segment.{Segment}
use Rattle.step_line.specs.Counting.{events_of}
use Rattle.step_line.specs.Pieces.{IsTraceable}
use Rattle.line_geom.specs.declared.Block.{Block}
use Rattle.plan_rules.specs.Blocks.{IsBlock, left_of, nominal_speed, squared, top_of}
use Rattle.plan_rules.specs.Plans.{Planned, IsTail}
use Rattle.plan_rules.specs.Segments.{IsGoing, IsSegment, IsSegmentOf, count_of, pace_of, cycles_of}
use Rattle.plan_passes.specs.declared.Pace.{Pace}
use Rattle.plan_passes.specs.Paces.{IsPaceOf, IsPaceOfTail, IsSteady, IsSteadyOf}
use Rattle.plan_rules.proofs.Bounds.{bounds_of, rapid_small}
use Rattle.plan_rules.specs.declared.Mode.{Mode}
use Rattle.plan_rules.specs.declared.Mode.TheVariants.{Go, Hold}
use Rattle.plan_rules.specs.Taking.{ByMode, IsTaken, IsTakenOf, IsNext}

by_mode : (p : Planned) (b : Block) (mode : Mode) (n v : ℕ) → ByMode p b mode n v → IsSegmentOf p (b ∷ drop 1 p.blocks) n v
by_mode p b Go n v rule = inl rule
by_mode p b Hold n v rule = inr rule

-- a mode's events and speed are those of a segment
pub is_segment : (p : Planned) (b : Block) (mode : Mode) (n v : ℕ) → IsTail p b → ByMode p b mode n v → IsSegment p n v
is_segment p b mode n v tail rule = subst (λ bs. IsSegmentOf p bs n v) (sym tail.stands) (by_mode p b mode n v rule)

-- a segment of a block can be traced
pub traceable : (b : Block) (s : Segment) → IsBlock b → s.mv ≡ b.mv → s.first ≡ b.prepared → 0 < s.n → s.n ≤ left_of b
    → s.w_in ≤ squared b.geom.rapid → s.line < 2 ^ 32 → s.cycles < 2 ^ 64 → 1 ≤ s.line → IsTraceable s
traceable b s is mv first some within speed line time counted =
    let events = is.geom.geom.n in
    let few = (bounds_of b is).n_high in
    let left = is.left in
    let below : s.first + s.n ≤ events_of b.mv = omega (arith, events, first, within, left) in
    record {
      mv = subst IsMove (sym mv) is.geom.places;
      head = record {
        line = (counted, line);
        n = (some, omega (arith, within, few));
        w = omega (arith, speed, rapid_small b is);
        cycles = time;
      };
      within = subst (λ mv. s.first + s.n ≤ events_of mv) (sym mv) below;
    }

-- a segment of the tail is the next one
pub is_next : (p : Planned) (b : Block) (mode : Mode) (s : Segment) → IsTail p b → IsTaken p b mode s → IsNext p mode s
is_next p b mode s tail taken = subst (λ bs. IsTakenOf p bs mode s) (sym tail.stands) taken

-- the pace of a segment at the nominal speed
pub pace_kept : (p : Planned) (b : Block) (mode : Mode) (s : Segment) → IsTail p b → mode ≡ Go → ByMode p b mode s.n s.w_out
    → s.w_in ≡ p.speed → s.w_in ≡ squared (nominal_speed p.overrides b) → s.w_out ≡ squared (nominal_speed p.overrides b) → s.n < left_of b
    → s.cycles ≡ cycles_of b (pace_of b (nominal_speed p.overrides b) s.w_in s.w_out s.n) → 1 ≤ s.cycles
    → IsPaceOfTail p.overrides p.blocks (record { n = s.n; w = s.w_out; cycles = s.cycles })
unfolding top_of
pace_kept p b mode s tail go rule begins top_in top_out left cycles some =
    let going : IsGoing p b s.n s.w_out = subst (λ mode. ByMode p b mode s.n s.w_out) go rule in
    let same : s.w_in ≡ s.w_out = top_in ∙ sym top_out in
    let x = root_of (s.w_out + b.geom.q) * 10 * b.geom.n / b.geom.length in
    let count : s.n ≡ max 1 (min (left_of b) x) = subst (λ w. s.n ≡ count_of b w) (sym begins ∙ same) going.events in
    let is : IsPaceOf p.overrides b (record { n = s.n; w = s.w_out; cycles = s.cycles }) = record {
      top = top_out;
      events = omega (arith, count, left);
      cycles = subst (λ w. s.cycles ≡ cycles_of b (pace_of b (nominal_speed p.overrides b) w s.w_out s.n)) same cycles;
      some = some;
    } in
    subst (λ bs. IsPaceOfTail p.overrides bs (record { n = s.n; w = s.w_out; cycles = s.cycles })) (sym tail.stands) (λ more. is)

-- a segment at the pace of its plan
pub at_pace : (p : Planned) (b : Block) (s : Pace) → IsTail p b → IsSteadyOf p p.blocks s → IsSteady p b s
at_pace p b s tail is = subst (λ bs. IsSteadyOf p bs s) tail.stands is

pub taken_at_pace : (p : Planned) (b : Block) (t : Pace) (s : Segment) → IsTail p b → IsSteadyOf p p.blocks t
    → s ≡ record { line = b.line; mv = b.mv; first = b.prepared; n = t.n; w_in = t.w; w_out = t.w; cycles = t.cycles } → IsNext p Go s
taken_at_pace p b t s tail steady e =
    let is = at_pace p b t tail steady in
    let made : Segment = record { line = b.line; mv = b.mv; first = b.prepared; n = t.n; w_in = t.w; w_out = t.w; cycles = t.cycles } in
    let taken : IsTaken p b Go made = record { line = refl; mv = refl; first = refl; rule = is.going; w_in = sym is.speed; cycles = is.cycles } in
    subst (λ bs. IsTakenOf p bs Go s) (sym tail.stands) (subst (λ (s : Segment). IsTaken p b Go s) (sym e) taken)

pub rule_at_pace : (p : Planned) (b : Block) (t : Pace) (s : Segment) → IsTail p b → IsSteadyOf p p.blocks t
    → s ≡ record { line = b.line; mv = b.mv; first = b.prepared; n = t.n; w_in = t.w; w_out = t.w; cycles = t.cycles } → IsSegment p s.n s.w_out
rule_at_pace p b t s tail steady e =
    subst (λ (s : Segment). IsSegment p s.n s.w_out) (sym e) (is_segment p b Go t.n t.w tail (at_pace p b t tail steady).going)

pub traceable_at_pace : (p : Planned) (b : Block) (t : Pace) (s : Segment) → IsTail p b → IsSteadyOf p p.blocks t
    → s ≡ record { line = b.line; mv = b.mv; first = b.prepared; n = t.n; w_in = t.w; w_out = t.w; cycles = t.cycles }
    → s.line < 2 ^ 32 → s.cycles < 2 ^ 64 → 1 ≤ s.line → IsTraceable s
traceable_at_pace p b t s tail steady e line time =
    let is = at_pace p b t tail steady in
    let n = ap (λ (s : Segment). s.n) e in
    let w = ap (λ (s : Segment). s.w_in) e in
    traceable b s tail.block (ap (λ (s : Segment). s.mv) e) (ap (λ (s : Segment). s.first) e) (omega (arith, n, is.some.0)) (omega (arith, n, is.left))
    (omega (arith, w, is.speed, tail.rapid)) line time

-- a segment comes where a block stands, and not in mode Hold at rest
abbrev pub ComesAsAsked : Planned → Mode → Bool → Type 0
ComesAsAsked p mode some = (some ≡ false → (p.blocks ≡ []) ⊎ ((mode ≡ Hold) × (p.speed ≡ 0))) × ((p.blocks ≡ []) ⊎ ((mode ≡ Hold) × (p.speed ≡ 0)) → some ≡ false)

pub some_at_pace : (p : Planned) (mode : Mode) (s : Segment) → mode ≡ Go → IsNext p mode s → ComesAsAsked p mode true
some_at_pace p mode s go next = (
  λ no. absurd cc,
  elim [
    | inl empty ↦ absurd (subst (λ bs. IsTakenOf p bs mode s) empty next)
    | inr held ↦ absurd (let e = sym go ∙ held.0 in cc)
  ],
)

pub some_worked_out : (p : Planned) (b : Block) (mode : Mode) (w : ℕ) → IsTail p b → w ≡ p.speed → ((mode ≡ Hold) × (w ≡ 0) → true ≡ false) → ComesAsAsked p mode true
some_worked_out p b mode w tail speed rests = (
  λ no. absurd cc,
  elim [
    | inl empty ↦ absurd (omega (arith, ap length (sym tail.stands ∙ empty)))
    | inr held ↦ rests (held.0, speed ∙ held.1)
  ],
)

pub none_worked_out : (p : Planned) (mode : Mode) (w : ℕ) → w ≡ p.speed → (mode ≡ Hold) × (w ≡ 0) → ComesAsAsked p mode false
none_worked_out p mode w speed held = (λ no. inr (held.0, sym speed ∙ held.1), λ comes. refl)

pub none_of_none : (p : Planned) (mode : Mode) → p.blocks ≡ [] → ComesAsAsked p mode false
none_of_none p mode empty = (λ no. inl empty, λ comes. refl)

-- the tail's block stands
pub tail_stands : (p : Planned) (b : Block) → IsTail p b → 0 < length p.blocks
tail_stands p b tail = omega (arith, ap length tail.stands)

-- a plan is no faster than its tail's axes allow
pub tail_rapid : (p : Planned) (b : Block) (w : ℕ) → IsTail p b → w ≡ p.speed → w ≤ squared b.geom.rapid
tail_rapid p b w tail speed = omega (arith, speed, tail.rapid)
