-- Each piece of a run follows those before it.
use Rattle.std.proofs.Common.{◌≡◌, ◌≤◌, ◌+◌, ℕ, inl, inr, List, [], ◌∷◌, ◌++◌, reverse, append_assoc, refl, sym, ap, ◌∙◌, subst, arith}
use Rattle.std.proofs.lemmas.Bool.{cases_eq}
use Rattle.std.proofs.lemmas.List.{reverse-reverse}
use Rattle.units.specs.Lengths.{IsMove}
use Rattle.step_line.specs.Counting.{events_of}
use Rattle.std.proofs.lemmas.Grind.{reverse_onto}
use Rattle.step_line.specs.declared.Segment.{Segment}
use Rattle.step_line.specs.declared.Piece.{Piece}
use Rattle.step_line.specs.declared.Piece.TheVariants as pieces
use Rattle.step_line.specs.Records.{IsMark}
use Rattle.step_line.specs.Pieces.{IsTraceable, ComesBehind}
use Rattle.line_geom.specs.declared.Block.{Block}
use Rattle.overrides.specs.declared.Overrides.{Overrides}
use Rattle.plan_rules.specs.Blocks.{left_of}
use Rattle.plan_rules.specs.Plans.{Planned, IsReached, entered}
use Rattle.plan_rules.specs.Segments.{advanced, moved}
use Rattle.plan_rules.proofs.Reached.{plan_of, reached_replanned, reached_cleared}
use Rattle.plan_rules.specs.Taking.{IsNext}
use Rattle.plan_rules.specs.Joining.{BlocksJoin}
use Rattle.plan_rules.proofs.Joins.{join_added, joins_on, joins_behind}
use Rattle.plan_rules.specs.declared.Mode.{Mode}
use Rattle.step_line.specs.declared.planned_move.PlannedMove.{PlannedMove}
use Rattle.planner_runs.specs.declared.Action.{Action}
use Rattle.planner_runs.specs.declared.Action.TheVariants.{Add, Take, Override, Mark, Rest, Clear, Reset}
use Rattle.planner_runs.specs.Runs.{Plans, with_move, block_of, cleared, IsStart, NeverResets, AllFollow}
use Rattle.planner_runs.proofs.Runs.{goes_on, reached_with_move, reached_by_segment, rest_is}
use Rattle.planner_runs.proofs.Standing.{IsBlockOf, Stand, stand_added, stand_left, stand_gone}
use Rattle.planner_runs.proofs.Taking.{IsSegmentOfMove, segment_of_move, moved_gone, moved_left}

-- a plan of these moves, behind these pieces
pub record ComesAfter (before : List Piece) (p : Planned) (ms : List PlannedMove) : Type 0 where
  pub reached : IsReached p
  pub stand : Stand p.blocks ms
  pub joins : BlocksJoin before p.blocks

-- a segment of a move can be recorded and traced
traceable : (b : Block) (m : PlannedMove) (w : ℕ) (s : Segment) → IsBlockOf m b → IsSegmentOfMove m b w s → IsTraceable s
traceable b m w s of is =
    let low = of.move.line_low in
    let high = of.move.line_high in
    let line = is.line in
    let whole = is.within in
    record {
      mv = subst IsMove (sym is.mv) of.move.places;
      head = record { line = (omega arith, omega arith); n = (is.some, is.few); w = is.slow; cycles = is.cycles };
      within = subst (λ v. s.first + s.n ≤ events_of v) (sym is.mv) whole;
    }

-- the moves that are left behind it
stand_behind : (b : Block) (bs : List Block) (m : PlannedMove) (ms : List PlannedMove) (n : ℕ) → Stand (b ∷ bs) (m ∷ ms) → n ≤ left_of b
    → (left : List PlannedMove) × Stand (moved n (b ∷ bs)) left
stand_behind b bs m ms n stand within = elim (cases_eq n (left_of b)) [
  | inl same ↦ (ms, subst (λ left. Stand left ms) (moved_gone b bs n same) (stand_gone m bs ms stand.1))
  | inr other ↦ (m ∷ ms, subst (λ left. Stand left (m ∷ ms)) (moved_left b bs n (omega arith)) (stand_left b bs m ms n stand))
]

taken_follows : (before : List Piece) (bs : List Block) (w : ℕ) (o : Overrides) (ms : List PlannedMove) (mode : Mode) (s : Segment)
    → ComesAfter before (plan_of bs w o) ms → IsNext (plan_of bs w o) mode s
    → ComesBehind before (pieces.Segment s) × ((left : List PlannedMove) × ComesAfter (pieces.Segment s ∷ before) (advanced (plan_of bs w o) s.n s.w_out) left)
taken_follows before [] w o ms mode s is next = absurd next
taken_follows before (b ∷ bs) w o [] mode s is next = absurd is.stand
taken_follows before (b ∷ bs) w o (m ∷ ms) mode s is next =
    let plan = plan_of (b ∷ bs) w o in
    let taken = segment_of_move b bs w o m mode s is.reached is.stand.0 next in
    let after = stand_behind b bs m ms s.n is.stand taken.left in (
      (traceable b m w s is.stand.0 taken, joins_on before plan mode (b ∷ bs) s is.joins next),
      (
        after.0,
        record {
          reached = reached_by_segment plan mode s is.reached next;
          stand = after.1;
          joins = joins_behind before plan mode (b ∷ bs) s is.joins next;
        },
      ),
    )

pub all_follow : (most : ℕ) (before : List Piece) (p last : Planned) (ms : List PlannedMove) (actions : List Action) (given : List Piece)
    → ComesAfter before p ms → Plans most p actions given last → AllFollow before given
all_follow most before p last ms [] [] is run = tt
all_follow most before p last ms (Add m ∷ rest) ps is run =
    all_follow most before (with_move p m) last (ms ++ m ∷ []) rest ps (record {
      reached = reached_with_move most p m is.reached run.0;
      stand = stand_added p.blocks ms m is.stand run.0.move;
      joins = join_added before p.blocks (entered p.blocks (block_of m) m.deviation) is.joins refl;
    }) run.1
all_follow most before p last ms (Override o ∷ rest) ps is run =
    all_follow most before (record p { overrides = o }) last ms rest ps (record {
      reached = reached_replanned p.blocks p.speed p.overrides o is.reached run.0;
      stand = is.stand;
      joins = is.joins;
    }) run.1
all_follow most before p last ms (Rest ∷ rest) ps is run = all_follow most before p last ms rest ps is run.1
all_follow most before p last ms (Clear ∷ rest) ps is run =
    all_follow most before (cleared p) last [] rest ps (record {
      reached = reached_cleared p.overrides is.reached.overrides;
      stand = tt;
      joins = tt;
    }) run.1
all_follow most before p last ms (Reset ∷ rest) ps is run = subst (AllFollow before) (sym run.1) tt
all_follow most before p last ms (Take mode ∷ rest) (pieces.Segment s ∷ ps) is run =
    let taken = taken_follows before p.blocks p.speed p.overrides ms mode s is run.0 in
    (taken.0, all_follow most (pieces.Segment s ∷ before) (advanced p s.n s.w_out) last taken.1.0 rest ps taken.1.1 run.1)
all_follow most before p last ms (Mark m ∷ rest) (pieces.Mark g ∷ ps) is run = (
  subst IsMark (sym run.0) run.1,
  all_follow most (pieces.Mark g ∷ before) p last ms rest ps (record {
    reached = is.reached;
    stand = is.stand;
    joins = subst (BlocksJoin (pieces.Mark g ∷ before)) (sym run.2.blocks) tt;
  }) run.3,
)
all_follow most before p last ms rest ps is run = absurd run

cleared_after : (before : List Piece) (p : Planned) → IsStart p → ComesAfter before (cleared p) []
cleared_after before p is = record { reached = reached_cleared p.overrides is.overrides; stand = tt; joins = tt }

-- a run that begins with nothing left to run may come behind any pieces
pub start_follows : (most : ℕ) (before : List Piece) (p last : Planned) (actions : List Action) (given : List Piece) → IsStart p
    → Plans most p actions given last → AllFollow before given
start_follows most before p last actions given is run =
    all_follow most before p last [] actions given
    (subst (λ (q : Planned). ComesAfter before q []) (sym (rest_is p is.rest)) (cleared_after before p is)) run

reverse_steps : (ps : List Piece) (q : Piece) (before : List Piece) → reverse ps ++ (q ∷ before) ≡ reverse (q ∷ ps) ++ before
reverse_steps ps q before = sym (append_assoc (reverse ps) (q ∷ []) before) ∙ ap (λ t. t ++ before) (sym (reverse_onto ps q []))

last_follows : (before ps : List Piece) (p : Piece) → AllFollow before (ps ++ p ∷ []) → ComesBehind (reverse ps ++ before) p
last_follows before [] p all = all.0
last_follows before (q ∷ ps) p all =
    subst (λ b. ComesBehind b p) (reverse_steps ps q before) (last_follows (q ∷ before) ps p all.1)

-- the piece that a run's plan gives next follows those of the run and those before it; the latest stands first
pub next_follows : (most : ℕ) (before later : List Piece) (p plan : Planned) (actions : List Action) (mode : Mode) (s : Segment) → IsStart p
    → NeverResets actions → Plans most p actions (reverse later) plan → IsNext plan mode s → ComesBehind (later ++ before) (pieces.Segment s)
next_follows most before later p plan actions mode s is on run next =
    let last = advanced plan s.n s.w_out in
    let then = goes_on most p plan last actions (Take mode ∷ []) (reverse later) (pieces.Segment s ∷ []) on run (next, refl) in
    let all = start_follows most before p last (actions ++ Take mode ∷ []) (reverse later ++ pieces.Segment s ∷ []) is then in
    subst (λ (b : List Piece). ComesBehind (b ++ before) (pieces.Segment s)) (reverse-reverse later) (last_follows before (reverse later) (pieces.Segment s) all)
