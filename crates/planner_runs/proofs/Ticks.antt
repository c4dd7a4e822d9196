-- The ticks of a run are those that its actions ask for.
use Rattle.std.proofs.Common.{◌≡◌, ◌≤◌, ◌+◌, ◌-◌, ℕ, true, false, nat_eq, inl, inr, List, [], ◌∷◌, ◌++◌, map, refl, sym, ap, ◌∙◌, subst, arith, append_assoc, append-nil}
use Rattle.std.specs.List.{flat_map}
use Rattle.std.proofs.lemmas.Bool.{cases_eq}
use Rattle.std.proofs.lemmas.Bool.Decides.{nat_tests}
use Rattle.std.proofs.lemmas.List.{map-append}
use Rattle.std.proofs.lemmas.Grind.{flat_map-append}
use Rattle.step_line.specs.Counting.{events_of}
use Rattle.step_line.specs.declared.Segment.{Segment}
use Rattle.step_line.specs.declared.Piece.{Piece}
use Rattle.step_line.specs.declared.Piece.TheVariants as pieces
use Rattle.step_line.specs.declared.Record.{Record}
use Rattle.step_line.specs.declared.Record.TheVariants as kinds
use Rattle.step_line.specs.Events.{events_after, line_events}
use Rattle.step_line.specs.Pieces.{ticks_of}
use Rattle.step_line.proofs.Order.{in_parts}
use Rattle.line_geom.specs.declared.Block.{Block}
use Rattle.plan_rules.specs.Blocks.{left_of}
use Rattle.plan_rules.specs.Plans.{Planned, IsReached, entered}
use Rattle.plan_rules.specs.Segments.{advanced, moved}
use Rattle.plan_rules.proofs.Reached.{segment_within, reached_replanned}
use Rattle.plan_rules.specs.Taking.{IsNext, IsTakenOf}
use Rattle.plan_rules.specs.declared.Mode.{Mode}
use Rattle.step_line.specs.declared.planned_move.PlannedMove.{PlannedMove}
use Rattle.planner_runs.specs.declared.Action.{Action}
use Rattle.planner_runs.specs.declared.Action.TheVariants.{Add, Take, Override, Mark, Rest, Clear, Reset}
use Rattle.step_line.specs.Asking.{IsPlannedMove}
use Rattle.planner_runs.specs.Runs.{Plans, block_of, with_move, IsStart, NeverClears, ticks_asked, ticks_left, ticks_left_in}
use Rattle.line_geom.proofs.Geometries.{geometry_has}
use Rattle.planner_runs.proofs.Runs.{next_segment, reached_with_move, reached_by_segment, start_reached}

events_parts : (b : Block) (n : ℕ) → n ≤ left_of b
    → events_after b.mv b.prepared (left_of b) ≡ events_after b.mv b.prepared n ++ events_after b.mv (b.prepared + n) (left_of b - n)
events_parts b n within =
    ap (events_after b.mv b.prepared) (let e : left_of b ≡ n + (left_of b - n) = omega arith in e)
    ∙ in_parts b.mv b.prepared n (left_of b - n)

-- n events of a block, and then what is left of it
block_parts : (b : Block) (n : ℕ) → n ≤ left_of b
    → ticks_left_in b ≡ map kinds.Event (events_after b.mv b.prepared n) ++ map kinds.Event (events_after b.mv (b.prepared + n) (left_of b - n))
block_parts b n within =
    ap (map kinds.Event) (events_parts b n within)
    ∙ map-append kinds.Event (events_after b.mv b.prepared n) (events_after b.mv (b.prepared + n) (left_of b - n))

-- n events of the tail, and then what is left of all
taken_parts : (b : Block) (bs : List Block) (n : ℕ) → n ≤ left_of b
    → flat_map ticks_left_in (b ∷ bs)
    ≡ map kinds.Event (events_after b.mv b.prepared n) ++ flat_map ticks_left_in (moved n (b ∷ bs))
taken_parts b bs n within =
    let taken = map kinds.Event (events_after b.mv b.prepared n) in
    let rest = flat_map ticks_left_in bs in
    let b' : Block = record b { prepared = b.prepared + n } in
    elim (cases_eq n (left_of b)) [
      | inl same ↦
          let test : nat_eq n (left_of b) ≡ true = grind (arith, nat_tests) in
          rw test (ap (λ k. map kinds.Event (events_after b.mv b.prepared k) ++ rest) (sym same))
      | inr other ↦
          let test : nat_eq n (left_of b) ≡ false = grind (arith, nat_tests) in
          let left : left_of b - n ≡ left_of b' = omega arith in
          rw test
          (ap (λ t. t ++ rest) (block_parts b n within)
          ∙ append_assoc taken (map kinds.Event (events_after b.mv (b.prepared + n) (left_of b - n))) rest
          ∙ ap (λ k. taken ++ (map kinds.Event (events_after b.mv (b.prepared + n) k) ++ rest)) left)
    ]

segment_parts : (bs : List Block) (p : Planned) (mode : Mode) (s : Segment) → p.blocks ≡ bs → IsReached p → IsNext p mode s
    → flat_map ticks_left_in bs ≡ ticks_of (pieces.Segment s) ++ flat_map ticks_left_in (moved s.n bs)
segment_parts [] p mode s e is next = absurd (subst (λ bs. IsTakenOf p bs mode s) e next)
segment_parts (b ∷ bs) p mode s e is next =
    let taken = subst (λ bs. IsTakenOf p bs mode s) e next in
    let within = segment_within p.blocks p.speed s.n s.w_out p.overrides is (next_segment p mode s next) b bs e in
    let m = taken.mv in
    let f = taken.first in
    taken_parts b bs s.n within
    ∙ ap (λ t. map kinds.Event t ++ flat_map ticks_left_in (moved s.n (b ∷ bs))) (let same : events_after b.mv b.prepared s.n ≡ events_after s.mv s.first s.n = cc in same)

move_left : (m : PlannedMove) → IsPlannedMove m → left_of (block_of m) ≡ events_of m.mv
move_left m is = let n = (geometry_has m.mv m.limits is.moves).n in omega (arith, n)

-- all events of a move
abbrev ticks_of_move : PlannedMove → List Record
ticks_of_move m = map kinds.Event (line_events m.mv)

move_parts : (p : Planned) (m : PlannedMove) → IsPlannedMove m → ticks_left (with_move p m) ≡ ticks_left p ++ ticks_of_move m
move_parts p m is =
    flat_map-append ticks_left_in p.blocks (entered p.blocks (block_of m) m.deviation ∷ [])
    ∙ ap (λ t. ticks_left p ++ t) (append-nil (map kinds.Event (events_after m.mv 0 (left_of (block_of m)))))
    ∙ ap (λ n. ticks_left p ++ map kinds.Event (events_after m.mv 0 n)) (move_left m is)

-- what was left and what is asked for is given, or left
pub ticks_in_order : (most : ℕ) (p last : Planned) (actions : List Action) (given : List Piece) → IsReached p → NeverClears actions
    → Plans most p actions given last → ticks_left p ++ ticks_asked actions ≡ flat_map ticks_of given ++ ticks_left last
ticks_in_order most p last [] [] is never run = append-nil (ticks_left p) ∙ ap ticks_left (sym run)
ticks_in_order most p last (Add m ∷ rest) ps is never run =
    sym (append_assoc (ticks_left p) (ticks_of_move m) (ticks_asked rest))
    ∙ ap (λ t. t ++ ticks_asked rest) (sym (move_parts p m run.0.move))
    ∙ ticks_in_order most (with_move p m) last rest ps (reached_with_move most p m is run.0) never.1 run.1
ticks_in_order most p last (Override o ∷ rest) ps is never run =
    ticks_in_order most (record p { overrides = o }) last rest ps (reached_replanned p.blocks p.speed p.overrides o is run.0) never.1 run.1
ticks_in_order most p last (Rest ∷ rest) ps is never run = ticks_in_order most p last rest ps is never.1 run.1
ticks_in_order most p last (Clear ∷ rest) ps is never run = absurd never.0
ticks_in_order most p last (Reset ∷ rest) ps is never run = absurd never.0
ticks_in_order most p last (Take mode ∷ rest) (pieces.Segment s ∷ ps) is never run =
    let next = advanced p s.n s.w_out in
    let taken = ticks_of (pieces.Segment s) in
    ap (λ t. t ++ ticks_asked rest) (segment_parts p.blocks p mode s refl is run.0)
    ∙ append_assoc taken (ticks_left next) (ticks_asked rest)
    ∙ ap (λ t. taken ++ t) (ticks_in_order most next last rest ps (reached_by_segment p mode s is run.0) never.1 run.1)
    ∙ sym (append_assoc taken (flat_map ticks_of ps) (ticks_left last))
ticks_in_order most p last (Mark m ∷ rest) (pieces.Mark g ∷ ps) is never run =
    let none : ticks_left p ≡ [] = ap (flat_map ticks_left_in) run.2.blocks in
    let after = ticks_in_order most p last rest ps is never.1 run.3 in
    ap (λ t. t ++ (kinds.Mark m ∷ ticks_asked rest)) none
    ∙ ap (λ t. kinds.Mark m ∷ (t ++ ticks_asked rest)) (sym none)
    ∙ ap (λ t. kinds.Mark m ∷ t) after
    ∙ ap (λ n. kinds.Mark n ∷ (flat_map ticks_of ps ++ ticks_left last)) (sym run.0)
ticks_in_order most p last rest ps is never run = absurd run

-- a run that begins with nothing left to run
pub ticks_from_start : (most : ℕ) (p last : Planned) (actions : List Action) (given : List Piece) → IsStart p → NeverClears actions
    → Plans most p actions given last → ticks_asked actions ≡ flat_map ticks_of given ++ ticks_left last
ticks_from_start most p last actions given is never run =
    ap (λ bs. flat_map ticks_left_in bs ++ ticks_asked actions) (sym is.rest.blocks)
    ∙ ticks_in_order most p last actions given (start_reached p is) never run

-- and ends so
pub all_ticks : (most : ℕ) (p last : Planned) (actions : List Action) (given : List Piece) → IsStart p → NeverClears actions
    → Plans most p actions given last → last.blocks ≡ [] → ticks_asked actions ≡ flat_map ticks_of given
all_ticks most p last actions given is never run none =
    ticks_from_start most p last actions given is never run
    ∙ ap (λ bs. flat_map ticks_of given ++ flat_map ticks_left_in bs) none
    ∙ append-nil (flat_map ticks_of given)
