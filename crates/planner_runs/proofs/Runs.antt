-- Planner runs, one behind another.
use Rattle.std.proofs.Common.{◌≡◌, ℕ, ◌≤◌, Bool, true, nat_eq, false, inl, inr, ◌-◌, List, [], ◌∷◌, ◌++◌, length, length-append, get_or, refl, sym, ap, ◌∙◌, subst, arith, append-nil}
use Rattle.std.proofs.lemmas.List.{get_or_default}
use Rattle.std.proofs.lemmas.Grind.{flat_map-append}
use Rattle.step_line.specs.declared.Piece.{Piece}
use Rattle.step_line.specs.declared.Piece.TheVariants as pieces
use Rattle.std.proofs.lemmas.Bool.Decides.{nat_tests}
use Rattle.step_line.specs.declared.Segment.{Segment}
use Rattle.step_line.specs.declared.Mark.{Mark as AnyMark}
use Rattle.step_line.specs.Records.{IsMark}
use Rattle.step_line.specs.Asking.{move_of, moves_of, ticks_of_one, ticks_of_all}
use Rattle.line_geom.specs.declared.Geom.{Geom}
use Rattle.line_geom.specs.Geometry.{IsGeom, IsGeomOf}
use Rattle.line_geom.proofs.Geometries.{geometry_is, geometry_has}
use Rattle.line_geom.specs.Junctions.{junction_of}
use Rattle.line_geom.specs.declared.Block.{Block}
use Rattle.overrides.specs.declared.Overrides.{Overrides}
use Rattle.overrides.specs.Percents.{IsOverrides}
use Rattle.plan_rules.specs.Plans.{Planned, IsReached, entry_at, entered, added}
use Rattle.plan_rules.specs.Segments.{IsSegment, IsSegmentOf, advanced}
use Rattle.plan_rules.proofs.Reached.{plan_of, fresh_block, length-moved, added_reached, reached_replanned, reached_cleared, reached_moved}
use Rattle.plan_rules.specs.Taking.{IsNext, IsTakenOf}
use Rattle.plan_rules.specs.declared.Mode.{Mode}
use Rattle.plan_rules.specs.declared.Mode.TheVariants.{Go, Hold}
use Rattle.step_line.specs.declared.planned_move.PlannedMove.{PlannedMove}
use Rattle.planner_runs.specs.declared.Action.{Action}
use Rattle.planner_runs.specs.declared.Action.TheVariants.{Add, Take, Override, Mark, Rest, Clear, Reset}
use Rattle.legal_heads.specs.Moves.{geometry_of}
use Rattle.step_line.specs.Asking.{IsPlannedMove}
use Rattle.planner_runs.specs.Runs.{Plans, fresh_plan, block_of, with_move, cleared, RunsInParts, MayAdd, IsStart, asked_by, all_asked, moves_added, ticks_asked, NeverClears, KeepsAll, NeverResets, IsNoReset, IsAtRest, NeedsNoOther, DisturbedOnlyBy, normal_overrides}

-- a run goes on
pub goes_on : (most : ℕ) (p mid last : Planned) (actions more : List Action) (given next : List Piece)
    → NeverResets actions → Plans most p actions given mid → Plans most mid more next last
    → Plans most p (actions ++ more) (given ++ next) last
goes_on most p mid last [] more [] next on run then = subst (λ q. Plans most q more next last) run then
goes_on most p mid last (Add m ∷ rest) more ps next on run then =
    (run.0, goes_on most (with_move p m) mid last rest more ps next on.1 run.1 then)
goes_on most p mid last (Override o ∷ rest) more ps next on run then =
    (run.0, goes_on most (record p { overrides = o }) mid last rest more ps next on.1 run.1 then)
goes_on most p mid last (Rest ∷ rest) more ps next on run then = (run.0, goes_on most p mid last rest more ps next on.1 run.1 then)
goes_on most p mid last (Clear ∷ rest) more ps next on run then =
    (run.0, goes_on most (cleared p) mid last rest more ps next on.1 run.1 then)
goes_on most p mid last (Reset ∷ rest) more ps next on run then = absurd on.0
goes_on most p mid last (Take mode ∷ rest) more (pieces.Segment s ∷ ps) next on run then =
    (run.0, goes_on most (advanced p s.n s.w_out) mid last rest more ps next on.1 run.1 then)
goes_on most p mid last (Mark m ∷ rest) more (pieces.Mark g ∷ ps) next on run then =
    (run.0, run.1, run.2, goes_on most p mid last rest more ps next on.1 run.3 then)
goes_on most p mid last rest more ps next on run then = absurd run

-- one more piece at the beginning of a run in parts
abbrev with_piece : Piece → List Piece → List Piece
with_piece piece ps = piece ∷ ps

-- two lists of which nothing is left
both_empty : (xs ys : List Action) → xs ++ ys ≡ [] → (xs ≡ []) × (ys ≡ [])
both_empty [] ys e = (refl, e)
both_empty (x ∷ xs) ys e = absurd (cc)

-- a run of two lists of actions is one of each
pub in_parts : (most : ℕ) (p last : Planned) (actions more : List Action) (given : List Piece) → Plans most p (actions ++ more) given last
    → RunsInParts most p actions more given last
in_parts most p last [] more given run = record { mid = p; early = []; late = given; both = refl; before = refl; behind = run }
in_parts most p last (Add m ∷ rest) more given run =
    let r = in_parts most (with_move p m) last rest more given run.1 in
    record { mid = r.mid; early = r.early; late = r.late; both = r.both; before = (run.0, r.before); behind = r.behind }
in_parts most p last (Override o ∷ rest) more given run =
    let r = in_parts most (record p { overrides = o }) last rest more given run.1 in
    record { mid = r.mid; early = r.early; late = r.late; both = r.both; before = (run.0, r.before); behind = r.behind }
in_parts most p last (Rest ∷ rest) more given run =
    let r = in_parts most p last rest more given run.1 in
    record { mid = r.mid; early = r.early; late = r.late; both = r.both; before = (run.0, r.before); behind = r.behind }
in_parts most p last (Clear ∷ rest) more given run =
    let r = in_parts most (cleared p) last rest more given run.1 in
    record { mid = r.mid; early = r.early; late = r.late; both = r.both; before = (run.0, r.before); behind = r.behind }
in_parts most p last (Reset ∷ rest) more given run =
    let none = both_empty rest more run.0 in
    record {
      mid = last;
      early = [];
      late = [];
      both = run.1;
      before = (none.0, refl, run.2);
      behind = subst (λ (xs : List Action). Plans most last xs [] last) (sym none.1) refl;
    }
in_parts most p last (Take mode ∷ rest) more (pieces.Segment s ∷ given) run =
    let r = in_parts most (advanced p s.n s.w_out) last rest more given run.1 in
    record {
      mid = r.mid;
      early = pieces.Segment s ∷ r.early;
      late = r.late;
      both = ap (with_piece (pieces.Segment s)) r.both;
      before = (run.0, r.before);
      behind = r.behind;
    }
in_parts most p last (Mark m ∷ rest) more (pieces.Mark g ∷ given) run =
    let r = in_parts most p last rest more given run.3 in
    record {
      mid = r.mid;
      early = pieces.Mark g ∷ r.early;
      late = r.late;
      both = ap (with_piece (pieces.Mark g)) r.both;
      before = (run.0, run.1, run.2, r.before);
      behind = r.behind;
    }
in_parts most p last actions more given run = absurd run

pub asked_on : (actions more : List Action) → all_asked (actions ++ more) ≡ all_asked actions ++ all_asked more
asked_on actions more = flat_map-append asked_by actions more

pub moves_on : (actions more : List Action) → moves_added (actions ++ more) ≡ moves_added actions ++ moves_added more
moves_on actions more = ap moves_of (asked_on actions more) ∙ flat_map-append move_of (all_asked actions) (all_asked more)

pub ticks_on : (actions more : List Action) → ticks_asked (actions ++ more) ≡ ticks_asked actions ++ ticks_asked more
ticks_on actions more = ap ticks_of_all (asked_on actions more) ∙ flat_map-append ticks_of_one (all_asked actions) (all_asked more)

pub clears_on : (actions more : List Action) → NeverClears actions → NeverClears more → NeverClears (actions ++ more)
clears_on [] more never then = then
clears_on (a ∷ rest) more never then = (never.0, clears_on rest more never.1 then)

pub resets_on : (actions more : List Action) → NeverResets actions → NeverResets more → NeverResets (actions ++ more)
resets_on [] more never then = then
resets_on (a ∷ rest) more never then = (never.0, resets_on rest more never.1 then)

pub has_geometry : (m : PlannedMove) → IsPlannedMove m → IsGeomOf m.mv (geometry_of m)
has_geometry m is = record { places = is.places; limits = m.limits; in_range = is.limits; geom = geometry_has m.mv m.limits is.moves }

-- behind other blocks a block's entry cap is that of the junction with the last of them
pub entry_behind : (a : Block) (bs : List Block) (b : Block) (d : ℕ)
    → entry_at (a ∷ bs) b d ≡ junction_of (get_or (a ∷ bs) (length (a ∷ bs) - 1) b).geom b.geom d
entry_behind a bs b d = let some : nat_eq (length (a ∷ bs)) 0 ≡ false = grind (arith, nat_tests) in rw some refl

-- it is read off geometries alone
entry_same : (bs : List Block) (b c : Block) (d : ℕ) → b.geom ≡ c.geom → entry_at bs b d ≡ entry_at bs c d
entry_same [] b c d e = refl
entry_same (a ∷ bs) b c d e =
    let last = get_or_default (a ∷ bs) (length (a ∷ bs) - 1) b c (omega arith) in
    entry_behind a bs b d
    ∙ ap (λ (x : Block). junction_of x.geom b.geom d) last
    ∙ ap (λ (g : Geom). junction_of (get_or (a ∷ bs) (length (a ∷ bs) - 1) c).geom g d) e
    ∙ sym (entry_behind a bs c d)

-- a block that is told field by field is added as its move is
pub block_added : (most : ℕ) (p : Planned) (m : PlannedMove) (b : Block) → MayAdd most p m → b.line ≡ m.line → b.mv ≡ m.mv → b.rate ≡ m.rate
    → IsGeom m.mv m.limits b.geom → b.prepared ≡ 0
    → Plans most p (Add m ∷ []) [] (added p b m.deviation p.overrides)
block_added most p m b may line mv rate geom fresh =
    let e : b.geom ≡ geometry_of m = sym (geometry_is m.mv m.limits b.geom geom) in
    let entry = entry_same p.blocks b (block_of m) m.deviation e in
    let same : entered p.blocks b m.deviation ≡ entered p.blocks (block_of m) m.deviation = cc in
    (may, ap (λ (c : Block). let q : Planned = record p { blocks = p.blocks ++ c ∷ [] } in q) same)

-- each plan of a run can stop before each corner ahead
pub reached_with_move : (most : ℕ) (p : Planned) (m : PlannedMove) → IsReached p → MayAdd most p m → IsReached (with_move p m)
reached_with_move most p m is may =
    let block = fresh_block (block_of m) (entry_at p.blocks (block_of m) m.deviation) may.move.rate (has_geometry m may.move) refl in
    added_reached p.blocks (with_move p m).blocks p.speed p.overrides p.overrides _ refl is block is.overrides

segment_of : (p : Planned) (bs : List Block) (mode : Mode) (s : Segment) → IsTakenOf p bs mode s → IsSegmentOf p bs s.n s.w_out
segment_of p [] mode s next = absurd next
segment_of p (b ∷ bs) Go s next = inl next.rule
segment_of p (b ∷ bs) Hold s next = inr next.rule

-- what a plan gives next is a segment of it
pub next_segment : (p : Planned) (mode : Mode) (s : Segment) → IsNext p mode s → IsSegment p s.n s.w_out
next_segment p mode s next = segment_of p p.blocks mode s next

pub reached_by_segment : (p : Planned) (mode : Mode) (s : Segment) → IsReached p → IsNext p mode s
    → IsReached (advanced p s.n s.w_out)
reached_by_segment p mode s is next =
    reached_moved p.blocks p.speed s.n s.w_out p.overrides is (next_segment p mode s next)

pub reached_by : (most : ℕ) (p last : Planned) (actions : List Action) (given : List Piece) → IsReached p → Plans most p actions given last
    → IsReached last
reached_by most p last [] [] is run = subst IsReached (sym run) is
reached_by most p last (Add m ∷ rest) ps is run =
    reached_by most (with_move p m) last rest ps (reached_with_move most p m is run.0) run.1
reached_by most p last (Override o ∷ rest) ps is run =
    reached_by most (record p { overrides = o }) last rest ps (reached_replanned p.blocks p.speed p.overrides o is run.0) run.1
reached_by most p last (Rest ∷ rest) ps is run = reached_by most p last rest ps is run.1
reached_by most p last (Clear ∷ rest) ps is run =
    reached_by most (cleared p) last rest ps (reached_cleared p.overrides is.overrides) run.1
reached_by most p last (Reset ∷ rest) ps is run = subst IsReached (sym run.2) (reached_cleared p.overrides is.overrides)
reached_by most p last (Take mode ∷ rest) (pieces.Segment s ∷ ps) is run =
    reached_by most (advanced p s.n s.w_out) last rest ps (reached_by_segment p mode s is run.0) run.1
reached_by most p last (Mark m ∷ rest) (pieces.Mark g ∷ ps) is run = reached_by most p last rest ps is run.3
reached_by most p last rest ps is run = absurd run

-- no plan of a run has more blocks than it may have
pub few_blocks : (most : ℕ) (p last : Planned) (actions : List Action) (given : List Piece) → length p.blocks ≤ most → Plans most p actions given last → length last.blocks ≤ most
few_blocks most p last [] [] few run = subst (λ (q : Planned). length q.blocks ≤ most) (sym run) few
few_blocks most p last (Add m ∷ rest) ps few run =
    let room = run.0.room in let more = length-append p.blocks (entered p.blocks (block_of m) m.deviation ∷ []) in
    few_blocks most (with_move p m) last rest ps (omega (arith, room, more)) run.1
few_blocks most p last (Override o ∷ rest) ps few run = few_blocks most (record p { overrides = o }) last rest ps few run.1
few_blocks most p last (Rest ∷ rest) ps few run = few_blocks most p last rest ps few run.1
few_blocks most p last (Clear ∷ rest) ps few run = few_blocks most (cleared p) last rest ps (omega arith) run.1
few_blocks most p last (Reset ∷ rest) ps few run = subst (λ (q : Planned). length q.blocks ≤ most) (sym run.2) (omega arith)
few_blocks most p last (Take mode ∷ rest) (pieces.Segment s ∷ ps) few run =
    let less = length-moved s.n p.blocks in
    few_blocks most (advanced p s.n s.w_out) last rest ps (omega (arith, few, less)) run.1
few_blocks most p last (Mark m ∷ rest) (pieces.Mark g ∷ ps) few run = few_blocks most p last rest ps few run.3
few_blocks most p last rest ps few run = absurd run

-- ---- where runs begin

-- a plan at rest is one that was cleared
same_plan : (a b : List Block) (v w : ℕ) (o : Overrides) → a ≡ b → v ≡ w
    → Path Planned (record { blocks = a; speed = v; overrides = o }) (record { blocks = b; speed = w; overrides = o })
same_plan a b v w o e f = cc

pub rest_is : (p : Planned) → IsAtRest p → p ≡ cleared p
rest_is p rest = same_plan p.blocks [] p.speed 0 p.overrides rest.blocks rest.speed

pub start_reached : (p : Planned) → IsStart p → IsReached p
start_reached p is = subst IsReached (sym (rest_is p is.rest)) (reached_cleared p.overrides is.overrides)

pub cleared_starts : (p : Planned) → IsReached p → IsStart (cleared p)
cleared_starts p is = record { rest = record { blocks = refl; speed = refl }; overrides = is.overrides }

pub fresh_starts : IsStart fresh_plan
fresh_starts = record {
  rest = record { blocks = refl; speed = refl };
  overrides = record {
    feed_low = omega arith;
    feed_high = omega arith;
    rapid_low = omega arith;
    rapid_high = omega arith;
    spindle_low = omega arith;
    spindle_high = omega arith;
  };
}

-- where no block is left, the machine stands
pub at_rest : (p : Planned) → IsReached p → p.blocks ≡ [] → IsAtRest p
at_rest p is none = record {
  blocks = none;
  speed = let stops = (subst (λ bs. IsReached (plan_of bs p.speed p.overrides)) none is).slowable.stops in omega (arith, stops);
}

pub reached_from : (most : ℕ) (p last : Planned) (actions : List Action) (given : List Piece) → IsStart p → Plans most p actions given last
    → IsReached last
reached_from most p last actions given is run = reached_by most p last actions given (start_reached p is) run

-- where nothing is left to run, another part may begin
pub rests_behind : (most : ℕ) (p last : Planned) (actions : List Action) (given : List Piece) → IsStart p → Plans most p actions given last
    → last.blocks ≡ [] → IsStart last
rests_behind most p last actions given is run none =
    let reached = reached_from most p last actions given is run in record { rest = at_rest last reached none; overrides = reached.overrides }

pub clears_behind : (most : ℕ) (p last : Planned) (actions : List Action) (given : List Piece) → IsStart p → Plans most p actions given last
    → IsStart (cleared last)
clears_behind most p last actions given is run = cleared_starts last (reached_from most p last actions given is run)

-- ---- an action more

-- a run that gives nothing more
goes_on_silently : (most : ℕ) (p mid last : Planned) (actions more : List Action) (given : List Piece) → NeverResets actions
    → Plans most p actions given mid → Plans most mid more [] last → Plans most p (actions ++ more) given last
goes_on_silently most p mid last actions more given on run then =
    subst (λ ps. Plans most p (actions ++ more) ps last) (append-nil given) (goes_on most p mid last actions more given [] on run then)

pub grows_by_add : (most : ℕ) (p plan : Planned) (actions : List Action) (given : List Piece) (m : PlannedMove) (b : Block) → NeverResets actions
    → Plans most p actions given plan → MayAdd most plan m → b.line ≡ m.line → b.mv ≡ m.mv → b.rate ≡ m.rate → IsGeom m.mv m.limits b.geom → b.prepared ≡ 0
    → Plans most p (actions ++ Add m ∷ []) given (added plan b m.deviation plan.overrides)
grows_by_add most p plan actions given m b on run may line mv rate geom fresh =
    goes_on_silently most p plan (added plan b m.deviation plan.overrides) actions (Add m ∷ []) given on run
    (block_added most plan m b may line mv rate geom fresh)

pub grows_by_override : (most : ℕ) (p plan : Planned) (actions : List Action) (given : List Piece) (o : Overrides) → NeverResets actions
    → Plans most p actions given plan → IsOverrides o → Plans most p (actions ++ Override o ∷ []) given (record plan { overrides = o })
grows_by_override most p plan actions given o on run is =
    goes_on_silently most p plan (record plan { overrides = o }) actions (Override o ∷ []) given on run (is, refl)

pub grows_by_rest : (most : ℕ) (p plan : Planned) (actions : List Action) (given : List Piece) → NeverResets actions
    → Plans most p actions given plan → IsAtRest plan → Plans most p (actions ++ Rest ∷ []) given plan
grows_by_rest most p plan actions given on run rest = goes_on_silently most p plan plan actions (Rest ∷ []) given on run (rest, refl)

pub grows_by_clear : (most : ℕ) (p plan : Planned) (actions : List Action) (given : List Piece) → NeverResets actions
    → Plans most p actions given plan → plan.speed ≡ 0 → Plans most p (actions ++ Clear ∷ []) given (cleared plan)
grows_by_clear most p plan actions given on run stands =
    goes_on_silently most p plan (cleared plan) actions (Clear ∷ []) given on run (stands, refl)

pub grows_by_reset : (most : ℕ) (p plan : Planned) (actions : List Action) (given : List Piece) → NeverResets actions
    → Plans most p actions given plan → Plans most p (actions ++ Reset ∷ []) given (cleared plan)
grows_by_reset most p plan actions given on run =
    goes_on_silently most p plan (cleared plan) actions (Reset ∷ []) given on run (refl, refl, refl)

pub grows_by_segment : (most : ℕ) (p plan : Planned) (actions : List Action) (given : List Piece) (mode : Mode) (s : Segment) → NeverResets actions
    → Plans most p actions given plan → IsNext plan mode s
    → Plans most p (actions ++ Take mode ∷ []) (given ++ pieces.Segment s ∷ []) (advanced plan s.n s.w_out)
grows_by_segment most p plan actions given mode s on run next =
    goes_on most p plan (advanced plan s.n s.w_out) actions (Take mode ∷ []) given (pieces.Segment s ∷ []) on run (next, refl)

pub grows_by_mark : (most : ℕ) (p plan : Planned) (actions : List Action) (given : List Piece) (m : AnyMark) → NeverResets actions
    → Plans most p actions given plan → IsMark m → IsAtRest plan → Plans most p (actions ++ Mark m ∷ []) (given ++ pieces.Mark m ∷ []) plan
grows_by_mark most p plan actions given m on run is rest =
    goes_on most p plan plan actions (Mark m ∷ []) given (pieces.Mark m ∷ []) on run (refl, is, rest, refl)

-- ---- what is asked of each action

pub disturbed_on : (held changed : Bool) (actions more : List Action) → DisturbedOnlyBy held changed actions → DisturbedOnlyBy held changed more
    → DisturbedOnlyBy held changed (actions ++ more)
disturbed_on held changed [] more is then = then
disturbed_on held changed (a ∷ rest) more is then = (is.0, disturbed_on held changed rest more is.1 then)

pub needs_less : (held changed held_too changed_too : Bool) (a : Action) → (held ≡ true → held_too ≡ true) → (changed ≡ true → changed_too ≡ true)
    → NeedsNoOther held changed a → NeedsNoOther held_too changed_too a
needs_less held changed held_too changed_too (Add m) holds changes is = tt
needs_less held changed held_too changed_too (Take Go) holds changes is = tt
needs_less held changed held_too changed_too (Take Hold) holds changes is = holds is
needs_less held changed held_too changed_too (Override o) holds changes (inl normal) = inl normal
needs_less held changed held_too changed_too (Override o) holds changes (inr asked) = inr (changes asked)
needs_less held changed held_too changed_too (Mark m) holds changes is = tt
needs_less held changed held_too changed_too Rest holds changes is = tt
needs_less held changed held_too changed_too Clear holds changes is = absurd is
needs_less held changed held_too changed_too Reset holds changes is = absurd is

pub disturbed_more : (held changed held_too changed_too : Bool) (actions : List Action) → (held ≡ true → held_too ≡ true) → (changed ≡ true → changed_too ≡ true)
    → DisturbedOnlyBy held changed actions → DisturbedOnlyBy held_too changed_too actions
disturbed_more held changed held_too changed_too [] holds changes is = tt
disturbed_more held changed held_too changed_too (a ∷ rest) holds changes is =
    (needs_less held changed held_too changed_too a holds changes is.0, disturbed_more held changed held_too changed_too rest holds changes is.1)

keeps_all : (held changed : Bool) (a : Action) → NeedsNoOther held changed a → KeepsAll a
keeps_all held changed (Add m) is = tt
keeps_all held changed (Take mode) is = tt
keeps_all held changed (Override o) is = tt
keeps_all held changed (Mark m) is = tt
keeps_all held changed Rest is = tt
keeps_all held changed Clear is = absurd is
keeps_all held changed Reset is = absurd is

pub disturbed_keeps : (held changed : Bool) (actions : List Action) → DisturbedOnlyBy held changed actions → NeverClears actions
disturbed_keeps held changed [] is = tt
disturbed_keeps held changed (a ∷ rest) is = (keeps_all held changed a is.0, disturbed_keeps held changed rest is.1)

no_reset : (a : Action) → KeepsAll a → IsNoReset a
no_reset (Add m) is = tt
no_reset (Take mode) is = tt
no_reset (Override o) is = tt
no_reset (Mark m) is = tt
no_reset Rest is = tt
no_reset Clear is = absurd is
no_reset Reset is = absurd is

pub keeps_on : (actions : List Action) → NeverClears actions → NeverResets actions
keeps_on [] is = tt
keeps_on (a ∷ rest) is = (no_reset a is.0, keeps_on rest is.1)

-- ---- where no change of overrides was asked for

overrides_kept : (most : ℕ) (p last : Planned) (held : Bool) (actions : List Action) (given : List Piece) → DisturbedOnlyBy held false actions → p.overrides ≡ normal_overrides
    → Plans most p actions given last → last.overrides ≡ normal_overrides
overrides_kept most p last held [] [] is from run = ap (λ (q : Planned). q.overrides) run ∙ from
overrides_kept most p last held (Add m ∷ rest) ps is from run = overrides_kept most (with_move p m) last held rest ps is.1 from run.1
overrides_kept most p last held (Override o ∷ rest) ps (inl normal, is) from run = overrides_kept most (record p { overrides = o }) last held rest ps is normal run.1
overrides_kept most p last held (Override o ∷ rest) ps (inr asked, is) from run = absurd (let e = asked in cc)
overrides_kept most p last held (Rest ∷ rest) ps is from run = overrides_kept most p last held rest ps is.1 from run.1
overrides_kept most p last held (Clear ∷ rest) ps is from run = absurd is.0
overrides_kept most p last held (Reset ∷ rest) ps is from run = absurd is.0
overrides_kept most p last held (Take mode ∷ rest) (pieces.Segment s ∷ ps) is from run = overrides_kept most (advanced p s.n s.w_out) last held rest ps is.1 from run.1
overrides_kept most p last held (Mark m ∷ rest) (pieces.Mark g ∷ ps) is from run = overrides_kept most p last held rest ps is.1 from run.3
overrides_kept most p last held rest ps is from run = absurd run

pub still_normal : (most : ℕ) (from last : Planned) (held : Bool) (actions : List Action) (given : List Piece) → from.overrides ≡ normal_overrides → DisturbedOnlyBy held false actions
    → Plans most from actions given last → last.overrides ≡ normal_overrides
still_normal most from last held actions given normal is run = overrides_kept most from last held actions given is normal run
