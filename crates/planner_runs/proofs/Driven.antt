-- What is recorded of a run that ends at rest.
use Rattle.std.proofs.Common.{◌≡◌, ◌≢◌, ℕ, Bool, zero, suc, ◌+◌, List, [], ◌∷◌, ◌++◌, map, append-nil, refl, sym, ap, ◌∙◌, subst}
use Rattle.std.specs.List.{flat_map}
use Rattle.std.proofs.lemmas.List.Elements.{filter-append, All-append, All-cons, All-nil}
use Rattle.units.specs.declared.Move.{Move}
use Rattle.step_line.specs.declared.Piece.{Piece}
use Rattle.step_line.specs.declared.Piece.TheVariants as pieces
use Rattle.step_line.specs.declared.Record.{Record}
use Rattle.step_line.specs.declared.Record.TheVariants as kinds
use Rattle.step_line.specs.Records.{is_tick}
use Rattle.step_line.specs.Events.{event_of, events_after}
use Rattle.step_line.specs.Pieces.{ticks_of, records_of}
use Rattle.step_line.specs.Ending.{HasNoEnd}
use Rattle.step_line.specs.Asking.{ticks_among}
use Rattle.plan_rules.specs.Plans.{Planned}
use Rattle.plan_rules.specs.Segments.{advanced}
use Rattle.planner_runs.specs.declared.Action.{Action}
use Rattle.planner_runs.specs.declared.Action.TheVariants.{Add, Take, Override, Mark, Rest, Clear, Reset}
use Rattle.planner_runs.specs.Runs.{Plans, IsPlannerRun, fresh_plan, with_move, cleared, all_asked, all_records, ticks_asked, ticks_left, IsAtRest, IsStart, NeverClears, DisturbedOnlyBy}
use Rattle.planner_runs.specs.Driven.{IsDriven, IsParted}
use Rattle.planner_runs.proofs.Runs.{in_parts, fresh_starts, clears_behind, disturbed_keeps}
use Rattle.planner_runs.proofs.Ticks.{all_ticks, ticks_from_start}
use Rattle.planner_runs.proofs.Legal.{closed_heads_are_legal, cut_heads_are_legal}

-- ---- ticks among what is recorded

events_are_ticks : (m : Move) (k n : ℕ) → ticks_among (map kinds.Event (events_after m k n)) ≡ map kinds.Event (events_after m k n)
events_are_ticks m k zero = refl
events_are_ticks m k (suc n) = ap (λ (rs : List Record). kinds.Event (event_of m (k + 1)) ∷ rs) (events_are_ticks m (k + 1) n)

ticks_of_piece : (p : Piece) → ticks_among (records_of p) ≡ ticks_of p
ticks_of_piece (pieces.Segment s) = events_are_ticks s.mv s.first s.n
ticks_of_piece (pieces.Mark m) = refl
ticks_of_piece pieces.End = refl

pub ticks_of_pieces : (ps : List Piece) → ticks_among (all_records ps) ≡ flat_map ticks_of ps
ticks_of_pieces [] = refl
ticks_of_pieces (p ∷ ps) =
    filter-append is_tick (records_of p) (all_records ps)
    ∙ ap (λ x. x ++ ticks_among (all_records ps)) (ticks_of_piece p)
    ∙ ap (λ x. ticks_of p ++ x) (ticks_of_pieces ps)

-- ---- no piece of a run is the end

abbrev NotEnd : Record → Type 0
NotEnd r = r ≢ kinds.End

events_no_end : (m : Move) (k n : ℕ) → HasNoEnd (map kinds.Event (events_after m k n))
events_no_end m k zero = All-nil NotEnd
events_no_end m k (suc n) = All-cons NotEnd _ _ (λ e. absurd cc) (events_no_end m (k + 1) n)

pub run_has_no_end : (most : ℕ) (p last : Planned) (actions : List Action) (given : List Piece) → Plans most p actions given last
    → HasNoEnd (all_records given)
run_has_no_end most p last [] [] run = All-nil NotEnd
run_has_no_end most p last (Add m ∷ rest) ps run = run_has_no_end most (with_move p m) last rest ps run.1
run_has_no_end most p last (Override o ∷ rest) ps run = run_has_no_end most (record p { overrides = o }) last rest ps run.1
run_has_no_end most p last (Rest ∷ rest) ps run = run_has_no_end most p last rest ps run.1
run_has_no_end most p last (Clear ∷ rest) ps run = run_has_no_end most (cleared p) last rest ps run.1
run_has_no_end most p last (Reset ∷ rest) ps run = subst (λ (qs : List Piece). HasNoEnd (all_records qs)) (sym run.1) (All-nil NotEnd)
run_has_no_end most p last (Take mode ∷ rest) (pieces.Segment s ∷ ps) run =
    let behind = run_has_no_end most (advanced p s.n s.w_out) last rest ps run.1 in
    All-append NotEnd (records_of (pieces.Segment s)) (all_records ps)
    (All-cons NotEnd _ _ (λ e. absurd cc) (events_no_end s.mv s.first s.n)) behind
run_has_no_end most p last (Mark m ∷ rest) (pieces.Mark g ∷ ps) run =
    All-cons NotEnd (kinds.Mark g) (all_records ps) (λ e. absurd cc) (run_has_no_end most p last rest ps run.3)
run_has_no_end most p last rest ps run = absurd run

-- ---- the whole

pub driven : (most : ℕ) (held changed : Bool) (actions : List Action) (given : List Piece) (last : Planned) → IsPlannerRun most actions given last → DisturbedOnlyBy held changed actions
    → IsAtRest last → IsDriven most held changed (all_asked actions) (all_records given ++ kinds.End ∷ [])
driven most held changed actions given last run disturbed rest =
    let never = disturbed_keeps held changed actions disturbed in
    record {
      actions = actions;
      given = given;
      last = last;
      run = run;
      disturbed = disturbed;
      asks = refl;
      stops = rest;
      recorded = refl;
      ended = record { front = all_records given; last = refl; once = run_has_no_end most fresh_plan last actions given run };
      ticks = filter-append is_tick (all_records given) (kinds.End ∷ [])
          ∙ append-nil (ticks_among (all_records given))
          ∙ ticks_of_pieces given
          ∙ sym (all_ticks most fresh_plan last actions given fresh_starts never run rest.blocks);
      heads = closed_heads_are_legal most fresh_plan last actions given fresh_starts never run rest.blocks;
    }

-- ---- a run that is stopped

-- what is recorded are the first ticks of those asked for
pub halted_ticks : (most : ℕ) (p last : Planned) (actions : List Action) (given : List Piece) → IsStart p → NeverClears actions
    → Plans most p actions given last → ticks_asked actions ≡ ticks_among (all_records given ++ kinds.End ∷ []) ++ ticks_left last
halted_ticks most p last actions given is never run =
    ticks_from_start most p last actions given is never run
    ∙ ap (λ ts. ts ++ ticks_left last) (sym (filter-append is_tick (all_records given) (kinds.End ∷ []) ∙ append-nil (ticks_among (all_records given)) ∙ ticks_of_pieces given))

-- ---- a run that is cleared

pub parted : (most : ℕ) (p last : Planned) (actions more : List Action) (given : List Piece) → IsStart p → NeverClears actions
    → Plans most p (actions ++ Clear ∷ more) given last → IsParted most p actions more given last
parted most p last actions more given is never run =
    let r = in_parts most p last actions (Clear ∷ more) given run in
    record {
      early = r.early;
      late = r.late;
      both = r.both;
      start = cleared r.mid;
      starts = clears_behind most p r.mid actions r.early is r.before;
      behind = r.behind.1;
      heads = λ line. cut_heads_are_legal most p r.mid actions r.early line is never r.before r.behind.0;
    }
