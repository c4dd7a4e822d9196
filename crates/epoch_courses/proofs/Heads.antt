-- Whichever first pieces of a planner run are out, their heads are legal up to a reset's mark.
use Rattle.std.proofs.Common.{◌≡◌, ℕ, List, [], ◌∷◌, ◌++◌, refl, sym, ap, ◌∙◌, subst, append_assoc, append-nil}
use Rattle.std.proofs.lemmas.Grind.{flat_map-append}
use Rattle.std.specs.List.{flat_map, AllByRecursion}
use Rattle.std.specs.declared.option.Option.{Option}
use Rattle.legal_heads.specs.Speeds.{HasLegalHeads, AreLegalBehind, IsToldRight, latest_behind, told_records, begun_by}
use Rattle.legal_heads.specs.declared.Told.{Told}
use Rattle.legal_heads.specs.declared.Told.TheVariants as told_as
use Rattle.legal_heads.specs.declared.ToldHead.{ToldHead}
use Rattle.plan_rules.specs.Plans.{Planned}
use Rattle.plan_rules.specs.Segments.{advanced}
use Rattle.planner_runs.specs.declared.Action.{Action}
use Rattle.planner_runs.specs.declared.Action.TheVariants.{Add, Take, Override, Mark, Rest, Clear, Reset}
use Rattle.planner_runs.specs.Runs.{Plans, IsStart, NeverClears, moves_added, all_records, with_move, cleared}
use Rattle.planner_runs.proofs.Legal.{heads_are_legal}
use Rattle.planner_runs.proofs.Runs.{moves_on}
use Rattle.run_texts.specs.Fronts.{BeginsWith}
use Rattle.step_line.specs.declared.Mark.TheVariants as marks
use Rattle.step_line.specs.declared.Piece.{Piece}
use Rattle.step_line.specs.declared.Piece.TheVariants as pieces
use Rattle.step_line.specs.declared.Record.{Record}
use Rattle.step_line.specs.declared.Record.TheVariants as kinds
use Rattle.step_line.specs.declared.planned_move.PlannedMove.{PlannedMove}

-- ---- the first pieces of a run

-- some of the first actions have given them
record GivesFirst (most : ℕ) (p : Planned) (actions : List Action) (out : List Piece) : Type 0 where
  early : List Action
  late : List Action
  both : actions ≡ early ++ late
  mid : Planned
  run : Plans most p early out mid

one_more : (most : ℕ) (p q : Planned) (a : Action) (actions : List Action) (ps out : List Piece) → ((early : List Action) (mid : Planned) → Plans most q early ps mid → Plans most p (a ∷ early) out mid)
    → GivesFirst most q actions ps → GivesFirst most p (a ∷ actions) out
one_more most p q a actions ps out more g = record { early = a ∷ g.early; late = g.late; both = ap (λ (rest : List Action). a ∷ rest) g.both; mid = g.mid; run = more g.early g.mid g.run }

gives_first : (most : ℕ) (p last : Planned) (actions : List Action) (out later : List Piece) → Plans most p actions (out ++ later) last → GivesFirst most p actions out
gives_first most p last actions [] later run = record { early = []; late = actions; both = refl; mid = p; run = refl }
gives_first most p last [] (x ∷ out) later run = absurd run
gives_first most p last (Add m ∷ actions) (x ∷ out) later run =
    one_more most p (with_move p m) (Add m) actions (x ∷ out) (x ∷ out) (λ early mid r. (run.0, r)) (gives_first most (with_move p m) last actions (x ∷ out) later run.1)
gives_first most p last (Override o ∷ actions) (x ∷ out) later run =
    let q : Planned = record p { overrides = o } in
    one_more most p q (Override o) actions (x ∷ out) (x ∷ out) (λ early mid r. (run.0, r)) (gives_first most q last actions (x ∷ out) later run.1)
gives_first most p last (Rest ∷ actions) (x ∷ out) later run =
    one_more most p p Rest actions (x ∷ out) (x ∷ out) (λ early mid r. (run.0, r)) (gives_first most p last actions (x ∷ out) later run.1)
gives_first most p last (Clear ∷ actions) (x ∷ out) later run =
    one_more most p (cleared p) Clear actions (x ∷ out) (x ∷ out) (λ early mid r. (run.0, r)) (gives_first most (cleared p) last actions (x ∷ out) later run.1)
gives_first most p last (Reset ∷ actions) (x ∷ out) later run = absurd (let e = run.1 in cc)
gives_first most p last (Take mode ∷ actions) (pieces.Segment s ∷ out) later run =
    one_more most p (advanced p s.n s.w_out) (Take mode) actions out (pieces.Segment s ∷ out) (λ early mid r. (run.0, r)) (gives_first most (advanced p s.n s.w_out) last actions out later run.1)
gives_first most p last (Take mode ∷ actions) (pieces.Mark m ∷ out) later run = absurd run
gives_first most p last (Take mode ∷ actions) (pieces.End ∷ out) later run = absurd run
gives_first most p last (Mark m ∷ actions) (pieces.Mark given ∷ out) later run =
    one_more most p p (Mark m) actions out (pieces.Mark given ∷ out) (λ early mid r. (run.0, run.1, run.2, r)) (gives_first most p last actions out later run.3)
gives_first most p last (Mark m ∷ actions) (pieces.Segment s ∷ out) later run = absurd run
gives_first most p last (Mark m ∷ actions) (pieces.End ∷ out) later run = absurd run

front_keeps : (early late : List Action) → NeverClears (early ++ late) → NeverClears early
front_keeps [] late never = tt
front_keeps (a ∷ early) late never = (never.0, front_keeps early late never.1)

-- ---- up to the mark

legal_on : (before : Option ToldHead) (told : List Told) (k : ℕ) → AreLegalBehind before told → AreLegalBehind before (told ++ told_as.Mark (marks.Reset k) ∷ [])
legal_on before [] k legal = (tt, tt)
legal_on before (t ∷ told) k legal = (legal.0, legal_on (latest_behind t) told k legal.1)

right_on : (told : List Told) (k : ℕ) → AllByRecursion IsToldRight told → AllByRecursion IsToldRight (told ++ told_as.Mark (marks.Reset k) ∷ [])
right_on [] k each = (tt, tt)
right_on (t ∷ told) k each = (each.0, right_on told k each.1)

-- a reset's mark may come at any speed, and more moves may not be begun
marked : (moves more : List PlannedMove) (records : List Record) (k : ℕ) → HasLegalHeads moves records → HasLegalHeads (moves ++ more) (records ++ kinds.Mark (marks.Reset k) ∷ [])
marked moves more records k legal =
    let mark : Told = told_as.Mark (marks.Reset k) in
    let begun : flat_map begun_by (legal.told ++ mark ∷ []) ≡ flat_map begun_by legal.told = flat_map-append begun_by legal.told (mark ∷ []) ∙ append-nil (flat_map begun_by legal.told) in
    record {
      told = legal.told ++ mark ∷ [];
      recorded = ap (λ (rs : List Record). rs ++ kinds.Mark (marks.Reset k) ∷ []) legal.recorded ∙ sym (flat_map-append told_records legal.told (mark ∷ []));
      each = right_on legal.told k legal.each;
      rest = legal.rest ++ more;
      in_order = ap (λ (ms : List PlannedMove). ms ++ more) legal.in_order ∙ append_assoc (flat_map begun_by legal.told) legal.rest more ∙ ap (λ (ms : List PlannedMove). ms ++ (legal.rest ++ more)) (sym begun);
      legal = legal_on _ legal.told k legal.legal;
    }

pub front_marked : (most : ℕ) (p last : Planned) (actions : List Action) (given out : List Piece) (k : ℕ) → IsStart p → NeverClears actions → Plans most p actions given last → BeginsWith given out
    → HasLegalHeads (moves_added actions) (all_records out ++ kinds.Mark (marks.Reset k) ∷ [])
front_marked most p last actions given out k starts never run begins =
    let g = gives_first most p last actions out begins.rest (subst (λ (ps : List Piece). Plans most p actions ps last) begins.is run) in
    let keeps = front_keeps g.early g.late (subst NeverClears g.both never) in
    subst (λ (ms : List PlannedMove). HasLegalHeads ms (all_records out ++ kinds.Mark (marks.Reset k) ∷ [])) (sym (ap moves_added g.both ∙ moves_on g.early g.late))
    (marked (moves_added g.early) (moves_added g.late) (all_records out) k (heads_are_legal most p g.mid g.early out starts keeps g.run))
