-- What planner runs for some lines give: ticks and moves of these, and no ending.
use Rattle.std.proofs.Common.{◌≡◌, ◌≢◌, ℕ, suc, ◌+◌, arith, List, [], ◌∷◌, ◌++◌, length, take, false, sym, refl, ap, ◌∙◌, subst, append_assoc}
use Rattle.std.specs.List.{flat_map, AllByRecursion}
use Rattle.std.proofs.lemmas.Grind.{flat_map-append}
use Rattle.std.proofs.lemmas.List.{take_at, length-append}
use Rattle.std.proofs.lemmas.List.Elements.{filter-append, All-head, All-tail}
use Rattle.units.specs.declared.Steps3.{Steps3}
use Rattle.flight.specs.Places.{moved_by, machine_from, end_from}
use Rattle.flight.proofs.Places.{some_behind_from}
use Rattle.plan_rules.specs.Plans.{Planned}
use Rattle.planner_runs.specs.Runs.{moves_added, all_asked, all_records, ticks_left}
use Rattle.planner_runs.proofs.Driven.{ticks_of_pieces, run_has_no_end}
use Rattle.planner_runs.proofs.Ticks.{ticks_from_start}
use Rattle.run_rules.specs.Told.{asked_in}
use Rattle.run_rules.specs.Work.{Outcome}
use Rattle.run_texts.specs.Fronts.{BeginsWith}
use Rattle.run_texts.specs.Parts.{is_ending}
use Rattle.run_texts.specs.Recorded.{ticks_for_all}
use Rattle.run_texts.proofs.Leading.{heads_stay}
use Rattle.step_line.specs.Asking.{move_of, moves_of, ticks_of_one, ticks_of_all, ticks_among}
use Rattle.step_line.specs.Ending.{HasNoEnd}
use Rattle.step_line.specs.Finishing.{ticks_together}
use Rattle.step_line.specs.Pieces.{ticks_of}
use Rattle.step_line.specs.Records.{is_tick}
use Rattle.step_line.specs.declared.Mark.{Mark}
use Rattle.step_line.specs.declared.Piece.{Piece}
use Rattle.step_line.specs.declared.Piece.TheVariants as pieces
use Rattle.step_line.specs.declared.Record.{Record}
use Rattle.step_line.specs.declared.Record.TheVariants as kinds
use Rattle.epoch_records.specs.Epochs.{Epoch, IsPut}
use Rattle.epoch_records.specs.Runs.{IsRunFor}

pub ticks_both : (xs ys : List Record) → ticks_among (xs ++ ys) ≡ ticks_among xs ++ ticks_among ys
ticks_both xs ys = filter-append is_tick xs ys

pub both_lengths : (xs ys : List Record) → length (ticks_among (xs ++ ys)) ≡ length (ticks_among xs) + length (ticks_among ys)
both_lengths xs ys = ap length (ticks_both xs ys) ∙ length-append (ticks_among xs) (ticks_among ys)

-- the ticks of a front, and the others
pub front_ticks : (ps : List Piece) (mine : List Record) (b : BeginsWith (all_records ps) mine) → flat_map ticks_of ps ≡ ticks_among mine ++ ticks_among b.rest
front_ticks ps mine b = sym (ticks_of_pieces ps) ∙ ap ticks_among b.is ∙ ticks_both mine b.rest

-- ---- what lines ask for

-- their ticks are those given, those that the plan has left, and those that were not asked of it
pub ticks_given : (lines : List Outcome) (given : List Piece) (last : Planned) (r : IsRunFor lines given last)
    → ticks_for_all lines ≡ flat_map ticks_of given ++ (ticks_left last ++ ticks_of_all r.asks.rest)
ticks_given lines given last r =
    ap ticks_of_all r.asks.is ∙ flat_map-append ticks_of_one (all_asked r.actions) r.asks.rest
    ∙ ap (λ (rs : List Record). rs ++ ticks_of_all r.asks.rest) (ticks_from_start r.most r.start last r.actions given r.starts r.never r.run)
    ∙ append_assoc (flat_map ticks_of given) (ticks_left last) (ticks_of_all r.asks.rest)

-- their moves are those added, and others
pub moves_given : (lines : List Outcome) (given : List Piece) (last : Planned) (r : IsRunFor lines given last)
    → moves_of (asked_in lines) ≡ moves_added r.actions ++ moves_of r.asks.rest
moves_given lines given last r = ap moves_of r.asks.is ∙ flat_map-append move_of (all_asked r.actions) r.asks.rest

-- the ticks of a front of the records are first among those of the lines
pub ticks_first : (lines : List Outcome) (given : List Piece) (last : Planned) (mine : List Record) → IsRunFor lines given last → BeginsWith (all_records given) mine
    → BeginsWith (ticks_for_all lines) (ticks_among mine)
ticks_first lines given last mine r b = record {
  rest = ticks_among b.rest ++ (ticks_left last ++ ticks_of_all r.asks.rest);
  is = ticks_given lines given last r ∙ ap (λ (rs : List Record). rs ++ (ticks_left last ++ ticks_of_all r.asks.rest)) (front_ticks given mine b)
      ∙ append_assoc (ticks_among mine) (ticks_among b.rest) (ticks_left last ++ ticks_of_all r.asks.rest);
}

-- ---- no ending

abbrev pub Inside : List Record → Type 0
Inside rs = AllByRecursion (λ r. is_ending r ≡ false) rs

pub inside_first : (xs ys : List Record) → Inside (xs ++ ys) → Inside xs
inside_first [] ys all = tt
inside_first (x ∷ xs) ys all = (all.0, inside_first xs ys all.1)

-- of records of which none is the end the ticks alone may end a part
inside_by_ticks : (rs : List Record) → HasNoEnd rs → Inside (ticks_among rs) → Inside rs
inside_by_ticks [] none all = tt
inside_by_ticks (kinds.Head h ∷ rs) none all = (refl, inside_by_ticks rs (All-tail (λ r. r ≢ kinds.End) (kinds.Head h) rs none) all)
inside_by_ticks (kinds.Event b ∷ rs) none all = (refl, inside_by_ticks rs (All-tail (λ r. r ≢ kinds.End) (kinds.Event b) rs none) all.1)
inside_by_ticks (kinds.Mark m ∷ rs) none all = (all.0, inside_by_ticks rs (All-tail (λ r. r ≢ kinds.End) (kinds.Mark m) rs none) all.1)
inside_by_ticks (kinds.End ∷ rs) none all = absurd (All-head (λ r. r ≢ kinds.End) kinds.End rs none refl)

pub inside_given : (lines : List Outcome) (given : List Piece) (last : Planned) → IsRunFor lines given last → Inside (all_records given)
inside_given lines given last r =
    inside_by_ticks (all_records given) (run_has_no_end r.most r.start last r.actions given r.run)
    (subst Inside (sym (ticks_of_pieces given))
    (inside_first (flat_map ticks_of given) (ticks_left last ++ ticks_of_all r.asks.rest) (subst Inside (ticks_given lines given last r) r.inside)))

-- ---- places

-- records lead where so many ticks do
pub stands_at : (place : Steps3) (ps : List Piece) (done : ℕ) (mine : List Record) → BeginsWith (all_records ps) mine → length (ticks_among mine) ≡ done
    → moved_by place mine ≡ machine_from place ps done
stands_at place ps done mine b count =
    sym (heads_stay mine place)
    ∙ ap (moved_by place) (sym (ap (take done) (front_ticks ps mine b) ∙ take_at (ticks_among mine) (ticks_among b.rest) done count))

pub put_stands : (place : Steps3) (e : Epoch) (mine : List Record) → IsPut e mine → moved_by place mine ≡ machine_from place e.pieces e.done
put_stands place e mine is = stands_at place e.pieces e.done mine is.first is.ticks

-- behind pieces and a mark, all of them done, it goes on from where they have led
pub behind_mark : (place : Steps3) (given more : List Piece) (m : Mark) (done : ℕ)
    → machine_from place (given ++ pieces.Mark m ∷ more) (ticks_together given + 1 + done) ≡ machine_from (end_from place given) more done
behind_mark place given more m done =
    let sum : ticks_together given + 1 + done ≡ ticks_together given + (suc done) = omega arith in
    ap (machine_from place (given ++ pieces.Mark m ∷ more)) sum ∙ some_behind_from place given (pieces.Mark m ∷ more) (suc done)
