-- What is put of a part that a reset has broken off are its records.
use Rattle.std.proofs.Common.{◌≡◌, ℕ, ◌+◌, ◌≤◌, List, [], ◌∷◌, ◌++◌, length, map, None, sym, refl, ap, ◌∙◌, subst, append-nil, append_assoc, arith}
use Rattle.std.specs.List.{flat_map, AllByRecursion}
use Rattle.flight.specs.Places.{moved_by}
use Rattle.std.proofs.lemmas.Grind.{flat_map-append}
use Rattle.std.proofs.lemmas.List.{length-append}
use Rattle.units.specs.declared.Steps3.{Steps3}
use Rattle.legal_heads.specs.Speeds.{HasLegalHeads, AreLegal, IsToldRight, told_records, begun_by}
use Rattle.legal_heads.specs.declared.Told.{Told}
use Rattle.plan_rules.specs.Plans.{Planned}
use Rattle.planner_runs.specs.Runs.{moves_added, all_records, ticks_left}
use Rattle.planner_runs.proofs.Legal.{heads_are_legal}
use Rattle.planner_runs.proofs.Driven.{ticks_of_pieces}
use Rattle.run_texts.specs.Courses.{Reset}
use Rattle.run_texts.specs.Fronts.{BeginsWith}
use Rattle.run_texts.specs.Heads.{HasHeads, MayEnd}
use Rattle.run_texts.specs.Parts.{Ending, Part, lines_counted}
use Rattle.run_texts.specs.Parts.Ending.{by_reset}
use Rattle.run_texts.specs.Recorded.{HasTicks, IsWhere, IsRecorded}
use Rattle.step_line.specs.Asking.{moves_of, ticks_of_all, ticks_among}
use Rattle.step_line.specs.Finishing.{ticks_together}
use Rattle.step_line.specs.Pieces.{records_of, ticks_of}
use Rattle.step_line.specs.declared.Bits.{Bits}
use Rattle.step_line.specs.declared.Piece.{Piece}
use Rattle.step_line.specs.declared.Piece.TheVariants as pieces
use Rattle.step_line.specs.declared.Record.{Record}
use Rattle.step_line.specs.declared.Record.TheVariants as kinds
use Rattle.step_line.specs.declared.planned_move.PlannedMove.{PlannedMove}
use Rattle.epoch_records.specs.Epochs.{Epoch, IsPut}
use Rattle.epoch_records.specs.Runs.{IsRunFor, IsUndone, IsBrokenOff}
use Rattle.epoch_records.proofs.Fronts.{Reaches, reaches, ToldUpTo, told_up_to, right_first, legal_first}
use Rattle.epoch_records.proofs.Fronts.Reaches.{within, beyond}
use Rattle.epoch_records.proofs.Driving.{Inside, ticks_both, ticks_given, moves_given, ticks_first, inside_given, inside_first, stands_at}

-- ---- what is put is of the pieces of the part

-- a mark that is put is a tick
mark_counts : (given : List Piece) (mine more : List Record) (x : Record) (tick : length (ticks_among (x ∷ more)) ≡ length (ticks_among more) + 1)
    → mine ≡ all_records given ++ x ∷ more → ticks_together given + 1 ≤ length (ticks_among mine)
mark_counts given mine more x tick e =
    let both : length (ticks_among mine) ≡ ticks_together given + length (ticks_among (x ∷ more)) =
    ap (λ (rs : List Record). length (ticks_among rs)) e
    ∙ ap length (ticks_both (all_records given) (x ∷ more) ∙ ap (λ (rs : List Record). rs ++ ticks_among (x ∷ more)) (ticks_of_pieces given))
    ∙ length-append (flat_map ticks_of given) (ticks_among (x ∷ more)) in
    omega (arith, both, tick)

-- what goes on behind them would have the tick of a mark
none_beyond : (given behind : List Piece) (done : ℕ) (mine rest more : List Record) → IsUndone done given behind → length (ticks_among mine) ≡ done
    → mine ≡ all_records given ++ more → all_records behind ≡ more ++ rest → BeginsWith (all_records given) mine
none_beyond given behind done mine rest [] undone count e b = record { rest = []; is = sym (append-nil (all_records given)) ∙ sym e ∙ sym (append-nil mine) }
none_beyond given [] done mine rest (x ∷ more) undone count e b = absurd cc
none_beyond given (pieces.Segment s ∷ behind) done mine rest (x ∷ more) undone count e b = absurd undone
none_beyond given (pieces.End ∷ behind) done mine rest (x ∷ more) undone count e b = absurd undone
none_beyond given (pieces.Mark m ∷ behind) done mine rest (x ∷ more) undone count e b =
    let same : kinds.Mark m ≡ x = cc in
    let e' : mine ≡ all_records given ++ kinds.Mark m ∷ more = e ∙ ap (λ (r : Record). all_records given ++ r ∷ more) (sym same) in
    let many = mark_counts given mine more (kinds.Mark m) (omega arith) e' in
    absurd (omega (arith, many, count, undone))

by_reach : (given behind : List Piece) (done : ℕ) (mine rest : List Record) → IsUndone done given behind → length (ticks_among mine) ≡ done
    → Reaches (all_records given) (all_records behind) mine rest → BeginsWith (all_records given) mine
by_reach given behind done mine rest undone count (within b) = b
by_reach given behind done mine rest undone count (beyond more e b) = none_beyond given behind done mine rest more undone count e b

pub of_given : (given behind : List Piece) (done : ℕ) (mine : List Record) → IsUndone done given behind → length (ticks_among mine) ≡ done
    → BeginsWith (all_records (given ++ behind)) mine → BeginsWith (all_records given) mine
of_given given behind done mine undone count b =
    by_reach given behind done mine b.rest undone count
    (reaches (all_records given) (all_records behind) mine b.rest (sym (flat_map-append records_of given behind) ∙ b.is))

-- what is put of the pieces published is put of those given, of which one may be in hand
with_hand : (published hand : List Piece) (mine : List Record) → BeginsWith (all_records published) mine → BeginsWith (all_records (published ++ hand)) mine
with_hand published hand mine b = record {
  rest = b.rest ++ all_records hand;
  is = flat_map-append records_of published hand ∙ ap (λ (rs : List Record). rs ++ all_records hand) b.is ∙ append_assoc mine b.rest (all_records hand);
}

-- ---- heads

all_are_ticks : (bs : List Bits) → ticks_among (map kinds.Event bs) ≡ map kinds.Event bs
all_are_ticks [] = refl
all_are_ticks (b ∷ bs) = ap (λ (rs : List Record). kinds.Event b ∷ rs) (all_are_ticks bs)

-- the ticks of all that is given go on with those that are missing
due_ticks : (given : List Piece) (mine : List Record) (b : BeginsWith (all_records given) mine) (missing : List Bits) (late : List Record) → b.rest ≡ map kinds.Event missing ++ late
    → flat_map ticks_of given ≡ (ticks_among mine ++ map kinds.Event missing) ++ ticks_among late
due_ticks given mine b missing late e =
    sym (ticks_of_pieces given) ∙ ap ticks_among b.is ∙ ticks_both mine b.rest
    ∙ ap (λ (rs : List Record). ticks_among mine ++ ticks_among rs) e
    ∙ ap (λ (rs : List Record). ticks_among mine ++ rs) (ticks_both (map kinds.Event missing) late ∙ ap (λ (rs : List Record). rs ++ ticks_among late) (all_are_ticks missing))
    ∙ sym (append_assoc (ticks_among mine) (map kinds.Event missing) (ticks_among late))

begun_first : (early late : List Told) (rest others : List PlannedMove) → (flat_map begun_by (early ++ late) ++ rest) ++ others ≡ flat_map begun_by early ++ ((flat_map begun_by late ++ rest) ++ others)
begun_first early late rest others =
    ap (λ (ms : List PlannedMove). (ms ++ rest) ++ others) (flat_map-append begun_by early late)
    ∙ ap (λ (ms : List PlannedMove). ms ++ others) (append_assoc (flat_map begun_by early) (flat_map begun_by late) rest)
    ∙ append_assoc (flat_map begun_by early) (flat_map begun_by late ++ rest) others

heads_up_to : (p : Part) (r : Reset) (given : List Piece) (last : Planned) (mine : List Record) → p.ending ≡ by_reset r → (run : IsRunFor (lines_counted p) given last)
    → (b : BeginsWith (all_records given) mine) → (h : HasLegalHeads (moves_added run.actions) (all_records given)) → ToldUpTo h.told mine b.rest → HasHeads p mine
heads_up_to p r given last mine e run b h t =
    let others = moves_of run.asks.rest in
    let left = ticks_left last ++ ticks_of_all run.asks.rest in
    let late = flat_map told_records t.late in
    record {
      told = t.early;
      missing = t.missing;
      recorded = t.recorded;
      each = right_first t.early t.late (subst (λ (ts : List Told). AllByRecursion IsToldRight ts) t.both h.each);
      rest = (flat_map begun_by t.late ++ h.rest) ++ others;
      in_order =
          moves_given (lines_counted p) given last run ∙ ap (λ (ms : List PlannedMove). ms ++ others) (h.in_order ∙ ap (λ (ts : List Told). flat_map begun_by ts ++ h.rest) t.both)
          ∙ begun_first t.early t.late h.rest others;
      legal = legal_first t.early t.late None (subst AreLegal t.both h.legal);
      ends = subst (λ (x : Ending). MayEnd x t.early t.missing) (sym e) tt;
      due = record {
        rest = ticks_among late ++ left;
        is = ticks_given (lines_counted p) given last run ∙ ap (λ (rs : List Record). rs ++ left) (due_ticks given mine b t.missing late t.left)
            ∙ append_assoc (ticks_among mine ++ map kinds.Event t.missing) (ticks_among late) left;
      };
    }

pub halted_heads : (p : Part) (r : Reset) (given : List Piece) (last : Planned) (mine : List Record) → p.ending ≡ by_reset r → IsRunFor (lines_counted p) given last → BeginsWith (all_records given) mine → HasHeads p mine
halted_heads p r given last mine e run b =
    let h = heads_are_legal run.most run.start last run.actions given run.starts run.never run.run in
    heads_up_to p r given last mine e run b h (told_up_to h.told mine b.rest (sym h.recorded ∙ b.is))

-- ---- the part

pub reset_recorded : (place : Steps3) (p : Part) (r : Reset) (e : Epoch) (mine : List Record) → p.ending ≡ by_reset r → IsBrokenOff place p r.at e.pieces e.done → IsPut e mine → IsRecorded place p mine
reset_recorded place p r e mine ends is put =
    let b = of_given is.given is.behind e.done mine is.undone put.ticks (subst (λ (ps : List Piece). BeginsWith (all_records ps) mine) is.both (with_hand e.pieces is.hand mine put.first)) in
    record {
      inside = inside_first mine b.rest (subst Inside b.is (inside_given (lines_counted p) is.given is.last is.run));
      ticks = subst (λ (x : Ending). HasTicks p x (ticks_among mine)) (sym ends)
          (record { first = ticks_first (lines_counted p) is.given is.last mine is.run b; settled = (let count = put.ticks in let few = is.settled in omega (arith, count, few)) });
      heads = halted_heads p r is.given is.last mine ends is.run b;
      stands = subst (λ (x : Ending). IsWhere x (moved_by place mine)) (sym ends) (is.stands ∙ sym (stands_at place e.pieces e.done mine put.first put.ticks));
    }
