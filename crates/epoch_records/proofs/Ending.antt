-- What is put of a part that a cut has ended, or the end, are its records: all records of its pieces.
use Rattle.std.proofs.Common.{◌≡◌, ℕ, ◌≤◌, Bool, true, false, List, [], ◌∷◌, ◌++◌, length, None, sym, refl, ap, ◌∙◌, subst, append-nil, append_assoc}
use Rattle.std.specs.List.{flat_map, list_any}
use Rattle.std.specs.declared.option.Option.{Option}
use Rattle.std.proofs.lemmas.List.{append_cancel_right}
use Rattle.units.specs.declared.Steps3.{Steps3}
use Rattle.flight.specs.Places.{moved_by, end_from}
use Rattle.legal_heads.specs.Speeds.{MayStop, told_records, latest_behind, begun_by}
use Rattle.legal_heads.specs.declared.Told.{Told}
use Rattle.legal_heads.specs.declared.ToldHead.{ToldHead}
use Rattle.plan_rules.specs.Plans.{Planned}
use Rattle.planner_runs.specs.Halted.{HasHaltedHeads, latest_of}
use Rattle.planner_runs.specs.Runs.{moves_added, all_records, ticks_left}
use Rattle.planner_runs.proofs.Driven.{ticks_of_pieces}
use Rattle.planner_runs.proofs.Legal.{halted_heads_are_legal}
use Rattle.planner_runs.proofs.Ticks.{all_ticks}
use Rattle.run_rules.specs.Cuts.{LosesJogsAlone}
use Rattle.run_rules.specs.Outcomes.{either}
use Rattle.run_rules.specs.Reports.{raises_alarm}
use Rattle.run_rules.specs.Work.{Outcome}
use Rattle.run_texts.specs.Fronts.{BeginsWith}
use Rattle.run_texts.specs.Heads.{HasHeads, MayEnd, last_head}
use Rattle.run_texts.specs.Parts.{Ending, Part, lines_counted}
use Rattle.run_texts.specs.Parts.Ending.{by_cut, by_end}
use Rattle.run_texts.specs.Recorded.{HasTicks, IsWhere, IsRecorded, ticks_for_all, settled_ticks}
use Rattle.run_texts.proofs.Leading.{heads_stay}
use Rattle.step_line.specs.Asking.{moves_of, ticks_of_all, ticks_among}
use Rattle.step_line.specs.Finishing.{ticks_together}
use Rattle.step_line.specs.declared.Piece.{Piece}
use Rattle.step_line.specs.declared.Record.{Record}
use Rattle.step_line.specs.declared.Record.TheVariants as kinds
use Rattle.step_line.specs.declared.planned_move.PlannedMove.{PlannedMove}
use Rattle.epoch_records.specs.Runs.{IsRunFor, IsCutOff, IsCarriedOut, IsRunOut}
use Rattle.epoch_records.proofs.Driving.{ticks_given, moves_given, ticks_first, inside_given}

-- ---- heads

latest_same : (told : List Told) (before : Option ToldHead) → latest_of before told ≡ last_head before told
latest_same [] before = refl
latest_same (t ∷ told) before = latest_same told (latest_behind t)

all_of_it : {A : Type 0} (xs : List A) → BeginsWith xs xs
all_of_it xs = record { rest = []; is = sym (append-nil xs) }

heads_of : (p : Part) (given : List Piece) (last : Planned) (run : IsRunFor (lines_counted p) given last) → ((told : List Told) → MayStop (last_head None told) → MayEnd p.ending told [])
    → HasHaltedHeads (moves_added run.actions) (all_records given ++ kinds.End ∷ []) → HasHeads p (all_records given)
heads_of p given last run ends h =
    let records : all_records given ≡ flat_map told_records h.told = append_cancel_right (all_records given) (flat_map told_records h.told) (kinds.End ∷ []) h.recorded in
    record {
      told = h.told;
      missing = [];
      recorded = sym records ∙ sym (append-nil (all_records given));
      each = h.each;
      rest = h.rest ++ moves_of run.asks.rest;
      in_order =
          moves_given (lines_counted p) given last run ∙ ap (λ (ms : List PlannedMove). ms ++ moves_of run.asks.rest) h.in_order
          ∙ append_assoc (flat_map begun_by h.told) h.rest (moves_of run.asks.rest);
      legal = h.legal;
      ends = ends h.told (subst MayStop (latest_same h.told None) h.stops);
      due = record {
        rest = ticks_left last ++ ticks_of_all run.asks.rest;
        is = ticks_given (lines_counted p) given last run
            ∙ ap (λ (rs : List Record). rs ++ (ticks_left last ++ ticks_of_all run.asks.rest)) (sym (ticks_of_pieces given) ∙ sym (append-nil (ticks_among (all_records given))));
      };
    }

stopped_heads : (p : Part) (given : List Piece) (last : Planned) → IsRunFor (lines_counted p) given last → last.speed ≡ 0 → ((told : List Told) → MayStop (last_head None told) → MayEnd p.ending told []) → HasHeads p (all_records given)
stopped_heads p given last run stops ends =
    heads_of p given last run ends (halted_heads_are_legal run.most run.start last run.actions given run.starts run.never run.run stops)

-- ---- ticks

whole_first : (p : Part) (given : List Piece) (last : Planned) → IsRunFor (lines_counted p) given last → BeginsWith (ticks_for_all (lines_counted p)) (ticks_among (all_records given))
whole_first p given last run = ticks_first (lines_counted p) given last (all_records given) run (all_of_it (all_records given))

how_many : (given : List Piece) → ticks_together given ≡ length (ticks_among (all_records given))
how_many given = ap length (sym (ticks_of_pieces given))

pub all_lead : (place : Steps3) (given : List Piece) → moved_by place (all_records given) ≡ end_from place given
all_lead place given = sym (heads_stay (all_records given) place) ∙ ap (moved_by place) (ticks_of_pieces given)

-- ---- a cut

pub cut_recorded : (place : Steps3) (p : Part) (k : ℕ) (at : Steps3) (given : List Piece) → p.ending ≡ by_cut k at → IsCutOff place p at given → IsRecorded place p (all_records given)
cut_recorded place p k at given ends is = record {
  inside = inside_given (lines_counted p) given is.last is.run;
  ticks = subst (λ (x : Ending). HasTicks p x (ticks_among (all_records given))) (sym ends)
      (record { first = whole_first p given is.last is.run; jogs = subst (λ n. LosesJogsAlone n (lines_counted p)) (how_many given) is.jogs });
  heads = stopped_heads p given is.last is.run is.stops (λ told stop. subst (λ (x : Ending). MayEnd x told []) (sym ends) (stop, refl));
  stands = subst (λ (x : Ending). IsWhere x (moved_by place (all_records given))) (sym ends) (is.stands ∙ sym (all_lead place given));
}

-- ---- the end

-- where all is carried out, all ticks of the lines are given
all_carried : (lines : List Outcome) (given : List Piece) (last : Planned) (run : IsRunFor lines given last) → IsCarriedOut lines run.actions last → ticks_among (all_records given) ≡ ticks_for_all lines
all_carried lines given last run all =
    ticks_of_pieces given ∙ sym (all_ticks run.most run.start last run.actions given run.starts run.never run.run all.rests) ∙ ap ticks_of_all (sym all.asks)

by_alarm : (t : Bool) (A B C D : Type 0) → (A → C) → (B → D) → either t A B → either t C D
by_alarm true A B C D first second is = first is
by_alarm false A B C D first second is = second is

end_ticks : (p : Part) (given : List Piece) (is : IsRunOut p given) → HasTicks p by_end (ticks_among (all_records given))
end_ticks p given is = by_alarm (list_any raises_alarm p.lines) _ _ _ _
    (λ settled. record { first = whole_first p given is.last is.run; settled = subst (λ n. settled_ticks p.lines ≤ n) (how_many given) settled })
    (λ all. all_carried (lines_counted p) given is.last is.run all) is.all

pub end_recorded : (place : Steps3) (p : Part) (given : List Piece) → p.ending ≡ by_end → IsRunOut p given → IsRecorded place p (all_records given)
end_recorded place p given ends is = record {
  inside = inside_given (lines_counted p) given is.last is.run;
  ticks = subst (λ (x : Ending). HasTicks p x (ticks_among (all_records given))) (sym ends) (end_ticks p given is);
  heads = stopped_heads p given is.last is.run is.stops (λ told stop. subst (λ (x : Ending). MayEnd x told []) (sym ends) (stop, refl));
  stands = subst (λ (x : Ending). IsWhere x (moved_by place (all_records given))) (sym ends) tt;
}
