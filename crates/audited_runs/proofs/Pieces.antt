-- Of the pieces of a run each record that is put has a line.
use Rattle.std.proofs.Common.{◌≡◌, ℕ, ◌+◌, ◌^◌, ◌<◌, inl, inr, List, [], ◌∷◌, ◌++◌, length, refl, sym, ap, subst, ◌∙◌, append_assoc, arith, All}
use Rattle.std.specs.List.{AllByRecursion}
use Rattle.std.proofs.lemmas.Grind.{flat_map-append}
use Rattle.std.proofs.lemmas.List.Elements.{All-nil, All-cons, All-append, All-same, All-from_recursion, recursion_from_All}
use Rattle.units.specs.declared.Steps3.{Steps3}
use Rattle.plan_rules.specs.Plans.{Planned}
use Rattle.planner_runs.specs.Runs.{AllFollow, all_records}
use Rattle.planner_runs.proofs.Driven.{ticks_of_pieces}
use Rattle.planner_runs.proofs.Following.{start_follows}
use Rattle.pulse_engine.proofs.Whole.{piece_has_lines}
use Rattle.run_rules.specs.Work.{Outcome}
use Rattle.run_texts.specs.Parts.{Ending, Part}
use Rattle.run_texts.specs.Parts.Ending.{by_cut, by_reset, by_end}
use Rattle.step_line.specs.Asking.{ticks_among}
use Rattle.step_line.specs.Finishing.{ticks_together}
use Rattle.step_line.specs.Pieces.{records_of}
use Rattle.step_line.specs.Records.{IsRecord}
use Rattle.step_line.specs.declared.Mark.TheVariants as marks
use Rattle.step_line.specs.declared.Piece.{Piece}
use Rattle.step_line.specs.declared.Piece.TheVariants as pieces
use Rattle.step_line.specs.declared.Record.{Record}
use Rattle.step_line.specs.declared.Record.TheVariants as kinds
use Rattle.step_line.proofs.Finished.{together_both}
use Rattle.epoch_records.specs.Epochs.{Epoch, IsPut, ArePut}
use Rattle.epoch_records.specs.Runs.{AreRun, EndsSo, GoesOnBehind, IsBrokenOff, IsRunFor, IsUndone}
use Rattle.audited_runs.proofs.Fronts.{StopsBy, front_each}
use Rattle.audited_runs.proofs.Numbers.{EndsBelow, AreBelow}

-- ---- what a plan gives

follow_each : (before ps : List Piece) → AllFollow before ps → All IsRecord (all_records ps)
follow_each before [] follow = All-nil IsRecord
follow_each before (p ∷ ps) follow =
    All-append IsRecord (records_of p) (all_records ps) (piece_has_lines before p follow.0) (follow_each (p ∷ before) ps follow.1)

given_each : (lines : List Outcome) (given : List Piece) (last : Planned) → IsRunFor lines given last → All IsRecord (all_records given)
given_each lines given last r = follow_each [] given (start_follows r.most [] r.start last r.actions given r.starts r.run)

-- ---- an epoch

-- The pieces of an epoch go up to ones that no tick is made of; each record of the others has a line.
record IsSound (e : Epoch) : Type 0 where
  pub hand : List Piece
  pub good : List Piece
  pub behind : List Piece
  pub both : e.pieces ++ hand ≡ good ++ behind
  pub each : All IsRecord (all_records good)
  pub undone : IsUndone e.done good behind
  pub closes : All IsRecord (records_of e.closing)

undone_on : (done more k : ℕ) (given good behind : List Piece) → done ≡ ticks_together given + 1 + more → IsUndone more good behind → IsUndone done (given ++ pieces.Mark (marks.Cut k) ∷ good) behind
undone_on done more k given good [] is undone = tt
undone_on done more k given good (pieces.Segment s ∷ behind) is undone = absurd undone
undone_on done more k given good (pieces.End ∷ behind) is undone = absurd undone
undone_on done more k given good (pieces.Mark m ∷ behind) is undone =
    let all = together_both given (pieces.Mark (marks.Cut k) ∷ good) in
    omega (arith, is, undone, all)

cut_sound : (e : Epoch) (k : ℕ) (given : List Piece) (rest : Epoch) → k < 2 ^ 32 → GoesOnBehind e k given rest → All IsRecord (all_records given) → IsSound rest → IsSound e
cut_sound e k given rest small goes each later =
    let mark = pieces.Mark (marks.Cut k) in
    record {
      hand = later.hand;
      good = given ++ mark ∷ later.good;
      behind = later.behind;
      both =
          ap (λ (ps : List Piece). ps ++ later.hand) goes.pieces ∙ append_assoc given (mark ∷ rest.pieces) later.hand
          ∙ ap (λ (ps : List Piece). given ++ mark ∷ ps) later.both ∙ sym (append_assoc given (mark ∷ later.good) later.behind);
      each = All-same IsRecord (all_records (given ++ mark ∷ later.good)) (all_records given ++ kinds.Mark (marks.Cut k) ∷ all_records later.good)
          (flat_map-append records_of given (mark ∷ later.good))
          (All-append IsRecord (all_records given) (kinds.Mark (marks.Cut k) ∷ all_records later.good) each (All-cons IsRecord (kinds.Mark (marks.Cut k)) (all_records later.good) small later.each));
      undone = undone_on e.done rest.done k given later.good later.behind goes.done later.undone;
      closes = subst (λ (p : Piece). All IsRecord (records_of p)) goes.closing later.closes;
    }

reset_sound : (e : Epoch) (place at : Steps3) (p : Part) (k : ℕ) → k < 2 ^ 32 → e.closing ≡ pieces.Mark (marks.Reset k) → IsBrokenOff place p at e.pieces e.done → IsSound e
reset_sound e place at p k small closing off = record {
  hand = off.hand;
  good = off.given;
  behind = off.behind;
  both = off.both;
  each = given_each _ off.given off.last off.run;
  undone = off.undone;
  closes = subst (λ (q : Piece). All IsRecord (records_of q)) (sym closing) (All-cons IsRecord (kinds.Mark (marks.Reset k)) [] small (All-nil IsRecord));
}

end_sound : (e : Epoch) → All IsRecord (all_records e.pieces) → e.closing ≡ pieces.End → IsSound e
end_sound e each closing = record {
  hand = [];
  good = e.pieces;
  behind = [];
  both = refl;
  each = each;
  undone = tt;
  closes = subst (λ (q : Piece). All IsRecord (records_of q)) (sym closing) (All-cons IsRecord kinds.End [] tt (All-nil IsRecord));
}

-- ---- all of them

part_sound : (place : Steps3) (p : Part) (ending : Ending) (es : List Epoch) (Behind : Steps3 → List Epoch → Type 0) → EndsBelow (2 ^ 32) ending
    → ((at : Steps3) (rest : List Epoch) → Behind at rest → AllByRecursion IsSound rest) → EndsSo place p ending es Behind → AllByRecursion IsSound es
part_sound place p ending [] Behind below on ends = absurd ends
part_sound place p (by_cut k at) (e ∷ es) Behind below on ends =
    let later = on at (ends.1 ∷ es) ends.4 in
    (cut_sound e k ends.0 ends.1 below ends.2 (given_each _ ends.0 ends.3.last ends.3.run) later.0, later.1)
part_sound place p (by_reset r) (e ∷ es) Behind below on ends = (reset_sound e place r.at p r.number below ends.0 ends.1, on r.at es ends.2)
part_sound place p by_end (e ∷ es) Behind below on ends = (end_sound e (given_each _ e.pieces ends.1.last ends.1.run) ends.0, on _ es ends.2)

none_sound : (es : List Epoch) → es ≡ [] → AllByRecursion IsSound es
none_sound [] none = tt
none_sound (e ∷ es) none = absurd cc

epochs_sound : (ps : List Part) (place : Steps3) (es : List Epoch) → AreBelow (2 ^ 32) ps → AreRun ps place es → AllByRecursion IsSound es
epochs_sound [] place es below run = none_sound es run
epochs_sound (p ∷ ps) place es below run =
    part_sound place p p.ending es (λ at rest. AreRun ps at rest) below.0 (λ at rest later. epochs_sound ps at rest below.1 later) run

-- ---- what is put

stops_by : (done : ℕ) (mine : List Record) (good behind : List Piece) → length (ticks_among mine) ≡ done → IsUndone done good behind → StopsBy mine (all_records good) (all_records behind)
stops_by done mine good [] count undone = inl refl
stops_by done mine good (pieces.Segment s ∷ behind) count undone = absurd undone
stops_by done mine good (pieces.End ∷ behind) count undone = absurd undone
stops_by done mine good (pieces.Mark m ∷ behind) count undone =
    let all = ap length (ticks_of_pieces good) in
    inr (m, all_records behind, refl, omega (arith, count, undone, all))

one_put : (e : Epoch) (mine : List Record) → IsSound e → IsPut e mine → All IsRecord mine
one_put e mine sound put =
    let same : mine ++ (put.first.rest ++ all_records sound.hand) ≡ all_records sound.good ++ all_records sound.behind =
    sym (append_assoc mine put.first.rest (all_records sound.hand)) ∙ ap (λ (rs : List Record). rs ++ all_records sound.hand) (sym put.first.is)
    ∙ sym (flat_map-append records_of e.pieces sound.hand) ∙ ap all_records sound.both ∙ flat_map-append records_of sound.good sound.behind in
    All-from_recursion IsRecord mine (
    front_each mine (put.first.rest ++ all_records sound.hand) (all_records sound.good) (all_records sound.behind) same
    (recursion_from_All IsRecord (all_records sound.good) sound.each) (stops_by e.done mine sound.good sound.behind put.ticks sound.undone)
    )

all_put : (es : List Epoch) (records : List Record) → AllByRecursion IsSound es → ArePut es records → All IsRecord records
all_put [] records sound put = All-same IsRecord records [] put (All-nil IsRecord)
all_put (e ∷ es) records sound put =
    let later = all_put es put.1 sound.1 put.4 in
    let closing = All-append IsRecord (records_of e.closing) put.1 sound.0.closes later in
    All-same IsRecord records (put.0 ++ (records_of e.closing ++ put.1)) put.2 (All-append IsRecord put.0 (records_of e.closing ++ put.1) (one_put e put.0 sound.0 put.3) closing)

pub put_have_lines : (ps : List Part) (place : Steps3) (es : List Epoch) (records : List Record) → AreBelow (2 ^ 32) ps → AreRun ps place es → ArePut es records → All IsRecord records
put_have_lines ps place es records below run put = all_put es records (epochs_sound ps place es below run) put
