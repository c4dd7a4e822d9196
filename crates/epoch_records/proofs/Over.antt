-- Over all parts: what is put of the epochs of a run are their records.
use Rattle.std.proofs.Common.{◌≡◌, ℕ, ◌+◌, List, [], ◌∷◌, ◌++◌, length, sym, refl, ap, ◌∙◌, subst, append-nil, append_assoc, arith}
use Rattle.std.specs.List.{flat_map}
use Rattle.std.proofs.lemmas.Grind.{flat_map-append}
use Rattle.std.proofs.lemmas.List.{append_cancel_left, length-append}
use Rattle.units.specs.declared.Steps3.{Steps3}
use Rattle.flight.specs.Places.{moved_by, end_from}
use Rattle.planner_runs.specs.Runs.{all_records}
use Rattle.planner_runs.proofs.Driven.{ticks_of_pieces}
use Rattle.run_texts.specs.Fronts.{BeginsWith}
use Rattle.run_texts.specs.Parts.{Ending, Part, ending_record}
use Rattle.run_texts.specs.Parts.Ending.{by_cut, by_reset, by_end}
use Rattle.run_texts.specs.Recorded.{IsRecorded, AreRecorded}
use Rattle.step_line.specs.Asking.{ticks_among}
use Rattle.step_line.specs.Finishing.{ticks_together}
use Rattle.step_line.specs.Pieces.{records_of, ticks_of}
use Rattle.step_line.specs.declared.Mark.TheVariants as marks
use Rattle.step_line.specs.declared.Piece.{Piece}
use Rattle.step_line.specs.declared.Piece.TheVariants as pieces
use Rattle.step_line.specs.declared.Record.{Record}
use Rattle.step_line.specs.declared.Record.TheVariants as kinds
use Rattle.epoch_records.specs.Epochs.{Epoch, IsPut, ArePut}
use Rattle.epoch_records.specs.Runs.{GoesOnBehind, EndsSo, AreRun}
use Rattle.epoch_records.proofs.Driving.{ticks_both, put_stands}
use Rattle.epoch_records.proofs.Ending.{cut_recorded, end_recorded, all_lead}
use Rattle.epoch_records.proofs.Fronts.{Reaches, reaches}
use Rattle.epoch_records.proofs.Fronts.Reaches.{within, beyond}
use Rattle.epoch_records.proofs.Halting.{reset_recorded}

-- ---- an epoch behind a cut

-- what is put of an epoch, at a cut whose mark is done
pub record PutOver (k : ℕ) (given : List Piece) (rest : Epoch) (mine : List Record) : Type 0 where
  pub later : List Record
  pub parted : mine ≡ all_records given ++ kinds.Mark (marks.Cut k) ∷ later
  pub put : IsPut rest later

-- the records of an epoch, at the cut
parted_records : (e : Epoch) (k : ℕ) (given : List Piece) (rest : Epoch) → GoesOnBehind e k given rest → all_records e.pieces ≡ all_records given ++ kinds.Mark (marks.Cut k) ∷ all_records rest.pieces
parted_records e k given rest on = ap all_records on.pieces ∙ flat_map-append records_of given (pieces.Mark (marks.Cut k) ∷ rest.pieces)

-- of a front that has no more than the records before it too few ticks are made
too_few : {A : Type 0} (given : List Piece) (mine more : List Record) (done : ℕ) → all_records given ≡ mine ++ more → length (ticks_among mine) ≡ ticks_together given + 1 + done → A
too_few given mine more done e count =
    let all : ticks_together given ≡ length (ticks_among mine) + length (ticks_among more) =
    ap length (sym (ticks_of_pieces given) ∙ ap ticks_among e ∙ ticks_both mine more) ∙ length-append (ticks_among mine) (ticks_among more) in
    absurd (omega (arith, all, count))

mark_put : (e : Epoch) (k : ℕ) (given : List Piece) (rest : Epoch) (mine later : List Record) → GoesOnBehind e k given rest → IsPut e mine → mine ≡ all_records given ++ kinds.Mark (marks.Cut k) ∷ later
    → BeginsWith (all_records rest.pieces) later → PutOver k given rest mine
mark_put e k given rest mine later on put parted first =
    let both : length (ticks_among mine) ≡ ticks_together given + length (ticks_among (kinds.Mark (marks.Cut k) ∷ later)) =
    ap (λ (rs : List Record). length (ticks_among rs)) parted
    ∙ ap length (ticks_both (all_records given) (kinds.Mark (marks.Cut k) ∷ later) ∙ ap (λ (rs : List Record). rs ++ ticks_among (kinds.Mark (marks.Cut k) ∷ later)) (ticks_of_pieces given))
    ∙ length-append (flat_map ticks_of given) (ticks_among (kinds.Mark (marks.Cut k) ∷ later)) in
    let count = put.ticks in
    let done = on.done in
    record {
      later = later;
      parted = parted;
      put = record {
        first = first;
        ticks = omega (arith, both, count, done);
        whole = λ closes.
            let same : kinds.Mark (marks.Cut k) ∷ later ≡ kinds.Mark (marks.Cut k) ∷ all_records rest.pieces =
            append_cancel_left (all_records given) (kinds.Mark (marks.Cut k) ∷ later) (kinds.Mark (marks.Cut k) ∷ all_records rest.pieces)
            (sym parted ∙ put.whole (sym on.closing ∙ closes) ∙ parted_records e k given rest on) in
            cc;
      };
    }

by_reach : (e : Epoch) (k : ℕ) (given : List Piece) (rest : Epoch) (mine lost : List Record) → GoesOnBehind e k given rest → IsPut e mine
    → Reaches (all_records given) (kinds.Mark (marks.Cut k) ∷ all_records rest.pieces) mine lost → PutOver k given rest mine
by_reach e k given rest mine lost on put (within b) = too_few given mine b.rest rest.done b.is (put.ticks ∙ on.done)
by_reach e k given rest mine lost on put (beyond [] parted behind) =
    too_few given mine [] rest.done (sym (append-nil (all_records given)) ∙ sym parted ∙ sym (append-nil mine)) (put.ticks ∙ on.done)
by_reach e k given rest mine lost on put (beyond (r ∷ later) parted behind) =
    let same : kinds.Mark (marks.Cut k) ≡ r = cc in
    let tails : all_records rest.pieces ≡ later ++ lost = cc in
    mark_put e k given rest mine later on put (parted ∙ ap (λ (x : Record). all_records given ++ x ∷ later) (sym same)) (record { rest = lost; is = tails })

pub put_over : (e : Epoch) (k : ℕ) (given : List Piece) (rest : Epoch) (mine : List Record) → GoesOnBehind e k given rest → IsPut e mine → PutOver k given rest mine
put_over e k given rest mine on put =
    by_reach e k given rest mine put.first.rest on put
    (reaches (all_records given) (kinds.Mark (marks.Cut k) ∷ all_records rest.pieces) mine put.first.rest (sym (parted_records e k given rest on) ∙ put.first.is))

-- ---- part by part

-- what holds of the parts behind one
abbrev Later : List Part → Type 0
Later ps = (at : Steps3) (es : List Epoch) (records : List Record) → AreRun ps at es → ArePut es records → AreRecorded at ps records

-- a part, with the record that ends it, and what comes behind
one_part : (place : Steps3) (p : Part) (ps : List Part) (e : Ending) (records mine rest : List Record) (at : Steps3) → p.ending ≡ e → records ≡ mine ++ ending_record e ∷ rest → IsRecorded place p mine
    → at ≡ moved_by place mine → AreRecorded at ps rest → AreRecorded place (p ∷ ps) records
one_part place p ps e records mine rest at ends split is stands later = (
  mine,
  rest,
  subst (λ (x : Ending). records ≡ mine ++ ending_record x ∷ rest) (sym ends) split,
  is,
  subst (λ (from : Steps3). AreRecorded from ps rest) stands later,
)

by_ending : (place : Steps3) (p : Part) (ps : List Part) (e : Ending) (es : List Epoch) (records : List Record) → p.ending ≡ e → EndsSo place p e es (λ at rest. AreRun ps at rest) → Later ps → ArePut es records
    → AreRecorded place (p ∷ ps) records
by_ending place p ps e [] records ends run later put = absurd run
by_ending place p ps (by_cut k at) (e ∷ es) records ends run later put =
    let given = run.0 in
    let mine = put.0 in
    let over = put_over e k given run.1 mine run.2 put.3 in
    let split : records ≡ all_records given ++ kinds.Mark (marks.Cut k) ∷ (over.later ++ (records_of run.1.closing ++ put.1)) =
    put.2 ∙ ap (λ (rs : List Record). rs ++ (records_of e.closing ++ put.1)) over.parted
    ∙ append_assoc (all_records given) (kinds.Mark (marks.Cut k) ∷ over.later) (records_of e.closing ++ put.1)
    ∙ ap (λ (c : Piece). all_records given ++ kinds.Mark (marks.Cut k) ∷ (over.later ++ (records_of c ++ put.1))) (sym run.2.closing) in
    one_part place p ps (by_cut k at) records (all_records given) (over.later ++ (records_of run.1.closing ++ put.1)) at ends split
    (cut_recorded place p k at given ends run.3) (run.3.stands ∙ sym (all_lead place given))
    (later at (run.1 ∷ es) (over.later ++ (records_of run.1.closing ++ put.1)) run.4 (over.later, put.1, refl, over.put, put.4))
by_ending place p ps (by_reset r) (e ∷ es) records ends run later put =
    let split : records ≡ put.0 ++ kinds.Mark (marks.Reset r.number) ∷ put.1 = put.2 ∙ ap (λ (c : Piece). put.0 ++ (records_of c ++ put.1)) run.0 in
    one_part place p ps (by_reset r) records put.0 put.1 r.at ends split
    (reset_recorded place p r e put.0 ends run.1 put.3) (run.1.stands ∙ sym (put_stands place e put.0 put.3))
    (later r.at es put.1 run.2 put.4)
by_ending place p ps by_end (e ∷ es) records ends run later put =
    let all : put.0 ≡ all_records e.pieces = put.3.whole run.0 in
    let split : records ≡ all_records e.pieces ++ kinds.End ∷ put.1 =
    put.2 ∙ ap (λ (c : Piece). put.0 ++ (records_of c ++ put.1)) run.0 ∙ ap (λ (rs : List Record). rs ++ kinds.End ∷ put.1) all in
    one_part place p ps by_end records (all_records e.pieces) put.1 (end_from place e.pieces) ends split
    (end_recorded place p e.pieces ends run.1) (sym (all_lead place e.pieces))
    (later (end_from place e.pieces) es put.1 run.2 put.4)

pub are_recorded : (ps : List Part) (place : Steps3) (es : List Epoch) (records : List Record) → AreRun ps place es → ArePut es records → AreRecorded place ps records
are_recorded [] place es records run put = subst (λ (some : List Epoch). ArePut some records) run put
are_recorded (p ∷ ps) place es records run put = by_ending place p ps p.ending es records refl run (λ at rest rs. are_recorded ps at rest rs) put
