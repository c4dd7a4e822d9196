-- What is put so far of a run that goes on is made of its parts.
use Rattle.std.proofs.Common.{◌≡◌, ℕ, ◌≤◌, false, List, [], ◌∷◌, ◌++◌, sym, refl, ap, ◌∙◌, subst, append_assoc, arith}
use Rattle.units.specs.declared.Steps3.{Steps3}
use Rattle.flight.specs.Places.{moved_by, machine_from, end_from}
use Rattle.planner_runs.specs.Runs.{all_records}
use Rattle.run_texts.specs.Courses.{Reset}
use Rattle.run_texts.specs.Making.{Making, IsMade}
use Rattle.run_texts.specs.Parts.{Ending, Part, ending_record, lines_counted}
use Rattle.run_texts.specs.Parts.Ending.{by_cut, by_reset, by_end}
use Rattle.run_texts.specs.Recorded.{IsRecorded}
use Rattle.run_texts.specs.SoFar.{AreMadeSoFar}
use Rattle.run_texts.proofs.Making.{finished}
use Rattle.step_line.specs.Pieces.{records_of}
use Rattle.step_line.specs.declared.Mark.TheVariants as marks
use Rattle.step_line.specs.declared.Piece.{Piece}
use Rattle.step_line.specs.declared.Piece.TheVariants as pieces
use Rattle.step_line.specs.declared.Record.{Record}
use Rattle.step_line.specs.declared.Record.TheVariants as kinds
use Rattle.epoch_records.specs.Epochs.{Epoch, IsPut}
use Rattle.epoch_records.specs.Runs.{GoesOnBehind, EndsSo}
use Rattle.epoch_records.specs.SoFar.{IsUnderWay, AreRunSoFar, ArePutSoFar}
use Rattle.epoch_records.specs.Stretches.{IsPutOf}
use Rattle.epoch_records.proofs.Driving.{put_stands}
use Rattle.epoch_records.proofs.Ending.{cut_recorded, end_recorded, all_lead}
use Rattle.epoch_records.proofs.Halting.{reset_recorded}
use Rattle.epoch_records.proofs.Over.{put_over}

-- ---- the open epoch

-- as if a mark ended it, before which not all need be put
abbrev broken : Epoch → Epoch
broken e = record e { closing = pieces.Mark (marks.Dwell 0) }

put_broken : (e : Epoch) (mine : List Record) → IsPutOf (record { pieces = e.pieces; done = e.done }) mine → IsPut (broken e) mine
put_broken e mine put = record { first = put.first; ticks = put.ticks; whole = λ closes. absurd cc }

-- A part that is not ended has made what one would that a reset has broken off with no line answered.
reset_here : Steps3 → Reset
reset_here at = record { number = 0; dropped = 0; alarm = false; locked = false; at = at }

abbrev as_broken : Part → Steps3 → Part
as_broken p at = record { lines = []; begun = lines_counted p; ending = by_reset (reset_here at) }

none_low : (n : ℕ) → 0 ≤ n
none_low n = omega arith

under_way_made : (place : Steps3) (p : Part) (e : Epoch) (mine : List Record) → IsUnderWay p e.pieces e.done → IsPutOf (record { pieces = e.pieces; done = e.done }) mine → (m : Making) × IsMade (lines_counted p) mine m
unfolding reset_here
under_way_made place p e mine is put =
    let at = machine_from place e.pieces e.done in
    let q = as_broken p at in
    let recorded = reset_recorded place q (reset_here at) (broken e) mine refl
    (record { hand = is.hand; given = is.given; behind = is.behind; both = is.both; undone = is.undone; last = is.last; run = is.run; settled = none_low e.done; stands = refl }) (put_broken e mine put) in
    let done = finished place q mine recorded in
    (done.making, done.is)

-- ---- part by part

Later : Part → List Part → Type 0
Later q ps = (at : Steps3) (es : List Epoch) (records : List Record) → AreRunSoFar (q ∷ ps) at es → ArePutSoFar es records → AreMadeSoFar at (q ∷ ps) records

one_part : (place : Steps3) (p q : Part) (ps : List Part) (e : Ending) (records mine rest : List Record) (at : Steps3) → p.ending ≡ e → records ≡ mine ++ ending_record e ∷ rest → IsRecorded place p mine
    → at ≡ moved_by place mine → AreMadeSoFar at (q ∷ ps) rest → AreMadeSoFar place (p ∷ (q ∷ ps)) records
one_part place p q ps e records mine rest at ends split is stands later = (
  mine,
  rest,
  subst (λ (x : Ending). records ≡ mine ++ ending_record x ∷ rest) (sym ends) split,
  is,
  subst (λ (from : Steps3). AreMadeSoFar from (q ∷ ps) rest) stands later,
)

no_epochs : {A : Type 0} (q : Part) (ps : List Part) (at : Steps3) → AreRunSoFar (q ∷ ps) at [] → A
no_epochs q [] at run = absurd (let none : ◌≡◌ {A = List Epoch} [] (run.0 ∷ []) = run.1 in cc)
no_epochs q (r ∷ ps) at run = absurd run

by_ending : (place : Steps3) (p q : Part) (ps : List Part) (e : Ending) (es : List Epoch) (records : List Record) → p.ending ≡ e → EndsSo place p e es (λ at rest. AreRunSoFar (q ∷ ps) at rest) → Later q ps
    → ArePutSoFar es records → AreMadeSoFar place (p ∷ (q ∷ ps)) records
unfolding Later
by_ending place p q ps e [] records ends run later put = absurd run
by_ending place p q ps (by_cut k at) (e ∷ []) records ends run later put =
    let given = run.0 in
    let on : GoesOnBehind (broken e) k given (broken run.1) = record { pieces = run.2.pieces; done = run.2.done; closing = refl } in
    let over = put_over (broken e) k given (broken run.1) records on (put_broken e records put) in
    one_part place p q ps (by_cut k at) records (all_records given) over.later at ends over.parted
    (cut_recorded place p k at given ends run.3) (run.3.stands ∙ sym (all_lead place given))
    (later at (run.1 ∷ []) over.later run.4 (record { first = over.put.first; ticks = over.put.ticks }))
by_ending place p q ps (by_reset r) (e ∷ []) records ends run later put = no_epochs q ps r.at run.2
by_ending place p q ps by_end (e ∷ []) records ends run later put = no_epochs q ps (end_from place e.pieces) run.2
by_ending place p q ps (by_cut k at) (e ∷ (f ∷ es)) records ends run later put =
    let given = run.0 in
    let over = put_over e k given run.1 put.0 run.2 put.3 in
    let split : records ≡ all_records given ++ kinds.Mark (marks.Cut k) ∷ (over.later ++ (records_of run.1.closing ++ put.1)) =
    put.2 ∙ ap (λ (rs : List Record). rs ++ (records_of e.closing ++ put.1)) over.parted
    ∙ append_assoc (all_records given) (kinds.Mark (marks.Cut k) ∷ over.later) (records_of e.closing ++ put.1)
    ∙ ap (λ (c : Piece). all_records given ++ kinds.Mark (marks.Cut k) ∷ (over.later ++ (records_of c ++ put.1))) (sym run.2.closing) in
    one_part place p q ps (by_cut k at) records (all_records given) (over.later ++ (records_of run.1.closing ++ put.1)) at ends split
    (cut_recorded place p k at given ends run.3) (run.3.stands ∙ sym (all_lead place given))
    (later at (run.1 ∷ (f ∷ es)) (over.later ++ (records_of run.1.closing ++ put.1)) run.4 (over.later, put.1, refl, over.put, put.4))
by_ending place p q ps (by_reset r) (e ∷ (f ∷ es)) records ends run later put =
    let split : records ≡ put.0 ++ kinds.Mark (marks.Reset r.number) ∷ put.1 = put.2 ∙ ap (λ (c : Piece). put.0 ++ (records_of c ++ put.1)) run.0 in
    one_part place p q ps (by_reset r) records put.0 put.1 r.at ends split
    (reset_recorded place p r e put.0 ends run.1 put.3) (run.1.stands ∙ sym (put_stands place e put.0 put.3))
    (later r.at (f ∷ es) put.1 run.2 put.4)
by_ending place p q ps by_end (e ∷ (f ∷ es)) records ends run later put =
    let all : put.0 ≡ all_records e.pieces = put.3.whole run.0 in
    let split : records ≡ all_records e.pieces ++ kinds.End ∷ put.1 =
    put.2 ∙ ap (λ (c : Piece). put.0 ++ (records_of c ++ put.1)) run.0 ∙ ap (λ (rs : List Record). rs ++ kinds.End ∷ put.1) all in
    one_part place p q ps by_end records (all_records e.pieces) put.1 (end_from place e.pieces) ends split
    (end_recorded place p e.pieces ends run.1) (sym (all_lead place e.pieces))
    (later (end_from place e.pieces) (f ∷ es) put.1 run.2 put.4)

last_part : (place : Steps3) (p : Part) (es : List Epoch) (records : List Record) → AreRunSoFar (p ∷ []) place es → ArePutSoFar es records → AreMadeSoFar place (p ∷ []) records
last_part place p es records run put = under_way_made place p run.0 records run.2 (subst (λ (some : List Epoch). ArePutSoFar some records) run.1 put)

pub made_so_far : (ps : List Part) (place : Steps3) (es : List Epoch) (records : List Record) → AreRunSoFar ps place es → ArePutSoFar es records → AreMadeSoFar place ps records
unfolding Later
made_so_far [] place es records run put = absurd run
made_so_far (p ∷ []) place es records run put = last_part place p es records run put
made_so_far (p ∷ (q ∷ ps)) place es records run put = by_ending place p q ps p.ending es records refl run (λ at rest rs. made_so_far (q ∷ ps) at rest rs) put
