-- What a pulse has put, halt by halt.
use Rattle.std.proofs.Common.{◌≡◌, ◌+◌, List, [], ◌∷◌, ◌++◌, length, reverse, true, sym, refl, ap, ◌∙◌, subst, append-nil, append_assoc, arith}
use Rattle.std.proofs.lemmas.Grind.{flat_map-append}
use Rattle.std.proofs.lemmas.List.{append_cancel_right, length-reverse, reverse-append}
use Rattle.flight.specs.Halts.{Stretch, count_made}
use Rattle.planner_runs.specs.Runs.{all_records}
use Rattle.pulse_engine.specs.Logs.{PieceLog, RecordLog, pieces_of, got_since, counted, halts_of, records_put, ticks_in, end_is_put, IsEndOf, IsRecorded}
use Rattle.pulse_engine.specs.Logs.PieceEvent.{asked, got, none, ticked, halted}
use Rattle.pulse_engine.specs.Steps.{Pulsing}
use Rattle.pulse_engine.specs.Turns.{PulseFits}
use Rattle.pulse_engine.proofs.Whole.{done_put}
use Rattle.step_line.specs.Asking.{ticks_among}
use Rattle.step_line.specs.Pieces.{records_of}
use Rattle.step_line.specs.declared.Piece.{Piece}
use Rattle.step_line.specs.declared.Record.{Record}
use Rattle.step_line.specs.declared.Record.TheVariants as kinds
use Rattle.epoch_records.specs.Stretches.{counted_since, stretch_of, stretches_in, pieces_since, pieces_of_all, EndStretches, IsPutOf, ArePutOf, ArePutOver, ArePutSince}
use Rattle.epoch_records.proofs.Driving.{both_lengths}

-- ---- counts

ticks_length : (rs : List Record) → ticks_in rs ≡ length (ticks_among rs)
ticks_length [] = refl
ticks_length (kinds.Head h ∷ rs) = let more = ticks_length rs in omega (arith, more)
ticks_length (kinds.Event b ∷ rs) = let more = ticks_length rs in omega (arith, more)
ticks_length (kinds.Mark m ∷ rs) = let more = ticks_length rs in omega (arith, more)
ticks_length (kinds.End ∷ rs) = let more = ticks_length rs in omega (arith, more)

pub made_on : (ss : List Stretch) (s : Stretch) → count_made (ss ++ s ∷ []) ≡ count_made ss + s.done
made_on [] s = omega arith
made_on (t ∷ ss) s = let more = made_on ss s in omega (arith, more)

-- the ticks that were put of stretches are those that were made
put_count : (ss : List Stretch) (rs : List Record) → ArePutOf ss rs → length (ticks_among rs) ≡ count_made ss
put_count [] rs are = ap (λ (xs : List Record). length (ticks_among xs)) are
put_count (s ∷ ss) rs are =
    let both = both_lengths are.0 are.1 in
    let here = are.3.ticks in
    let more = put_count ss are.1 are.4 in
    ap (λ (xs : List Record). length (ticks_among xs)) are.2 ∙ both ∙ ap (λ n. n + length (ticks_among are.1)) here ∙ ap (λ n. s.done + n) more

-- all that was counted is that of the stretches, and since
all_counted : (h : PieceLog) → counted h ≡ count_made (stretches_in h) + counted_since h
all_counted [] = refl
all_counted (ticked ∷ h) = let more = all_counted h in omega (arith, more)
all_counted (halted ps ∷ h) = let more = all_counted h in let on = made_on (stretches_in h) (stretch_of ps h) in omega (arith, more, on)
all_counted (_ ∷ h) = all_counted h

-- ---- pieces

reversed_on : (p : Piece) (ps : List Piece) → reverse (p ∷ ps) ≡ reverse ps ++ p ∷ []
reversed_on p ps = reverse-append (p ∷ []) ps

records_on : (ps : List Piece) (p : Piece) → all_records (ps ++ p ∷ []) ≡ all_records ps ++ records_of p
records_on ps p = flat_map-append records_of ps (p ∷ []) ∙ ap (λ (rs : List Record). all_records ps ++ rs) (append-nil (records_of p))

-- ---- one stretch more

put_on : (ss : List Stretch) (s : Stretch) (rs mine : List Record) → ArePutOf ss rs → IsPutOf s mine → ArePutOf (ss ++ s ∷ []) (rs ++ mine)
put_on [] s rs mine are is = (mine, [], ap (λ (xs : List Record). xs ++ mine) are ∙ sym (append-nil mine), is, refl)
put_on (t ∷ ss) s rs mine are is =
    (are.0, are.1 ++ mine, ap (λ (xs : List Record). xs ++ mine) are.2 ∙ append_assoc are.0 are.1 mine, are.3, put_on ss s are.1 mine are.4 is)

-- what is left of all pieces is left of the last
record Ends (ps : List Piece) (lost : List Record) : Type 0 where
  pub mine : List Record
  pub is : all_records (reverse ps) ≡ mine ++ lost

ends_of : (ps : List Piece) (lost : List Record) → IsEndOf ps lost → Ends ps lost
ends_of [] lost is = record { mine = []; is = sym is }
ends_of (p ∷ ps) lost is = record {
  mine = all_records (reverse ps) ++ is.0;
  is = ap all_records (reversed_on p ps) ∙ records_on (reverse ps) p ∙ ap (λ (rs : List Record). all_records (reverse ps) ++ rs) is.1 ∙ sym (append_assoc (all_records (reverse ps)) is.0 lost);
}

-- a halt ends a stretch
over_halt : (h : PieceLog) (dropped : List Piece) (rs lost : List Record) → ArePutOver (stretches_in h) (pieces_since h) (rs ++ lost) → ticks_in rs ≡ counted h → Ends (got_since h) lost
    → ArePutOver (stretches_in (halted dropped ∷ h)) (pieces_since (halted dropped ∷ h)) rs
over_halt h dropped rs lost over count ends =
    let same : rs ≡ over.halted ++ ends.mine =
    append_cancel_right rs (over.halted ++ ends.mine) lost
    (over.split ∙ ap (λ (xs : List Record). over.halted ++ xs) ends.is ∙ sym (append_assoc over.halted ends.mine lost)) in
    let sum = ticks_length rs ∙ ap (λ (xs : List Record). length (ticks_among xs)) same ∙ both_lengths over.halted ends.mine in
    let before = put_count (stretches_in h) over.halted over.are in
    let all = all_counted h in
    let is : IsPutOf (stretch_of dropped h) ends.mine = record {
      first = record {
        rest = lost ++ all_records (reverse dropped);
        is = ap all_records (reverse-append dropped (got_since h)) ∙ flat_map-append records_of (reverse (got_since h)) (reverse dropped)
            ∙ ap (λ (xs : List Record). xs ++ all_records (reverse dropped)) ends.is ∙ append_assoc ends.mine lost (all_records (reverse dropped));
      };
      ticks = omega (arith, sum, before, all, count);
    } in
    record { halted = rs; split = sym (append-nil rs); are = subst (ArePutOf (stretches_in h ++ stretch_of dropped h ∷ [])) (sym same) (put_on (stretches_in h) (stretch_of dropped h) over.halted ends.mine over.are is) }

pub recorded_over : (h : PieceLog) (rs : List Record) → IsRecorded h rs → ArePutOver (stretches_in h) (pieces_since h) rs
recorded_over [] rs is = record { halted = []; split = is; are = refl }
recorded_over (asked b ∷ h) rs is = recorded_over h rs is
recorded_over (got p ∷ h) rs is =
    let over = recorded_over h is.0 is.1 in
    record {
      halted = over.halted;
      split = is.2 ∙ ap (λ (xs : List Record). xs ++ records_of p) over.split ∙ append_assoc over.halted (all_records (pieces_since h)) (records_of p)
          ∙ ap (λ (xs : List Record). over.halted ++ xs) (sym (ap all_records (reversed_on p (got_since h)) ∙ records_on (pieces_since h) p));
      are = over.are;
    }
recorded_over (none ∷ h) rs is = recorded_over h rs is
recorded_over (ticked ∷ h) rs is = recorded_over h rs is
recorded_over (halted ps ∷ h) rs is = over_halt h ps rs is.0 (recorded_over h (rs ++ is.0) is.2) is.3 (ends_of (got_since h) is.0 is.1)

pub done_over : (p : Pulsing) (h : PieceLog) (k : RecordLog) → PulseFits p h k → end_is_put k ≡ true → ArePutOver (stretches_in h) (pieces_since h) (records_put k)
done_over p h k fits end = recorded_over h (records_put k) (done_put p h k fits end).0

-- at any moment
put_since : (h : PieceLog) (rs lost : List Record) → ArePutOver (stretches_in h) (pieces_since h) (rs ++ lost) → Ends (got_since h) lost → ArePutSince (stretches_in h) (pieces_since h) rs
put_since h rs lost over ends = record {
  halted = over.halted;
  mine = ends.mine;
  split = append_cancel_right rs (over.halted ++ ends.mine) lost
      (over.split ∙ ap (λ (xs : List Record). over.halted ++ xs) ends.is ∙ sym (append_assoc over.halted ends.mine lost));
  are = over.are;
  first = record { rest = lost; is = ends.is };
}

pub since_over : (p : Pulsing) (h : PieceLog) (k : RecordLog) → PulseFits p h k → ArePutSince (stretches_in h) (pieces_since h) (records_put k)
since_over p h k fits = put_since h (records_put k) p.waiting (recorded_over h (records_put k ++ p.waiting) fits.records) (ends_of (got_since h) p.waiting fits.waits)

-- ---- pieces and halts

pub stretches_on : (ss : List Stretch) (s : Stretch) → pieces_of_all (ss ++ s ∷ []) ≡ pieces_of_all ss ++ s.pieces
stretches_on ss s = flat_map-append (λ (t : Stretch). t.pieces) ss (s ∷ []) ∙ ap (λ (ps : List Piece). pieces_of_all ss ++ ps) (append-nil s.pieces)

-- all pieces that were got or dropped
pub all_pieces : (h : PieceLog) → pieces_of_all (stretches_in h) ++ pieces_since h ≡ reverse (pieces_of h)
all_pieces [] = refl
all_pieces (asked b ∷ h) = all_pieces h
all_pieces (got p ∷ h) =
    ap (λ (ps : List Piece). pieces_of_all (stretches_in h) ++ ps) (reversed_on p (got_since h)) ∙ sym (append_assoc (pieces_of_all (stretches_in h)) (pieces_since h) (p ∷ []))
    ∙ ap (λ (ps : List Piece). ps ++ p ∷ []) (all_pieces h) ∙ sym (reversed_on p (pieces_of h))
all_pieces (none ∷ h) = all_pieces h
all_pieces (ticked ∷ h) = all_pieces h
all_pieces (halted ps ∷ h) =
    append-nil (pieces_of_all (stretches_in h ++ stretch_of ps h ∷ [])) ∙ stretches_on (stretches_in h) (stretch_of ps h)
    ∙ ap (λ (qs : List Piece). pieces_of_all (stretches_in h) ++ qs) (reverse-append ps (got_since h))
    ∙ sym (append_assoc (pieces_of_all (stretches_in h)) (pieces_since h) (reverse ps))
    ∙ ap (λ (qs : List Piece). qs ++ reverse ps) (all_pieces h) ∙ sym (reverse-append ps (pieces_of h))

pub halts_end : (h : PieceLog) → EndStretches (halts_of h) (stretches_in h)
halts_end [] = refl
halts_end (halted ps ∷ h) =
    let made = made_on (stretches_in h) (stretch_of ps h) in
    let all = all_counted h in (
      stretches_in h,
      stretch_of ps h,
      refl,
      sym (ap length (sym (append-nil (pieces_of_all (stretches_in h ++ stretch_of ps h ∷ []))) ∙ all_pieces (halted ps ∷ h)) ∙ length-reverse (ps ++ pieces_of h)),
      all ∙ sym made,
      halts_end h,
    )
halts_end (_ ∷ h) = halts_end h
