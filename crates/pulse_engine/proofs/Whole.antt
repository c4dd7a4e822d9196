-- What is recorded of all pieces, and what is put of it.
use Rattle.std.proofs.Common.{◌≡◌, ℕ, zero, suc, ◌+◌, ◌≤◌, ◌⊎◌, inl, inr, Bool, true, false, List, [], ◌∷◌, ◌++◌, map, reverse, refl, ap, sym, subst, ◌∙◌, arith, All}
use Rattle.std.specs.List.{flat_map}
use Rattle.std.proofs.lemmas.List.{append-nil, map-append, reverse-append}
use Rattle.std.proofs.lemmas.List.Concat.{flat_map-cons}
use Rattle.std.proofs.lemmas.List.Elements.{All-nil, All-cons, All-append}
use Rattle.std.proofs.lemmas.Grind.{flat_map-append}
use Rattle.units.specs.Truths.{one_if}
use Rattle.units.specs.declared.Move.{Move}
use Rattle.step_line.specs.declared.Segment.{Segment}
use Rattle.step_line.specs.declared.Piece.{Piece}
use Rattle.step_line.specs.declared.Piece.TheVariants as pieces
use Rattle.step_line.specs.declared.Record.{Record}
use Rattle.step_line.specs.declared.Record.TheVariants as kinds
use Rattle.step_line.specs.Counting.{events_of}
use Rattle.step_line.specs.Events.{events_after}
use Rattle.step_line.specs.Pieces.{GoesOn, records_of, ticks_of, ComesBehind}
use Rattle.step_line.specs.Records.{IsRecord}
use Rattle.step_line.proofs.Order.{in_parts, is_event}
use Rattle.step_line.specs.Ordering.{InTurn, recorded}
use Rattle.pulse_engine.specs.Logs.{PieceLog, RecordLog, pieces_of, got_since, halts_of, records_put, ticks_in, counted, uncounted, end_is_put, IsEndOf, IsRecorded}
use Rattle.pulse_engine.specs.Logs.PieceEvent.{got, halted}
use Rattle.pulse_engine.specs.Logs.RecordEvent.{put, full}
use Rattle.pulse_engine.specs.Steps.{Pulsing}
use Rattle.pulse_engine.specs.Turns.{PulseFits}
use Rattle.pulse_engine.proofs.Ticks.{ticks-append}

-- the records of each piece, in order
pub recorded_each : (ps : List Piece) → recorded ps ≡ flat_map records_of (reverse ps)
recorded_each [] = refl
recorded_each (p ∷ ps) =
    let one : flat_map records_of (p ∷ []) ≡ records_of p = flat_map-cons records_of p [] ∙ append-nil (records_of p) in
    let all : flat_map records_of (reverse (p ∷ ps)) ≡ flat_map records_of (reverse ps) ++ flat_map records_of (p ∷ []) =
    ap (flat_map records_of) (reverse-append (p ∷ []) ps) ∙ flat_map-append records_of (reverse ps) (p ∷ []) in
    ap (λ rs. rs ++ records_of p) (recorded_each ps) ∙ sym (all ∙ ap (λ rs. flat_map records_of (reverse ps) ++ rs) one)

-- each has a line
pub events_have_lines : (m : Move) (k n : ℕ) → k + n ≤ events_of m → All IsRecord (map kinds.Event (events_after m k n))
events_have_lines m k zero h = All-nil IsRecord
events_have_lines m k (suc n) h = All-cons IsRecord _ _ (is_event m k (omega arith)) (events_have_lines m (k + 1) n (omega arith))

pub piece_has_lines : (before : List Piece) (p : Piece) → ComesBehind before p → All IsRecord (records_of p)
piece_has_lines before (pieces.Segment s) f = All-cons IsRecord _ _ f.0.head (events_have_lines s.mv s.first s.n f.0.within)
piece_has_lines before (pieces.Mark m) f = All-cons IsRecord (kinds.Mark m) [] f (All-nil IsRecord)
piece_has_lines before pieces.End f = All-cons IsRecord kinds.End [] tt (All-nil IsRecord)

pub all_have_lines : (ps : List Piece) → InTurn ps → All IsRecord (recorded ps)
all_have_lines [] t = All-nil IsRecord
all_have_lines (p ∷ ps) t = All-append IsRecord (recorded ps) (records_of p) (all_have_lines ps t.1) (piece_has_lines ps p t.0.follows)

-- a segment that goes on where another ends has the events after its events
pub goes_on : (s u : Segment) → GoesOn s u → ticks_of (pieces.Segment s) ++ ticks_of (pieces.Segment u) ≡ map kinds.Event (events_after s.mv s.first (s.n + u.n))
goes_on s u g =
    let joined = ap (map kinds.Event) (in_parts s.mv s.first s.n u.n) ∙ map-append kinds.Event (events_after s.mv s.first s.n) (events_after s.mv (s.first + s.n) u.n) in
    rw (g.mv, g.first) (sym joined)

-- where it never halted, what is recorded is that of all pieces
pub never_halted : (h : PieceLog) (rs : List Record) → halts_of h ≡ [] → IsRecorded h rs → rs ≡ recorded (pieces_of h)
never_halted [] rs empty i = i
never_halted (got p ∷ h) rs empty i = i.2 ∙ ap (λ qs. qs ++ records_of p) (never_halted h i.0 empty i.1)
never_halted (halted ps ∷ h) rs empty i = absurd cc
never_halted (_ ∷ h) rs empty i = never_halted h rs empty i

put_last : (k : RecordLog) → end_is_put k ≡ true → (rest : List Record) × (records_put k ≡ rest ++ kinds.End ∷ [])
put_last [] e = absurd cc
put_last (put (kinds.Head h) ∷ k) e = absurd cc
put_last (put (kinds.Event b) ∷ k) e = absurd cc
put_last (put (kinds.Mark m) ∷ k) e = absurd cc
put_last (put kinds.End ∷ k) e = (records_put k, refl)
put_last (full r ∷ k) e = put_last k e

pub whole_put : (p : Pulsing) (h : PieceLog) (k : RecordLog) → PulseFits p h k → p.waiting ≡ [] → IsRecorded h (records_put k)
whole_put p h k f w = subst (IsRecorded h) (ap (λ rs. records_put k ++ rs) w ∙ append-nil (records_put k)) f.records

pub front_put : (p : Pulsing) (h : PieceLog) (k : RecordLog) → PulseFits p h k → (rest : List Record) × IsEndOf (got_since h) rest × IsRecorded h (records_put k ++ rest)
front_put p h k f = (p.waiting, f.waits, f.records)

one_more : (b : Bool) (m n : ℕ) → m ≡ n + one_if b → (m ≡ n) ⊎ (m ≡ n + 1)
one_more true m n e = inr e
one_more false m n e = inl (omega arith)

pub ticks_put : (p : Pulsing) (h : PieceLog) (k : RecordLog) → PulseFits p h k → (ticks_in (records_put k) ≡ counted h) ⊎ (ticks_in (records_put k) ≡ counted h + 1)
ticks_put p h k f = one_more p.owes (ticks_in (records_put k)) (counted h) f.ticks

pub all_counts : (p : Pulsing) (h : PieceLog) (k : RecordLog) → PulseFits p h k → (rest : List Record) × IsRecorded h (records_put k ++ rest) × (counted h + uncounted h ≡ ticks_in (records_put k ++ rest))
all_counts p h k f = (p.waiting, f.records, omega (arith, f.ticks, f.left, ticks-append (records_put k) p.waiting))

pub done_put : (p : Pulsing) (h : PieceLog) (k : RecordLog) → PulseFits p h k → end_is_put k ≡ true
    → IsRecorded h (records_put k) × ((before : List Piece) × (got_since h ≡ pieces.End ∷ before)) × ((rest : List Record) × (records_put k ≡ rest ++ kinds.End ∷ [])) × (ticks_in (records_put k) ≡ counted h)
done_put p h k f e =
    let last = f.last (f.end ∙ e) in
    (whole_put p h k f last.0, last.2, put_last k e, omega (arith, f.ticks, ap one_if last.1))
