-- What one step of a pulse makes of what it has done.
use Rattle.std.proofs.Common.{◌≡◌, ℕ, ◌+◌, Bool, true, false, inl, zero, suc, Option, None, Some, List, [], ◌∷◌, ◌++◌, refl, ap, sym, subst, ◌<◌, ◌∙◌, arith, append_assoc}
use Rattle.std.proofs.lemmas.List.{append-nil}
use Rattle.std.specs.Option.{option_to_list}
use Rattle.units.specs.Truths.{one_if}
use Rattle.units.specs.declared.Move.{Move}
use Rattle.step_line.specs.declared.Piece.{Piece}
use Rattle.step_line.specs.declared.Piece.TheVariants as pieces
use Rattle.step_line.specs.declared.Record.{Record}
use Rattle.step_line.specs.declared.Record.TheVariants as kinds
use Rattle.step_line.specs.Pieces.{records_of}
use Rattle.step_line.specs.Tracing.{Trace}
use Rattle.step_line.specs.Ordering.{ComesNext}
use Rattle.pulse_engine.specs.Logs.{PieceLog, RecordLog, got_since, counted, records_put, ticks_in, IsCounted, HasTick, IsEndOf, IsRecorded}
use Rattle.step_line.specs.Records.{is_tick, is_end}
use Rattle.pulse_engine.specs.Logs.PieceEvent.{asked, got, ticked, halted}
use Rattle.pulse_engine.specs.Logs.RecordEvent.{put}
use Rattle.pulse_engine.specs.Steps.{Pulsing, IsFirst, pulsing, coming, gone, reached_after}
use Rattle.pulse_engine.specs.Turns.{PulseFits, PulseTurned, PulseWorked, Reaches}
use Rattle.outside.specs.declared.Turn.{Turn}
use Rattle.outside.specs.declared.Turn.TheVariants.{Did, Wait, Done}
use Rattle.pulse_engine.proofs.Ticks.{ticks_in_piece, ticks-append}
use Rattle.pulse_engine.proofs.Ends.{end_piece}

-- the pulse gets pieces only where it owes nothing, and counts a tick only where it owes one
pub may_get : (p : Pulsing) (h : PieceLog) (k : RecordLog) → p.waiting ≡ [] → p.owes ≡ false → PulseFits p h k → IsCounted h
may_get p h k w o f = omega (arith, f.left, ap ticks_in w, ap one_if o)

same_trace : (m n : Move) (i j : ℕ) → m ≡ n → i ≡ j → Path Trace (record { mv = m; done = i }) (record { mv = n; done = j })
same_trace m n i j e f = cc

reaches_piece : (ps : List Piece) (t : Trace) (p : Piece) → Reaches (p ∷ ps) (reached_after t p)
reaches_piece ps t (pieces.Segment s) = refl
reaches_piece ps t (pieces.Mark m) = tt
reaches_piece ps t pieces.End = tt

-- whether a stop waits is no matter
pub fits_asked : (p : Pulsing) (b : Bool) (h : PieceLog) (k : RecordLog) → PulseFits p h k → PulseFits p (asked b ∷ h) k
fits_asked p b h k f = record { turns = f.turns; records = f.records; waits = f.waits; ticks = f.ticks; left = f.left; reach = f.reach; end = f.end; last = f.last }

recorded_as : (h : PieceLog) (rs ss : List Record) → rs ≡ ss → IsRecorded h rs → IsRecorded h ss
recorded_as h rs ss e i = subst (IsRecorded h) e i

-- a piece is got
pub fits_got : (p q : Pulsing) (t : Trace) (h : PieceLog) (k : RecordLog) (x : Piece) → p.waiting ≡ [] → p.owes ≡ false → p.over ≡ false → p.reached ≡ t
    → q.waiting ≡ records_of x → q.owes ≡ false → q.over ≡ false → q.reached ≡ reached_after t x
    → ComesNext (got_since h) x → PulseFits p h k → PulseFits q (got x ∷ h) k
fits_got p q t h k x w o v e w' o' v' r n f = record {
  turns = (n, f.turns);
  records = (records_put k, recorded_as h _ _ (ap (λ rs. records_put k ++ rs) w ∙ append-nil (records_put k)) f.records, ap (λ rs. records_put k ++ rs) w');
  waits = ([], sym w');
  ticks = f.ticks ∙ ap (λ b. counted h + one_if b) (o ∙ sym o');
  left = rw (w', o') (omega (arith, ticks_in_piece x));
  reach = rw r (reaches_piece (got_since h) t x);
  end = v' ∙ sym v ∙ f.end;
  last = λ e'. absurd cc;
}

-- a record is put
no_tick : (r : Record) → is_end r ≡ true → is_tick r ≡ false
no_tick (kinds.Head h) e = refl
no_tick (kinds.Event b) e = absurd cc
no_tick (kinds.Mark m) e = absurd cc
no_tick kinds.End e = refl

one_less : (ps : List Piece) (r : Record) (rest : List Record) → IsEndOf ps (r ∷ rest) → IsEndOf ps rest
one_less [] r rest e = absurd cc
one_less (p ∷ before) r rest e = (e.0 ++ r ∷ [], e.1 ∙ sym (append_assoc e.0 (r ∷ []) rest))

end_is_got : (ps : List Piece) (r : Record) (rest : List Record) → IsEndOf ps (r ∷ rest) → is_end r ≡ true → rest ≡ [] → (before : List Piece) × (ps ≡ pieces.End ∷ before)
end_is_got [] r rest e ends empty = absurd cc
end_is_got (p ∷ before) r rest e ends empty = (before, ap (λ (x : Piece). x ∷ before) (end_piece p e.0 r (e.1 ∙ ap (λ rs. e.0 ++ r ∷ rs) empty) ends))

pub fits_put : (p q : Pulsing) (t : Trace) (h : PieceLog) (k : RecordLog) (r : Record) (rest : List Record) → p.waiting ≡ r ∷ rest → p.owes ≡ false → p.reached ≡ t
    → q.waiting ≡ rest → q.owes ≡ is_tick r → q.over ≡ is_end r → q.reached ≡ t → (is_end r ≡ true → rest ≡ [])
    → PulseFits p h k → PulseFits q h (put r ∷ k)
fits_put p q t h k r rest w o e w' o' v' e' l f =
    let behind : IsEndOf (got_since h) (r ∷ rest) = subst (IsEndOf (got_since h)) w f.waits in record {
      turns = f.turns;
      records = recorded_as h _ _ (ap (λ rs. records_put k ++ rs) (w ∙ ap (λ rs. r ∷ rs) (sym w')) ∙ sym (append_assoc (records_put k) (r ∷ []) q.waiting)) f.records;
      waits = subst (IsEndOf (got_since h)) (sym w') (one_less (got_since h) r rest behind);
      ticks = omega (arith, ticks-append (records_put k) (r ∷ []), f.ticks, ap one_if o, ap one_if o');
      left = omega (arith, f.left, ap ticks_in w, ap ticks_in w', ap one_if o, ap one_if o');
      reach = rw e' (rw e at f.reach);
      end = v';
      last = λ s. let ends = sym v' ∙ s in (w' ∙ l ends, o' ∙ no_tick r ends, end_is_got (got_since h) r rest behind ends (l ends));
    }

-- a tick is counted
pub fits_ticked : (p q : Pulsing) (h : PieceLog) (k : RecordLog) → p.owes ≡ true → q.waiting ≡ p.waiting → q.owes ≡ false → q.over ≡ p.over → q.reached ≡ p.reached
    → PulseFits p h k → PulseFits q (ticked ∷ h) k
fits_ticked p q h k o w o' v r f = record {
  turns = f.turns;
  records = recorded_as h _ _ (ap (λ rs. records_put k ++ rs) (sym w)) f.records;
  waits = subst (IsEndOf (got_since h)) (sym w) f.waits;
  ticks = omega (arith, f.ticks, ap one_if o, ap one_if o');
  left = omega (arith, f.left, ap ticks_in w, ap one_if o, ap one_if o');
  reach = rw r f.reach;
  end = v ∙ f.end;
  last = λ e. absurd (let x = f.last (sym v ∙ e) in let y : true ≡ false = sym o ∙ x.1 in cc);
}

pub has_tick : (p : Pulsing) (h : PieceLog) (k : RecordLog) → p.owes ≡ true → PulseFits p h k → HasTick h
has_tick p h k o f = omega (arith, f.left, ap one_if o)

-- it halts
pub fits_halted : (p q : Pulsing) (h : PieceLog) (k : RecordLog) (dropped : List Piece) → p.owes ≡ false → p.over ≡ false → q.waiting ≡ [] → q.owes ≡ false → q.over ≡ false
    → PulseFits p h k → PulseFits q (halted dropped ∷ h) k
fits_halted p q h k dropped o v w o' v' f = record {
  turns = tt;
  records = (
    p.waiting,
    f.waits,
    recorded_as h _ _ (ap (λ rs. rs ++ p.waiting) (sym (ap (λ rs. records_put k ++ rs) w ∙ append-nil (records_put k)))) f.records,
    omega (arith, f.ticks, ap one_if o, ap ticks_in (ap (λ rs. records_put k ++ rs) w ∙ append-nil (records_put k))),
  );
  waits = w;
  ticks = f.ticks ∙ ap (λ b. counted h + one_if b) (o ∙ sym o');
  left = omega (arith, ap ticks_in w, ap one_if o');
  reach = tt;
  end = v' ∙ sym v ∙ f.end;
  last = λ e. absurd (let y : true ≡ false = sym e ∙ v' in cc);
}

pub all_counted : (p : Pulsing) (h : PieceLog) (k : RecordLog) → p.owes ≡ false → PulseFits p h k → ticks_in (records_put k) ≡ counted h
all_counted p h k o f = omega (arith, f.ticks, ap one_if o)

-- what is seen of a pulse by its fields
pub seen : (hand : Option Record) (t : Trace) (n : ℕ) (owes over : Bool) (p : Pulsing) → pulsing hand t n owes over ≡ p
    → (p.waiting ≡ option_to_list hand ++ coming t n) × (p.owes ≡ owes) × (p.over ≡ over) × (p.reached ≡ gone t n)
seen hand t n owes over p v = rw (← v) (refl, refl, refl, refl)

-- nothing is in hand
pub gone_none : (t : Trace) (n : ℕ) → n ≡ 0 → gone t n ≡ t
gone_none t n e = same_trace _ _ _ _ refl (omega arith)

pub nothing_waits : (hand : Option Record) (t : Trace) (n : ℕ) → hand ≡ None → n ≡ 0 → option_to_list hand ++ coming t n ≡ []
nothing_waits hand t n e f = rw (e, f) refl

-- and where nothing waits, nothing is in hand
pub hand_is_empty : (hand : Option Record) (t : Trace) (n : ℕ) → option_to_list hand ++ coming t n ≡ [] → (hand ≡ None) × (n ≡ 0)
hand_is_empty None t zero e = (refl, refl)
hand_is_empty None t (suc n) e = absurd cc
hand_is_empty (Some r) t n e = absurd cc

-- nothing comes behind the end
pub none_after : (r : Record) (t : Trace) (n : ℕ) → IsFirst r n → is_end r ≡ true → coming t n ≡ []
none_after (kinds.Head h) t n i e = absurd cc
none_after (kinds.Event b) t n i e = absurd cc
none_after (kinds.Mark m) t n i e = absurd cc
none_after kinds.End t n i e = rw i refl

-- where events are left, the end was not put
pub not_over : {hand : Option Record} {n : ℕ} {owes : Bool} (over : Bool) → (over ≡ true → (hand ≡ None) × (n ≡ 0) × (owes ≡ false)) → (n ≡ 0 → ⊥) → over ≡ false
not_over true last some = absurd (some (last refl).1)
not_over false last some = refl

-- by what it answered
pub by_answer : (b : Bool) (P : Bool → Type 0) → (b ≡ true → P true) → (b ≡ false → P false) → P b
by_answer true P waits still = waits refl
by_answer false P waits still = still refl

-- a turn that was shown no stop
pub worked : (t : Turn) (h h' : PieceLog) (k k' : RecordLog) → (t ≡ Done → ⊥) → PulseWorked t (asked false ∷ h) k h' k' → PulseTurned t h k h' k'
worked Did h h' k k' going w = inl w
worked (Wait on) h h' k k' going w = w
worked Done h h' k k' going w = absurd (going refl)
