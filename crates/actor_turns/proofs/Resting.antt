-- Where nothing moves, turns of the pulse and of the recorder change nothing.
use Rattle.std.proofs.Common.{◌≡◌, ℕ, zero, suc, ◌/◌, ◌^◌, ◌≤◌, ◌<◌, ◌⊎◌, ◌+◌, false, List, [], ◌∷◌, length, drop, get_or, inl, inr, refl, sym, subst, arith}
use Rattle.std.proofs.lemmas.List.{drop_more, drop_all}
use Rattle.outside.specs.declared.Actor.{Actor}
use Rattle.outside.specs.declared.Actor.TheVariants as actors
use Rattle.outside.specs.declared.Turn.{Turn}
use Rattle.outside.specs.declared.Turn.TheVariants.{Wait}
use Rattle.outside.specs.declared.On.TheVariants as on
use Rattle.host_journal.specs.Steps.{HostLog}
use Rattle.board_journal.specs.Ports.{BoardLog}
use Rattle.pulse_engine.specs.Logs.{PieceLog}
use Rattle.pulse_engine.specs.Logs.PieceEvent.{asked, none}
use Rattle.motion_pulse.proofs.Waiting.{fits_none as pulse_fits}
use Rattle.step_record.specs.Taking.Event.{none as no_record}
use Rattle.step_record.proofs.Turns.{fits_none}
use Rattle.list_ports.specs.Joining.{Listed, Joined}
use Rattle.actor_turns.specs.Worlds.{Seen, Devices, TurnsOn, ActsAlone, OffersNothing, MotionRests}
use Rattle.actor_turns.specs.Lockstep.{state_after, number_of, Passes, Sifts, IsInOrder}
use Rattle.actor_turns.proofs.Arms.{turns_on, pulse_moves, recorder_moves}
use Rattle.actor_turns.proofs.Schedules.{order_more}

-- ---- one turn

joined_none : (l : Listed) (host : HostLog) (board : BoardLog) (h : PieceLog) → Joined l host board h → Joined l host board (none ∷ (asked false ∷ h))
joined_none l host board h j = record {
  bytes = j.bytes;
  replies = j.replies;
  marks = j.marks;
  in_time = j.in_time;
  flags = j.flags;
  pieces = j.pieces;
  stops = λ shown. absurd cc;
  asks = j.asks;
}

pulse_rests : {N : ℕ} (w : Seen N) (now : Devices) → TurnsOn actors.Pulse (Wait on.Piece) now now w w
pulse_rests w now = turns_on _ _ _ _ _ _ (pulse_moves w w.pulse w.lists w.waiting (Wait on.Piece) now (λ far back h k joined passed fits.
    (none ∷ (asked false ∷ h), k, joined_none _ _ _ _ joined, passed, pulse_fits _ _ _ fits, (refl, refl))) refl)

recorder_rests : {N : ℕ} (w : Seen N) (now : Devices) → MotionRests w → TurnsOn actors.Record (Wait on.Records) now now w w
recorder_rests w now r = turns_on _ _ _ _ _ _ (recorder_moves w w.recorder w.waiting (Wait on.Records) now.job now.console now.steps now.steps (λ far log passed.
    (no_record ∷ log, passed, fits_none _ _ _, (refl, r.recorder, refl))))

-- a turn of the host or of the board that leaves no stop and no piece
pub rests_on : {N : ℕ} (actor : Actor) (w w' : Seen N) → number_of actor < 2 → ActsAlone actor w w' → OffersNothing w' → MotionRests w → MotionRests w'
rests_on actors.Host w w' low alone empty r = record { nothing = empty; no_record = rw alone r.no_record; pulse = rw alone r.pulse; recorder = rw alone r.recorder }
rests_on actors.Board w w' low alone empty r = record { nothing = empty; no_record = rw alone r.no_record; pulse = rw alone r.pulse; recorder = rw alone r.recorder }
rests_on actors.Pulse w w' low alone empty r = absurd (omega (arith, low))
rests_on actors.Record w w' low alone empty r = absurd (omega (arith, low))

-- ---- turns that are passed over

two_or_three : (q : ℕ) → 2 ≤ q → q < 4 → (2 ≡ q) ⊎ (3 ≡ q)
two_or_three zero high low = absurd (omega (arith, high))
two_or_three (suc zero) high low = absurd (omega (arith, high))
two_or_three (suc (suc zero)) high low = inl refl
two_or_three (suc (suc (suc zero))) high low = inr refl
two_or_three (suc (suc (suc (suc q)))) high low = absurd (omega (arith, low))

module _ {N : ℕ} (seed : ℕ) (before now : Devices) (w w' : Seen N) (r : MotionRests w') where
  by_actor : (mid to : ℕ) → to ≡ state_after mid → (2 ≡ to / 2 ^ 62) ⊎ (3 ≡ to / 2 ^ 62) → IsInOrder seed mid before now w w' → IsInOrder seed to before now w w'
  by_actor mid to is (inl two) so = order_more seed mid to actors.Pulse (Wait on.Piece) before now now w w' w' so is two (pulse_rests w' now)
  by_actor mid to is (inr three) so = order_more seed mid to actors.Record (Wait on.Records) before now now w w' w' so is three (recorder_rests w' now r)

  below_four : (mid to : ℕ) → to ≡ state_after mid → to / 2 ^ 62 < 4
  below_four mid to is = omega (arith, is)

  pub passed_over : (n from to : ℕ) → Passes n from to → IsInOrder seed from before now w w' → IsInOrder seed to before now w w'
  passed_over zero from to p so = subst (λ x. IsInOrder seed x before now w w') (sym p) so
  passed_over (suc n) from to p so = by_actor p.0 to p.2 (two_or_three (to / 2 ^ 62) p.3 (below_four p.0 to p.2)) (passed_over n from p.0 p.1 so)

-- ---- the numbers that are kept

left_at : (from to : ℕ) (numbers : List ℕ) (i : ℕ) → i < length numbers → Sifts from (drop i numbers) to → Sifts from (get_or numbers i 0 ∷ drop (i + 1) numbers) to
left_at from to numbers i within s = subst (λ (l : List ℕ). Sifts from l to) (drop_more numbers i 0 within) s

pub is_low : (from to : ℕ) (numbers : List ℕ) (i : ℕ) → i < length numbers → Sifts from (drop i numbers) to → get_or numbers i 0 / 2 ^ 62 < 2
is_low from to numbers i within s = (left_at from to numbers i within s).4

pub left_on : (from to : ℕ) (numbers : List ℕ) (i : ℕ) → i < length numbers → Sifts from (drop i numbers) to → Sifts (get_or numbers i 0) (drop (i + 1) numbers) to
left_on from to numbers i within s = (left_at from to numbers i within s).5

-- the turns that are passed over, and that of the next number that is kept
pub turn_on : {N : ℕ} (seed from to : ℕ) (numbers : List ℕ) (i : ℕ) (actor : Actor) (t : Turn) (before now after : Devices) (w mid w' : Seen N) → i < length numbers → Sifts from (drop i numbers) to → MotionRests mid
    → number_of actor ≡ get_or numbers i 0 / 2 ^ 62 → TurnsOn actor t now after mid w' → IsInOrder seed from before now w mid → IsInOrder seed (get_or numbers i 0) before after w w'
turn_on seed from to numbers i actor t before now after w mid w' within s r chosen turns so =
    let k = left_at from to numbers i within s in
    order_more seed k.1 (get_or numbers i 0) actor t before now after w mid w' (passed_over seed before now w mid r k.0 from k.1 k.2 so) k.3 chosen turns

-- the turns that are passed over behind the last of them
pub rest_on : {N : ℕ} (seed from to : ℕ) (numbers : List ℕ) (i : ℕ) (before now : Devices) (w w' : Seen N) → length numbers ≤ i → Sifts from (drop i numbers) to → MotionRests w'
    → IsInOrder seed from before now w w' → IsInOrder seed to before now w w'
rest_on seed from to numbers i before now w w' over s r so =
    let k : Sifts from [] to = subst (λ (l : List ℕ). Sifts from l to) (drop_all i numbers over) s in
    passed_over seed before now w w' r k.0 from to k.1 so
