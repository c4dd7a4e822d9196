-- What the ends of a rig have to do with each other, by the journals of its actors.
use Rattle.std.proofs.Common.{◌≡◌, inr, ℕ, zero, suc, false, cond, nat_eq, List, [], ◌∷◌, ◌++◌, length, map, reverse, length-append, refl, sym, ap, ◌∙◌, subst, arith}
use Rattle.std.proofs.lemmas.Bool.Decides.{nat_tests}
use Rattle.std.proofs.lemmas.List.{length-map, reverse-append}
use Rattle.atomic_table.specs.Seated.{TableId}
use Rattle.step_line.specs.Logs.{NewestFirst}
use Rattle.motion_ring.specs.declared.lists.Halt.{Halt}
use Rattle.motion_ring.specs.declared.lists.Sent.{Sent}
use Rattle.motion_ring.specs.declared.lists.Taken.{Taken}
use Rattle.motion_ring.specs.declared.ends.SegIn.{SegIn}
use Rattle.motion_ring.specs.Ends.{passed_by}
use Rattle.motion_ring.specs.Ends.{taken_by as pieces_taken_by}
use Rattle.motion_ring.specs.Rule.{PiecesAreTied}
use Rattle.motion_ring.specs.Sides.{published_in, some_stops, some_halts, unless_none, pieces_at}
use Rattle.pulse_engine.specs.Logs.{PieceLog, RecordLog}
use Rattle.motion_ports.specs.Ports.{HasGot, numbers_of}
use Rattle.board_journal.specs.Ports.{sent_in}
use Rattle.board_epochs.specs.Epochs.{Epochs, log_of}
use Rattle.epoch_records.specs.Publishing.{but_none}
use Rattle.epoch_runs.specs.Epochs.{halts_seen}
use Rattle.run_texts.specs.Fronts.{BeginsWith}
use Rattle.epoch_law.specs.Joined.{ArePassedSome}
use Rattle.epoch_law.specs.Journals.{board_did, pulse_did}
use Rattle.thread_rig.proofs.Finishing.{HasHalts}

-- ---- lists with the latest first

pub begins_with : {A : Type 0} (all front latest_all latest_front rest : List A) → all ≡ reverse latest_all → front ≡ reverse latest_front → latest_all ≡ rest ++ latest_front → BeginsWith all front
begins_with all front latest_all latest_front rest all_is front_is e = record {
  rest = reverse rest;
  is = all_is ∙ (ap reverse e ∙ (reverse-append rest latest_front ∙ ap (λ z. z ++ reverse rest) (sym front_is)));
}

none_of : {A : Type 0} (xs : List A) → length xs ≡ 0 → xs ≡ []
none_of [] e = refl
none_of (x ∷ xs) e = absurd (omega (arith, e))

-- ---- stops and halts, but for one at no pieces

stop_or_none : (n : ℕ) (h : Halt) (stops : List ℕ) (halts : List Halt) → stops ≡ map pieces_at halts → unless_none n h.pieces stops ≡ map pieces_at (unless_none n h halts)
stop_or_none zero h stops halts e = e
stop_or_none (suc n) h stops halts e = ap (λ (ns : List ℕ). h.pieces ∷ ns) e

some_alike : (hs : NewestFirst Halt) → some_stops (map pieces_at hs) ≡ map pieces_at (some_halts hs)
some_alike [] = refl
some_alike (h ∷ hs) = stop_or_none h.pieces h (some_stops (map pieces_at hs)) (some_halts hs) (some_alike hs)

halt_or_none : (n : ℕ) (h : Halt) (halts : List Halt) (numbers : List (ℕ × ℕ)) → map numbers_of halts ≡ numbers → map numbers_of (unless_none n h halts) ≡ cond (nat_eq n 0) numbers (numbers_of h ∷ numbers)
halt_or_none zero h halts numbers e = e
halt_or_none (suc n) h halts numbers e =
    let some : nat_eq (suc n) 0 ≡ false = grind (arith, nat_tests) in
    rw some (ap (λ (hs : List (ℕ × ℕ)). numbers_of h ∷ hs) e)

some_numbers : (hs : NewestFirst Halt) → map numbers_of (some_halts hs) ≡ but_none (map numbers_of hs)
some_numbers [] = refl
some_numbers (h ∷ hs) = halt_or_none h.pieces h (some_halts hs) (but_none (map numbers_of hs)) (some_numbers hs)

-- ---- the pieces

-- where each stop has its halt, each halt that was stored was seen
all_seen : (sent : Sent) (known : ℕ) (taken : Taken) → HasHalts sent → (t : PiecesAreTied sent known taken) → t.unseen ≡ []
all_seen sent known taken halted t =
    let seen = some_halts sent.halts in
    let e = ap (λ (ns : List ℕ). length ns) (sym (some_alike sent.halts) ∙ ap some_stops (sym halted) ∙ t.stops ∙ ap (λ (hs : List Halt). t.waiting ++ map pieces_at hs) t.halts) in
    let a = length-map seen pieces_at in
    let b = length-append t.waiting (map pieces_at (t.unseen ++ seen)) in
    let c = length-map (t.unseen ++ seen) pieces_at in
    let d = length-append t.unseen seen in
    none_of t.unseen (omega (arith, e, a, b, c, d))

-- The pulse got or dropped the first of the pieces that were published, and halted where the board has seen it halt.
pub passed_some : (es : Epochs) (h : PieceLog) (k : RecordLog) (known : ℕ) (end : SegIn) (ring : TableId) (sent : Sent) → sent ≡ sent_in (log_of es) → HasGot end ring h → PiecesAreTied sent known (pieces_taken_by end)
    → HasHalts (sent_in (log_of es)) → ArePassedSome (board_did es) (pulse_did h k)
passed_some es h k known end ring sent sent_is got t halted =
    let taken = pieces_taken_by end in
    let seen = all_seen sent known taken (subst HasHalts (sym sent_is) halted) t in
    record {
      pieces = begins_with _ _ (published_in sent) (passed_by end) t.rest (ap (λ (s : Sent). reverse (published_in s)) (sym sent_is)) (ap reverse (sym got.passed_are)) t.pieces;
      halts = inr (sym got.halts_are ∙ ap (λ (hs : List Halt). map numbers_of hs) (t.halts ∙ ap (λ (hs : List Halt). hs ++ some_halts sent.halts) seen)
          ∙ some_numbers sent.halts ∙ ap (λ (s : Sent). but_none (halts_seen s)) sent_is);
    }
