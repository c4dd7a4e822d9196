-- What is done at the halt of a reset's work may be found done behind the epoch that it ends.
use Rattle.std.proofs.Common.{◌≡◌, ◌≤◌, ℕ, zero, suc, ◌-◌, Bool, true, false, ◌∷◌, [], length, nat_eq, nat_lt, refl, subst}
use Rattle.code_table.specs.declared.flags.Exec.{Exec}
use Rattle.code_table.specs.declared.flags.Ovr.{Ovr}
use Rattle.motion_ring.specs.Sides as ring
use Rattle.motion_ring.specs.declared.lists.Sent.{Sent}
use Rattle.step_line.specs.Finishing.{most_unfinished}
use Rattle.step_line.specs.declared.Piece.{Piece}
use Rattle.board_journal.specs.Ports.{BoardLog, MayBeDone, known_in, sent_in, taken_in}
use Rattle.board_journal.specs.Ports.PortStep.{took, found_mark, took_exec, took_ovr, published, no_piece_room, loaded, stored_stop, found_no_halt, found_halt}
use Rattle.board_journal.specs.Steps.Step.{at_port, turned}
use Rattle.board_epochs.specs.Work.{Work, Stage, Works, MayWorkAt, stage_of, stage_at, by_mark, by_load, dropping, worked_in, halted_in}
use Rattle.board_epochs.specs.Work.Stage.{drops_changes, awaits_mark, stops, awaits_halt, drops, publishes, awaits_done, over}
use Rattle.board_epochs.proofs.Working.{Holds, all_of, holds, never}

-- no tick is found done before the halt; so many as are found then may be found behind the epoch
abbrev pub HasHalted : BoardLog → BoardLog → ℕ → Stage → Type 0
HasHalted before l halted drops_changes = known_in l ≡ known_in before
HasHalted before l halted awaits_mark = known_in l ≡ known_in before
HasHalted before l halted (stops n) = known_in l ≡ known_in before
HasHalted before l halted (awaits_halt n) = known_in l ≡ known_in before
HasHalted before l halted (drops n) = MayBeDone halted before
HasHalted before l halted publishes = MayBeDone halted before
HasHalted before l halted awaits_done = MayBeDone halted before
HasHalted before l halted over = MayBeDone halted before

on_exec : (before l : BoardLog) (halted : ℕ) (word : Exec) (stage : Stage) → HasHalted before l halted stage → HasHalted before (took_exec word ∷ l) halted stage
on_exec before l halted word drops_changes h = h
on_exec before l halted word awaits_mark h = h
on_exec before l halted word (stops n) h = h
on_exec before l halted word (awaits_halt n) h = h
on_exec before l halted word (drops n) h = h
on_exec before l halted word publishes h = h
on_exec before l halted word awaits_done h = h
on_exec before l halted word over h = h

on_ovr : (before l : BoardLog) (halted : ℕ) (word : Ovr) (stage : Stage) → HasHalted before l halted stage → HasHalted before (took_ovr word ∷ l) halted (stage_at l (took_ovr word) stage)
on_ovr before l halted word drops_changes h = h
on_ovr before l halted word awaits_mark h = h
on_ovr before l halted word (stops n) h = h
on_ovr before l halted word (awaits_halt n) h = h
on_ovr before l halted word (drops n) h = h
on_ovr before l halted word publishes h = h
on_ovr before l halted word awaits_done h = h
on_ovr before l halted word over h = h

by_new : (before l : BoardLog) (halted m bytes left : ℕ) (t : Bool) → known_in l ≡ known_in before → HasHalted before (found_mark m bytes ∷ l) halted (by_mark t left)
by_new before l halted m bytes left true h = h
by_new before l halted m bytes left false h = h

on_mark : (number : ℕ) (before l : BoardLog) (halted m bytes : ℕ) (stage : Stage) → MayWorkAt number l (found_mark m bytes) stage → HasHalted before l halted stage → HasHalted before (found_mark m bytes ∷ l) halted (stage_at l (found_mark m bytes) stage)
on_mark number before l halted m bytes awaits_mark may h = by_new before l halted m bytes (bytes - length (taken_in l)) (nat_lt (worked_in l) m) h
on_mark number before l halted m bytes stage may h = absurd may

on_stop : (number : ℕ) (before l : BoardLog) (halted : ℕ) (stage : Stage) → MayWorkAt number l stored_stop stage → HasHalted before l halted stage → HasHalted before (stored_stop ∷ l) halted (stage_at l stored_stop stage)
on_stop number before l halted (stops n) may h = h
on_stop number before l halted stage may h = absurd may

on_no_halt : (number : ℕ) (before l : BoardLog) (halted : ℕ) (stage : Stage) → MayWorkAt number l found_no_halt stage → HasHalted before l halted stage → HasHalted before (found_no_halt ∷ l) halted (stage_at l found_no_halt stage)
on_no_halt number before l halted (awaits_halt n) may h = h
on_no_halt number before l halted stage may h = absurd may

by_left : (before l : BoardLog) (halted n : ℕ) → MayBeDone halted before → HasHalted before l halted (dropping n)
by_left before l halted zero h = h
by_left before l halted (suc n) h = h

-- the stop that waits changes neither the ticks published nor what is unfinished
at_halt : (before l : BoardLog) (done : ℕ) → sent_in l ≡ ring.with_stop (sent_in before) → known_in l ≡ known_in before → MayBeDone done l → MayBeDone done before
at_halt before l done sent known may = record {
  later = subst (λ (k : ℕ). k ≤ done) known may.later;
  below = subst (λ (s : Sent). done ≤ ring.ticks_published s) sent may.below;
  few = subst (λ (s : Sent). ring.unfinished_in s done ≤ most_unfinished) sent may.few;
}

on_halt : (number : ℕ) (before l : BoardLog) (halted done : ℕ) (stage : Stage) → MayWorkAt number l (found_halt done) stage → Holds number before l halted stage → HasHalted before l halted stage
    → HasHalted before (found_halt done ∷ l) done (stage_at l (found_halt done) stage)
on_halt number before l halted done (awaits_halt n) may sent h = by_left before (found_halt done ∷ l) done n (at_halt before l done sent h may)
on_halt number before l halted done stage may sent h = absurd may

on_took : (number : ℕ) (before l : BoardLog) (halted b : ℕ) (stage : Stage) → MayWorkAt number l (took b) stage → HasHalted before l halted stage → HasHalted before (took b ∷ l) halted (stage_at l (took b) stage)
on_took number before l halted b (drops zero) may h = h
on_took number before l halted b (drops (suc n)) may h = by_left before (took b ∷ l) halted n h
on_took number before l halted b stage may h = absurd may

on_published : (number : ℕ) (before l : BoardLog) (halted : ℕ) (p : Piece) (stage : Stage) → MayWorkAt number l (published p) stage → HasHalted before l halted stage → HasHalted before (published p ∷ l) halted (stage_at l (published p) stage)
on_published number before l halted p publishes may h = h
on_published number before l halted p stage may h = absurd may

on_room : (number : ℕ) (before l : BoardLog) (halted done : ℕ) (stage : Stage) → MayWorkAt number l (no_piece_room done) stage → HasHalted before l halted stage → HasHalted before (no_piece_room done ∷ l) halted (stage_at l (no_piece_room done) stage)
on_room number before l halted done publishes may h = h
on_room number before l halted done stage may h = absurd may

by_done : (before l : BoardLog) (halted : ℕ) (t : Bool) → MayBeDone halted before → HasHalted before l halted (by_load t)
by_done before l halted true h = h
by_done before l halted false h = h

on_loaded : (number : ℕ) (before l : BoardLog) (halted done : ℕ) (stage : Stage) → MayWorkAt number l (loaded done) stage → HasHalted before l halted stage → HasHalted before (loaded done ∷ l) halted (stage_at l (loaded done) stage)
on_loaded number before l halted done awaits_done may h = by_done before (loaded done ∷ l) halted (nat_eq done (ring.ticks_published (sent_in l))) h
on_loaded number before l halted done stage may h = absurd may

pub has_halted : (number : ℕ) (before : BoardLog) (w : Work) → Works number before w → HasHalted before (all_of before w) (halted_in w) (stage_of before w)
has_halted number before [] c = refl
has_halted number before (at_port (took b) ∷ w) c = on_took number before (all_of before w) (halted_in w) b (stage_of before w) c.0 (has_halted number before w c.2)
has_halted number before (at_port (found_mark m bytes) ∷ w) c = on_mark number before (all_of before w) (halted_in w) m bytes (stage_of before w) c.0 (has_halted number before w c.2)
has_halted number before (at_port (took_exec word) ∷ w) c = on_exec before (all_of before w) (halted_in w) word (stage_of before w) (has_halted number before w c.2)
has_halted number before (at_port (took_ovr word) ∷ w) c = on_ovr before (all_of before w) (halted_in w) word (stage_of before w) (has_halted number before w c.2)
has_halted number before (at_port (published p) ∷ w) c = on_published number before (all_of before w) (halted_in w) p (stage_of before w) c.0 (has_halted number before w c.2)
has_halted number before (at_port (no_piece_room done) ∷ w) c = on_room number before (all_of before w) (halted_in w) done (stage_of before w) c.0 (has_halted number before w c.2)
has_halted number before (at_port (loaded done) ∷ w) c = on_loaded number before (all_of before w) (halted_in w) done (stage_of before w) c.0 (has_halted number before w c.2)
has_halted number before (at_port stored_stop ∷ w) c = on_stop number before (all_of before w) (halted_in w) (stage_of before w) c.0 (has_halted number before w c.2)
has_halted number before (at_port found_no_halt ∷ w) c = on_no_halt number before (all_of before w) (halted_in w) (stage_of before w) c.0 (has_halted number before w c.2)
has_halted number before (at_port (found_halt done) ∷ w) c = on_halt number before (all_of before w) (halted_in w) done (stage_of before w) c.0 (holds number before w c.2) (has_halted number before w c.2)
has_halted number before (at_port e ∷ w) c = absurd (never number (all_of before w) (stage_of before w) e tt c.0)
has_halted number before (turned t ∷ w) c = has_halted number before w c.2
has_halted number before (_ ∷ w) c = absurd c.0
