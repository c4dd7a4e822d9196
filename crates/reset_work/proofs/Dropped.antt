-- A reset's work drops the bytes before the mark that it loads, and no others.
use Rattle.std.proofs.Common.{◌≡◌, ℕ, zero, suc, ◌+◌, ◌-◌, Bool, true, false, ◌∷◌, [], length, length-append, nat_eq, nat_lt, refl, arith}
use Rattle.code_table.specs.declared.flags.Exec.{Exec}
use Rattle.code_table.specs.declared.flags.Ovr.{Ovr}
use Rattle.motion_ring.specs.Sides as ring
use Rattle.step_line.specs.declared.Piece.{Piece}
use Rattle.board_journal.specs.Ports.{BoardLog, sent_in, taken_in}
use Rattle.board_journal.specs.Ports.PortStep.{took, found_mark, took_exec, took_ovr, published, no_piece_room, loaded, stored_stop, found_no_halt, found_halt}
use Rattle.board_journal.specs.Steps.Step.{at_port, turned}
use Rattle.board_epochs.specs.Bounds.{loaded_mark}
use Rattle.board_epochs.specs.Work.{Work, Stage, Works, MayWorkAt, stage_of, stage_at, by_mark, by_load, dropping, worked_in}
use Rattle.board_epochs.specs.Work.Stage.{drops_changes, awaits_mark, stops, awaits_halt, drops, publishes, awaits_done, over}
use Rattle.board_epochs.proofs.Working.{all_of, never}

-- with so many more, the bytes taken are those taken before, and those before the mark
abbrev pub HasDropped : BoardLog → BoardLog → ℕ → Type 0
HasDropped before l left = length (taken_in l) + left ≡ length (taken_in before) + ((loaded_mark l).1 - length (taken_in before))

abbrev pub Drops : BoardLog → BoardLog → Stage → Type 0
Drops before l drops_changes = length (taken_in l) ≡ length (taken_in before)
Drops before l awaits_mark = length (taken_in l) ≡ length (taken_in before)
Drops before l (stops n) = HasDropped before l n
Drops before l (awaits_halt n) = HasDropped before l n
Drops before l (drops zero) = ⊥
Drops before l (drops (suc n)) = HasDropped before l (suc n)
Drops before l publishes = HasDropped before l 0
Drops before l awaits_done = HasDropped before l 0
Drops before l over = HasDropped before l 0

on_exec : (before l : BoardLog) (word : Exec) (stage : Stage) → Drops before l stage → Drops before (took_exec word ∷ l) stage
on_exec before l word drops_changes h = h
on_exec before l word awaits_mark h = h
on_exec before l word (stops n) h = h
on_exec before l word (awaits_halt n) h = h
on_exec before l word (drops zero) h = h
on_exec before l word (drops (suc n)) h = h
on_exec before l word publishes h = h
on_exec before l word awaits_done h = h
on_exec before l word over h = h

on_ovr : (before l : BoardLog) (word : Ovr) (stage : Stage) → Drops before l stage → Drops before (took_ovr word ∷ l) (stage_at l (took_ovr word) stage)
on_ovr before l word drops_changes h = h
on_ovr before l word awaits_mark h = h
on_ovr before l word (stops n) h = h
on_ovr before l word (awaits_halt n) h = h
on_ovr before l word (drops zero) h = h
on_ovr before l word (drops (suc n)) h = h
on_ovr before l word publishes h = h
on_ovr before l word awaits_done h = h
on_ovr before l word over h = h

by_new : (before l : BoardLog) (m bytes : ℕ) (t : Bool) → length (taken_in l) ≡ length (taken_in before) → Drops before (found_mark m bytes ∷ l) (by_mark t (bytes - length (taken_in l)))
by_new before l m bytes true h = omega (arith, h)
by_new before l m bytes false h = h

on_mark : (number : ℕ) (before l : BoardLog) (m bytes : ℕ) (stage : Stage) → MayWorkAt number l (found_mark m bytes) stage → Drops before l stage → Drops before (found_mark m bytes ∷ l) (stage_at l (found_mark m bytes) stage)
on_mark number before l m bytes awaits_mark may h = by_new before l m bytes (nat_lt (worked_in l) m) h
on_mark number before l m bytes stage may h = absurd may

on_stop : (number : ℕ) (before l : BoardLog) (stage : Stage) → MayWorkAt number l stored_stop stage → Drops before l stage → Drops before (stored_stop ∷ l) (stage_at l stored_stop stage)
on_stop number before l (stops n) may h = h
on_stop number before l stage may h = absurd may

on_no_halt : (number : ℕ) (before l : BoardLog) (stage : Stage) → MayWorkAt number l found_no_halt stage → Drops before l stage → Drops before (found_no_halt ∷ l) (stage_at l found_no_halt stage)
on_no_halt number before l (awaits_halt n) may h = h
on_no_halt number before l stage may h = absurd may

by_left : (before l : BoardLog) (n : ℕ) → HasDropped before l n → Drops before l (dropping n)
by_left before l zero h = h
by_left before l (suc n) h = h

on_halt : (number : ℕ) (before l : BoardLog) (done : ℕ) (stage : Stage) → MayWorkAt number l (found_halt done) stage → Drops before l stage → Drops before (found_halt done ∷ l) (stage_at l (found_halt done) stage)
on_halt number before l done (awaits_halt n) may h = by_left before (found_halt done ∷ l) n h
on_halt number before l done stage may h = absurd may

on_took : (number : ℕ) (before l : BoardLog) (b : ℕ) (stage : Stage) → MayWorkAt number l (took b) stage → Drops before l stage → Drops before (took b ∷ l) (stage_at l (took b) stage)
on_took number before l b (drops zero) may h = absurd h
on_took number before l b (drops (suc n)) may h = by_left before (took b ∷ l) n (let e = length-append (taken_in l) (b ∷ []) in omega (arith, e, h))
on_took number before l b stage may h = absurd may

on_published : (number : ℕ) (before l : BoardLog) (p : Piece) (stage : Stage) → MayWorkAt number l (published p) stage → Drops before l stage → Drops before (published p ∷ l) (stage_at l (published p) stage)
on_published number before l p publishes may h = h
on_published number before l p stage may h = absurd may

on_room : (number : ℕ) (before l : BoardLog) (done : ℕ) (stage : Stage) → MayWorkAt number l (no_piece_room done) stage → Drops before l stage → Drops before (no_piece_room done ∷ l) (stage_at l (no_piece_room done) stage)
on_room number before l done publishes may h = h
on_room number before l done stage may h = absurd may

by_done : (before l : BoardLog) (t : Bool) → HasDropped before l 0 → Drops before l (by_load t)
by_done before l true h = h
by_done before l false h = h

on_loaded : (number : ℕ) (before l : BoardLog) (done : ℕ) (stage : Stage) → MayWorkAt number l (loaded done) stage → Drops before l stage → Drops before (loaded done ∷ l) (stage_at l (loaded done) stage)
on_loaded number before l done awaits_done may h = by_done before (loaded done ∷ l) (nat_eq done (ring.ticks_published (sent_in l))) h
on_loaded number before l done stage may h = absurd may

pub drops_all : (number : ℕ) (before : BoardLog) (w : Work) → Works number before w → Drops before (all_of before w) (stage_of before w)
drops_all number before [] c = refl
drops_all number before (at_port (took b) ∷ w) c = on_took number before (all_of before w) b (stage_of before w) c.0 (drops_all number before w c.2)
drops_all number before (at_port (found_mark m bytes) ∷ w) c = on_mark number before (all_of before w) m bytes (stage_of before w) c.0 (drops_all number before w c.2)
drops_all number before (at_port (took_exec word) ∷ w) c = on_exec before (all_of before w) word (stage_of before w) (drops_all number before w c.2)
drops_all number before (at_port (took_ovr word) ∷ w) c = on_ovr before (all_of before w) word (stage_of before w) (drops_all number before w c.2)
drops_all number before (at_port (published p) ∷ w) c = on_published number before (all_of before w) p (stage_of before w) c.0 (drops_all number before w c.2)
drops_all number before (at_port (no_piece_room done) ∷ w) c = on_room number before (all_of before w) done (stage_of before w) c.0 (drops_all number before w c.2)
drops_all number before (at_port (loaded done) ∷ w) c = on_loaded number before (all_of before w) done (stage_of before w) c.0 (drops_all number before w c.2)
drops_all number before (at_port stored_stop ∷ w) c = on_stop number before (all_of before w) (stage_of before w) c.0 (drops_all number before w c.2)
drops_all number before (at_port found_no_halt ∷ w) c = on_no_halt number before (all_of before w) (stage_of before w) c.0 (drops_all number before w c.2)
drops_all number before (at_port (found_halt done) ∷ w) c = on_halt number before (all_of before w) done (stage_of before w) c.0 (drops_all number before w c.2)
drops_all number before (at_port e ∷ w) c = absurd (never number (all_of before w) (stage_of before w) e tt c.0)
drops_all number before (turned t ∷ w) c = drops_all number before w c.2
drops_all number before (_ ∷ w) c = absurd c.0
