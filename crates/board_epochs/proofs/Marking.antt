-- The mark that a reset's work loads is new, and the bytes before it are taken.
use Rattle.std.proofs.Common.{◌≡◌, ℕ, zero, suc, ◌+◌, ◌-◌, ◌^◌, ◌≤◌, ◌<◌, Bool, true, false, List, [], ◌∷◌, length, length-append, nat_eq, nat_lt, refl, ap, subst, arith}
use Rattle.std.proofs.lemmas.Bool.Decides.{nat_tests}
use Rattle.code_table.specs.declared.flags.Exec.{Exec}
use Rattle.code_table.specs.declared.flags.Ovr.{Ovr}
use Rattle.serial_ring.specs.Logs.{greeted_in}
use Rattle.serial_ring.specs.Marks.{Mark as LinkMark, last_of}
use Rattle.step_line.specs.declared.Piece.{Piece}
use Rattle.board_journal.specs.Ports.{BoardLog, taken_in, link_steps, sent_in}
use Rattle.board_journal.specs.Ports.PortStep.{took, found_mark, took_exec, took_ovr, published, no_piece_room, loaded, stored_stop, found_no_halt, found_halt}
use Rattle.board_journal.specs.Steps.Step.{at_port, turned}
use Rattle.motion_ring.specs.Sides as ring
use Rattle.board_epochs.specs.Bounds.{loaded_mark}
use Rattle.board_epochs.specs.Work.{Work, Stage, Works, MayWorkAt, stage_of, stage_at, by_mark, by_load, dropping, worked_in}
use Rattle.board_epochs.specs.Work.Stage.{drops_changes, awaits_mark, stops, awaits_halt, drops, publishes, awaits_done, over}
use Rattle.board_epochs.proofs.Working.{all_of, never}

-- It is new behind the mark that was worked last, and so many bytes are left before it.
pub record IsLoaded (worked : ℕ) (m : LinkMark) (taken left : ℕ) : Type 0 where
  pub later : worked < m.0
  pub few : m.0 < 2 ^ 32
  pub bytes : m.1 ≤ taken + left

abbrev pub HasLoaded : BoardLog → BoardLog → ℕ → Type 0
HasLoaded before l left = (greeted_in (link_steps l) ≡ greeted_in (link_steps before)) × IsLoaded (worked_in before) (loaded_mark l) (length (taken_in l)) left

abbrev pub Loads : BoardLog → BoardLog → Stage → Type 0
Loads before l drops_changes = greeted_in (link_steps l) ≡ greeted_in (link_steps before)
Loads before l awaits_mark = greeted_in (link_steps l) ≡ greeted_in (link_steps before)
Loads before l (stops n) = HasLoaded before l n
Loads before l (awaits_halt n) = HasLoaded before l n
Loads before l (drops n) = HasLoaded before l n
Loads before l publishes = HasLoaded before l 0
Loads before l awaits_done = HasLoaded before l 0
Loads before l over = HasLoaded before l 0

on_exec : (before l : BoardLog) (word : Exec) (stage : Stage) → Loads before l stage → Loads before (took_exec word ∷ l) (stage_at l (took_exec word) stage)
on_exec before l word drops_changes h = h
on_exec before l word awaits_mark h = h
on_exec before l word (stops n) h = h
on_exec before l word (awaits_halt n) h = h
on_exec before l word (drops n) h = h
on_exec before l word publishes h = h
on_exec before l word awaits_done h = h
on_exec before l word over h = h

on_ovr : (before l : BoardLog) (word : Ovr) (stage : Stage) → Loads before l stage → Loads before (took_ovr word ∷ l) (stage_at l (took_ovr word) stage)
on_ovr before l word drops_changes h = h
on_ovr before l word awaits_mark h = h
on_ovr before l word (stops n) h = h
on_ovr before l word (awaits_halt n) h = h
on_ovr before l word (drops n) h = h
on_ovr before l word publishes h = h
on_ovr before l word awaits_done h = h
on_ovr before l word over h = h

newer : (worked m : ℕ) → nat_lt worked m ≡ true → worked < m
newer worked m e = grind (arith, nat_tests)

by_mark_loads : (before l : BoardLog) (m bytes : ℕ) (t : Bool) → nat_lt (worked_in l) m ≡ t → m < 2 ^ 32 → greeted_in (link_steps l) ≡ greeted_in (link_steps before)
    → Loads before (found_mark m bytes ∷ l) (by_mark t (bytes - length (taken_in l)))
by_mark_loads before l m bytes true e few h = (
  h,
  record {
    later = (let same = ap (λ (ms : List LinkMark). (last_of ms).0) h in let lt = newer (worked_in l) m e in omega (arith, same, lt));
    few = few;
    bytes = omega arith;
  },
)
by_mark_loads before l m bytes false e few h = h

on_mark : (number : ℕ) (before l : BoardLog) (m bytes : ℕ) (stage : Stage) → MayWorkAt number l (found_mark m bytes) stage → Loads before l stage → Loads before (found_mark m bytes ∷ l) (stage_at l (found_mark m bytes) stage)
on_mark number before l m bytes awaits_mark may h = by_mark_loads before l m bytes (nat_lt (worked_in l) m) refl may h
on_mark number before l m bytes stage may h = absurd may

on_stop : (number : ℕ) (before l : BoardLog) (stage : Stage) → MayWorkAt number l stored_stop stage → Loads before l stage → Loads before (stored_stop ∷ l) (stage_at l stored_stop stage)
on_stop number before l (stops n) may h = h
on_stop number before l stage may h = absurd may

on_no_halt : (number : ℕ) (before l : BoardLog) (stage : Stage) → MayWorkAt number l found_no_halt stage → Loads before l stage → Loads before (found_no_halt ∷ l) (stage_at l found_no_halt stage)
on_no_halt number before l (awaits_halt n) may h = h
on_no_halt number before l stage may h = absurd may

drops_on : (before l : BoardLog) (n : ℕ) → HasLoaded before l n → Loads before l (dropping n)
drops_on before l zero h = h
drops_on before l (suc n) h = h

on_halt : (number : ℕ) (before l : BoardLog) (done : ℕ) (stage : Stage) → MayWorkAt number l (found_halt done) stage → Loads before l stage → Loads before (found_halt done ∷ l) (stage_at l (found_halt done) stage)
on_halt number before l done (awaits_halt n) may h = drops_on before (found_halt done ∷ l) n h
on_halt number before l done stage may h = absurd may

on_took : (number : ℕ) (before l : BoardLog) (b : ℕ) (stage : Stage) → MayWorkAt number l (took b) stage → Loads before l stage → Loads before (took b ∷ l) (stage_at l (took b) stage)
on_took number before l b (drops zero) may h =
    (h.0, record { later = h.1.later; few = h.1.few; bytes = (let m = h.1.bytes in let e = length-append (taken_in l) (b ∷ []) in omega (arith, m, e)) })
on_took number before l b (drops (suc n)) may h = drops_on before (took b ∷ l) n
    (h.0, record { later = h.1.later; few = h.1.few; bytes = (let m = h.1.bytes in let e = length-append (taken_in l) (b ∷ []) in omega (arith, m, e)) })
on_took number before l b stage may h = absurd may

on_published : (number : ℕ) (before l : BoardLog) (p : Piece) (stage : Stage) → MayWorkAt number l (published p) stage → Loads before l stage → Loads before (published p ∷ l) (stage_at l (published p) stage)
on_published number before l p publishes may h = h
on_published number before l p stage may h = absurd may

on_room : (number : ℕ) (before l : BoardLog) (done : ℕ) (stage : Stage) → MayWorkAt number l (no_piece_room done) stage → Loads before l stage → Loads before (no_piece_room done ∷ l) (stage_at l (no_piece_room done) stage)
on_room number before l done publishes may h = h
on_room number before l done stage may h = absurd may

by_load_loads : (before l : BoardLog) (t : Bool) → HasLoaded before l 0 → Loads before l (by_load t)
by_load_loads before l true h = h
by_load_loads before l false h = h

on_loaded : (number : ℕ) (before l : BoardLog) (done : ℕ) (stage : Stage) → MayWorkAt number l (loaded done) stage → Loads before l stage → Loads before (loaded done ∷ l) (stage_at l (loaded done) stage)
on_loaded number before l done awaits_done may h = by_load_loads before (loaded done ∷ l) (nat_eq done (ring.ticks_published (sent_in l))) h
on_loaded number before l done stage may h = absurd may

pub loads : (number : ℕ) (before : BoardLog) (w : Work) → Works number before w → Loads before (all_of before w) (stage_of before w)
loads number before [] c = refl
loads number before (at_port (took b) ∷ w) c = on_took number before (all_of before w) b (stage_of before w) c.0 (loads number before w c.2)
loads number before (at_port (found_mark m bytes) ∷ w) c = on_mark number before (all_of before w) m bytes (stage_of before w) c.0 (loads number before w c.2)
loads number before (at_port (took_exec word) ∷ w) c = on_exec before (all_of before w) word (stage_of before w) (loads number before w c.2)
loads number before (at_port (took_ovr word) ∷ w) c = on_ovr before (all_of before w) word (stage_of before w) (loads number before w c.2)
loads number before (at_port (published p) ∷ w) c = on_published number before (all_of before w) p (stage_of before w) c.0 (loads number before w c.2)
loads number before (at_port (no_piece_room done) ∷ w) c = on_room number before (all_of before w) done (stage_of before w) c.0 (loads number before w c.2)
loads number before (at_port (loaded done) ∷ w) c = on_loaded number before (all_of before w) done (stage_of before w) c.0 (loads number before w c.2)
loads number before (at_port stored_stop ∷ w) c = on_stop number before (all_of before w) (stage_of before w) c.0 (loads number before w c.2)
loads number before (at_port found_no_halt ∷ w) c = on_no_halt number before (all_of before w) (stage_of before w) c.0 (loads number before w c.2)
loads number before (at_port (found_halt done) ∷ w) c = on_halt number before (all_of before w) done (stage_of before w) c.0 (loads number before w c.2)
loads number before (at_port e ∷ w) c = absurd (never number (all_of before w) (stage_of before w) e tt c.0)
loads number before (turned t ∷ w) c = loads number before w c.2
loads number before (_ ∷ w) c = absurd c.0

pub loaded_there : (number : ℕ) (before : BoardLog) (w : Work) → Works number before w → stage_of before w ≡ over → HasLoaded before (all_of before w) 0
loaded_there number before w c is = subst (Loads before (all_of before w)) is (loads number before w c)
