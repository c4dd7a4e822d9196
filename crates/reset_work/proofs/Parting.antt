-- A reset parts a run into epochs.
use Rattle.std.proofs.Common.{◌≡◌, inl, inr, ◌<◌, ◌+◌, ◌-◌, ◌^◌, max, ℕ, Bool, cond, List, ◌∷◌, [], length, refl, sym, ap, subst, ◌∙◌, arith}
use Rattle.run_rules.specs.declared.State.{State}
use Rattle.serial_ring.specs.Logs.{greeted_in, next_mark}
use Rattle.serial_ring.specs.Marks.{Mark as LinkMark, last_of, start}
use Rattle.serial_ring.specs.declared.view.LinkStep.{LinkStep}
use Rattle.step_line.specs.Logs.{NewestFirst}
use Rattle.board_journal.specs.Ports.{BoardLog, MayBeDone, known_in, link_steps, taken_in}
use Rattle.board_journal.specs.Steps.{Journal, port_log}
use Rattle.board_epochs.specs.Bounds.{loaded_mark}
use Rattle.board_epochs.specs.Epochs.{Closed, AreEpochs, closed_log, last_line, log_behind, log_of, opening_behind, ticks_made}
use Rattle.board_epochs.specs.Epochs.Epochs.{goes, resets}
use Rattle.board_epochs.specs.Resets.{MayReset}
use Rattle.board_epochs.specs.Work.{Work, IsWorked, halted_in, worked_in}
use Rattle.board_epochs.proofs.Asking.{number_there}
use Rattle.board_epochs.proofs.Bounding.{Marked, marked_behind}
use Rattle.board_epochs.proofs.Chaining.{done_there}
use Rattle.board_epochs.proofs.Greeted.{was_greeted, greeted_with}
use Rattle.board_epochs.proofs.Marking.{loaded_there}
use Rattle.board_epochs.proofs.Onto.{steps_on}
use Rattle.board_epochs.proofs.Opening.{opens_on}
use Rattle.board_epochs.proofs.Working.{all_of, works_end}
use Rattle.reset_work.proofs.Dropped.{HasDropped, Drops, drops_all}
use Rattle.reset_work.proofs.Halted.{HasHalted, has_halted}

-- ---- its begin and its end

pub resets_begin : (blocks : ℕ) (state : State) (es : NewestFirst Closed) (h : Journal) → AreEpochs blocks state (goes es h) → MayReset (opening_behind blocks state es) h → AreEpochs blocks state (resets es h []) × (log_of (resets es h []) ≡ log_of (goes es h))
resets_begin blocks state es h c may = ((c.0, record { epoch = c.1; may = may; works = tt }, record { bytes = c.2.bytes; reports = c.2.reports }), refl)

abbrev pub closed_by : Journal → Work → Closed
closed_by h w = record { journal = h; work = w }

pub resets_end : (blocks : ℕ) (state : State) (es : NewestFirst Closed) (h : Journal) (w : Work) → AreEpochs blocks state (resets es h w) → IsWorked (log_behind (closed_log es) h) w
    → AreEpochs blocks state (goes (closed_by h w ∷ es) []) × (log_of (goes (closed_by h w ∷ es) []) ≡ log_of (resets es h w))
resets_end blocks state es h w c worked = (
  ((record { resetting = c.1; worked = worked }, c.0), record { conducted = opens_on (ticks_made es) (opening_behind blocks state es) h w c.1.epoch.conducted; prompt = tt }, record { bytes = c.2.bytes; reports = c.2.reports }),
  refl,
)

-- ---- its numbers

next_known : (l : BoardLog) (n : ℕ) → Marked l n → (next_mark (link_steps l)).0 ≡ (loaded_mark l).0
next_known l n (inl none) = ap (λ (k : BoardLog). (next_mark (link_steps k)).0) none.1 ∙ ap (λ (k : BoardLog). (loaded_mark k).0) (sym none.1)
next_known l n (inr m) = ap (λ (t : Bool). (cond t (loaded_mark l) start).0) m.greeted

loaded_few : (l : BoardLog) (n : ℕ) → Marked l n → (loaded_mark l).0 < 2 ^ 32
loaded_few l n (inl none) = subst (λ (k : BoardLog). (loaded_mark k).0 < 2 ^ 32) (sym none.1) (omega arith)
loaded_few l n (inr m) = m.few

pub worked_known : (blocks : ℕ) (state : State) (es : NewestFirst Closed) (h : Journal) → AreEpochs blocks state (goes es h) → MayReset (opening_behind blocks state es) h → worked_in (log_of (goes es h)) ≡ (loaded_mark (closed_log es)).0
worked_known blocks state es h c may =
    let first = opening_behind blocks state es in
    let before = closed_log es in
    ap (λ (ss : List LinkStep). (last_of (greeted_in ss)).0) (steps_on (known_in before) (port_log h) before)
    ∙ ap (λ (m : LinkMark). m.0) (greeted_with first h (link_steps before) c.1.conducted (was_greeted first h c.1.conducted may)).0
    ∙ next_known before (length es) (marked_behind blocks state es c.0)

pub worked_few : (blocks : ℕ) (state : State) (es : NewestFirst Closed) (h : Journal) → AreEpochs blocks state (goes es h) → MayReset (opening_behind blocks state es) h → worked_in (log_of (goes es h)) < 2 ^ 32
worked_few blocks state es h c may = let e = worked_known blocks state es h c may in let few = loaded_few (closed_log es) (length es) (marked_behind blocks state es c.0) in omega (arith, e, few)

pub lines_few : (blocks : ℕ) (state : State) (es : NewestFirst Closed) (h : Journal) → AreEpochs blocks state (goes es h) → last_line (opening_behind blocks state es) h < 2 ^ 32
lines_few blocks state es h c = let n = number_there blocks state es h c.0 c.1.conducted in let bytes = c.2.bytes in omega (arith, n, bytes)

-- ---- its halt

pub halted_there : (blocks : ℕ) (state : State) (es : NewestFirst Closed) (h : Journal) (w : Work) → AreEpochs blocks state (resets es h w) → IsWorked (log_behind (closed_log es) h) w
    → (n : ℕ) × (halted_in w ≡ ticks_made es + n) × MayBeDone n (port_log h)
halted_there blocks state es h w c worked =
    let before = log_behind (closed_log es) h in
    let may : MayBeDone (halted_in w) before = subst (HasHalted before (all_of before w) (halted_in w)) worked.done (has_halted (last_line (opening_behind blocks state es) h) before w c.1.works) in
    done_there blocks state es h (halted_in w) c.0 c.1.epoch may

pub made_there : (blocks : ℕ) (state : State) (es : NewestFirst Closed) (h : Journal) (w : Work) → AreEpochs blocks state (resets es h w) → IsWorked (log_behind (closed_log es) h) w → ticks_made (closed_by h w ∷ es) ≡ halted_in w + 1
made_there blocks state es h w c worked = (works_end (last_line (opening_behind blocks state es) h) (log_behind (closed_log es) h) w c.1.works worked.done).1

-- ---- its mark

pub dropped_there : (blocks : ℕ) (state : State) (es : NewestFirst Closed) (h : Journal) (w : Work) → AreEpochs blocks state (resets es h w) → IsWorked (log_behind (closed_log es) h) w
    → length (taken_in (log_of (resets es h w))) ≡ max (length (taken_in (log_of (goes es h)))) (loaded_mark (log_of (resets es h w))).1
dropped_there blocks state es h w c worked =
    let before = log_behind (closed_log es) h in
    let l = log_of (resets es h w) in
    let d : HasDropped before l 0 = subst (Drops before l) worked.done (drops_all (last_line (opening_behind blocks state es) h) before w c.1.works) in
    more_of (length (taken_in l)) (length (taken_in before)) (loaded_mark l).1 d
  where
    more_of : (n taken bytes : ℕ) → n + 0 ≡ taken + (bytes - taken) → n ≡ max taken bytes
    more_of n taken bytes d = omega (arith, d)

pub newer_there : (blocks : ℕ) (state : State) (es : NewestFirst Closed) (h : Journal) (w : Work) → AreEpochs blocks state (resets es h w) → IsWorked (log_behind (closed_log es) h) w
    → worked_in (log_of (goes es h)) < (loaded_mark (log_of (resets es h w))).0
newer_there blocks state es h w c worked = (loaded_there (last_line (opening_behind blocks state es) h) (log_behind (closed_log es) h) w c.1.works worked.done).1.later
