-- Each epoch begins where the work of the reset before it has ended.
use Rattle.std.proofs.Common.{◌≡◌, ℕ, ◌+◌, List, [], ◌∷◌, refl, sym, ap, ◌∙◌, subst}
use Rattle.motion_ring.specs.Sides as ring
use Rattle.run_rules.specs.declared.State.{State}
use Rattle.step_line.specs.Finishing.{ticks_together}
use Rattle.step_line.specs.Logs.{NewestFirst}
use Rattle.step_line.specs.declared.Mark.TheVariants as marks
use Rattle.step_line.specs.declared.Piece.{Piece}
use Rattle.board_journal.specs.Ports.{BoardLog, known_in, sent_in, MayBeDone, LacksPieceRoom, HasTakenFew, HasFewReports, MayStop, MayAskHalt}
use Rattle.board_journal.specs.Steps.{Journal, port_log, known_of}
use Rattle.board_rules.proofs.Unstopped.{journals_never_stop}
use Rattle.board_epochs.specs.Work.{Work, stage_of, halted_in}
use Rattle.board_epochs.specs.Work.Stage.{stops, awaits_halt}
use Rattle.board_epochs.specs.Epochs.{Closed, AreClosed, IsEpoch, IsResetting, closed_log, ticks_made, log_behind, log_of, opening_behind, last_line}
use Rattle.board_epochs.specs.Epochs.Epochs.{goes, resets}
use Rattle.board_epochs.proofs.Onto.{Begins, known_on}
use Rattle.board_epochs.proofs.Onto.Begins.{a_run, an_epoch}
use Rattle.board_epochs.proofs.Working.{with_mark, works_end, asks_halt, stops_as_before}
use Rattle.board_epochs.proofs.Seam.{done_behind, room_behind, bytes_behind, reports_behind, stop_behind}

pub begins_behind : (blocks : ℕ) (state : State) (es : NewestFirst Closed) → AreClosed blocks state es → Begins (closed_log es)
begins_behind blocks state [] c = a_run refl refl
begins_behind blocks state (e ∷ es) c =
    let first = opening_behind blocks state es in
    let before = log_behind (closed_log es) e.journal in
    let over = works_end (last_line first e.journal) before e.work c.0.resetting.works c.0.worked.done in
    an_epoch (marks.Reset (last_line first e.journal)) (with_mark (last_line first e.journal) (sent_in before) (halted_in e.work)) over.0 refl refl over.1

begun_ticks : (l : BoardLog) → Begins l → ring.ticks_published (sent_in l) ≡ known_in l
begun_ticks l (a_run sent known) = ap ring.ticks_published sent ∙ sym known
begun_ticks l (an_epoch m s sent waits since known) = ap ring.ticks_published sent ∙ ap (λ (ps : List Piece). ring.ticks_at s.halts + ticks_together ps) since ∙ sym known

pub known_there : (blocks : ℕ) (state : State) (es : NewestFirst Closed) (h : Journal) → AreClosed blocks state es → IsEpoch (opening_behind blocks state es) h → known_in (log_of (goes es h)) ≡ ticks_made es + known_of h
known_there blocks state es h c is = known_on (port_log h) (closed_log es) (journals_never_stop (opening_behind blocks state es) h is.conducted)

pub all_done : (blocks : ℕ) (state : State) (es : NewestFirst Closed) → AreClosed blocks state es → ring.ticks_published (sent_in (closed_log es)) ≡ ticks_made es
all_done blocks state es c = begun_ticks (closed_log es) (begins_behind blocks state es c)

pub done_there : (blocks : ℕ) (state : State) (es : NewestFirst Closed) (h : Journal) (k : ℕ) → AreClosed blocks state es → IsEpoch (opening_behind blocks state es) h → MayBeDone k (log_of (goes es h))
    → (n : ℕ) × (k ≡ ticks_made es + n) × MayBeDone n (port_log h)
done_there blocks state es h k c is may = done_behind (closed_log es) (port_log h) k (begins_behind blocks state es c) (journals_never_stop (opening_behind blocks state es) h is.conducted) may

pub room_there : (blocks : ℕ) (state : State) (es : NewestFirst Closed) (h : Journal) (k : ℕ) → AreClosed blocks state es → IsEpoch (opening_behind blocks state es) h → LacksPieceRoom k (log_of (goes es h))
    → (n : ℕ) × (k ≡ ticks_made es + n) × LacksPieceRoom n (port_log h)
room_there blocks state es h k c is may = room_behind (closed_log es) (port_log h) k (begins_behind blocks state es c) (journals_never_stop (opening_behind blocks state es) h is.conducted) may

pub bytes_there : (es : NewestFirst Closed) (h : Journal) → HasTakenFew (log_of (goes es h)) → HasTakenFew (port_log h)
bytes_there es h few = bytes_behind (ticks_made es) (closed_log es) (port_log h) few

pub reports_there : (es : NewestFirst Closed) (h : Journal) → HasFewReports (log_of (goes es h)) → HasFewReports (port_log h)
reports_there es h few = reports_behind (ticks_made es) (closed_log es) (port_log h) few

-- ---- the work of a reset

pub stop_there : (blocks : ℕ) (state : State) (es : NewestFirst Closed) (h : Journal) (w : Work) (n : ℕ) → AreClosed blocks state es → IsResetting (opening_behind blocks state es) (closed_log es) h w
    → stage_of (log_behind (closed_log es) h) w ≡ stops n → MayStop (log_of (resets es h w))
stop_there blocks state es h w n c is stage =
    let before = log_behind (closed_log es) h in
    subst ring.MayStop (sym (stops_as_before (last_line (opening_behind blocks state es) h) before w n is.works stage))
    (stop_behind (closed_log es) (port_log h) (begins_behind blocks state es c) (journals_never_stop (opening_behind blocks state es) h is.epoch.conducted))

pub halt_there : (blocks : ℕ) (state : State) (es : NewestFirst Closed) (h : Journal) (w : Work) (n : ℕ) → IsResetting (opening_behind blocks state es) (closed_log es) h w
    → stage_of (log_behind (closed_log es) h) w ≡ awaits_halt n → MayAskHalt (log_of (resets es h w))
halt_there blocks state es h w n is stage = asks_halt (last_line (opening_behind blocks state es) h) (log_behind (closed_log es) h) w n is.works stage
