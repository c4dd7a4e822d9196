-- What a board has done that rests: it has run, and each stop of its resets has its halt.
use Rattle.std.proofs.Common.{◌≡◌, ℕ, List, [], ◌∷◌, length, map, refl, sym, ap, subst}
use Rattle.run_rules.specs.declared.State.{State}
use Rattle.run_rules.specs.States.{IsOpening}
use Rattle.step_line.specs.Logs.{NewestFirst}
use Rattle.motion_ring.specs.declared.lists.Sent.{Sent}
use Rattle.motion_ring.specs.Sides.{published_in, pieces_at}
use Rattle.board_rules.specs.Conduct.{IsFinished}
use Rattle.board_journal.specs.Ports.{known_in, sent_in}
use Rattle.board_journal.specs.Steps.{Journal, port_log}
use Rattle.board_rules.proofs.Unstopped.{journals_never_stop}
use Rattle.board_epochs.specs.Epochs.{Closed, Epochs, AreClosed, AreEpochs, IsEpoch, closed_log, last_line, log_behind, log_of, opening_behind}
use Rattle.board_epochs.specs.Epochs.Epochs.{goes, resets}
use Rattle.board_epochs.proofs.Onto.{sent_on}
use Rattle.board_epochs.proofs.Working.{works_end}
use Rattle.controller.specs.Boards.{HaveFinished}
use Rattle.epoch_law.specs.Journals.{board_did}
use Rattle.epoch_law.specs.Ran.{BoardRan}

-- each stop that was stored has its halt, at the same pieces
abbrev pub HasHalts : Sent → Type 0
HasHalts s = s.stops ≡ map pieces_at s.halts

-- an epoch stores none
halts_behind : (blocks : ℕ) (state : State) (es : NewestFirst Closed) (h : Journal) → IsEpoch (opening_behind blocks state es) h → HasHalts (sent_in (closed_log es)) → HasHalts (sent_in (log_behind (closed_log es) h))
halts_behind blocks state es h c was = subst HasHalts (sym (sent_on (known_in (closed_log es)) (port_log h) (closed_log es) (journals_never_stop (opening_behind blocks state es) h c.conducted))) was

-- and the work of a reset stores one, and finds its halt
closed_halts : (blocks : ℕ) (state : State) (es : NewestFirst Closed) → AreClosed blocks state es → HasHalts (sent_in (closed_log es))
closed_halts blocks state [] c = refl
closed_halts blocks state (e ∷ es) c =
    let first = opening_behind blocks state es in
    let before = log_behind (closed_log es) e.journal in
    let was = halts_behind blocks state es e.journal c.0.resetting.epoch (closed_halts blocks state es c.1) in
    subst HasHalts (sym (works_end (last_line first e.journal) before e.work c.0.resetting.works c.0.worked.done).0) (ap (λ (ns : List ℕ). length (published_in (sent_in before)) ∷ ns) was)

pub all_halts : (blocks : ℕ) (state : State) (e : Epochs) → AreEpochs blocks state e → HaveFinished blocks state e → HasHalts (sent_in (log_of e))
all_halts blocks state (goes es h) are over = halts_behind blocks state es h are.1 (closed_halts blocks state es are.0)
all_halts blocks state (resets es h w) are over = absurd over

-- by the law of boards it has run
pub board_ran : (blocks : ℕ) → ((state : State) (es : NewestFirst Closed) (h : Journal) → IsOpening state → AreEpochs blocks state (goes es h) → IsFinished (opening_behind blocks state es) h → BoardRan blocks (board_did (goes es h)))
    → (state : State) (e : Epochs) → IsOpening state → AreEpochs blocks state e → HaveFinished blocks state e → BoardRan blocks (board_did e)
board_ran blocks law state (goes es h) opens are over = law state es h opens are over
board_ran blocks law state (resets es h w) opens are over = absurd over
