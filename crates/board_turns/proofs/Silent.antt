-- A word of requests that asks for nothing is taken, and obeyed.
use Rattle.std.proofs.Common.{◌≡◌, ℕ, Bool, false, not, cond, ◌&&◌, ◌||◌, Some, None, sym, ap, ◌∙◌, subst}
use Rattle.code_table.specs.declared.flags.Exec.{Exec}
use Rattle.code_table.specs.Flags.{exec_bits, has_flag}
use Rattle.feed_hold.specs.declared.Motion.{Motion}
use Rattle.feed_hold.specs.Motions.{hold_byte, cancel_byte, start_byte, after_requests, after_word}
use Rattle.board_journal.specs.Openings.{Opening}
use Rattle.board_journal.specs.Ports.{asks_report, asks_reset}
use Rattle.board_journal.specs.Steps.{Journal, hand_of, given_of, plan_of, motion_of}
use Rattle.board_rules.specs.Turns.{has_blocks, owes_report}
use Rattle.board_rules.specs.Conduct.{MayTakeRequests}
use Rattle.board_epochs.specs.Resets.{drops_resets, has_reset}
use Rattle.board_machine.specs.Machines.{Runs}
use Rattle.board_turns.specs.declared.board.Board.{Board}
use Rattle.board_turns.specs.Boards.{Keeps}
use Rattle.board_turns.specs.Turning.{obeying, to_obey}
use Rattle.board_turns.specs.Reporting.{MayObeyNow}
use Rattle.board_turns.proofs.Requests.{takes_word}
use Rattle.board_turns.proofs.Halting.{taken}
use Rattle.board_turns.proofs.Telling.{obeys_waiting}

no_report : (word : Exec) → exec_bits word ≡ 0 → asks_report word ≡ false
no_report word none = ap (λ bits. has_flag bits 0x3f) none

no_reset : (word : Exec) → exec_bits word ≡ 0 → asks_reset word ≡ false
no_reset word none = ap (λ bits. has_flag bits 0x18) none

-- it changes nothing of the motion
stays : (word : Exec) (queued : Bool) (was : Motion) → exec_bits word ≡ 0 → after_word word queued was ≡ was
stays word queued was none = ap (λ bits. after_requests (has_flag bits hold_byte) (has_flag bits cancel_byte) (has_flag bits start_byte) queued was) none

-- whether a report is owed is as before
pub owes_as_before : (word : Exec) (h : Journal) → exec_bits word ≡ 0 → owes_report (taken word h) ≡ owes_report h
owes_as_before word h none = ap (λ b. b || owes_report h) (no_report word none)

-- a board that does nothing has taken it
pub takes_none : {N : ℕ} (first : Opening) (c : Board N) (word : Exec) (h : Journal) → exec_bits word ≡ 0 → Keeps first c h → MayTakeRequests word h → Keeps first c (taken word h)
takes_none first c word h none k may =
    takes_word first c c.owes c.resetting word h k may (k.owes_is ∙ sym (owes_as_before word h none))
    (k.resetting_is ∙ sym (ap (λ b. (b && not (drops_resets h)) || has_reset h) (no_reset word none)))

-- and has obeyed it
pub obeys_none : {N : ℕ} (first : Opening) (c : Board N) (word : Exec) (h : Journal) → exec_bits word ≡ 0 → Keeps first c h → MayObeyNow first (to_obey word) h → Keeps first c (obeying first (to_obey word) h)
obeys_none first c word h none k may =
    let runs = subst (λ (m : Motion). Runs c.machine (plan_of h) m (hand_of h) (given_of h)) (sym (stays word (has_blocks (plan_of h).blocks) (motion_of first h) none)) k.machine in
    obeys_waiting first c c.machine (to_obey word) word h (ap (λ b. cond b None (Some word)) (no_reset word none)) k may runs
