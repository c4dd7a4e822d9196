-- A board's number is small.
use Rattle.std.proofs.Common.{ℕ, ◌≤◌, ◌<◌, Bool, true, false, [], ◌∷◌, length, nat_eq, arith}
use Rattle.feed_hold.specs.declared.Motion.{Motion}
use Rattle.feed_hold.specs.declared.Motion.TheVariants as motions
use Rattle.board_journal.specs.Openings.{Opening}
use Rattle.run_rules.specs.Work.{Outcome, pauses}
use Rattle.run_rules.proofs.Pausing.{pauses_once}
use Rattle.board_journal.specs.Ports.PortStep.{took, found_empty, found_closed, found_free, found_mark, answered, reported, no_reply_room, took_exec, took_ovr, published, no_piece_room, loaded, stored_stop, found_no_halt, found_halt}
use Rattle.board_journal.specs.Steps.{Journal, open_of, left_of, closed_tells, motion_of}
use Rattle.board_journal.specs.Steps.Step.{at_port, began, did, made_end, evened, paused, became, cut, halted, closing, turned}
use Rattle.board_rules.specs.Cuts.{has_cut}
use Rattle.board_rules.proofs.Beginning.{caused, of_begun}
use Rattle.board_rules.proofs.Dropping.{pauses_kept}
use Rattle.board_rules.specs.Conduct.{Conducted}
use Rattle.units.specs.Truths.{one_if}
use Rattle.board_rules.proofs.Opening.{no_pauses_told}
use Rattle.board_turns.specs.declared.board.Board.{Board}
use Rattle.board_turns.specs.declared.board.Flags.{Flags}
use Rattle.board_turns.specs.declared.board.Flags.TheVariants as words
use Rattle.board_turns.specs.Boards.{EpochFits, words_left, changes_left, number_of}
use Rattle.board_rules.proofs.Ahead.{fewer_pauses, pauses_by}

less_too : (a b : ℕ) → a ≤ b → b ≤ 1 → a ≤ 1
less_too a b e f = omega (arith, e, f)

-- one pause at most is left
pause_once : (first : Opening) (h : Journal) → Conducted first h → pauses (left_of first h) ≤ 1
pause_once first [] c = let e = no_pauses_told first.tells in omega (arith, e)
pause_once first (at_port (took b) ∷ h) c = pause_once first h c.1
pause_once first (at_port found_empty ∷ h) c = pause_once first h c.1
pause_once first (at_port found_closed ∷ h) c = pause_once first h c.1
pause_once first (at_port (found_free n) ∷ h) c = pause_once first h c.1
pause_once first (at_port (found_mark number bytes) ∷ h) c = pause_once first h c.1
pause_once first (at_port stored_stop ∷ h) c = absurd c.0
pause_once first (at_port found_no_halt ∷ h) c = absurd c.0
pause_once first (at_port (found_halt done) ∷ h) c = absurd c.0
pause_once first (at_port (answered r) ∷ h) c = less_too _ _ (fewer_pauses (left_of first h)) (pause_once first h c.1)
pause_once first (at_port (reported r) ∷ h) c = pause_once first h c.1
pause_once first (at_port no_reply_room ∷ h) c = pause_once first h c.1
pause_once first (at_port (took_exec word) ∷ h) c = pause_once first h c.1
pause_once first (at_port (took_ovr word) ∷ h) c = pause_once first h c.1
pause_once first (at_port (published p) ∷ h) c = pause_once first h c.1
pause_once first (at_port (no_piece_room done) ∷ h) c = pause_once first h c.1
pause_once first (at_port (loaded done) ∷ h) c = pause_once first h c.1
pause_once first (began o ∷ h) c = of_begun first h o (λ (x : Outcome). pauses x.work ≤ 1) c.0 (omega arith) (pauses_once true (caused first h) (open_of h))
pause_once first (did a ps ∷ h) c = less_too _ _ (pauses_by a (left_of first h)) (pause_once first h c.1)
pause_once first (made_end ∷ h) c = less_too _ _ (fewer_pauses (left_of first h)) (pause_once first h c.1)
pause_once first (evened ∷ h) c = less_too _ _ (fewer_pauses (left_of first h)) (pause_once first h c.1)
pause_once first (paused ∷ h) c = less_too _ _ (fewer_pauses (left_of first h)) (pause_once first h c.1)
pause_once first (became call m ∷ h) c = pause_once first h c.1
pause_once first (cut k ∷ h) c = less_too _ _ (let e = pauses_kept (left_of first h) in omega (arith, e)) (pause_once first h c.1)
pause_once first (halted ∷ h) c = less_too _ _ (fewer_pauses (left_of first h)) (pause_once first h c.1)
pause_once first (closing ∷ h) c = omega arith
pause_once first (turned t ∷ h) c = pause_once first h c.1

few_words : (f : Flags) → words_left f ≤ 3
few_words words.Both = omega arith
few_words words.Requests = omega arith
few_words (words.Report word) = omega arith
few_words words.None = omega arith

pub few_changes : (m : Motion) (was : Bool) → changes_left m was ≤ 2
few_changes motions.Holding was = omega arith
few_changes motions.Held was = omega arith
few_changes motions.Cancelling true = omega arith
few_changes motions.Cancelling false = omega arith
few_changes m was = omega arith

one_at_most : (b : Bool) → one_if b ≤ 1
one_at_most true = omega arith
one_at_most false = omega arith

pub number_few : {N : ℕ} (first : Opening) (board : Board N) (h : Journal) → EpochFits first board h → number_of first board.flags h < 16
number_few first board h fits =
    let p = pause_once first h fits.keeps.conducted in
    let w = few_words board.flags in
    let m = few_changes (motion_of first h) (has_cut h) in
    let o = one_at_most (nat_eq (length (closed_tells h)) 0) in
    omega (arith, p, w, m, o)
