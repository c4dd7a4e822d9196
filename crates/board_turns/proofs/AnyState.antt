-- The state that a run begins with changes nothing of what is left to do, nor of the motion; so it changes no board's number.
use Rattle.std.proofs.Common.{◌≡◌, ℕ, ◌+◌, ◌*◌, ◌||◌, cond, List, [], ◌∷◌, ◌++◌, drop, nat_eq, length, refl, ap, ◌∙◌}
use Rattle.feed_hold.specs.Motions.{is_moving}
use Rattle.feed_hold.specs.declared.Motion.{Motion}
use Rattle.feed_hold.specs.declared.Motion.TheVariants as motions
use Rattle.run_rules.specs.declared.State.{State}
use Rattle.run_rules.specs.Work.{Task, pauses, telling}
use Rattle.status_report.specs.declared.Message.TheVariants.{Locked}
use Rattle.status_report.specs.declared.Reply.{Reply}
use Rattle.status_report.specs.declared.Reply.TheVariants.{Banner, Alarm, Message}
use Rattle.step_line.specs.Logs.{NewestFirst}
use Rattle.units.specs.Truths.{one_if}
use Rattle.board_journal.specs.Openings.{Opening}
use Rattle.board_rules.specs.Cuts.{has_cut}
use Rattle.board_journal.specs.Steps.{Journal, left_of, left_at, left_by, without_asks, motion_of, closed_tells}
use Rattle.board_journal.specs.Steps.Step.{at_port, began, did, made_end, evened, paused, became, cut, halted, closing, turned}
use Rattle.board_rules.specs.Turns.{is_alarm}
use Rattle.board_epochs.specs.Epochs.{Closed, opening_behind}
use Rattle.board_turns.specs.declared.board.Flags.{Flags}
use Rattle.board_turns.specs.Boards.{changes_left, number_of, words_left}

left_any : (s t : Opening) → s.tells ≡ t.tells → (h : Journal) → left_of s h ≡ left_of t h
left_any s t same [] = ap telling same
left_any s t same (at_port e ∷ h) = ap (left_at e) (left_any s t same h)
left_any s t same (began o ∷ h) = refl
left_any s t same (did a ps ∷ h) = ap (left_by a) (left_any s t same h)
left_any s t same (made_end ∷ h) = ap (λ (ts : List Task). drop 1 ts) (left_any s t same h)
left_any s t same (evened ∷ h) = ap (λ (ts : List Task). drop 1 ts) (left_any s t same h)
left_any s t same (paused ∷ h) = ap (λ (ts : List Task). drop 1 ts) (left_any s t same h)
left_any s t same (became call m ∷ h) = left_any s t same h
left_any s t same (cut k ∷ h) = ap without_asks (left_any s t same h)
left_any s t same (halted ∷ h) = ap (λ (ts : List Task). drop 1 ts) (left_any s t same h)
left_any s t same (closing ∷ h) = refl
left_any s t same (turned t2 ∷ h) = left_any s t same h

motion_any : (s t : Opening) → s.motion ≡ t.motion → (h : Journal) → motion_of s h ≡ motion_of t h
motion_any s t same [] = same
motion_any s t same (paused ∷ h) = refl
motion_any s t same (became call m ∷ h) = refl
motion_any s t same (_ ∷ h) = motion_any s t same h

-- two openings of one epoch, behind two states
record AreAlike (s t : Opening) : Type 0 where
  pub motion : s.motion ≡ t.motion
  pub tells : s.tells ≡ t.tells

-- what greets behind a reset, by the motion that it has ended
abbrev greets : Motion → List Reply
greets m = cond (is_moving m) (Alarm 3 ∷ []) [] ++ Banner ∷ cond (is_moving m || is_alarm m) (Message Locked ∷ []) []

alike_behind : (blocks : ℕ) (s t : State) (es : NewestFirst Closed) → AreAlike (opening_behind blocks s es) (opening_behind blocks t es)
alike_behind blocks s t [] = record { motion = refl; tells = refl }
alike_behind blocks s t (e ∷ es) =
    let same : motion_of (opening_behind blocks s es) e.journal ≡ motion_of (opening_behind blocks t es) e.journal =
    (let was = alike_behind blocks s t es in motion_any (opening_behind blocks s es) (opening_behind blocks t es) was.motion e.journal) in
    record { motion = ap (λ (m : Motion). cond (is_moving m || is_alarm m) motions.Alarm motions.Idle) same; tells = ap greets same }

pub number_any : (blocks : ℕ) (s t : State) (es : NewestFirst Closed) (f : Flags) (h : Journal) → number_of (opening_behind blocks s es) f h ≡ number_of (opening_behind blocks t es) f h
number_any blocks s t es f h =
    let alike = alike_behind blocks s t es in let first = opening_behind blocks s es in let other = opening_behind blocks t es in
    ap (λ (ts : List Task). 3 * (words_left f + pauses ts) + changes_left (motion_of first h) (has_cut h) + one_if (nat_eq (length (closed_tells h)) 0)) (left_any first other alike.tells h)
    ∙ ap (λ (m : Motion). 3 * (words_left f + pauses (left_of other h)) + changes_left m (has_cut h) + one_if (nat_eq (length (closed_tells h)) 0)) (motion_any first other alike.motion h)
