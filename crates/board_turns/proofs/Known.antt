-- What is known of a board that keeps its journal.
use Rattle.std.proofs.Common.{ℕ, ◌≡◌, ◌+◌, ◌≤◌, ◌<◌, ◌^◌, ◌⊎◌, inl, inr, List, [], ◌∷◌, drop, Bool, true, false, cond, Some, None, sym, refl, ap, ◌∙◌, subst, arith}
use Rattle.std.specs.Option.{option_to_list, is_some}
use Rattle.std.specs.declared.option.Option.{Option}
use Rattle.feed_hold.specs.declared.Motion.{Motion}
use Rattle.feed_hold.specs.declared.Motion.TheVariants as motions
use Rattle.feed_hold.specs.Motions.{is_stopping}
use Rattle.run_rules.specs.Work.{Task}
use Rattle.run_rules.specs.Work.Task.{tell}
use Rattle.status_report.specs.declared.Reply.{Reply}
use Rattle.status_report.specs.declared.Reply.TheVariants as replies
use Rattle.status_report.specs.Answering.{is_report}
use Rattle.board_journal.specs.Openings.{Opening}
use Rattle.board_journal.specs.Ports.{said}
use Rattle.board_journal.specs.Ports.PortStep.{answered}
use Rattle.status_report.specs.Replies.{IsReply}
use Rattle.step_line.specs.declared.Piece.{Piece}
use Rattle.overrides.specs.Percents.{IsOverrides}
use Rattle.plan_rules.specs.Plans.{Planned}
use Rattle.planner_runs.specs.Runs.{IsAtRest, fresh_plan}
use Rattle.planner_runs.proofs.Runs.{fresh_starts, rests_behind, reached_from}
use Rattle.line_interpreter.specs.Lefts.{IsNextOf}
use Rattle.board_journal.specs.Ports.{MayPublish}
use Rattle.epoch_ports.specs.Serving.{MayTellNow, MayPublishNow}
use Rattle.board_journal.specs.Ports.PortStep.{answered}
use Rattle.board_journal.specs.Steps.{Journal, port_log, has_limited, whole_of, left_of, hand_of, plan_of, motion_of, planned_of, actions_of}
use Rattle.board_rules.specs.Turns.{is_due, has_segment, is_going, begins_in, halts_next, is_counted, is_halting, is_limited, tries_of}
use Rattle.board_rules.specs.Conduct.{IsNextTask, IsInHand}
use Rattle.board_rules.proofs.Keeping.{run_is}
use Rattle.board_rules.proofs.Limits.{few_given, may_publish_next}
use Rattle.board_turns.specs.declared.board.Board.{Board}
use Rattle.board_turns.specs.Boards.{Keeps}
use Rattle.board_turns.specs.Turning.{HasPiece}
use Rattle.board_turns.proofs.Stages.{alarm_limits, halts_limited, none_alarmed, unalarmed}
use Rattle.board_rules.proofs.Facts.{uncounted}

-- what is next of what is left, is next of the journal's tasks
pub is_next : {N : ℕ} (first : Opening) (c : Board N) (h : Journal) (t : Task) → Keeps first c h → IsNextOf t c.lines.left → IsNextTask first t h
is_next first c h t k e = subst (λ ts. IsNextOf t ts) k.lines.left_is e

pub hand_empty : {N : ℕ} (first : Opening) (c : Board N) (h : Journal) → Keeps first c h → c.machine.hand ≡ None → hand_of h ≡ []
hand_empty first c h k e = sym k.machine.hand_is ∙ ap (λ o. option_to_list o) e

pub none_by_test : {A : Type 0} (o : Option A) → is_some o ≡ false → o ≡ None
none_by_test None e = refl
none_by_test (Some x) e = absurd cc

pub in_hand : {N : ℕ} (first : Opening) (c : Board N) (h : Journal) (p : Piece) → Keeps first c h → c.machine.hand ≡ Some p → hand_of h ≡ p ∷ []
in_hand first c h p k e = sym k.machine.hand_is ∙ ap (λ o. option_to_list o) e

pub some_in_hand : {N : ℕ} (first : Opening) (c : Board N) (h : Journal) (p : Piece) → Keeps first c h → c.machine.hand ≡ Some p → hand_of h ≡ [] → ⊥
some_in_hand first c h p k e none = let x = sym (in_hand first c h p k e) ∙ none in absurd cc

pub hand_left : {N : ℕ} (first : Opening) (c : Board N) (h : Journal) → Keeps first c h → (c.machine.hand ≡ None → ⊥) → hand_of h ≡ [] → ⊥
hand_left first c h k some none = by_hand c.machine.hand refl
  where
    by_hand : (o : Option Piece) → c.machine.hand ≡ o → ⊥
    by_hand None e = some e
    by_hand (Some p) e = some_in_hand first c h p k e none

-- there is one piece at most
pub one_in_hand : {N : ℕ} (first : Opening) (c : Board N) (h : Journal) → Keeps first c h → drop 1 (hand_of h) ≡ []
one_in_hand first c h k = subst (λ (ps : List Piece). drop 1 ps ≡ []) k.machine.hand_is (by_hand c.machine.hand)
  where
    by_hand : (o : Option Piece) → drop 1 (option_to_list o) ≡ []
    by_hand None = refl
    by_hand (Some p) = refl

pub hand_of_one : {N : ℕ} (first : Opening) (c : Board N) (h : Journal) (p : Piece) → Keeps first c h → hand_of h ≡ p ∷ [] → c.machine.hand ≡ None → ⊥
hand_of_one first c h p k is none = let x = sym (hand_empty first c h k none) ∙ is in absurd cc

due_by : (m : Motion) (p : Planned) → has_segment m p ≡ true → (is_going m ≡ true) ⊎ (is_stopping m ≡ true)
due_by motions.Idle p due = absurd cc
due_by motions.Run p due = inl refl
due_by motions.Holding p due = inr refl
due_by motions.Held p due = absurd cc
due_by motions.Jog p due = inl refl
due_by motions.Cancelling p due = inr refl
due_by motions.Stopping p due = inr refl
due_by motions.Alarm p due = absurd cc

-- the machine runs, or slows down to a stop, where a segment is due
pub due_moves : {N : ℕ} (first : Opening) (c : Board N) (h : Journal) → Keeps first c h → is_due first h ≡ true → (is_going (motion_of first h) ≡ true) ⊎ (is_stopping (motion_of first h) ≡ true)
due_moves first c h k due = due_by (motion_of first h) (plan_of h) due

-- where no piece is in hand, a segment is due
pub due_now : {N : ℕ} (first : Opening) (c : Board N) (h : Journal) → Keeps first c h → HasPiece first h → c.machine.hand ≡ None → is_due first h ≡ true
due_now first c h k (inl some) none = absurd (some (hand_empty first c h k none))
due_now first c h k (inr due) none = due

-- ---- a soft limit

pub begins_by : (m : Motion) → is_halting m ≡ false → is_limited m ≡ false → begins_in m ≡ true
begins_by motions.Idle off none = refl
begins_by motions.Run off none = refl
begins_by motions.Jog off none = refl
begins_by m off none = absurd cc

-- a machine that is to be halted slows down for that, or stands in alarm
pub halts_by : {N : ℕ} (first : Opening) (c : Board N) (h : Journal) → Keeps first c h → halts_next (left_of first h) ≡ true → is_limited (motion_of first h) ≡ true
halts_by first c h k next = halts_limited first h k.conducted k.limited next

-- so none is to be where no soft limit stops it, and no line has raised an alarm
pub none_halts : {N : ℕ} (first : Opening) (c : Board N) (h : Journal) → Keeps first c h → is_limited (motion_of first h) ≡ false → halts_next (left_of first h) ≡ false
none_halts first c h k none = by_next (halts_next (left_of first h)) refl
  where
    by_next : (b : Bool) → halts_next (left_of first h) ≡ b → halts_next (left_of first h) ≡ false
    by_next true e = absurd (let f = sym none ∙ halts_by first c h k e in cc)
    by_next false e = e

pub calm_now : {N : ℕ} (first : Opening) (c : Board N) (h : Journal) → Keeps first c h → is_limited (motion_of first h) ≡ false → has_limited h ≡ false
calm_now first c h k none = unalarmed first h k.conducted k.limited none

-- and where a line was taken whole
pub calm_whole : {N : ℕ} (first : Opening) (c : Board N) (h : Journal) → Keeps first c h → whole_of h ≡ true → has_limited h ≡ false
calm_whole first c h k whole = by_alarm (has_limited h) refl
  where
    by_alarm : (b : Bool) → has_limited h ≡ b → has_limited h ≡ false
    by_alarm true one = absurd (let e = sym whole ∙ (alarm_limits first h k.conducted k.limited one).1 in cc)
    by_alarm false none = none

-- behind an alarm no try to publish is counted
pub few_tried : {N : ℕ} (first : Opening) (c : Board N) (h : Journal) → Keeps first c h → (hand_of h ≡ [] → ⊥) → has_limited h ≡ true → cond (is_counted first h) (tries_of first h + 1) (tries_of first h) ≤ 1
few_tried first c h k some one =
    let e = ap (λ b. cond b (tries_of first h + 1) (tries_of first h)) (uncounted first h (none_alarmed first h k.conducted one some)) in
    let t = k.tries one in
    omega (arith, e, t)

-- where no block stands nothing is left to run
pub at_rest : {N : ℕ} (first : Opening) (c : Board N) (h : Journal) → Keeps first c h → (plan_of h).blocks ≡ [] → IsAtRest (plan_of h)
at_rest first c h k none = (rests_behind first.blocks fresh_plan (plan_of h) (actions_of h) (planned_of h) fresh_starts (run_is first h k.conducted) none).rest

pub few_ticks : {N : ℕ} (first : Opening) (c : Board N) (h : Journal) → Keeps first c h → c.machine.given < 2 ^ 62
few_ticks first c h k = subst (λ n. n < 2 ^ 62) (sym k.machine.given_is) (few_given first h k.conducted)

pub in_range : {N : ℕ} (first : Opening) (c : Board N) (h : Journal) → Keeps first c h → IsOverrides c.machine.overrides
in_range first c h k =
    subst IsOverrides k.machine.same (reached_from first.blocks fresh_plan (plan_of h) (actions_of h) (planned_of h) fresh_starts (run_is first h k.conducted)).overrides

pub same_overrides : {N : ℕ} (first : Opening) (c : Board N) (h : Journal) → Keeps first c h → c.machine.plan.overrides ≡ c.machine.overrides
same_overrides first c h k = ap (λ (p : Planned). p.overrides) k.machine.plan_is ∙ k.machine.same

-- the piece in hand may be published
pub may_publish : {N : ℕ} (first : Opening) (c : Board N) (h : Journal) (p : Piece) → Keeps first c h → hand_of h ≡ p ∷ [] → MayPublish (port_log h) p
may_publish first c h p k is =
    let next : IsInHand p h = is ∙ ap (λ (ps : List Piece). p ∷ drop 1 ps) (sym is) in
    may_publish_next first h p k.conducted next

pub may_publish_now : {N : ℕ} (first : Opening) (c : Board N) (h : Journal) (p : Piece) → Keeps first c h → hand_of h ≡ p ∷ [] → MayPublishNow first p h
may_publish_now first c h p k is = record { conducted = k.conducted; hand = is ∙ ap (λ (ps : List Piece). p ∷ drop 1 ps) (sym is) }

-- the reply that is next may be answered
pub may_answer : {N : ℕ} (first : Opening) (c : Board N) (h : Journal) (r : Reply) → Keeps first c h → IsNextTask first (tell r) h → IsReply r → MayTellNow first r h
may_answer first c h r k next text = record { conducted = k.conducted; next = inr next; text = text }

-- a reply that is no report is answered as such
pub said_plain : (r : Reply) → is_report r ≡ false → said r ≡ answered r
said_plain (replies.Report r) none = absurd cc
said_plain r none = refl
