-- A machine that stands, or will be waited for, where nothing has moved.
use Rattle.std.proofs.Common.{◌≡◌, ℕ, ◌⊎◌, inl, inr, List, [], ◌∷◌, drop, true, false, Bool, cond, ◌||◌, sym, refl, ap, ◌∙◌, subst}
use Rattle.line_words.proofs.Tests.{or_false}
use Rattle.feed_hold.specs.declared.Motion.{Motion}
use Rattle.feed_hold.specs.declared.Motion.TheVariants as motions
use Rattle.feed_hold.specs.Motions.{Call}
use Rattle.feed_hold.specs.Motions.Call.{on_exec, on_start}
use Rattle.feed_hold.proofs.Reaching.{StaysOrReaches, reached}
use Rattle.step_line.specs.declared.Piece.{Piece}
use Rattle.step_line.specs.Asking.Asked.{a_move, a_mark, a_rest}
use Rattle.planner_runs.specs.declared.Action.{Action}
use Rattle.planner_runs.specs.declared.Action.TheVariants.{Add, Take, Override, Mark, Rest, Clear, Reset}
use Rattle.board_journal.specs.Openings.{Opening}
use Rattle.run_rules.specs.Work.{Task, Outcome, asks_move, has_moves}
use Rattle.run_rules.specs.Work.Task.{ask, tell, pause, normal, halt}
use Rattle.run_rules.specs.Reports.{moves}
use Rattle.board_journal.specs.Ports.PortStep.{answered}
use Rattle.board_journal.specs.Steps.{Step, Journal, plan_of, motion_of, left_of, before_of, closed_tells, plan_after}
use Rattle.board_journal.specs.Steps.Step.{at_port, began, did, made_end, evened, paused, became, cut, halted, closing, turned}
use Rattle.board_rules.specs.Turns.{has_blocks, stands_still}
use Rattle.board_rules.specs.Conduct.{Conducted, Gives, IsNextTask, MayDo, MayHappen, MayRest, MayOpen}
use Rattle.board_rules.specs.Whole.{has_work, comes_to_rest, has_any_moved}
use Rattle.board_rules.proofs.Opening.{no_moves_told}
use Rattle.board_rules.proofs.Tasks.{none_taken, none_closed}
use Rattle.board_rules.proofs.Beginning.{all_counted}
use Rattle.board_rules.proofs.Jogging.{cancel_is_jog, jog_rests}
use Rattle.board_rules.proofs.Works.{begun_rests}

abbrev pub stands : Motion → Bool
stands motions.Idle = true
stands motions.Held = true
stands motions.Alarm = true
stands m = false

-- no block stands, the machine stands, is held, or is in alarm, and no move is left to ask
pub record Calm (first : Opening) (h : Journal) : Type 0 where
  pub blocks : (plan_of h).blocks ≡ []
  pub still : stands (motion_of first h) ≡ true
  pub moves : has_moves (left_of first h) ≡ false

stands_so : (m : Motion) → stands_still m ≡ true → stands m ≡ true
stands_so motions.Idle is = refl
stands_so motions.Alarm is = refl
stands_so m is = absurd cc

pub opens_calm : (first : Opening) → MayOpen first → Calm first []
opens_calm first opens = record { blocks = refl; still = stands_so first.motion opens.stands; moves = no_moves_told first.tells }

pub moved_on : {A : Type 0} (was now : Motion) → stands was ≡ true → was ≡ now → stands now ≡ false → A
moved_on was now still is goes = absurd (let e = sym still ∙ ap stands is ∙ goes in cc)

no_queue : {A : Type 0} (h : Journal) → (plan_of h).blocks ≡ [] → has_blocks (plan_of h).blocks ≡ true → A
no_queue h none some = absurd (let e = sym some ∙ ap has_blocks none in cc)

-- it goes on only where blocks are queued
pub calm_motion : (first : Opening) (h : Journal) (call : Call) (m : Motion) → MayHappen first call h → (plan_of h).blocks ≡ [] → stands (motion_of first h) ≡ true → StaysOrReaches m call (motion_of first h) → stands m ≡ true
calm_motion first h call m may none still (inl same) = ap stands same ∙ still
calm_motion first h call motions.Run may none still (inr (inl (was, (word, is, asked, unheld)))) =
    let obeys : MayHappen first (on_exec word true) h = subst (λ (x : Call). MayHappen first x h) is may in no_queue h none (sym obeys.blocks)
calm_motion first h call motions.Run may none still (inr (inr (was, is))) =
    let begins : MayHappen first (on_start false) h = subst (λ (x : Call). MayHappen first x h) is may in no_queue h none begins.blocks
calm_motion first h call motions.Holding may none still (inr how) = moved_on (motion_of first h) motions.Run still how.0 refl
calm_motion first h call motions.Jog may none still (inr (was, is)) =
    let begins : MayHappen first (on_start true) h = subst (λ (x : Call). MayHappen first x h) is may in no_queue h none begins.blocks
calm_motion first h call motions.Cancelling may none still (inr how) = moved_on (motion_of first h) motions.Jog still how.0 refl
calm_motion first h call motions.Stopping may none still (inr how) = moved_on (motion_of first h) motions.Run still how.0 refl
calm_motion first h call _ may none still (inr how) = refl

tail_moves : (ts : List Task) → has_moves ts ≡ false → has_moves (drop 1 ts) ≡ false
tail_moves [] none = none
tail_moves (t ∷ ts) none = (or_false (asks_move t) (has_moves ts) none).1

pub calm_tail : (first : Opening) (h : Journal) (s : Step) → (plan_of (s ∷ h)).blocks ≡ (plan_of h).blocks → motion_of first (s ∷ h) ≡ motion_of first h → left_of first (s ∷ h) ≡ drop 1 (left_of first h) → Calm first h → Calm first (s ∷ h)
calm_tail first h s blocks still left calm = record { blocks = blocks ∙ calm.blocks; still = ap stands still ∙ calm.still; moves = ap has_moves left ∙ tail_moves (left_of first h) calm.moves }

pub calm_same : (first : Opening) (h : Journal) (s : Step) → (plan_of (s ∷ h)).blocks ≡ (plan_of h).blocks → motion_of first (s ∷ h) ≡ motion_of first h → left_of first (s ∷ h) ≡ left_of first h → Calm first h → Calm first (s ∷ h)
calm_same first h s blocks still left calm = record { blocks = blocks ∙ calm.blocks; still = ap stands still ∙ calm.still; moves = ap has_moves left ∙ calm.moves }

calm_did : (first : Opening) (h : Journal) (a : Action) (ps : List Piece) → MayDo first a h → Gives first.blocks a ps (plan_of h) → Calm first h → Calm first (did a ps ∷ h)
calm_did first h (Add m) ps may gives calm = absurd (let e = sym (ap has_moves may) ∙ calm.moves in cc)
calm_did first h (Mark m) ps may gives calm = calm_tail first h (did (Mark m) ps) refl refl refl calm
calm_did first h Rest ps may gives calm = calm_tail first h (did Rest ps) refl refl refl calm
calm_did first h (Take mode) ps may gives calm = absurd (none_taken first.blocks (plan_of h) mode ps (plan_after (Take mode) ps (plan_of h)) calm.blocks gives)
calm_did first h (Override o) ps may gives calm = calm_same first h (did (Override o) ps) refl refl refl calm
calm_did first h Clear ps may gives calm = absurd may
calm_did first h Reset ps may gives calm = absurd may

-- a line that is begun asks for no move
abbrev pub AsksNoMove : Step → Type 0
AsksNoMove (began o) = has_moves o.work ≡ false
AsksNoMove s = Unit {0}

pub calm_on : (first : Opening) (s : Step) (h : Journal) → Conducted first (s ∷ h) → AsksNoMove s → Calm first h → Calm first (s ∷ h)
calm_on first (at_port (answered r)) h c none calm = calm_tail first h (at_port (answered r)) refl refl refl calm
calm_on first (at_port e) h c none calm = calm_same first h (at_port e) refl refl refl calm
calm_on first (began o) h c none calm = record { blocks = calm.blocks; still = calm.still; moves = none }
calm_on first (did a ps) h c none calm = calm_did first h a ps c.0.0 c.0.1 calm
calm_on first made_end h c none calm = calm_tail first h made_end refl refl refl calm
calm_on first evened h c none calm = calm_tail first h evened refl refl refl calm
calm_on first paused h c none calm = record { blocks = calm.blocks; still = refl; moves = tail_moves (left_of first h) calm.moves }
calm_on first (became call m) h c none calm =
    record { blocks = calm.blocks; still = calm_motion first h call m c.0.1 calm.blocks calm.still (reached call (motion_of first h) m c.0.0); moves = calm.moves }
calm_on first (cut k) h c none calm = moved_on (motion_of first h) motions.Cancelling calm.still c.0.cancelled refl
calm_on first halted h c none calm = record { blocks = refl; still = calm.still; moves = tail_moves (left_of first h) calm.moves }
calm_on first closing h c none calm = record { blocks = calm.blocks; still = calm.still; moves = refl }
calm_on first (turned t) h c none calm = calm_same first h (turned t) refl refl refl calm

-- ---- the machine comes to rest where a line settles

no_work_moves : (ts : List Task) → has_work ts ≡ false → has_moves ts ≡ false
no_work_moves [] none = refl
no_work_moves (ask (a_move m) ∷ ts) none = absurd cc
no_work_moves (ask (a_mark m) ∷ ts) none = absurd cc
no_work_moves (_ ∷ ts) none = no_work_moves ts none

-- it will be waited for, or it stands
abbrev pub Rested : Opening → Journal → Type 0
Rested first h = (comes_to_rest (left_of first h) ≡ true) ⊎ Calm first h

pub rest_later : (first : Opening) (h : Journal) (s : Step) → comes_to_rest (left_of first (s ∷ h)) ≡ comes_to_rest (left_of first h) → (Calm first h → Calm first (s ∷ h)) → Rested first h → Rested first (s ∷ h)
rest_later first h s left calm (inl will) = inl (left ∙ will)
rest_later first h s left calm (inr is) = inr (calm is)

-- another task is next
pub rest_behind : (first : Opening) (h : Journal) (s : Step) (t : Task) → IsNextTask first t h → comes_to_rest (t ∷ drop 1 (left_of first h)) ≡ comes_to_rest (drop 1 (left_of first h)) → left_of first (s ∷ h) ≡ drop 1 (left_of first h)
    → (Calm first h → Calm first (s ∷ h)) → Rested first h → Rested first (s ∷ h)
rest_behind first h s t next other left calm rested = rest_later first h s (ap comes_to_rest left ∙ sym other ∙ sym (ap comes_to_rest next)) calm rested

at_rest : (first : Opening) (h : Journal) (ps : List Piece) → MayRest first (ask a_rest) h → (b : Bool) → has_work (drop 1 (left_of first h)) ≡ b → (Calm first h → Calm first (did Rest ps ∷ h)) → Rested first h → Rested first (did Rest ps ∷ h)
at_rest first h ps may false is calm rested =
    inr (record { blocks = may.drained.plan.blocks; still = ap stands may.stands; moves = no_work_moves (drop 1 (left_of first h)) is })
at_rest first h ps may true is calm (inl will) = inl (let e = sym (ap comes_to_rest may.next) ∙ will in rw is at e)
at_rest first h ps may true is calm (inr here) = inr (calm here)

pub rested_did : (first : Opening) (h : Journal) (a : Action) (ps : List Piece) → MayDo first a h → (Calm first h → Calm first (did a ps ∷ h)) → Rested first h → Rested first (did a ps ∷ h)
rested_did first h (Add m) ps may calm rested = rest_behind first h (did (Add m) ps) (ask (a_move m)) may refl refl calm rested
rested_did first h (Mark m) ps may calm rested = rest_behind first h (did (Mark m) ps) (ask (a_mark m)) may.next refl refl calm rested
rested_did first h Rest ps may calm rested = at_rest first h ps may (has_work (drop 1 (left_of first h))) refl calm rested
rested_did first h (Take mode) ps may calm rested = rest_later first h (did (Take mode) ps) refl calm rested
rested_did first h (Override o) ps may calm rested = rest_later first h (did (Override o) ps) refl calm rested
rested_did first h Clear ps may calm rested = absurd may
rested_did first h Reset ps may calm rested = absurd may

-- no jog is cut where the machine stands, or will be waited for
pub not_cut : {A : Type 0} (first : Opening) (h : Journal) (k : ℕ) → Conducted first (cut k ∷ h) → Rested first h → A
not_cut first h k c (inl will) = absurd (let e = sym (jog_rests first h c.1 (cancel_is_jog first h c.1 c.0.cancelled)) ∙ will in cc)
not_cut first h k c (inr calm) = moved_on (motion_of first h) motions.Cancelling calm.still c.0.cancelled refl

-- where something moved before, or not
pub rested_began : (first : Opening) (h : Journal) (o : Outcome) → Conducted first (began o ∷ h) → (moved s m : Bool) → o.settles ≡ s → has_moves o.work ≡ m
    → cond s false (m || moved) ≡ false → (moved ≡ false → Rested first h) → Rested first (began o ∷ h)
rested_began first h o c moved true m settles moves still rested = inl ((begun_rests first h o c.0).settles settles)
rested_began first h o c moved false true settles moves still rested = absurd cc
rested_began first h o c moved false false settles moves still rested = by_rest (rested still)
  where
    by_rest : Rested first h → Rested first (began o ∷ h)
    by_rest (inl will) = absurd (let e = sym (ap comes_to_rest c.0.free) ∙ will in cc)
    by_rest (inr calm) = inr (calm_on first (began o) h c moves calm)

pub rested_is : (first : Opening) (h : Journal) → Conducted first h → closed_tells h ≡ [] → has_any_moved (before_of first h) ≡ false → Rested first h
rested_is first [] c going still = inr (opens_calm first c)
rested_is first (at_port (answered r) ∷ h) c going still =
    rest_behind first h (at_port (answered r)) (tell r) c.0.next refl refl (calm_on first (at_port (answered r)) h c tt) (rested_is first h c.1 going still)
rested_is first (at_port e ∷ h) c going still = rest_later first h (at_port e) refl (calm_on first (at_port e) h c tt) (rested_is first h c.1 going still)
rested_is first (began o ∷ h) c going still =
    rested_began first h o c (has_any_moved (before_of first h)) o.settles (has_moves o.work) refl refl (all_counted first h o c.0 still)
    (λ (before : has_any_moved (before_of first h) ≡ false). rested_is first h c.1 going before)
rested_is first (did a ps ∷ h) c going still = rested_did first h a ps c.0.0 (calm_on first (did a ps) h c tt) (rested_is first h c.1 going still)
rested_is first (made_end ∷ h) c going still = absurd (c.0.closes going)
rested_is first (evened ∷ h) c going still = rest_behind first h evened normal c.0.rests.next refl refl (calm_on first evened h c tt) (rested_is first h c.1 going still)
rested_is first (paused ∷ h) c going still = rest_behind first h paused pause c.0.rests.next refl refl (calm_on first paused h c tt) (rested_is first h c.1 going still)
rested_is first (became call m ∷ h) c going still = rest_later first h (became call m) refl (calm_on first (became call m) h c tt) (rested_is first h c.1 going still)
rested_is first (cut k ∷ h) c going still = not_cut first h k c (rested_is first h c.1 going still)
rested_is first (halted ∷ h) c going still = rest_behind first h halted halt c.0.next refl refl (calm_on first halted h c tt) (rested_is first h c.1 going still)
rested_is first (closing ∷ h) c going still = absurd (none_closed (closed_tells h) going)
rested_is first (turned t ∷ h) c going still = rest_later first h (turned t) refl (calm_on first (turned t) h c tt) (rested_is first h c.1 going still)
