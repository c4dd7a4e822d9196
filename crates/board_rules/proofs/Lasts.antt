-- What there is to do of a line ends with a reply, and the end comes only where the run is being closed.
use Rattle.std.proofs.Common.{◌≡◌, ℕ, Bool, true, false, ◌&&◌, List, [], ◌∷◌, drop, sym, refl, ap, ◌∙◌, subst}
use Rattle.status_report.specs.declared.Reply.{Reply}
use Rattle.status_report.specs.declared.Reply.TheVariants as replies
use Rattle.step_line.specs.Asking.{Asked}
use Rattle.planner_runs.specs.declared.Action.{Action}
use Rattle.planner_runs.specs.declared.Action.TheVariants.{Add, Mark, Rest}
use Rattle.board_journal.specs.Openings.{Opening}
use Rattle.run_rules.specs.Work.{Task, Outcome, telling}
use Rattle.run_rules.specs.Work.Task.{ask, tell, pause, normal, finish}
use Rattle.run_rules.specs.Outcomes.{Before, Becomes}
use Rattle.board_journal.specs.Ports.PortStep.{answered}
use Rattle.board_journal.specs.Steps.{Journal, open_of, left_of, left_by, without_asks, closed_tells}
use Rattle.board_journal.specs.Steps.Step.{at_port, began, did, made_end, evened, paused, cut, halted, closing}
use Rattle.board_rules.proofs.Beginning.{caused, of_begun}
use Rattle.board_rules.specs.Conduct.{Conducted, IsNextTask}
use Rattle.board_rules.proofs.Closing.{At, going, to_finish, to_tell, over, phase_is}
use Rattle.board_rules.proofs.Tasks.{none_next, head_is, rest_is, none_closed}
use Rattle.run_rules.proofs.Items.{PassesTasks, holds_of_lines}
use Rattle.board_rules.proofs.Truths.{both_left, both_right}

-- ---- tasks that end with a reply

abbrev some_left : List Task → Bool
some_left [] = false
some_left (t ∷ ts) = true

-- behind each thing that is asked for, each pause, overrides that are set, and a halt comes something, and no end of the run is
-- among them
abbrev pub ends_told : List Task → Bool
ends_told [] = true
ends_told (tell r ∷ ts) = ends_told ts
ends_told (finish ∷ ts) = false
ends_told (_ ∷ ts) = some_left ts && ends_told ts

record EndsTold (ts : List Task) : Type 0 where
  some : some_left ts ≡ true
  told : ends_told ts ≡ true

both : (a b : Bool) → a ≡ true → b ≡ true → (a && b) ≡ true
both true b ea eb = eb
both false b ea eb = absurd cc

asked_first : (a : Asked) (ts : List Task) → EndsTold ts → EndsTold (ask a ∷ ts)
asked_first a ts e = record { some = refl; told = both (some_left ts) (ends_told ts) e.some e.told }

pause_first : (ts : List Task) → EndsTold ts → EndsTold (pause ∷ ts)
pause_first ts e = record { some = refl; told = both (some_left ts) (ends_told ts) e.some e.told }

normal_first : (ts : List Task) → EndsTold ts → EndsTold (normal ∷ ts)
normal_first ts e = record { some = refl; told = both (some_left ts) (ends_told ts) e.some e.told }

told_first : (r : Reply) (ts : List Task) → EndsTold ts → EndsTold (tell r ∷ ts)
told_first r ts e = record { some = refl; told = e.told }

line_told : (runs : Bool) (b : Before) (kept : List ℕ) (o : Outcome) → Becomes runs b kept o → ends_told o.work ≡ true
line_told runs b kept o is =
    let each : PassesTasks EndsTold = record { asks = λ a ts is e. asked_first a ts e; pauses = pause_first; normals = normal_first; ends = λ ts e. told_first _ ts e } in
    (holds_of_lines EndsTold each told_first (λ n. record { some = refl; told = refl }) (record { some = refl; told = refl }) (record { some = refl; told = refl }) runs b kept o is).told

-- ---- what a board has left to do

told_behind : (ts : List Task) → ends_told ts ≡ true → ends_told (drop 1 ts) ≡ true
told_behind [] e = refl
told_behind (tell r ∷ ts) e = e
told_behind (finish ∷ ts) e = absurd cc
told_behind (_ ∷ ts) e = both_right (some_left ts) (ends_told ts) e

by_action : (a : Action) (ts : List Task) → ends_told ts ≡ true → ends_told (left_by a ts) ≡ true
by_action (Add m) ts e = told_behind ts e
by_action (Mark m) ts e = told_behind ts e
by_action Rest ts e = told_behind ts e
by_action _ ts e = e

-- a cut drops no reply
some_kept : (ts : List Task) → ends_told ts ≡ true → some_left ts ≡ true → some_left (without_asks ts) ≡ true
some_kept [] e some = absurd cc
some_kept (ask a ∷ ts) e some = some_kept ts (both_right (some_left ts) (ends_told ts) e) (both_left (some_left ts) (ends_told ts) e)
some_kept (_ ∷ ts) e some = refl

told_kept : (ts : List Task) → ends_told ts ≡ true → ends_told (without_asks ts) ≡ true
told_kept [] e = refl
told_kept (ask a ∷ ts) e = told_kept ts (both_right (some_left ts) (ends_told ts) e)
told_kept (tell r ∷ ts) e = told_kept ts e
told_kept (finish ∷ ts) e = absurd cc
told_kept (_ ∷ ts) e =
    let told = both_right (some_left ts) (ends_told ts) e in
    both (some_left (without_asks ts)) (ends_told (without_asks ts)) (some_kept ts told (both_left (some_left ts) (ends_told ts) e)) (told_kept ts told)

told_alone : (rs : List Reply) → ends_told (telling rs) ≡ true
told_alone [] = refl
told_alone (r ∷ rs) = told_alone rs

-- as long as the run goes on
told_is : (first : Opening) (h : Journal) → Conducted first h → closed_tells h ≡ [] → ends_told (left_of first h) ≡ true
told_is first [] c on = told_alone first.tells
told_is first (at_port (answered r) ∷ h) c on = told_behind (left_of first h) (told_is first h c.1 on)
told_is first (began o ∷ h) c on = of_begun first h o (λ (x : Outcome). ends_told x.work ≡ true) c.0 refl (line_told true (caused first h) (open_of h))
told_is first (did a ps ∷ h) c on = by_action a (left_of first h) (told_is first h c.1 on)
told_is first (made_end ∷ h) c on = absurd (c.0.closes on)
told_is first (evened ∷ h) c on = told_behind (left_of first h) (told_is first h c.1 on)
told_is first (paused ∷ h) c on = told_behind (left_of first h) (told_is first h c.1 on)
told_is first (cut k ∷ h) c on = told_kept (left_of first h) (told_is first h c.1 on)
told_is first (halted ∷ h) c on = told_behind (left_of first h) (told_is first h c.1 on)
told_is first (closing ∷ h) c on = absurd (none_closed (closed_tells h) on)
told_is first (_ ∷ h) c on = told_is first h c.1 on

-- it is no reply, nor the end
abbrev is_for_machine : Task → Bool
is_for_machine (tell r) = false
is_for_machine finish = false
is_for_machine _ = true

some_there : (t : Task) (ts : List Task) → is_for_machine t ≡ true → ends_told (t ∷ ts) ≡ true → some_left ts ≡ true
some_there (tell r) ts is told = absurd cc
some_there finish ts is told = absurd cc
some_there _ ts is told = both_left (some_left ts) (ends_told ts) told

some_behind : (ts : List Task) (t : Task) → is_for_machine t ≡ true → ts ≡ t ∷ drop 1 ts → ends_told ts ≡ true → drop 1 ts ≡ [] → ⊥
some_behind ts t is next told none =
    let e : some_left (drop 1 ts) ≡ true = some_there t (drop 1 ts) is (subst (λ us. ends_told us ≡ true) next told) in
    absurd (let f = sym e ∙ ap some_left none in cc)

behind_machine : (first : Opening) (h : Journal) (t : Task) → Conducted first h → is_for_machine t ≡ true → IsNextTask first t h → drop 1 (left_of first h) ≡ [] → ⊥
behind_machine first h t c is next = by_phase (phase_is first h c)
  where
    by_phase : At first h → drop 1 (left_of first h) ≡ [] → ⊥
    by_phase (going on g) = some_behind (left_of first h) t is next (told_is first h c on)
    by_phase (to_finish e left w g) = λ none. absurd (let same = sym is ∙ ap is_for_machine (head_is (left_of first h) t finish _ next left) in cc)
    by_phase (to_tell e left w p still g k) = λ none. absurd (let same = sym is ∙ ap is_for_machine (head_is (left_of first h) t (tell replies.Bye) _ next left) in cc)
    by_phase (over e left w p still d g k) = λ none. none_next (left_of first h) t left next

-- something is left behind what is asked for, and behind a pause
pub behind_asked : (first : Opening) (h : Journal) (a : Asked) → Conducted first h → IsNextTask first (ask a) h → drop 1 (left_of first h) ≡ [] → ⊥
behind_asked first h a c next = behind_machine first h (ask a) c refl next

not_end : (ts : List Task) → ts ≡ finish ∷ drop 1 ts → ends_told ts ≡ true → ⊥
not_end ts next told = absurd (let e = subst (λ us. ends_told us ≡ true) next told in cc)

-- the end comes where the run is being closed, and Bye behind it
pub record IsClosing (first : Opening) (h : Journal) : Type 0 where
  pub closes : closed_tells h ≡ [] → ⊥
  pub later : drop 1 (left_of first h) ≡ tell replies.Bye ∷ []

pub closes_at_end : (first : Opening) (h : Journal) → Conducted first h → IsNextTask first finish h → IsClosing first h
closes_at_end first h c next = by_phase (phase_is first h c)
  where
    by_phase : At first h → IsClosing first h
    by_phase (going on is) = absurd (not_end (left_of first h) next (told_is first h c on))
    by_phase (to_finish e left w is) = record { closes = λ none. absurd (let f = sym none ∙ e in cc); later = rest_is (left_of first h) finish (tell replies.Bye ∷ []) left }
    by_phase (to_tell e left w p still is k) = absurd (let same = head_is (left_of first h) finish (tell replies.Bye) _ next left in cc)
    by_phase (over e left w p still d is k) = absurd (none_next (left_of first h) finish left next)
