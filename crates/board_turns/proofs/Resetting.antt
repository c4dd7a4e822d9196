-- When a reset that is asked for may be worked, and what of a line and of a run is not begun before.
use Rattle.std.proofs.Common.{ℕ, ◌≡◌, Bool, true, false, ◌||◌, List, [], ◌∷◌, ◌++◌, refl, sym, ap, ◌∙◌}
use Rattle.run_rules.specs.Work.{Task}
use Rattle.run_rules.specs.Work.Task.{ask, tell, pause, normal, finish, halt}
use Rattle.status_report.specs.declared.Reply.{Reply}
use Rattle.status_report.specs.declared.Reply.TheVariants.{Bye}
use Rattle.board_journal.specs.Openings.{Opening}
use Rattle.board_journal.specs.Steps.{Journal, closed_tells, has_limited}
use Rattle.board_journal.specs.Steps.Step.{closing}
use Rattle.board_rules.specs.Turns.{awaits_motion, owes_report, tells_next}
use Rattle.board_epochs.specs.Resets.{MayReset, has_reset, drops_resets, is_closing}
use Rattle.board_epochs.proofs.Prompting.{going, none_told, undropped}
use Rattle.board_turns.specs.declared.board.Board.{Board}
use Rattle.board_turns.specs.Boards.{Keeps, EpochFits, GoingFits, GoingBetween}
use Rattle.board_turns.proofs.Turns.{begins_turn}

-- ---- whether a reset is dropped

none_closed : {A : Type 0} (rs : List Reply) → rs ++ Bye ∷ [] ≡ [] → A
none_closed [] e = absurd cc
none_closed (r ∷ rs) e = absurd cc

never_closing : (h : Journal) → closed_tells h ≡ [] → is_closing h ≡ false
never_closing [] none = refl
never_closing (closing ∷ h) none = none_closed (closed_tells h) none
never_closing (_ ∷ h) none = never_closing h none

closing_now : (h : Journal) (b : Bool) → is_closing h ≡ b → closed_tells h ≡ Bye ∷ [] → is_closing h ≡ true
closing_now h true is closed = is
closing_now h false is closed = absurd (let e = sym closed ∙ none_told h is in cc)

-- the run is being closed, as the board has it
closing_is : {N : ℕ} (first : Opening) (c : Board N) (h : Journal) → Keeps first c h → (b : Bool) → c.closing ≡ b → is_closing h ≡ b
closing_is first c h k true is = closing_now h (is_closing h) refl (k.closed is)
closing_is first c h k false is = never_closing h (k.going is)

either : (a b c d : Bool) → c ≡ a → d ≡ b → (a || b) ≡ (d || c)
either true true c d e f = sym (ap (λ x. x || c) f)
either true false c d e f = sym (ap (λ x. x || c) f ∙ e)
either false true c d e f = sym (ap (λ x. x || c) f)
either false false c d e f = sym (ap (λ x. x || c) f ∙ e)

pub drops_by : {N : ℕ} (first : Opening) (c : Board N) (h : Journal) → Keeps first c h → (c.closing || c.alarmed) ≡ drops_resets h
drops_by first c h k = either c.closing c.alarmed (is_closing h) (has_limited h) (closing_is first c h k c.closing refl) (sym k.alarmed_is)

or_left : (a b : Bool) → (a || b) ≡ false → a ≡ false
or_left true b none = absurd cc
or_left false b none = refl

-- none is asked for where a line has raised the alarm
unreset_at : {N : ℕ} (first : Opening) (c : Board N) (h : Journal) → Keeps first c h → has_limited h ≡ true → (b : Bool) → has_reset h ≡ b → has_reset h ≡ false
unreset_at first c h k one true is = absurd (let e = sym one ∙ or_left _ _ (undropped first h k.prompt is) in cc)
unreset_at first c h k one false is = is

pub unreset_limited : {N : ℕ} (first : Opening) (c : Board N) (h : Journal) → Keeps first c h → has_limited h ≡ true → has_reset h ≡ false
unreset_limited first c h k one = unreset_at first c h k one (has_reset h) refl

-- ---- where a turn begins

pub begins_going : {N : ℕ} (first : Opening) (c : Board N) (h : Journal) → EpochFits first c h → (MayReset first h → ⊥) → GoingFits first c h
begins_going first c h f unready = record { keeps = begins_turn first c h f.keeps unready; rounds = f.rounds; flags = f.flags; still = f.still }

-- none is asked for where no report is owed, and no reply is next
pub unreset_between : {N : ℕ} (first : Opening) (c : Board N) (h : Journal) → Keeps first c h → GoingBetween h → owes_report h ≡ false → tells_next c.lines.left ≡ false → c.resetting ≡ false
unreset_between first c h k between unowed none = by_field c.resetting refl
  where
    by_field : (b : Bool) → c.resetting ≡ b → c.resetting ≡ false
    by_field true is = absurd (k.unready (record { asked = sym k.resetting_is ∙ is; between = between; unowed = unowed; told = ap tells_next (sym k.lines.left_is) ∙ none }))
    by_field false is = is

-- what waits for the motion is no reply
pub awaits_no_reply : (left : List Task) → awaits_motion left ≡ true → tells_next left ≡ false
awaits_no_reply (tell r ∷ tasks) is = absurd cc
awaits_no_reply (ask a ∷ tasks) is = refl
awaits_no_reply (pause ∷ tasks) is = refl
awaits_no_reply (normal ∷ tasks) is = refl
awaits_no_reply (finish ∷ tasks) is = refl
awaits_no_reply (halt ∷ tasks) is = refl
awaits_no_reply [] is = refl
