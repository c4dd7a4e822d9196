-- How a reset is asked for in an epoch, and how its work finds the board.
use Rattle.std.specs.Prelude.{◌≡◌, Bool, true, false, ◌&&◌, ◌||◌, not, [], ◌∷◌}
use Rattle.board_rules.specs.Conduct.{OwesNone}
use Rattle.board_journal.specs.Openings.{Opening}
use Rattle.board_journal.specs.Ports.{PortStep, asks_reset}
use Rattle.board_journal.specs.Ports.PortStep.{took_exec}
use Rattle.board_journal.specs.Steps.{Step, Journal, has_limited, left_of}
use Rattle.board_journal.specs.Steps.Step.{at_port, began, closing}
use Rattle.board_rules.specs.Turns.{this_turn, tells_next}

-- the run is being closed
abbrev pub is_closing : Journal → Bool
is_closing [] = false
is_closing (closing ∷ h) = true
is_closing (_ ∷ h) = is_closing h

-- A reset is dropped once a line has raised the alarm of a soft limit: while the machine stops for that, and behind the alarm. So it
-- is once the run is being closed.
abbrev pub drops_resets : Journal → Bool
drops_resets h = has_limited h || is_closing h

abbrev pub reset_at : PortStep → (drops was : Bool) → Bool
reset_at (took_exec word) drops was = asks_reset word && not drops || was
reset_at e drops was = was

-- a word that asks for a reset was taken in this epoch, and not dropped
abbrev pub has_reset : Journal → Bool
has_reset [] = false
has_reset (at_port e ∷ h) = reset_at e (drops_resets h) (has_reset h)
has_reset (_ ∷ h) = has_reset h

-- The work of a reset begins between two turns: it was asked for, a report that was asked for with it is answered, and no reply is
-- next. So a line that has told something is answered by then, and the epoch is greeted.
pub record MayReset (first : Opening) (h : Journal) : Type 0 where
  pub asked : has_reset h ≡ true
  pub between : this_turn h ≡ []
  pub unowed : OwesNone h
  pub told : tells_next (left_of first h) ≡ false

-- a line is begun, or the run is closed
abbrev pub goes_further : Step → Bool
goes_further (began o) = true
goes_further closing = true
goes_further _ = false

-- Once a reset is asked for no line is begun, and the run is not closed; and where its work may begin, nothing else is done.
pub record MayGoBefore (first : Opening) (s : Step) (h : Journal) : Type 0 where
  pub further : has_reset h ≡ true → goes_further s ≡ false
  pub waits : MayReset first h → ⊥

-- a board works a reset as soon as it may
abbrev pub IsPrompt : Opening → Journal → Type 0
IsPrompt first [] = Unit {0}
IsPrompt first (s ∷ h) = MayGoBefore first s h × IsPrompt first h
