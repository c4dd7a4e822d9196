-- How the epochs of a course are greeted.
use Rattle.std.specs.Prelude.{◌≡◌, List, [], ◌∷◌}
use Rattle.run_texts.specs.Courses.{Reset}
use Rattle.run_texts.specs.Fronts.{BeginsWith}
use Rattle.run_texts.specs.Told.{told_at_reset}
use Rattle.status_report.specs.declared.Reply.{Reply}
use Rattle.board_journal.specs.Openings.{up_to_banner}
use Rattle.board_epochs.specs.Greetings.{IsGreeted}
use Rattle.epoch_effects.specs.Effects.{EpochEffects}

-- The first is greeted so, and each other by what is told at the reset before it. What is answered in an epoch that a reset ends begins
-- with that, up to the banner; in the last one it does, or is a front of what greets. So no report comes before the banner of its epoch,
-- nor a report of the epoch before behind the reset.
abbrev pub AreGreeted : (greeting : List Reply) → List Reset → List EpochEffects → Type 0
AreGreeted greeting rs [] = ⊥
AreGreeted greeting [] (e ∷ es) = IsGreeted greeting e.answered × (es ≡ [])
AreGreeted greeting (r ∷ rs) (e ∷ es) = BeginsWith e.answered (up_to_banner greeting) × AreGreeted (told_at_reset r) rs es
