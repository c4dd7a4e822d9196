-- What was taken of the words of flags in the epochs of a board, and what they have done.
use Rattle.std.specs.Prelude.{ℕ, cond, List, [], ◌∷◌, ◌++◌}
use Rattle.run_rules.specs.declared.State.{State}
use Rattle.run_texts.specs.Courses.{Passed}
use Rattle.step_line.specs.Logs.{NewestFirst}
use Rattle.board_rules.specs.Cuts.{has_halted}
use Rattle.board_journal.specs.Openings.{Opening}
use Rattle.board_journal.specs.Steps.{Journal, port_log, published_of, known_of, answered_of}
use Rattle.board_rules.specs.Turns.{is_limited}
use Rattle.board_epochs.specs.Epochs.{Closed, Epochs, opening_behind, ticks_made}
use Rattle.board_epochs.specs.Epochs.Epochs.{goes, resets}
use Rattle.epoch_courses.specs.Course.{passed_so_far, passed_at_reset, made_at_halt}
use Rattle.epoch_courses.specs.Drives.{is_pending, drives_in}
use Rattle.epoch_effects.specs.Effects.{EpochEffects, Stop}
use Rattle.epoch_effects.specs.Effects.Stop.{runs_on, is_halted, is_cut}
use Rattle.epoch_effects.specs.Words.{words_taken}

-- how the last part of an epoch goes on
abbrev pub stop_at : (made : ℕ) → Journal → Stop
stop_at made h = cond (is_pending made h) is_cut (cond (has_halted h) is_halted runs_on)

-- of an epoch of which so many ticks are made
abbrev pub effects_with : List Passed → (made : ℕ) → Opening → Journal → EpochEffects
effects_with passed made first h = record {
  passed = passed;
  drives = drives_in made first h;
  taken = words_taken (port_log h);
  first = first.state;
  place = first.place;
  locked = is_limited first.motion;
  stop = stop_at made h;
  pieces = published_of h;
  made = made;
  known = known_of h;
  answered = answered_of h;
}

-- one that goes on; and one that a reset ends
abbrev pub effects_so_far : (made : ℕ) → Opening → Journal → EpochEffects
effects_so_far made first h = effects_with (passed_so_far made first h) made first h

abbrev pub effects_at_reset : (made : ℕ) → Opening → Journal → EpochEffects
effects_at_reset made first h = effects_with (passed_at_reset made first h) made first h

abbrev pub closed_effects : (blocks : ℕ) → State → NewestFirst Closed → List EpochEffects
closed_effects blocks state [] = []
closed_effects blocks state (e ∷ es) = closed_effects blocks state es ++ effects_at_reset (made_at_halt (ticks_made es) e.work) (opening_behind blocks state es) e.journal ∷ []

-- epoch by epoch, of whose open one so many ticks are made
abbrev pub effects_of : (blocks : ℕ) → State → (made : ℕ) → Epochs → List EpochEffects
effects_of blocks state made (goes es h) = closed_effects blocks state es ++ effects_so_far made (opening_behind blocks state es) h ∷ []
effects_of blocks state made (resets es h w) = closed_effects blocks state es ++ effects_at_reset made (opening_behind blocks state es) h ∷ []
