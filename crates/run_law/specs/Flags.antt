-- The realtime bytes that change how a machine moves, and what a board takes of those that a host raises.
use Rattle.std.specs.Prelude.{◌≡◌, ℕ, ◌≤◌, Bool, true, false, ◌||◌, nat_eq, List, Some}
use Rattle.std.specs.List.{count_by, list_any}
use Rattle.std.specs.declared.option.Option.{Option}
use Rattle.code_table.specs.Flags.{Flag, flag_of}
use Rattle.code_table.specs.Flags.Flag.{in_ovr}
use Rattle.code_table.specs.declared.flags.Ovr.{Ovr}
use Rattle.board_journal.specs.Ports.{BoardLog, cancel_words_in, has_held_in, has_slowed_in, has_changed_in, has_reset_in, reports_in}
use Rattle.feed_hold.specs.Motions.{hold_byte}
use Rattle.run_rules.specs.Reports.{is_query}
use Rattle.host_journal.specs.Jobs.{is_reset}
pub use Rattle.host_journal.specs.Jobs.{is_cancel}
use Rattle.run_law.specs.Changes.{words_in}

-- `!` holds the machine
abbrev pub is_hold : ℕ → Bool
is_hold b = nat_eq b hold_byte

-- it may slow the machine down, and so may a jog's cancel
abbrev pub is_slow : ℕ → Bool
is_slow b = is_hold b || is_cancel b

-- a flag that changes overrides
abbrev pub is_override : Option Flag → Bool
is_override (Some (in_ovr bit)) = true
is_override f = false

-- a byte that changes overrides
abbrev pub is_change : ℕ → Bool
is_change b = is_override (flag_of b)

-- What was taken of words of flags. Whether a word for a hold was taken; one for a hold or a jog's cancel, each of which may slow the
-- machine down; one that changes overrides; and one for a reset. The words that change overrides; how many words ask for a hold or a
-- cancel, and how many for a report.
pub record WordsTaken : Type 0 where
  pub held : Bool
  pub slowed : Bool
  pub changed : Bool
  pub reset : Bool
  pub changes : List Ovr
  pub cancels : ℕ
  pub asked : ℕ

-- by the log of a port
abbrev pub words_taken : BoardLog → WordsTaken
words_taken l = record {
  held = has_held_in l;
  slowed = has_slowed_in l;
  changed = has_changed_in l;
  reset = has_reset_in l;
  changes = words_in l;
  cancels = cancel_words_in l;
  asked = reports_in l;
}

-- Each was taken only if one of the bytes that were raised asks for it; and words that ask for a report, or for a hold or a cancel, at
-- most as many as bytes that do.
pub record AreTaken (raised : List ℕ) (w : WordsTaken) : Type 0 where
  pub held_by : w.held ≡ true → list_any is_hold raised ≡ true
  pub slowed_by : w.slowed ≡ true → list_any is_slow raised ≡ true
  pub changed_by : w.changed ≡ true → list_any is_change raised ≡ true
  pub reset_by : w.reset ≡ true → list_any is_reset raised ≡ true
  pub asked_by : w.asked ≤ count_by is_query raised
  pub cancels_by : w.cancels ≤ count_by is_slow raised
