-- What a run leaves in its sinks, how it ends, and what the bytes that were scanned ask for.
use Rattle.std.specs.Prelude.{ℕ, ◌+◌, Bool, List, take}
use Rattle.std.specs.List.{count_by, list_any}
use Rattle.outside.specs.Causes.{SinkState}
use Rattle.host_journal.specs.Jobs.{cancels_in, served_in}
use Rattle.run_rules.specs.Lines.{lines_of}
use Rattle.stream_host.specs.Ran.{HostEnd}
use Rattle.run_law.specs.declared.RunEnd.{RunEnd}
use Rattle.run_law.specs.Flags.{is_hold, is_slow, is_change}

-- what the console and the steps hold
pub record Sinks : Type 0 where
  pub console : SinkState
  pub steps : SinkState

-- how a run ends: what its host says, and whether a write of the steps failed
abbrev pub run_end : HostEnd → Bool → RunEnd
run_end host failed = record {
  stop = host.stop;
  answered = host.answered;
  errors = host.errors;
  source_failed = host.source_failed;
  console_failed = host.console_failed;
  steps_failed = failed;
}

-- a hold is among the realtime bytes that are raised of what was scanned
abbrev pub asks_hold : List ℕ → Bool
asks_hold scanned = list_any is_hold (served_in scanned)

-- a hold is, or a jog's cancel: each may slow the machine down
abbrev pub asks_slow : List ℕ → Bool
asks_slow scanned = list_any is_slow (served_in scanned)

-- how many of these there are: at most as often jogs are cut
abbrev pub slows_in : List ℕ → ℕ
slows_in scanned = count_by is_slow (served_in scanned)

-- How many there are, if each cancel waits for the answers to the lines before its own, and so many lines are answered or forgotten:
-- each hold, and the cancels of these lines and of the one behind them.
abbrev pub slows_behind : (over : ℕ) → List ℕ → ℕ
slows_behind over scanned = count_by is_hold (served_in scanned) + cancels_in (take (over + 1) (lines_of scanned))

-- a change of overrides is
abbrev pub asks_change : List ℕ → Bool
asks_change scanned = list_any is_change (served_in scanned)
