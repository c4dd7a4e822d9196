-- What is known while a board tells a status report, and what its parts add.
use Rattle.std.specs.Prelude.{◌≡◌, ◌⊎◌, ℕ, ◌+◌, ◌≤◌, Bool, true, false, not, cond, nat_lt, List, [], ◌∷◌, ◌++◌, Some, None}
use Rattle.std.specs.List.{list_any, count_by}
use Rattle.std.specs.Option.{option_to_list}
use Rattle.std.specs.declared.option.Option.{Option}
use Rattle.code_table.specs.declared.flags.Exec.{Exec}
use Rattle.flight.specs.Places.{machine_from}
use Rattle.run_rules.specs.Reports.{Shows}
use Rattle.status_report.specs.declared.reports.Report.{Report}
use Rattle.status_report.specs.Reports.{HasWidths, IsReport}
use Rattle.units.specs.Truths.{one_if}
use Rattle.board_journal.specs.Openings.{Opening}
use Rattle.board_journal.specs.Ports.PortStep.{found_free}
use Rattle.board_journal.specs.Steps.{Step, Journal, published_of, known_of, plan_of, motion_of}
use Rattle.board_journal.specs.Steps.Step.{at_port}
use Rattle.board_rules.specs.Turns.{
  this_turn,
  publishing,
  passing,
  moving,
  ends_turn,
  found_none,
  lacks_reply_room,
  loads,
  has_blocks,
  is_going,
  is_due,
  flags_taken,
  unobeyed_of,
  owes_report,
  is_report_back,
  takes_changes,
  replans,
  tries_of,
}
use Rattle.board_rules.specs.Conduct.{IsDrained, IsStopped, AreWaiting, MayObey, IsRoom, feed_of, shown_as, ticks_given}
use Rattle.board_turns.specs.declared.board.Board.{Board}
use Rattle.board_turns.specs.Boards.{NoneWaits, IsAsked, tries_ahead}
pub use Rattle.board_turns.specs.Turning.{obeying}
use Rattle.board_turns.specs.Turning.{AreWorked, PassesNothing, NoneFits, StaysSo, IsCutNow}

-- ---- what is known

-- A report is owed and is told next, and then a word is obeyed, if one waits for that. Nothing has passed in this turn,
-- nothing was published, no byte was polled for, and no reply was handed back. No move that is next has room.
pub record IsToReport (first : Opening) (word : Option Exec) (h : Journal) : Type 0 where
  pub still : list_any passing (this_turn h) ≡ false
  pub quiet : count_by publishing (this_turn h) ≡ 0
  pub worked : AreWorked h
  pub asked : IsAsked word h
  pub unpolled : list_any found_none (this_turn h) ≡ false
  pub untold : list_any lacks_reply_room (this_turn h) ≡ false
  pub none_waits : NoneWaits first h
  pub adds : NoneFits first h
  pub tries : tries_of first h + tries_ahead first h ≤ 4

-- ---- what is added

-- It was looked how many ticks are done: what comes of a machine that has stopped came where each is, and where nothing is
-- left to run and each is, the cycle is over.
pub record HasObserved (first : Opening) (h next : Journal) : Type 0 where
  pub passes : PassesNothing first h next
  pub load : list_any loads (this_turn next) ≡ true
  pub stays : StaysSo first h next ⊎ IsCutNow first h next
  pub idle : IsDrained next → is_going (motion_of first next) ≡ false
  pub stopped : IsStopped first next → ⊥
  pub waiting : AreWaiting first next → AreWaiting first h
  pub due : is_due first next ≡ true → is_due first h ≡ true

-- The room that a report tells was asked for, where the settings ask for that.
pub record HasAskedRoom (first : Opening) (buffer : Option (ℕ × ℕ)) (h next : Journal) : Type 0 where
  pub are : (next ≡ h) ⊎ ((bytes : ℕ) × (next ≡ at_port (found_free bytes) ∷ h))
  pub room : IsRoom first buffer next

-- a report tells what a board keeps, and what was found in this turn
pub record IsTold {N : ℕ} (first : Opening) (board : Board N) (r : Report) (h : Journal) : Type 0 where
  pub shows : Shows (machine_from first.place (published_of h) (known_of h)) board.lines.state r
  pub room : IsRoom first r.buffer h
  pub feed : r.f ≡ cond (nat_lt (known_of h) (ticks_given h)) (feed_of (plan_of h).speed) 0
  pub overrides : r.ov ≡ (plan_of h).overrides
  pub state : r.state ≡ shown_as (motion_of first h)
  pub valid : IsReport r
  pub wide : HasWidths r

-- a journal goes on in one turn
pub record IsBehind (h next : Journal) : Type 0 where
  pub steps : List Step
  pub are : next ≡ steps ++ h
  pub inner : list_any ends_turn steps ≡ false

-- A report was tried to be told in this turn: it was, or there was no room for it, and it is still owed. It was looked
-- how many ticks are done before. The word that waits for the report may be obeyed.
pub record IsReported (first : Opening) (told : Bool) (word : Option Exec) (h : Journal) : Type 0 where
  pub still : told ≡ false → list_any passing (this_turn h) ≡ false
  pub quiet : count_by publishing (this_turn h) ≡ one_if told
  pub moves : told ≡ true → list_any moving (this_turn h) ≡ true
  pub lacks : told ≡ false → list_any lacks_reply_room (this_turn h) ≡ true
  pub owed : owes_report h ≡ not told
  pub back : told ≡ false → is_report_back h ≡ true
  pub words : unobeyed_of h ≡ option_to_list word
  pub flags : flags_taken h ≡ true
  pub changed : count_by replans (this_turn h) ≡ count_by takes_changes (this_turn h)
  pub load : list_any loads (this_turn h) ≡ true
  pub stopped : IsStopped first h → ⊥
  pub unpolled : list_any found_none (this_turn h) ≡ false
  pub none_waits : NoneWaits first h
  pub adds : NoneFits first h
  pub tries : tries_of first h + tries_ahead first h ≤ 4

-- the word that waits, if one does, may be obeyed now
abbrev pub MayObeyNow : Opening → Option Exec → Journal → Type 0
MayObeyNow first None h = Unit {0}
MayObeyNow first (Some word) h = MayObey first word (has_blocks (plan_of h).blocks) h

-- There was no room for a report in this turn: it is still owed, and no word waits for it. Nothing was published.
pub record LacksRoom (first : Opening) (h : Journal) : Type 0 where
  pub still : list_any passing (this_turn h) ≡ false
  pub quiet : count_by publishing (this_turn h) ≡ 0
  pub lacks : list_any lacks_reply_room (this_turn h) ≡ true
  pub owed : owes_report h ≡ true
  pub back : is_report_back h ≡ true
  pub words : unobeyed_of h ≡ []
  pub flags : flags_taken h ≡ true
  pub changed : count_by replans (this_turn h) ≡ count_by takes_changes (this_turn h)
  pub unpolled : list_any found_none (this_turn h) ≡ false
  pub none_waits : NoneWaits first h
  pub adds : NoneFits first h
  pub tries : tries_of first h + tries_ahead first h ≤ 4
