-- What the fields of a board say of what it has done.
use Rattle.std.specs.Prelude.{◌-◌, ◌≡◌, ◌⊎◌, ℕ, ◌+◌, ◌*◌, ◌≤◌, ◌<◌, Bool, true, false, ◌||◌, nat_eq, List, [], ◌∷◌, ◌++◌, length, ◌^◌}
use Rattle.std.specs.List.{list_any}
use Rattle.outside.specs.declared.Turn.{Turn}
use Rattle.outside.specs.declared.Turn.TheVariants.{Did}
use Rattle.run_rules.specs.Work.{Task, pauses}
use Rattle.run_rules.specs.Outcomes.{Before}
use Rattle.status_report.specs.declared.Reply.TheVariants.{Bye}
use Rattle.line_interpreter.specs.Interpreting.{Interpreting}
use Rattle.flight.specs.Flights.{Flying, Flies}
use Rattle.code_table.specs.declared.flags.Exec.{Exec}
use Rattle.std.specs.Option.{option_to_list}
use Rattle.std.specs.declared.option.Option.{Option}
use Rattle.board_journal.specs.Openings.{Opening, IsPlaced}
use Rattle.board_journal.specs.Steps.{Step, Journal, taken_of, has_limited, published_of, known_of, open_of, whole_of, before_of, left_of, closed_tells, given_of, hand_of, plan_of, motion_of}
use Rattle.board_journal.specs.Steps.Step.{turned}
use Rattle.board_rules.specs.Turns.{this_turn, ends_turn, is_greeted, unobeyed_of, owes_report, moving, is_full, is_counted, awaits_unlock, awaits_motion, has_jogged, changes_taken, flags_taken, tries_of, missed_of, waits_of}
use Rattle.board_rules.specs.Conduct.{Conducted, AreWaiting}
use Rattle.board_rules.specs.Cuts.{has_cut}
pub use Rattle.board_rules.specs.Within.{changes_left, tries_ahead}
use Rattle.board_epochs.specs.Epochs.{answered_state}
use Rattle.board_epochs.specs.Resets.{IsPrompt, MayReset, has_reset}
use Rattle.units.specs.Truths.{one_if}
use Rattle.board_turns.specs.declared.board.Board.{Board}
use Rattle.board_turns.specs.declared.board.Flags.{Flags}
use Rattle.board_turns.specs.declared.board.Flags.TheVariants as words
use Rattle.board_machine.specs.Machines.{Runs}
use Rattle.board_lines.specs.Inputs.{Reads}
use Rattle.board_rules.specs.Limiting.{limit_pending}

-- the lines, by what is left to do, and what stands before the next line
pub record Works (i : Interpreting) (left : List Task) (b : Before) : Type 0 where
  pub left_is : i.left ≡ left
  pub state_is : i.state ≡ b.state
  pub number_is : i.number ≡ b.number

-- a flight of the pieces that were published, which knows of some of the ticks that were found done
pub record IsFlown (first : Opening) (f : Flying) (h : Journal) : Type 0 where
  pub known : ℕ
  pub found : known ≤ known_of h
  pub flies : Flies first.place f (published_of h) known

-- What the fields of a board keep of all that it did since an opening, which its rules allow. The motion is stopped for a line that a soft limit stops,
-- and few tries to publish stand behind the last poll there; a machine that a line unlocks is unlocked. A reset may not be worked now.
pub record Keeps {N : ℕ} (first : Opening) (board : Board N) (h : Journal) : Type 0 where
  pub placed : IsPlaced first
  pub sized : first.blocks ≡ N - 1
  pub short : first.lines + length (taken_of h) ≤ 2 ^ 31
  pub conducted : Conducted first h
  pub machine : Runs board.machine (plan_of h) (motion_of first h) (hand_of h) (given_of h)
  pub lines : Works board.lines (left_of first h) (before_of first h)
  pub input : Reads board.input (open_of h) (whole_of h)
  pub flight : IsFlown first board.flight h
  pub owes_is : board.owes ≡ owes_report h
  pub resetting_is : board.resetting ≡ has_reset h
  pub taken_is : board.taken ≡ length (taken_of h)
  pub answered_is : board.answered ≡ answered_state first h
  pub greeted_is : board.greeted ≡ is_greeted h
  pub prompt : IsPrompt first h
  pub unready : MayReset first h → ⊥
  pub jogged_is : board.jogged ≡ has_jogged h
  pub cut_is : board.cut ≡ has_cut h
  pub going : board.closing ≡ false → closed_tells h ≡ []
  pub closed : board.closing ≡ true → closed_tells h ≡ Bye ∷ []
  pub limited : limit_pending h ≡ false
  pub alarmed_is : board.alarmed ≡ has_limited h
  pub unlocked : awaits_unlock first h ≡ false
  pub tries : has_limited h ≡ true → tries_of first h ≤ 1

-- They keep the same between two turns; a reset may be worked then.
pub record KeepsBetween {N : ℕ} (first : Opening) (board : Board N) (h : Journal) : Type 0 where
  pub placed : IsPlaced first
  pub sized : first.blocks ≡ N - 1
  pub short : first.lines + length (taken_of h) ≤ 2 ^ 31
  pub conducted : Conducted first h
  pub machine : Runs board.machine (plan_of h) (motion_of first h) (hand_of h) (given_of h)
  pub lines : Works board.lines (left_of first h) (before_of first h)
  pub input : Reads board.input (open_of h) (whole_of h)
  pub flight : IsFlown first board.flight h
  pub owes_is : board.owes ≡ owes_report h
  pub resetting_is : board.resetting ≡ has_reset h
  pub taken_is : board.taken ≡ length (taken_of h)
  pub answered_is : board.answered ≡ answered_state first h
  pub greeted_is : board.greeted ≡ is_greeted h
  pub prompt : IsPrompt first h
  pub jogged_is : board.jogged ≡ has_jogged h
  pub cut_is : board.cut ≡ has_cut h
  pub going : board.closing ≡ false → closed_tells h ≡ []
  pub closed : board.closing ≡ true → closed_tells h ≡ Bye ∷ []
  pub limited : limit_pending h ≡ false
  pub alarmed_is : board.alarmed ≡ has_limited h
  pub unlocked : awaits_unlock first h ≡ false
  pub tries : has_limited h ≡ true → tries_of first h ≤ 1

-- no queued block waits where it would be started by what is next, or since no other block has room, or as a jog
abbrev pub NoneWaits : Opening → Journal → Type 0
NoneWaits first h = AreWaiting first h → (is_full first.blocks (plan_of h) || (awaits_motion (left_of first h) || has_jogged h)) ≡ false

-- What holds between two turns, of which the last published a piece, or not. The tries to publish that were counted since the last poll
-- are few for what comes before the next; they are one more only behind a try that was counted.
pub record Rounds (first : Opening) (published : Bool) (h : Journal) : Type 0 where
  pub waits : published ≡ true → waits_of h ≡ []
  pub tried : published ≡ true → missed_of first h ≡ false
  pub sent : published ≡ true → hand_of h ≡ []
  pub none_waits : NoneWaits first h
  pub tries : tries_of first h + tries_ahead first h ≤ 4 + one_if published
  pub few : is_counted first h ≡ false → tries_of first h + tries_ahead first h ≤ 4
  pub owed : owes_report h ≡ true → tries_of first h + tries_ahead first h ≤ 4

-- both words of flags were taken since the last line feed, and since the last wait behind the banner; what they ask for is done
pub record IsFree (h : Journal) : Type 0 where
  pub flags : flags_taken h ≡ true
  pub obeyed : unobeyed_of h ≡ []
  pub unowed : owes_report h ≡ false

-- they were taken, and a report is told next; then this word of requests is obeyed, if one waits for that
pub record IsAsked (word : Option Exec) (h : Journal) : Type 0 where
  pub flags : flags_taken h ≡ true
  pub next : unobeyed_of h ≡ option_to_list word
  pub owed : owes_report h ≡ true

-- both are to be taken: the banner is told, and the last word of requests is obeyed
pub record AwaitsWords (h : Journal) : Type 0 where
  pub greeted : is_greeted h ≡ true
  pub obeyed : unobeyed_of h ≡ []

-- the word of changes of overrides was taken
pub record HasChanges (h : Journal) : Type 0 where
  pub greeted : is_greeted h ≡ true
  pub changes : changes_taken h ≡ true
  pub obeyed : unobeyed_of h ≡ []

-- what the words of flags say that are to be taken, or obeyed, before the board goes on
abbrev pub TakesFlags : Flags → Journal → Type 0
TakesFlags words.Both h = AwaitsWords h
TakesFlags words.Requests h = HasChanges h
TakesFlags (words.Report word) h = IsAsked word h
TakesFlags words.None h = IsFree h

-- no word of flags is to be taken
abbrev pub takes_no_word : Flags → Bool
takes_no_word words.Both = false
takes_no_word words.Requests = false
takes_no_word (words.Report word) = true
takes_no_word words.None = true

-- between two turns
abbrev pub GoingBetween : Journal → Type 0
GoingBetween h = this_turn h ≡ []

-- What the fields of a board say between two turns. The last one published no piece where words of flags are to be taken.
pub record EpochFits {N : ℕ} (first : Opening) (board : Board N) (h : Journal) : Type 0 where
  pub keeps : KeepsBetween first board h
  pub rounds : Rounds first board.published h
  pub flags : TakesFlags board.flags h
  pub still : board.published ≡ true → takes_no_word board.flags ≡ true

-- and where a turn begins: no reset may be worked
pub record GoingFits {N : ℕ} (first : Opening) (board : Board N) (h : Journal) : Type 0 where
  pub keeps : Keeps first board h
  pub rounds : Rounds first board.published h
  pub flags : TakesFlags board.flags h
  pub still : board.published ≡ true → takes_no_word board.flags ≡ true

-- ---- a board's number

-- how much is left of the words of flags: to take them, and to go on without a report
abbrev pub words_left : Flags → ℕ
words_left words.Both = 3
words_left words.Requests = 2
words_left words.None = 1
words_left (words.Report word) = 0

-- What a board can do with which nothing moves: words of flags are taken, pauses begin, a hold comes to its end, the
-- machine is resumed, jogs are cut, a cancel comes to its end, and the run is closed. It falls in each turn that answers Did and moves nothing.
abbrev pub number_of : Opening → Flags → Journal → ℕ
number_of first f h = 3 * (words_left f + pauses (left_of first h)) + changes_left (motion_of first h) (has_cut h) + one_if (nat_eq (length (closed_tells h)) 0)

abbrev pub board_number : {N : ℕ} → Opening → Board N → Journal → ℕ
board_number first board h = number_of first board.flags h

-- A turn adds what was done in it, which ends no other turn, and its answer; where that is Did, something moves, or the board's number
-- falls.
pub record GoingTurned {N : ℕ} (first : Opening) (t : Turn) (was is : Board N) (h next : Journal) : Type 0 where
  pub steps : List Step
  pub are : next ≡ turned t ∷ (steps ++ h)
  pub inner : list_any ends_turn steps ≡ false
  pub moves : t ≡ Did → (list_any moving (this_turn (steps ++ h)) ≡ true) ⊎ (number_of first is.flags next < number_of first was.flags h)

-- a board that has closed its run, and has nothing left to do
pub record BoardIsOver {N : ℕ} (board : Board N) : Type 0 where
  pub closing : board.closing ≡ true
  pub none : board.lines.left ≡ []
