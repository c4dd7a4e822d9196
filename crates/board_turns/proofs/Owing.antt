-- A report that is owed is told next.
use Rattle.std.proofs.Common.{Bool, sym, ◌∙◌}
use Rattle.std.specs.declared.option.Option.{Option}
use Rattle.code_table.specs.declared.flags.Exec.{Exec}
use Rattle.board_journal.specs.Openings.{Opening}
use Rattle.board_journal.specs.Steps.{Journal}
use Rattle.board_rules.specs.Turns.{passing, found_none, lacks_reply_room}
use Rattle.board_rules.specs.Conduct.{Conducted}
use Rattle.board_rules.proofs.Waiting.{adds}
use Rattle.board_turns.specs.Boards.{Rounds, GoingBetween, IsAsked}
use Rattle.board_turns.specs.Reporting.{IsToReport}
use Rattle.board_turns.proofs.Ends.{none_between, count_between, none_worked}

-- ---- a report that is owed

-- nothing was done in this turn
pub owing_now : (first : Opening) (published : Bool) (word : Option Exec) (h : Journal) → Conducted first h → Rounds first published h → GoingBetween h → IsAsked word h → IsToReport first word h
owing_now first published word h c r between asked = record {
  still = none_between h passing between;
  quiet = count_between h between;
  worked = none_worked h between (λ e. absurd (let f = sym asked.owed ∙ e in cc));
  asked = asked;
  unpolled = none_between h found_none between;
  untold = none_between h lacks_reply_room between;
  none_waits = r.none_waits;
  adds = λ m next. adds first h m c between next;
  tries = r.owed asked.owed;
}
