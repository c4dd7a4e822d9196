-- What a port that counts on over all epochs keeps while one of them goes on.
use Rattle.std.specs.Prelude.{◌≡◌, ◌⊎◌, ℕ, true, ◌++◌}
use Rattle.run_rules.specs.declared.State.{State}
use Rattle.run_rules.specs.Work.Task.{tell}
use Rattle.status_report.specs.Answering.{is_report}
use Rattle.status_report.specs.Replies.{IsReply}
use Rattle.status_report.specs.declared.Reply.{Reply}
use Rattle.step_line.specs.Logs.{NewestFirst}
use Rattle.step_line.specs.declared.Piece.{Piece}
use Rattle.board_rules.specs.Conduct.{Conducted, IsInHand, IsNextTask}
use Rattle.board_journal.specs.Openings.{Opening}
use Rattle.board_journal.specs.Ports.{BoardLog}
use Rattle.board_journal.specs.Steps.{Journal}
use Rattle.board_epochs.specs.Epochs.{Closed, AreClosed, IsBounded, closed_log, log_on, opening_behind, ticks_made}

-- What stays as it is while an epoch goes on: what the port does not change; how many blocks the plan holds at most; the state that the
-- run began with; and the epochs that resets have ended.
pub record Since (R : Type 0) : Type 0 where
  pub rest : R
  pub blocks : ℕ
  pub state : State
  pub closed : NewestFirst Closed

-- all that was done at the port, in its own counts, where this was done in the open epoch
abbrev pub all_since : NewestFirst Closed → BoardLog → BoardLog
all_since es l = log_on (ticks_made es) l ++ closed_log es

-- A port serves an epoch behind so many ticks, in which this was done since its opening: it has done what the closed epochs did, and this;
-- the opening is the one behind them; and the port gives so many bytes at most, and so many words that ask for a report.
pub record Serves (R : Type 0) (port : R → BoardLog → Type 0) (base : ℕ) (since : Since R) (first : Opening) (l : BoardLog) : Type 0 where
  pub stands : port since.rest (all_since since.closed l)
  pub ticks : base ≡ ticks_made since.closed
  pub opens : first ≡ opening_behind since.blocks since.state since.closed
  pub closed : AreClosed since.blocks since.state since.closed
  pub bounded : IsBounded (all_since since.closed l)

-- A reply may be answered: the epoch has kept to its rules, and it is next, or a report.
pub record MayTellNow (first : Opening) (r : Reply) (h : Journal) : Type 0 where
  pub conducted : Conducted first h
  pub next : (is_report r ≡ true) ⊎ IsNextTask first (tell r) h
  pub text : IsReply r

-- A piece may be published: the epoch has kept to its rules, and it is in hand.
pub record MayPublishNow (first : Opening) (p : Piece) (h : Journal) : Type 0 where
  pub conducted : Conducted first h
  pub hand : IsInHand p h
