use Rattle.std.proofs.Common.{ℕ, Option, subst}
use Rattle.board_rules.specs.Conduct.{IsRoom}
use Rattle.board_rules.proofs.Owing.{owes_few}
use Rattle.board_rules.proofs.Reporting.{reported_is}
use Rattle.board_rules.proofs.Tellable.{all_can_be_told}
use Rattle.board_rules.proofs.laws.boards_report_where_they_are.Goals as goal

pub returns-clause-fits : goal.returns-clause-fits
returns-clause-fits c = reported_is

pub returns-clause-few : goal.returns-clause-few
returns-clause-few c = owes_few

pub returns-clause-valid : goal.returns-clause-valid
returns-clause-valid c = all_can_be_told

pub returns-clause-told : goal.returns-clause-told
returns-clause-told c = λ first h r d. (d.0.load, (d.0.idle, (d.0.stopped, d.0.room)))

pub returns-clause-free : goal.returns-clause-free
returns-clause-free c = λ first h r blocks bytes d shows. (subst (λ (room : Option (ℕ × ℕ)). IsRoom first room h) shows d.0.room).0
