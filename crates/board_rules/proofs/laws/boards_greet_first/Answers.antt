use Rattle.board_rules.proofs.Greeted.{greeted_where, reported_greeted, none_ungreeted, greets_first}
use Rattle.board_rules.proofs.laws.boards_greet_first.Goals as goal

pub returns-clause-words : goal.returns-clause-words
returns-clause-words c = λ first h word conducted. conducted.0.greeted

pub returns-clause-changes : goal.returns-clause-changes
returns-clause-changes c = λ first h word conducted. conducted.0

pub returns-clause-reports : goal.returns-clause-reports
returns-clause-reports c = λ first h r conducted. reported_greeted first r h conducted

pub returns-clause-before : goal.returns-clause-before
returns-clause-before c = none_ungreeted

pub returns-clause-behind : goal.returns-clause-behind
returns-clause-behind c = greets_first

pub returns-clause-told : goal.returns-clause-told
returns-clause-told c = greeted_where
