use Rattle.board_rules.proofs.Turning.{one_a_turn, once, few_tries, obeyed_each, one_unobeyed, obeyed_between, changed_each}
use Rattle.board_rules.proofs.laws.boards_take_turns.Goals as goal

pub returns-clause-once : goal.returns-clause-once
returns-clause-once c = one_a_turn

pub returns-clause-each : goal.returns-clause-each
returns-clause-each c = λ first h t conducted. once first t h conducted.0

pub returns-clause-tries : goal.returns-clause-tries
returns-clause-tries c = few_tries

pub returns-clause-obeyed : goal.returns-clause-obeyed
returns-clause-obeyed c = obeyed_each

pub returns-clause-one : goal.returns-clause-one
returns-clause-one c = one_unobeyed

pub returns-clause-waits : goal.returns-clause-waits
returns-clause-waits c = obeyed_between

pub returns-clause-changed : goal.returns-clause-changed
returns-clause-changed c = changed_each
