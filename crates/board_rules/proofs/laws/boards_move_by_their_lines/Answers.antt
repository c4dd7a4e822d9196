use Rattle.std.proofs.Common.{◌∙◌, ap}
use Rattle.board_rules.specs.Turns.{machine_in}
use Rattle.board_rules.proofs.Beginning.{jogged_is}
use Rattle.board_rules.proofs.Jogging.{run_is_code, jog_is_last}
use Rattle.board_rules.proofs.Causing.{caused_is, becomes_now}
use Rattle.board_rules.proofs.laws.boards_move_by_their_lines.Goals as goal

pub returns-clause-running : goal.returns-clause-running
returns-clause-running c = λ first h conducted runs. jogged_is first h ∙ run_is_code first h conducted runs

pub returns-clause-jogging : goal.returns-clause-jogging
returns-clause-jogging c = λ first h conducted jogs. jogged_is first h ∙ jog_is_last first h conducted jogs

pub returns-clause-moved : goal.returns-clause-moved
returns-clause-moved c = λ first h o conducted runs. (caused_is first h o conducted).moved (ap machine_in runs)

pub returns-clause-becomes : goal.returns-clause-becomes
returns-clause-becomes c = becomes_now
