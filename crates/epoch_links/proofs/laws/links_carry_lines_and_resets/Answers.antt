use Rattle.epoch_links.proofs.Carrying.{items_more}
use Rattle.epoch_links.proofs.Joining.{fronts, wholes, front_over, whole_over}
use Rattle.epoch_links.proofs.Leaving.{left_behind, left_over}
use Rattle.epoch_links.proofs.laws.links_carry_lines_and_resets.Goals as goal

pub returns-clause-front : goal.returns-clause-front
returns-clause-front c = fronts

pub returns-clause-whole : goal.returns-clause-whole
returns-clause-whole c = wholes

pub returns-clause-run : goal.returns-clause-run
returns-clause-run c = front_over

pub returns-clause-finished : goal.returns-clause-finished
returns-clause-finished c = whole_over

pub returns-clause-left : goal.returns-clause-left
returns-clause-left c = left_behind

pub returns-clause-rest : goal.returns-clause-rest
returns-clause-rest c = left_over

pub returns-clause-epoch : goal.returns-clause-epoch
returns-clause-epoch c = items_more
