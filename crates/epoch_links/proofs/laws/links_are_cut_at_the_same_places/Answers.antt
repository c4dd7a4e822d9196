use Rattle.epoch_links.proofs.Carrying.{same_pieces}
use Rattle.epoch_links.proofs.Cutting.{cut_at_marks, one_of_each}
use Rattle.epoch_links.proofs.Joining.{cut_over}
use Rattle.epoch_links.proofs.laws.links_are_cut_at_the_same_places.Goals as goal

pub returns-clause-cut : goal.returns-clause-cut
returns-clause-cut c = cut_at_marks

pub returns-clause-each : goal.returns-clause-each
returns-clause-each c = one_of_each

pub returns-clause-same : goal.returns-clause-same
returns-clause-same c = same_pieces

pub returns-clause-run : goal.returns-clause-run
returns-clause-run c = cut_over
