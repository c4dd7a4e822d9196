use Rattle.board_rules.proofs.Cancels.{cut_is_known, cut_is_timely, over_is_known}
use Rattle.board_rules.proofs.laws.cuts_are_at_known_places.Goals as goal

pub returns-clause-made : goal.returns-clause-made
returns-clause-made c = cut_is_known

pub returns-clause-published : goal.returns-clause-published
returns-clause-published c = cut_is_timely

pub returns-clause-over : goal.returns-clause-over
returns-clause-over c = over_is_known
