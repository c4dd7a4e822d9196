use Rattle.std.proofs.Common.{refl}
use Rattle.part_making.proofs.Refused.{never_made, made_on, asked}
use Rattle.part_making.proofs.laws.refused_records_are_never_made.Goals as goal

pub returns-clause-begins : goal.returns-clause-begins
returns-clause-begins c = refl

pub returns-clause-asked : goal.returns-clause-asked
returns-clause-asked c = asked

pub returns-clause-goes : goal.returns-clause-goes
returns-clause-goes c = made_on

pub returns-clause-refused : goal.returns-clause-refused
returns-clause-refused c = never_made
