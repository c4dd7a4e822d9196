-- Each table's keys rise, by the test over the whole table.
use Rattle.std.proofs.Common.{refl}
use Rattle.code_table.proofs.Order.{distinct}
use Rattle.code_table.proofs.laws.codes_have_one_group.Goals as goal

pub returns-clause-g : goal.returns-clause-g
returns-clause-g c = distinct _ refl

pub returns-clause-m : goal.returns-clause-m
returns-clause-m c = distinct _ refl

pub returns-clause-settings : goal.returns-clause-settings
returns-clause-settings c = distinct _ refl

pub returns-clause-bytes : goal.returns-clause-bytes
returns-clause-bytes c = distinct _ refl
