use Rattle.line_words.proofs.Fixed.{x_fixed, y_fixed, z_fixed}
use Rattle.line_words.proofs.laws.absolute_targets_are_fixed.Goals as goal

pub returns-clause-x : goal.returns-clause-x
returns-clause-x c = x_fixed

pub returns-clause-y : goal.returns-clause-y
returns-clause-y c = y_fixed

pub returns-clause-z : goal.returns-clause-z
returns-clause-z c = z_fixed
