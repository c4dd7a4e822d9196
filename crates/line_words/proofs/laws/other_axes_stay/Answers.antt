use Rattle.line_words.proofs.Fixed.{x_stays, y_stays, z_stays}
use Rattle.line_words.proofs.laws.other_axes_stay.Goals as goal

pub returns-clause-x : goal.returns-clause-x
returns-clause-x c = x_stays

pub returns-clause-y : goal.returns-clause-y
returns-clause-y c = y_stays

pub returns-clause-z : goal.returns-clause-z
returns-clause-z c = z_stays
