use Rattle.jog.proofs.Causes.{is_refused, refuses, is_accepted, accepts}
use Rattle.jog.proofs.laws.jogs_have_one_cause.Goals as goal

pub returns-clause-refused : goal.returns-clause-refused
returns-clause-refused c = λ p s ws error. (is_refused p s ws error, refuses p s ws error)

pub returns-clause-accepted : goal.returns-clause-accepted
returns-clause-accepted c = λ p s ws jog. (is_accepted p s ws jog, accepts p s ws jog)
