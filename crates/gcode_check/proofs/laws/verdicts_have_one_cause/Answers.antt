use Rattle.gcode_check.proofs.Causes.{is_refused, refuses, is_limited, limits, is_accepted, accepts}
use Rattle.gcode_check.proofs.laws.verdicts_have_one_cause.Goals as goal

pub returns-clause-refused : goal.returns-clause-refused
returns-clause-refused c = λ p s ws error. (is_refused p s ws error, refuses p s ws error)

pub returns-clause-limited : goal.returns-clause-limited
returns-clause-limited c = λ p s ws. (is_limited p s ws, limits p s ws)

pub returns-clause-accepted : goal.returns-clause-accepted
returns-clause-accepted c = λ p s ws a. (is_accepted p s ws a, accepts p s ws a)
