use Rattle.std.proofs.Common.{refl}
use Rattle.run_rules.proofs.Pausing.{pauses_once}
use Rattle.run_rules.proofs.laws.lines_pause_once.Goals as goal

pub returns-clause-line : goal.returns-clause-line
returns-clause-line c = pauses_once

pub returns-clause-closing : goal.returns-clause-closing
returns-clause-closing c = refl
