use Rattle.run_rules.proofs.Finding.{becomes_still, becomes_running, becomes_jogging, becomes_locked}
use Rattle.run_rules.proofs.laws.found_lines_become.Goals as goal

pub returns-clause-standing : goal.returns-clause-standing
returns-clause-standing c = becomes_still

pub returns-clause-running : goal.returns-clause-running
returns-clause-running c = becomes_running

pub returns-clause-jogging : goal.returns-clause-jogging
returns-clause-jogging c = becomes_jogging

pub returns-clause-locked : goal.returns-clause-locked
returns-clause-locked c = becomes_locked
