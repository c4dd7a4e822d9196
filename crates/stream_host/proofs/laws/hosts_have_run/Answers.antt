use Rattle.stream_host.proofs.Running.{has_run_of, runs_so_far, finished_by, console_by, tells_nothing, shows_nothing}
use Rattle.stream_host.proofs.laws.hosts_have_run.Goals as goal

pub returns-clause-so_far : goal.returns-clause-so_far
returns-clause-so_far c = runs_so_far

pub returns-clause-whole : goal.returns-clause-whole
returns-clause-whole c = has_run_of

pub returns-clause-finished : goal.returns-clause-finished
returns-clause-finished c = λ room host h fits rests. finished_by host h fits rests

pub returns-clause-console : goal.returns-clause-console
returns-clause-console c = λ room host h was is fits tells. console_by host h was is fits tells

pub returns-clause-beginning : goal.returns-clause-beginning
returns-clause-beginning c = λ attended job console. (tells_nothing attended job, shows_nothing attended console)
