use Rattle.epoch_effects.proofs.Greeted.{greeted}
use Rattle.epoch_effects.proofs.Opened.{opened}
use Rattle.epoch_effects.proofs.Telling.{epochs_report, epochs_lock, epochs_publish, all_answered}
use Rattle.epoch_effects.proofs.laws.reports_fit_their_epochs.Goals as goal

pub returns-clause-fit : goal.returns-clause-fit
returns-clause-fit c = epochs_report

pub returns-clause-answered : goal.returns-clause-answered
returns-clause-answered c = all_answered

pub returns-clause-opened : goal.returns-clause-opened
returns-clause-opened c = opened

pub returns-clause-greeted : goal.returns-clause-greeted
returns-clause-greeted c = greeted

pub returns-clause-published : goal.returns-clause-published
returns-clause-published c = epochs_publish

pub returns-clause-locks : goal.returns-clause-locks
returns-clause-locks c = epochs_lock
