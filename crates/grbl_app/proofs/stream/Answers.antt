use Rattle.run_status.proofs.Endings.{has_causes}
use Rattle.run_status.proofs.Statuses.{has_its_cause}
use Rattle.grbl_app.proofs.stream.Goals as goal

pub returns-clause-run : goal.returns-clause-run
returns-clause-run g c = record { end = c.in_ok-end.end; run = c.in_ok-end.ensures.run; status_is = c.status_of.ensures }

pub returns-clause-causes : goal.returns-clause-causes
returns-clause-causes g c = has_causes _ _ _ _ _ _ (returns-clause-run g c)

pub returns-clause-its_cause : goal.returns-clause-its_cause
returns-clause-its_cause g c = has_its_cause _ _ _ _ _ _ (returns-clause-run g c)

pub returns-clause-order : goal.returns-clause-order
returns-clause-order g c = record { end = c.in_ok-end.end; goes = c.in_ok-end.ensures.order; status_is = c.status_of.ensures }
