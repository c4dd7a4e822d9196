use Rattle.actor_turns.proofs.Paces.{motion_waits, paced_has_run}
use Rattle.actor_turns.proofs.pacing.paced_motion_waits.Goals as goal

pub returns-clause-waits : goal.returns-clause-waits
returns-clause-waits c N = motion_waits

pub returns-clause-any : goal.returns-clause-any
returns-clause-any c N = paced_has_run
