use Rattle.run_texts.proofs.Speeds.{three_steps_fit}
use Rattle.run_texts.proofs.Worked.{one_step_fits, hold_fits, two_resets_fit, soft_limit_fits, cut_fits}
use Rattle.run_texts.proofs.WorkedResets.{dropped_fits, broken_fits, unlocked_fits, waiting_fits, locked_fits, long_fits, limit_waits_fits, long_behind_fits}
use Rattle.run_texts.proofs.rows.worked_texts_fit.Goals as goal

pub returns-clause-one_step : goal.returns-clause-one_step
returns-clause-one_step c = one_step_fits

pub returns-clause-hold : goal.returns-clause-hold
returns-clause-hold c = hold_fits

pub returns-clause-two_resets : goal.returns-clause-two_resets
returns-clause-two_resets c = two_resets_fit

pub returns-clause-soft_limit : goal.returns-clause-soft_limit
returns-clause-soft_limit c = soft_limit_fits

pub returns-clause-cut : goal.returns-clause-cut
returns-clause-cut c = cut_fits

pub returns-clause-dropped : goal.returns-clause-dropped
returns-clause-dropped c = dropped_fits

pub returns-clause-broken : goal.returns-clause-broken
returns-clause-broken c = broken_fits

pub returns-clause-unlocked : goal.returns-clause-unlocked
returns-clause-unlocked c = unlocked_fits

pub returns-clause-three_steps : goal.returns-clause-three_steps
returns-clause-three_steps c = three_steps_fit

pub returns-clause-waiting : goal.returns-clause-waiting
returns-clause-waiting c = waiting_fits

pub returns-clause-locked : goal.returns-clause-locked
returns-clause-locked c = locked_fits

pub returns-clause-limit_waits : goal.returns-clause-limit_waits
returns-clause-limit_waits c = limit_waits_fits

pub returns-clause-long_behind : goal.returns-clause-long_behind
returns-clause-long_behind c = long_behind_fits

pub returns-clause-long : goal.returns-clause-long
returns-clause-long c = long_fits
