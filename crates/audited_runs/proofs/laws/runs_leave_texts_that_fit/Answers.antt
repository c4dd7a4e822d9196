use Rattle.std.specs.Prelude.{false}
use Rattle.std.proofs.Common.{refl}
use Rattle.audited_runs.proofs.Texts.{calm_texts_fit, texts_fit}
use Rattle.audited_runs.proofs.laws.runs_leave_texts_that_fit.Goals as goal

pub returns-clause-unattended : goal.returns-clause-unattended
returns-clause-unattended c = λ room blocks form job job_was job_is was is end run whole. texts_fit false room blocks form job job_was job_is was is end run whole refl

pub returns-clause-calm : goal.returns-clause-calm
returns-clause-calm c = λ attended room blocks form job job_was job_is was is end run whole calm. calm_texts_fit attended room blocks form job job_was job_is was is end run whole calm
