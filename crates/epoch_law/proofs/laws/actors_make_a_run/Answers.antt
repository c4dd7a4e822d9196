use Rattle.std.proofs.Common.{ap}
use Rattle.status_report.specs.Answering.{without_reports}
use Rattle.epoch_law.proofs.Fronts.{all_of}
use Rattle.epoch_law.proofs.Making.{run_made}
use Rattle.epoch_law.proofs.laws.actors_make_a_run.Goals as goal

pub returns : goal.returns
returns c = λ attended room blocks form job_was job_is was is end steps_failed h b p records host board pulse recorder connected passed same_replies same_records.
    run_made attended room blocks form job_was job_is was is end steps_failed h b p records host board pulse recorder connected passed (all_of b.answered h.got same_replies) (ap without_reports same_replies) same_records
