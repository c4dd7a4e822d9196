use Rattle.std.proofs.Common.{ap}
use Rattle.status_report.specs.Answering.{without_reports}
use Rattle.epoch_law.proofs.Fitting.{texts_fit}
use Rattle.epoch_law.proofs.Fronts.{all_of}
use Rattle.epoch_law.proofs.laws.actors_make_texts_that_fit.Goals as goal

pub returns : goal.returns
returns c = λ attended room blocks job_was job_is console_was console_is end h b p host board pulse connected passed same. texts_fit attended room blocks job_was job_is console_was console_is end h b p host board pulse connected passed (all_of b.answered h.got same) (ap without_reports same)
