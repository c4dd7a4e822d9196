use Rattle.std.proofs.Common.{ap, sym, ◌∙◌}
use Rattle.host_journal.specs.Steps.{has_limit, over_of, or_alarm}
use Rattle.stream_host.proofs.Alarming.{cause_of_job}
use Rattle.stream_host.proofs.host.Host.stop.Goals as goal

pub returns-in-End : goal.returns-in-End
returns-in-End c = λ room h f. c.stop_at_alarm.ensures room h f ∙ ap (λ s. or_alarm (has_limit h) (over_of h) s) (sym c.in-End.is ∙ c.stop_in_job-stop.ensures room h f)

pub returns-in_default : goal.returns-in_default
returns-in_default c = λ room h f. let e = c.stop_in_job-stop.ensures room h f in e ∙ cause_of_job (has_limit h) (over_of h) _ (λ is. c.in_default.not-End (e ∙ is))
