use Rattle.epoch_ports.specs.Serving.{all_since}
use Rattle.epoch_ports.proofs.Counting.{few_reports}
use Rattle.epoch_ports.proofs.side.EpochSideEpochPort.take_exec.Goals as goal

pub returns-clause-few : goal.returns-clause-few
returns-clause-few g c = λ asks since first l s. few_reports since.0.closed l (c.take_exec.ensures.few asks since.0.rest (all_since since.0.closed l) s.1.stands)
