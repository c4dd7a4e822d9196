use Rattle.epoch_ports.specs.Serving.{all_since}
use Rattle.epoch_ports.proofs.Counting.{few_taken}
use Rattle.epoch_ports.proofs.side.EpochSideEpochPort.byte.Goals as goal

pub returns-clause-few : goal.returns-clause-few
returns-clause-few g c = λ b is since first l s. few_taken g.P.BoardPort.Rest (g.P.BoardPort.stands c.args.self.now.port.now) c.args.self.now.base since.0 first l s.1 (c.byte.ensures.few b is since.0.rest (all_since since.0.closed l) s.1.stands)
