use Rattle.flight.proofs.Flying.{count_is}
use Rattle.flight.proofs.flight.Flight.is_full.Goals as goal

pub returns-clause-unfinished : goal.returns-clause-unfinished
returns-clause-unfinished c = λ start published known is. count_is start c.args.self.now published known is
