use Rattle.std.proofs.Common.{◌∷◌, refl}
use Rattle.host_journal.specs.Steps.Step.{turned}
use Rattle.stream_host.proofs.Turns.{ends, tells_turned}
use Rattle.stream_host.proofs.host.Host.turn.Goals as goal

pub returns-clause-goes_on : goal.returns-clause-goes_on
returns-clause-goes_on g c = λ rest h stands f between.
    let n = c.work.ensures.goes_on rest h stands f between in
    let e = ends c.work.result c.args.self.now _ h n.0 n.2 in
    (turned c.work.result ∷ n.0, n.1, e.0, refl, e.1, tells_turned _ _ _ h n.0 _ _ _ _ n.3)
