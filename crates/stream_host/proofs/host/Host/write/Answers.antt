use Rattle.stream_host.proofs.Consoles.{wrote_on}
use Rattle.stream_host.proofs.host.Host.write.Goals as goal

pub returns : goal.returns
returns g c = λ room h f. wrote_on c.args.self.now _ h _ _ f c.requires c.write.ensures.wrote
