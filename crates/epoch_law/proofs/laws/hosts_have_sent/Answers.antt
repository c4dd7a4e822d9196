use Rattle.epoch_law.proofs.Having.{host_sent}
use Rattle.epoch_law.proofs.laws.hosts_have_sent.Goals as goal

pub returns : goal.returns
returns c = host_sent
