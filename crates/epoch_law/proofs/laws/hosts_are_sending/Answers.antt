use Rattle.epoch_law.proofs.Having.{host_sends}
use Rattle.epoch_law.proofs.laws.hosts_are_sending.Goals as goal

pub returns : goal.returns
returns c = host_sends
