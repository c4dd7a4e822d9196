use Rattle.list_ports.proofs.Steps.{ports_agree}
use Rattle.list_ports.proofs.laws.logs_of_lists_agree.Goals as goal

pub returns : goal.returns
returns c = ports_agree
