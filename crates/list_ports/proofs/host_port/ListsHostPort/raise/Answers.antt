use Rattle.std.proofs.Common.{sym}
use Rattle.list_ports.proofs.Steps.{flag_raised}
use Rattle.list_ports.proofs.host_port.ListsHostPort.raise.Goals as goal

pub returns-in-Exec-clause-raised : goal.returns-in-Exec-clause-raised
returns-in-Exec-clause-raised g c far h joined may = rw c.raise_flag.ensures (flag_raised _ _ _ _ joined c.args.byte c.in-Some.flag (sym c.in-Some.ensures.flag) c.in-Some.ensures.named may)

pub returns-in-Override-clause-raised : goal.returns-in-Override-clause-raised
returns-in-Override-clause-raised g c far h joined may = rw c.raise_flag.ensures (flag_raised _ _ _ _ joined c.args.byte c.in-Some.flag (sym c.in-Some.ensures.flag) c.in-Some.ensures.named may)
