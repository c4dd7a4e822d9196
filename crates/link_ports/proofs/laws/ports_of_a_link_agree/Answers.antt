use Rattle.std.proofs.Common.{List, sym, subst}
use Rattle.serial_ring.specs.declared.view.LinkStep.{LinkStep}
use Rattle.board_journal.specs.Ports.{has_closed_in}
use Rattle.host_journal.specs.Ports.{PortsAgree}
use Rattle.link_ports.proofs.Agreeing.{ports_agree}
use Rattle.link_ports.proofs.laws.ports_of_a_link_agree.Goals as goal

pub returns : goal.returns
returns c = λ room host board h l did at tied. subst (λ (log : List LinkStep). PortsAgree h log (has_closed_in l)) (sym at.steps_are) (ports_agree _ _ _ _ _ _ _ _ _ _ h (has_closed_in l) did at.over_is tied)
