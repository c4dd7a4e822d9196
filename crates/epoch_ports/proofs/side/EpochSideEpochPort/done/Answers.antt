use Rattle.std.proofs.Common.{◌-◌, arith, subst}
use Rattle.board_journal.specs.Ports.{MayBeDone}
use Rattle.board_journal.specs.Steps.{port_log}
use Rattle.epoch_ports.specs.Serving.{all_since}
use Rattle.epoch_ports.proofs.Counting.{done_here, found}
use Rattle.epoch_ports.proofs.side.EpochSideEpochPort.done.Goals as goal

pub overflow_sub-result : goal.overflow_sub-result
overflow_sub-result g c =
    let r = c.requires in let since = r.0.0 in
    let n = done_here g.P.BoardPort.Rest (g.P.BoardPort.stands c.args.self.now.port.now) c.args.self.now.base since r.1 r.2 r.3.1 c.done.result r.4 (c.done.ensures.known since.rest (all_since since.closed (port_log r.2)) r.3.1.stands) in
    let is = n.1 in
    omega (arith, is)

pub returns-clause-done : goal.returns-clause-done
returns-clause-done g c = λ since first h s conducted.
    let Rest = g.P.BoardPort.Rest in
    let old = g.P.BoardPort.stands c.args.self.now.port.now in
    let base = c.args.self.now.base in
    let k = c.done.result in
    let l = all_since since.0.closed (port_log h) in
    let n = done_here Rest old base since.0 first h s.1 k conducted (c.done.ensures.known since.0.rest l s.1.stands) in
    let is = n.1 in
    (s.0, found Rest old (g.P.BoardPort.stands c.done.new.self) base since.0 first (port_log h) s.1 k (k - base) (omega (arith, is)) (c.done.ensures.done since.0.rest l s.1.stands))

pub returns-clause-known : goal.returns-clause-known
returns-clause-known g c = λ since first h s conducted.
    let Rest = g.P.BoardPort.Rest in
    let old = g.P.BoardPort.stands c.args.self.now.port.now in
    let base = c.args.self.now.base in
    let k = c.done.result in
    let l = all_since since.0.closed (port_log h) in
    let n = done_here Rest old base since.0 first h s.1 k conducted (c.done.ensures.known since.0.rest l s.1.stands) in
    let is = n.1 in
    subst (λ x. MayBeDone x (port_log h)) (omega (arith, is)) n.2
