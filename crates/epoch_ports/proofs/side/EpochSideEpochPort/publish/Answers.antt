use Rattle.std.proofs.lemmas.Result.{on_ok_weaker, on_err_weaker}
use Rattle.board_journal.specs.Steps.{port_log}
use Rattle.epoch_ports.specs.Serving.{all_since}
use Rattle.epoch_ports.proofs.Counting.{may_publish, published_here, room_here, handed_back}
use Rattle.epoch_ports.proofs.side.EpochSideEpochPort.publish.Goals as goal

pub publish-requires : goal.publish-requires
publish-requires g c =
    let r = c.requires in let since = r.0.0 in
    (since.rest, all_since since.closed (port_log r.2), r.3.1.stands, may_publish g.P.BoardPort.Rest (g.P.BoardPort.stands c.args.self.now.port.now) c.args.self.now.base since r.1 r.2 r.3.1 c.args.p r.4)

pub returns-clause-ok : goal.returns-clause-ok
returns-clause-ok g c =
    let Rest = g.P.BoardPort.Rest in
    let old = g.P.BoardPort.stands c.args.self.now.port.now in
    let base = c.args.self.now.base in
    on_ok_weaker c.publish.result (λ out since first h s may. (
      s.0,
      published_here Rest old (g.P.BoardPort.stands c.publish.new.self) base since.0 first (port_log h) s.1 c.args.p
          (out since.0.rest (all_since since.0.closed (port_log h)) s.1.stands (may_publish Rest old base since.0 first h s.1 c.args.p may)),
    )) c.publish.ensures.ok

pub returns-clause-full : goal.returns-clause-full
returns-clause-full g c =
    let Rest = g.P.BoardPort.Rest in
    let old = g.P.BoardPort.stands c.args.self.now.port.now in
    let base = c.args.self.now.base in
    on_err_weaker c.publish.result (λ back since first h s conducted. (
    let b = back since.0.rest (all_since since.0.closed (port_log h)) s.1.stands in
    let n = room_here Rest old base since.0 first h s.1 b.0 conducted b.2 in
    (n.0, (s.0, handed_back Rest old (g.P.BoardPort.stands c.publish.new.self) base since.0 first (port_log h) s.1 b.0 n.0 n.1 b.1), n.2)
    )) c.publish.ensures.full
