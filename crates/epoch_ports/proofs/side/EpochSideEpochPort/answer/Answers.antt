use Rattle.std.proofs.lemmas.Result.{on_ok_weaker}
use Rattle.board_journal.specs.Steps.{port_log}
use Rattle.epoch_ports.specs.Serving.{all_since}
use Rattle.epoch_ports.proofs.Counting.{may_answer, told}
use Rattle.epoch_ports.proofs.side.EpochSideEpochPort.answer.Goals as goal

pub answer-requires : goal.answer-requires
answer-requires g c =
    let r = c.requires in let since = r.0.0 in
    (since.rest, all_since since.closed (port_log r.2), r.3.1.stands, may_answer g.P.BoardPort.Rest (g.P.BoardPort.stands c.args.self.now.port.now) c.args.self.now.base since r.1 r.2 r.3.1 c.args.r r.4)

pub returns-clause-ok : goal.returns-clause-ok
returns-clause-ok g c =
    let Rest = g.P.BoardPort.Rest in
    let old = g.P.BoardPort.stands c.args.self.now.port.now in
    let base = c.args.self.now.base in
    on_ok_weaker c.answer.result (λ said since first h s may. (
      s.0,
      told Rest old (g.P.BoardPort.stands c.answer.new.self) base since.0 first (port_log h) s.1 c.args.r
          (said since.0.rest (all_since since.0.closed (port_log h)) s.1.stands (may_answer Rest old base since.0 first h s.1 c.args.r may)),
    )) c.answer.ensures.ok
