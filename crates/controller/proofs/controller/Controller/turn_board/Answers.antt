use Rattle.std.proofs.Common.{◌-◌, rules, refl, arith}
use Rattle.board_epochs.specs.Epochs.{opening_behind}
use Rattle.controller.proofs.Going.{since_closed, serves}
use Rattle.controller.proofs.controller.Controller.turn_board.Goals as goal

pub turn-requires : goal.turn-requires
turn-requires g c =
    let r = c.requires in
    (omega arith, ((since_closed r.0 (g.row.N - 1) r.1 r.2, _), opening_behind (g.row.N - 1) r.1 r.2, r.3, (refl, serves g.P.BoardPort.Rest (g.P.BoardPort.stands c.args.port.now) c.ticks.result r.0 (g.row.N - 1) r.1 r.2 r.3 (c.ticks.ensures r.2 r.5.counts) r.4 r.5.epochs), r.5.board, r.6, r.5.unready))

pub returns-clause-goes_on : goal.returns-clause-goes_on
returns-clause-goes_on g c = λ rest state es h at f between.
    let s = serves g.P.BoardPort.Rest (g.P.BoardPort.stands c.args.port.now) c.ticks.result rest (g.row.N - 1) state es h (c.ticks.ensures es f.counts) at f.epochs in
    let n = c.turn.ensures.goes_on (since_closed rest (g.row.N - 1) state es, _) (opening_behind (g.row.N - 1) state es) h (refl, s) f.board between f.unready in
    let stood = n.1.1.stands in
    record {
      next = n.0;
      port = search rules;
      epochs = (f.epochs.0, record { conducted = n.2.keeps.conducted; prompt = n.2.keeps.prompt }, record { bytes = n.1.1.bounded.bytes; reports = n.1.1.bounded.reports });
      fits = n.2;
      between = n.3;
      turned = n.4;
    }
