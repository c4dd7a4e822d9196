use Rattle.std.proofs.Common.{◌-◌, arith, Some, refl, sym, ◌∙◌}
use Rattle.board_epochs.specs.Epochs.{closed_log, last_line, log_behind, opening_behind}
use Rattle.controller.proofs.Working.{work_between, still_works, epoch_begins}
use Rattle.controller.proofs.controller.Controller.work_on.Goals as goal

pub begin_epoch-requires : goal.begin_epoch-requires
begin_epoch-requires g c =
    let r = c.requires.stands in
    let b = work_between (g.P.BoardPort.stands c.args.port.now r.0) r.1 c.args.self.now c.in-Some.work r.2 r.3 r.4 c.in-Some.is r.5 r.6 r.7 in
    let n = c.turn-turn.ensures.goes_on r.0 (g.row.N - 1) r.1 r.2 r.3 r.4 b r.6.unworked in
    let worked = (c.is_worked.ensures (last_line (opening_behind (g.row.N - 1) r.1 r.2) r.3) (log_behind (closed_log r.2) r.3) n.0 n.1.working n.1.between).0 c.if-is_worked.true in
    (omega arith, (r.1, r.2, r.3, n.0, n.1.epochs, worked, r.6.board, r.6.counts, n.1.working))

pub returns-then-is_worked-clause-goes_on : goal.returns-then-is_worked-clause-goes_on
returns-then-is_worked-clause-goes_on g c = λ rest state es h w at f between.
    let was = c.args.self.now in
    let b = work_between (g.P.BoardPort.stands c.args.port.now rest) state was c.in-Some.work es h w c.in-Some.is at f between in
    let n = c.turn-turn.ensures.goes_on rest (g.row.N - 1) state es h w b f.unworked in
    let worked = (c.is_worked.ensures (last_line (opening_behind (g.row.N - 1) state es) h) (log_behind (closed_log es) h) n.0 n.1.working n.1.between).0 c.if-is_worked.true in
    epoch_begins (g.P.BoardPort.stands c.turn-turn.new.port rest) c.turn-turn.result state was c.begin_epoch.new.self c.in-Some.work c.turn-turn.new.self es h w n c.in-Some.is
    (c.begin_epoch.ensures.begins state es h n.0 n.1.epochs worked f.board f.counts n.1.working) worked

pub returns-else-is_worked-clause-goes_on : goal.returns-else-is_worked-clause-goes_on
returns-else-is_worked-clause-goes_on g c = λ rest state es h w at f between.
    let was = c.args.self.now in
    let b = work_between (g.P.BoardPort.stands c.args.port.now rest) state was c.in-Some.work es h w c.in-Some.is at f between in
    let n = c.turn-turn.ensures.goes_on rest (g.row.N - 1) state es h w b f.unworked in
    still_works (g.P.BoardPort.stands c.turn-turn.new.port rest) c.turn-turn.result state was (record was { reset = Some c.turn-turn.new.self }) c.in-Some.work c.turn-turn.new.self es h w n f c.in-Some.is refl
    (λ worked. absurd (let e = sym c.if-is_worked.false ∙ (c.is_worked.ensures (last_line (opening_behind (g.row.N - 1) state es) h) (log_behind (closed_log es) h) n.0 n.1.working n.1.between).1 worked in cc))
