use Rattle.std.proofs.Common.{◌-◌, arith, sym, ◌∙◌, subst}
use Rattle.board_epochs.specs.Epochs.{opening_behind}
use Rattle.reset_work.specs.Counting.{IsCounted}
use Rattle.controller.specs.declared.controller.Controller.{Controller}
use Rattle.controller.proofs.Going.{still_goes, reset_begins}
use Rattle.controller.proofs.controller.Controller.turn_epoch.Goals as goal

pub begin_reset-requires : goal.begin_reset-requires
begin_reset-requires g c =
    let r = c.requires in
    let w = c.turn_board-turn.ensures.goes_on r.0 r.1 r.2 r.3 r.4 r.5 r.6 in
    (omega arith, (r.1, r.2, w.next, w.epochs, w.fits, subst (λ (x : Controller _). IsCounted x.counts r.2) (sym c.turn_board-turn.ensures.same) r.5.counts))

pub returns-then-may_reset-clause-goes_on : goal.returns-then-may_reset-clause-goes_on
returns-then-may_reset-clause-goes_on g c = λ rest state es h at f between.
    let w = c.turn_board-turn.ensures.goes_on rest state es h at f between in
    let may = (c.may_reset.ensures (opening_behind (g.row.N - 1) state es) w.next w.fits w.between).0 c.if-may_reset.true in
    let counts = subst (λ (x : Controller _). IsCounted x.counts es) (sym c.turn_board-turn.ensures.same) f.counts in
    reset_begins (g.P.BoardPort.stands c.turn_board-turn.new.port rest) c.turn_board-turn.result state c.args.self.now c.begin_reset.new.self c.turn_board-turn.new.self.board es h w
    (c.begin_reset.ensures.begins state es w.next w.epochs may w.fits counts) c.begin_reset.ensures.few

pub returns-else-may_reset-clause-goes_on : goal.returns-else-may_reset-clause-goes_on
returns-else-may_reset-clause-goes_on g c = λ rest state es h at f between.
    let w = c.turn_board-turn.ensures.goes_on rest state es h at f between in
    still_goes (g.P.BoardPort.stands c.turn_board-turn.new.port rest) c.turn_board-turn.result state c.args.self.now c.turn_board-turn.new.self es h w f c.turn_board-turn.ensures.same
    (λ may. absurd (let e = sym c.if-may_reset.false ∙ (c.may_reset.ensures (opening_behind (g.row.N - 1) state es) w.next w.fits w.between).1 may in cc))
