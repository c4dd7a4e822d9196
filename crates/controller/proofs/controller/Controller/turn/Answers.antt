use Rattle.controller.proofs.Turns.{goes_so, goes_gone, resets_so, resets_gone, few_going}
use Rattle.controller.proofs.controller.Controller.turn.Goals as goal
use Rattle.std.proofs.Common.{arith, sym, ◌∙◌}

pub turn_epoch-requires : goal.turn_epoch-requires
turn_epoch-requires g c =
    let r = c.requires.stands in
    let w = goes_so (g.P.BoardPort.stands c.args.port.now r.0) c.args.self.now r.1 c.in-None.is r.2 r.3 r.4 in
    (omega arith, (r.0, w.state, w.closed, w.journal, w.at, w.fits, w.between))

pub returns-in-None-clause-goes_on : goal.returns-in-None-clause-goes_on
returns-in-None-clause-goes_on g c = λ rest e at f between.
    let s = c.args.self.now in
    let was = g.P.BoardPort.stands c.args.port.now rest in
    let w = goes_so was s e c.in-None.is at f between in
    goes_gone (g.P.BoardPort.stands c.turn_epoch.new.port rest) c.turn_epoch.result s c.turn_epoch.new.self e was w (c.turn_epoch.ensures.goes_on rest w.state w.closed w.journal w.at w.fits w.between)

pub returns-in-None-clause-few : goal.returns-in-None-clause-few
returns-in-None-clause-few g c = λ state e f. few_going state c.args.self.now e c.in-None.is f

pub work_on-requires : goal.work_on-requires
work_on-requires g c =
    let r = c.requires.stands in
    let w = resets_so (g.P.BoardPort.stands c.args.port.now r.0) c.args.self.now c.in-Some.field-0 r.1 c.in-Some.is r.2 r.3 r.4 in
    (omega arith, ((r.0, w.state, w.closed, w.journal, w.work, w.at, w.fits, w.between), λ none. let e = sym c.in-Some.is ∙ none in cc))

pub returns-in-Some-clause-goes_on : goal.returns-in-Some-clause-goes_on
returns-in-Some-clause-goes_on g c = λ rest e at f between.
    let s = c.args.self.now in
    let was = g.P.BoardPort.stands c.args.port.now rest in
    let w = resets_so was s c.in-Some.field-0 e c.in-Some.is at f between in
    resets_gone (g.P.BoardPort.stands c.work_on.new.port rest) c.work_on.result s c.work_on.new.self e was w (c.work_on.ensures.goes_on rest w.state w.closed w.journal w.work w.at w.fits w.between)
