use Rattle.std.proofs.Common.{◌∙◌, ap}
use Rattle.board_epochs.proofs.Chaining.{halt_there}
use Rattle.board_epochs.specs.Epochs.{log_of}
use Rattle.board_epochs.specs.Epochs.Epochs.{resets}
use Rattle.reset_work.specs.Working.{stage_in}
use Rattle.outside.specs.declared.On.TheVariants as on
use Rattle.reset_work.proofs.Going.{waited}
use Rattle.reset_work.proofs.Passing.{found_halted}
use Rattle.reset_work.proofs.Waiting.{await_halt}
use Rattle.reset_work.proofs.reset.ResetWork.await_halt.Goals as goal

pub halted-requires : goal.halted-requires
halted-requires g c =
    let r = c.requires.stands in
    let b = r.6 in
    (r.0, log_of (resets r.3 r.4 r.5), b.port, halt_there r.1 r.2 r.3 r.4 r.5 c.args.left b.epochs.1 (b.working.stage_is ∙ ap stage_in c.requires.stage))

pub returns-in-None-clause-goes_on : goal.returns-in-None-clause-goes_on
returns-in-None-clause-goes_on g c rest blocks state es h w b =
    let is = g.P.BoardPort.stands c.halted.new.self rest in
    let may = halt_there blocks state es h w c.args.left b.epochs.1 (b.working.stage_is ∙ ap stage_in c.requires.stage) in
    waited is _ _ on.Halt c.args.self.now blocks state es h w c.wait.ensures.turn c.wait.ensures.words
    (await_halt (g.P.BoardPort.stands c.args.port.now rest) is c.args.self.now c.args.left blocks state es h w c.requires.stage c.requires.words b (c.in-None.ensures.none rest _ b.port may))

pub returns-in-Some-clause-goes_on : goal.returns-in-Some-clause-goes_on
returns-in-Some-clause-goes_on g c rest blocks state es h w b =
    let may = halt_there blocks state es h w c.args.left b.epochs.1 (b.working.stage_is ∙ ap stage_in c.requires.stage) in
    let found = c.in-Some.ensures.some rest _ b.port may in
    found_halted (g.P.BoardPort.stands c.args.port.now rest) (g.P.BoardPort.stands c.halted.new.self rest) c.args.self.now c.args.left c.in-Some.done blocks state es h w c.requires.stage c.requires.words found.1 b found.0
