use Rattle.std.proofs.Common.{arith}
use Rattle.outside.specs.declared.On.TheVariants as on
use Rattle.reset_work.proofs.Going.{waited}
use Rattle.reset_work.proofs.Passing.{found_done}
use Rattle.reset_work.proofs.Waiting.{await_done}
use Rattle.reset_work.proofs.reset.ResetWork.await_mark_done.Goals as goal

pub returns-then-done-self-clause-goes_on : goal.returns-then-done-self-clause-goes_on
returns-then-done-self-clause-goes_on g c rest blocks state es h w b =
    let is = g.P.BoardPort.stands c.done-done.new.self rest in
    waited is _ _ on.Motion c.args.self.now blocks state es h w c.wait.ensures.turn c.wait.ensures.words
    (await_done (g.P.BoardPort.stands c.args.port.now rest) is c.args.self.now c.done-done.result blocks state es h w c.requires.stage c.requires.words (c.done-done.ensures.known rest _ b.port) (omega arith) b (c.done-done.ensures.done rest _ b.port))

pub returns-clause-goes_on : goal.returns-clause-goes_on
returns-clause-goes_on g c rest blocks state es h w b =
    found_done (g.P.BoardPort.stands c.args.port.now rest) (g.P.BoardPort.stands c.done-done.new.self rest) c.args.self.now c.done-done.result blocks state es h w c.requires.stage c.requires.words
    (c.done-done.ensures.known rest _ b.port) (omega arith) b (c.done-done.ensures.done rest _ b.port)
