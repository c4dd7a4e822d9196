use Rattle.std.proofs.Common.{arith}
use Rattle.outside.specs.declared.On.TheVariants as on
use Rattle.reset_work.proofs.Going.{waited}
use Rattle.reset_work.proofs.Passing.{found_new_mark}
use Rattle.reset_work.proofs.Waiting.{await_mark}
use Rattle.reset_work.proofs.reset.ResetWork.await_mark.Goals as goal

pub returns-then-mark-self-clause-goes_on : goal.returns-then-mark-self-clause-goes_on
returns-then-mark-self-clause-goes_on g c rest blocks state es h w b =
    let is = g.P.BoardPort.stands c.marked-mark.new.self rest in
    let m = c.marked-mark.result.0 in
    waited is _ _ on.Reset c.args.self.now blocks state es h w c.wait.ensures.turn c.wait.ensures.words
    (await_mark (g.P.BoardPort.stands c.args.port.now rest) is c.args.self.now m c.marked-mark.result.1 blocks state es h w c.requires.stage c.requires.words (omega arith) (omega arith) b (c.marked-mark.ensures rest _ b.port))

pub returns-clause-goes_on : goal.returns-clause-goes_on
returns-clause-goes_on g c rest blocks state es h w b =
    let m = c.marked-mark.result.0 in
    found_new_mark (g.P.BoardPort.stands c.args.port.now rest) (g.P.BoardPort.stands c.marked-mark.new.self rest) c.args.self.now m c.marked-mark.result.1 c.saturating_sub.result blocks state es h w c.requires.stage c.requires.words
    (omega arith) (omega arith) c.saturating_sub.ensures b (c.marked-mark.ensures rest _ b.port)
