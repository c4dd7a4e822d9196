use Rattle.reset_work.proofs.Passing.{drop_changes}
use Rattle.reset_work.proofs.reset.ResetWork.drop_changes.Goals as goal

pub returns-clause-goes_on : goal.returns-clause-goes_on
returns-clause-goes_on g c rest blocks state es h w b =
    drop_changes (g.P.BoardPort.stands c.args.port.now rest) (g.P.BoardPort.stands c.take_override.new.self rest) c.args.self.now c.take_override.result blocks state es h w c.requires.stage c.requires.words b (c.take_override.ensures rest _ b.port)
