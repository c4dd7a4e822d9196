use Rattle.reset_work.proofs.Dropping.{drop_requests}
use Rattle.reset_work.proofs.reset.ResetWork.drop_requests.Goals as goal

pub returns-clause-goes_on : goal.returns-clause-goes_on
returns-clause-goes_on g c rest blocks state es h w b =
    drop_requests (g.P.BoardPort.stands c.args.port.now rest) (g.P.BoardPort.stands c.take_exec.new.self rest) c.args.self.now c.take_exec.result blocks state es h w c.requires.words b
    (λ asks. c.take_exec.ensures.few asks rest _ b.port) (c.take_exec.ensures.taken rest _ b.port)
