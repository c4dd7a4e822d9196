use Rattle.std.proofs.Common.{◌∙◌, ap}
use Rattle.board_epochs.proofs.Chaining.{stop_there}
use Rattle.board_epochs.specs.Epochs.{log_of}
use Rattle.board_epochs.specs.Epochs.Epochs.{resets}
use Rattle.reset_work.specs.Working.{stage_in}
use Rattle.reset_work.proofs.Passing.{stop_pulse}
use Rattle.reset_work.proofs.reset.ResetWork.stop_pulse.Goals as goal

pub stop-requires : goal.stop-requires
stop-requires g c =
    let r = c.requires.stands in
    let b = r.6 in
    (r.0, log_of (resets r.3 r.4 r.5), b.port, stop_there r.1 r.2 r.3 r.4 r.5 c.args.left b.epochs.0 b.epochs.1 (b.working.stage_is ∙ ap stage_in c.requires.stage))

pub returns-clause-goes_on : goal.returns-clause-goes_on
returns-clause-goes_on g c rest blocks state es h w b =
    let may = stop_there blocks state es h w c.args.left b.epochs.0 b.epochs.1 (b.working.stage_is ∙ ap stage_in c.requires.stage) in
    stop_pulse (g.P.BoardPort.stands c.args.port.now rest) (g.P.BoardPort.stands c.stop.new.self rest) c.args.self.now c.args.left blocks state es h w c.requires.stage c.requires.words b (c.stop.ensures rest _ b.port may)
