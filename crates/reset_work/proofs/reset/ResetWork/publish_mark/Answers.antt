use Rattle.std.proofs.Common.{◌∙◌, ap}
use Rattle.board_epochs.proofs.Asking.{room_for_mark}
use Rattle.board_epochs.specs.Epochs.{log_of}
use Rattle.board_epochs.specs.Epochs.Epochs.{resets}
use Rattle.outside.specs.declared.On.TheVariants as on
use Rattle.outside.specs.declared.Turn.TheVariants.{Wait}
use Rattle.reset_work.specs.Working.{WorksOn, stage_in}
use Rattle.reset_work.proofs.Passing.{may_publish, publish_mark}
use Rattle.reset_work.proofs.reset.ResetWork.publish_mark.Goals as goal

pub publish-requires : goal.publish-requires
publish-requires g c =
    let r = c.requires.stands in
    let b = r.6 in
    (r.0, log_of (resets r.3 r.4 r.5), b.port, may_publish (g.P.BoardPort.stands c.args.port.now r.0) c.args.self.now r.1 r.2 r.3 r.4 r.5 c.requires.stage b)

pub returns-in-Ok-clause-goes_on : goal.returns-in-Ok-clause-goes_on
returns-in-Ok-clause-goes_on g c rest blocks state es h w b =
    let was = g.P.BoardPort.stands c.args.port.now rest in
    publish_mark was (g.P.BoardPort.stands c.publish.new.self rest) c.args.self.now blocks state es h w c.requires.stage c.requires.words b
    (c.in-Ok.ensures.ok rest _ b.port (may_publish was c.args.self.now blocks state es h w c.requires.stage b))

pub returns-in-Err-clause-goes_on : goal.returns-in-Err-clause-goes_on
returns-in-Err-clause-goes_on g c rest blocks state es h w b =
    let full = c.in-Err.ensures.full rest _ b.port in
    absurd {A = WorksOn (g.P.BoardPort.stands c.publish.new.self rest) (Wait on.SegmentRoom) c.args.self.now c.args.self.now blocks state es h w} (room_for_mark blocks state es h w full.0 b.epochs (b.working.stage_is ∙ ap stage_in c.requires.stage) full.2)

pub returns-in-Err-clause-answers : goal.returns-in-Err-clause-answers
returns-in-Err-clause-answers g c =
    let r = c.requires.stands in
    let b = r.6 in
    let full = c.in-Err.ensures.full r.0 _ b.port in
    absurd (room_for_mark r.1 r.2 r.3 r.4 r.5 full.0 b.epochs (b.working.stage_is ∙ ap stage_in c.requires.stage) full.2)
