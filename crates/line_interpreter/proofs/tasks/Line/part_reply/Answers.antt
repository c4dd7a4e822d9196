use Rattle.std.proofs.Common.{[], ◌∷◌, refl}
use Rattle.run_rules.specs.Work.{closing_work}
use Rattle.run_rules.specs.Work.Task.{tell}
use Rattle.status_report.specs.declared.Reply.TheVariants as replies
use Rattle.line_interpreter.specs.declared.tasks.Body.TheVariants as bodies
use Rattle.line_interpreter.proofs.Parts.{part_by, only_told}
use Rattle.line_interpreter.proofs.tasks.Line.part_reply.Goals as goal

pub returns-in-Opening-clause-next : goal.returns-in-Opening-clause-next
returns-in-Opening-clause-next c = λ reply is.
    let l = c.args.self.now in
    only_told replies.Banner reply (tell replies.Banner ∷ []) l.stage (refl, tt) (part_by l c.args.state.now bodies.Opening (tell reply) c.in-Opening.is is)

pub returns-in-Greets : goal.returns-in-Greets
returns-in-Greets c = record {
  next = λ reply is. c.greeting_told.ensures.next c.in-Greets.field-1 reply (part_by c.args.self.now c.args.state.now (bodies.Greets c.in-Greets.alarm c.in-Greets.field-1) (tell reply) c.in-Greets.is is);
  valid = c.greeting_told.ensures.valid;
  plain = c.greeting_told.ensures.plain;
}

pub returns-in-Closing-clause-next : goal.returns-in-Closing-clause-next
returns-in-Closing-clause-next c = λ reply is.
    let l = c.args.self.now in
    only_told replies.Bye reply closing_work l.stage (refl, tt) (part_by l c.args.state.now bodies.Closing (tell reply) c.in-Closing.is is)

pub returns-in-Refused-clause-next : goal.returns-in-Refused-clause-next
returns-in-Refused-clause-next c = λ reply is.
    let l = c.args.self.now in
    let error = replies.Error c.in-Refused.number in
    only_told error reply (tell error ∷ []) l.stage (refl, tt) (part_by l c.args.state.now (bodies.Refused c.in-Refused.number) (tell reply) c.in-Refused.is is)

pub returns-in-Accepted-clause-next : goal.returns-in-Accepted-clause-next
returns-in-Accepted-clause-next c = λ reply is.
    let l = c.args.self.now in
    only_told replies.Ok reply (tell replies.Ok ∷ []) l.stage (refl, tt) (part_by l c.args.state.now bodies.Accepted (tell reply) c.in-Accepted.is is)

pub modes_told-requires : goal.modes_told-requires
modes_told-requires c = c.requires.state.parser

pub returns-in-Settings : goal.returns-in-Settings
returns-in-Settings c = record {
  next = λ reply is. c.setting_told.ensures.next reply (part_by c.args.self.now c.args.state.now bodies.Settings (tell reply) c.in-Settings.is is);
  valid = c.setting_told.ensures.valid;
  plain = c.setting_told.ensures.plain;
}

pub returns-in-Modes : goal.returns-in-Modes
returns-in-Modes c = record {
  next = λ reply is. c.modes_told.ensures.next reply (part_by c.args.self.now c.args.state.now bodies.Modes (tell reply) c.in-Modes.is is);
  valid = c.modes_told.ensures.valid;
  plain = c.modes_told.ensures.plain;
}

pub returns-in-Unlocks : goal.returns-in-Unlocks
returns-in-Unlocks c = record {
  next = λ reply is. c.unlock_told.ensures.next reply (part_by c.args.self.now c.args.state.now bodies.Unlocks (tell reply) c.in-Unlocks.is is);
  valid = c.unlock_told.ensures.valid;
  plain = c.unlock_told.ensures.plain;
}

pub returns-in-Offsets : goal.returns-in-Offsets
returns-in-Offsets c = record {
  next = λ reply is. c.offset_told.ensures.next reply (part_by c.args.self.now c.args.state.now bodies.Offsets (tell reply) c.in-Offsets.is is);
  valid = c.offset_told.ensures.valid;
  plain = c.offset_told.ensures.plain;
}

pub returns-in-Limited : goal.returns-in-Limited
returns-in-Limited c = record {
  next = λ reply is. c.halting_told.ensures.next reply (part_by c.args.self.now c.args.state.now bodies.Limited (tell reply) c.in-Limited.is is);
  valid = c.halting_told.ensures.valid;
  plain = c.halting_told.ensures.plain;
}

pub returns-in-Items : goal.returns-in-Items
returns-in-Items c = record { next = c.items_reply.ensures.next c.args.state.now; valid = c.items_reply.ensures.valid; plain = c.items_reply.ensures.plain }
