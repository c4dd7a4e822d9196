use Rattle.std.proofs.Common.{[], refl}
use Rattle.status_report.specs.Lists.{setting_replies, modes_replies, offset_replies}
use Rattle.run_rules.specs.Outcomes.{told}
use Rattle.line_interpreter.specs.declared.tasks.Body.TheVariants as bodies
use Rattle.line_interpreter.proofs.Judging.{accepted_begun, settings_begun, modes_begun, offsets_begun, begun_number, begun_ready, accepted_alone, settings_alone, modes_alone, offsets_alone}
use Rattle.line_interpreter.proofs.desk.Desk.obey.Goals as goal

pub returns-in-Set-clause-begun : goal.returns-in-Set-clause-begun
returns-in-Set-clause-begun c = λ since.
    let is = c.set.ensures.begun since in
    (is.0, rw c.in-Set.is is.1, is.2)

pub returns-in-Unlock-clause-begun : goal.returns-in-Unlock-clause-begun
returns-in-Unlock-clause-begun c = λ since.
    let s = c.args.self.now.state in
    (told s [], rw c.in-Unlock.is refl, accepted_begun c.args.self.now _ s c.begin.ensures.same)

pub returns-in-ListSettings-clause-begun : goal.returns-in-ListSettings-clause-begun
returns-in-ListSettings-clause-begun c = λ since.
    let s = c.args.self.now.state in
    (told s (setting_replies s.settings), rw c.in-ListSettings.is refl, settings_begun c.args.self.now _ c.begin-in-ListSettings.ensures.same)

pub returns-in-ListModes-clause-begun : goal.returns-in-ListModes-clause-begun
returns-in-ListModes-clause-begun c = λ since.
    let s = c.args.self.now.state in
    (told s (modes_replies s.parser), rw c.in-ListModes.is refl, modes_begun c.args.self.now _ c.begin-in-ListModes.ensures.same)

pub returns-in-ListOffsets-clause-begun : goal.returns-in-ListOffsets-clause-begun
returns-in-ListOffsets-clause-begun c = λ since.
    let s = c.args.self.now.state in
    (told s (offset_replies s.parser.offsets), rw c.in-ListOffsets.is refl, offsets_begun c.args.self.now _ c.begin-in-ListOffsets.ensures.same)

pub set-requires : goal.set-requires
set-requires c = c.requires

pub returns-in-Set-clause-number : goal.returns-in-Set-clause-number
returns-in-Set-clause-number c = c.set.ensures.number

pub returns-in-Set-clause-ready : goal.returns-in-Set-clause-ready
returns-in-Set-clause-ready c = c.set.ensures.ready

pub begin-requires : goal.begin-requires
begin-requires c = record { body = accepted_alone }

pub returns-in-Unlock-clause-number : goal.returns-in-Unlock-clause-number
returns-in-Unlock-clause-number c = begun_number c.args.self.now _ bodies.Accepted c.begin.ensures.same

pub returns-in-Unlock-clause-ready : goal.returns-in-Unlock-clause-ready
returns-in-Unlock-clause-ready c = begun_ready c.args.self.now _ bodies.Accepted c.begin.ensures.same c.requires.ready

pub begin-requires-in-ListSettings : goal.begin-requires-in-ListSettings
begin-requires-in-ListSettings c = record { body = settings_alone }

pub returns-in-ListSettings-clause-number : goal.returns-in-ListSettings-clause-number
returns-in-ListSettings-clause-number c = begun_number c.args.self.now _ bodies.Settings c.begin-in-ListSettings.ensures.same

pub returns-in-ListSettings-clause-ready : goal.returns-in-ListSettings-clause-ready
returns-in-ListSettings-clause-ready c = begun_ready c.args.self.now _ bodies.Settings c.begin-in-ListSettings.ensures.same c.requires.ready

pub begin-requires-in-ListModes : goal.begin-requires-in-ListModes
begin-requires-in-ListModes c = record { body = modes_alone }

pub returns-in-ListModes-clause-number : goal.returns-in-ListModes-clause-number
returns-in-ListModes-clause-number c = begun_number c.args.self.now _ bodies.Modes c.begin-in-ListModes.ensures.same

pub returns-in-ListModes-clause-ready : goal.returns-in-ListModes-clause-ready
returns-in-ListModes-clause-ready c = begun_ready c.args.self.now _ bodies.Modes c.begin-in-ListModes.ensures.same c.requires.ready

pub begin-requires-in-ListOffsets : goal.begin-requires-in-ListOffsets
begin-requires-in-ListOffsets c = record { body = offsets_alone }

pub returns-in-ListOffsets-clause-number : goal.returns-in-ListOffsets-clause-number
returns-in-ListOffsets-clause-number c = begun_number c.args.self.now _ bodies.Offsets c.begin-in-ListOffsets.ensures.same

pub returns-in-ListOffsets-clause-ready : goal.returns-in-ListOffsets-clause-ready
returns-in-ListOffsets-clause-ready c = begun_ready c.args.self.now _ bodies.Offsets c.begin-in-ListOffsets.ensures.same c.requires.ready
