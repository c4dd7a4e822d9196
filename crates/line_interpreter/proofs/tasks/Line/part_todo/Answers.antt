use Rattle.std.proofs.Common.{[], ◌∷◌, ◌++◌, refl, sym}
use Rattle.status_report.specs.Lists.{setting_replies, modes_replies, offset_replies}
use Rattle.status_report.specs.declared.Message.TheVariants.{Unlocked}
use Rattle.status_report.specs.declared.Reply.TheVariants as replies
use Rattle.line_interpreter.specs.declared.tasks.Body.TheVariants.{Opening, Greets, Accepted, Unlocks, Refused, Settings, Modes, Offsets}
use Rattle.line_interpreter.specs.Lefts.{greeting}
use Rattle.line_interpreter.proofs.Parts.{todo_by_body, settings_many, offsets_many}
use Rattle.line_interpreter.proofs.tasks.Line.part_todo.Goals as goal

pub returns-in-Opening : goal.returns-in-Opening
returns-in-Opening c = record { next = λ s. todo_by_body c.told_todo.result c.args.self.now s Opening c.in-Opening.is (c.told_todo.ensures.next (replies.Banner ∷ []) refl) }

pub returns-in-Greets : goal.returns-in-Greets
returns-in-Greets c = record {
  next = λ s. todo_by_body c.told_todo-in-Greets.result c.args.self.now s (Greets c.in-Greets.alarm c.in-Greets.locked) c.in-Greets.is (c.told_todo-in-Greets.ensures.next (greeting c.in-Greets.alarm c.in-Greets.locked) (sym c.greeting_count.ensures));
}

pub returns-in-Accepted : goal.returns-in-Accepted
returns-in-Accepted c = record { next = λ s. todo_by_body c.told_todo-in-Accepted.result c.args.self.now s Accepted c.in-Accepted.is (c.told_todo-in-Accepted.ensures.next (replies.Ok ∷ []) refl) }

pub returns-in-Refused : goal.returns-in-Refused
returns-in-Refused c = record { next = λ s. todo_by_body c.told_todo-in-Refused.result c.args.self.now s (Refused c.in-Refused.field-0) c.in-Refused.is (c.told_todo-in-Refused.ensures.next (replies.Error c.in-Refused.field-0 ∷ []) refl) }

pub returns-in-Settings : goal.returns-in-Settings
returns-in-Settings c = record { next = λ s. todo_by_body c.told_todo-in-Settings.result c.args.self.now s Settings c.in-Settings.is (c.told_todo-in-Settings.ensures.next (setting_replies s.settings ++ replies.Ok ∷ []) (settings_many s.settings)) }

pub returns-in-Modes : goal.returns-in-Modes
returns-in-Modes c = record { next = λ s. todo_by_body c.told_todo-in-Modes.result c.args.self.now s Modes c.in-Modes.is (c.told_todo-in-Modes.ensures.next (modes_replies s.parser ++ replies.Ok ∷ []) refl) }

pub returns-in-Unlocks : goal.returns-in-Unlocks
returns-in-Unlocks c = record { next = λ s. todo_by_body c.told_todo-in-Unlocks.result c.args.self.now s Unlocks c.in-Unlocks.is (c.told_todo-in-Unlocks.ensures.next (replies.Message Unlocked ∷ replies.Ok ∷ []) refl) }

pub returns-in-Offsets : goal.returns-in-Offsets
returns-in-Offsets c = record { next = λ s. todo_by_body c.told_todo-in-Offsets.result c.args.self.now s Offsets c.in-Offsets.is (c.told_todo-in-Offsets.ensures.next (offset_replies s.parser.offsets ++ replies.Ok ∷ []) (offsets_many s.parser.offsets)) }
