-- What is left to do of a line.
use Rattle.std.specs.Prelude.{◌≡◌, ℕ, ◌≤◌, Bool, cond, List, [], ◌∷◌, ◌++◌, drop, All}
use Rattle.status_report.specs.declared.Message.TheVariants.{Locked, Unlocked}
use Rattle.status_report.specs.declared.Reply.TheVariants as replies
use Rattle.status_report.specs.declared.Reply.{Reply}
use Rattle.status_report.specs.Lists.{setting_replies, modes_replies, offset_replies}
use Rattle.step_line.specs.Records.{IsMark}
use Rattle.step_line.specs.declared.planned_move.PlannedMove.{PlannedMove}
use Rattle.step_line.specs.Asking.Asked.{a_move, a_mark, a_rest}
use Rattle.gcode_check.specs.declared.Item.{Item}
use Rattle.gcode_check.specs.Items.{IsItem}
use Rattle.modal_state.specs.declared.SpindleMode.{SpindleMode}
use Rattle.run_rules.specs.declared.State.{State}
use Rattle.run_rules.specs.Work.{Task, telling, closing_work, halting_work}
use Rattle.run_rules.specs.Work.Task.{ask, tell, pause, normal, finish, halt}
use Rattle.run_rules.specs.Asks.{spindle_after, flood_after, item_work, work_of}
use Rattle.line_interpreter.specs.declared.tasks.Line.{Line}
use Rattle.line_interpreter.specs.declared.tasks.Body.{Body}
use Rattle.line_interpreter.specs.declared.tasks.Body.TheVariants.{Opening, Greets, Closing, Accepted, Unlocks, Refused, Settings as TheSettings, Modes, Offsets, Limited, Items}
use Rattle.line_interpreter.specs.declared.tasks.Todo.{Todo}
use Rattle.line_interpreter.specs.declared.tasks.Todo.TheVariants as todo

-- What greets behind a reset: its alarm, if there is one, the banner, and that the machine is locked, if it is.
abbrev pub greeting : (alarm locked : Bool) → List Reply
greeting alarm locked = cond alarm (replies.Alarm 3 ∷ []) [] ++ replies.Banner ∷ cond locked (replies.Message Locked ∷ []) []

-- the tasks of the present item, or of the whole where there are no items
abbrev pub part : Body → ℕ → State → SpindleMode → Bool → List Item → List Task
part Opening line s spindle flood items = tell replies.Banner ∷ []
part (Greets alarm locked) line s spindle flood items = telling (greeting alarm locked)
part Closing line s spindle flood items = closing_work
part Accepted line s spindle flood items = tell replies.Ok ∷ []
part Unlocks line s spindle flood items = telling (replies.Message Unlocked ∷ replies.Ok ∷ [])
part (Refused n) line s spindle flood items = tell (replies.Error n) ∷ []
part TheSettings line s spindle flood items = telling (setting_replies s.settings ++ replies.Ok ∷ [])
part Modes line s spindle flood items = telling (modes_replies s.parser ++ replies.Ok ∷ [])
part Offsets line s spindle flood items = telling (offset_replies s.parser.offsets ++ replies.Ok ∷ [])
part Limited line s spindle flood items = halting_work
part Items line s spindle flood [] = tell replies.Ok ∷ []
part Items line s spindle flood (item ∷ items) = item_work line s.settings spindle flood item

-- the tasks of what comes behind it
abbrev pub behind_part : Body → ℕ → State → SpindleMode → Bool → List Item → List Task
behind_part Opening line s spindle flood items = []
behind_part (Greets alarm locked) line s spindle flood items = []
behind_part Closing line s spindle flood items = []
behind_part Accepted line s spindle flood items = []
behind_part Unlocks line s spindle flood items = []
behind_part (Refused n) line s spindle flood items = []
behind_part TheSettings line s spindle flood items = []
behind_part Modes line s spindle flood items = []
behind_part Offsets line s spindle flood items = []
behind_part Limited line s spindle flood items = []
behind_part Items line s spindle flood [] = []
behind_part Items line s spindle flood (item ∷ items) =
    work_of line s.settings (spindle_after spindle item) (flood_after flood item) items ++ tell replies.Ok ∷ []

abbrev pub part_of : Line → State → List Task
part_of l s = part l.body l.number s l.running.spindle l.running.flood (drop l.place l.items.items)

-- what is left of it
abbrev pub part_left : Line → State → List Task
part_left l s = drop l.stage (part_of l s)

abbrev pub later : Line → State → List Task
later l s = behind_part l.body l.number s l.running.spindle l.running.flood (drop l.place l.items.items)

-- what is left of the whole line
abbrev pub work_left : Line → State → List Task
work_left l s = part_left l s ++ later l s

-- nothing comes behind a part of which nothing is left
abbrev pub IsSettled : Line → State → Type 0
IsSettled l s = part_left l s ≡ [] → later l s ≡ []

-- a task comes next
abbrev pub IsNextOf : Task → List Task → Type 0
IsNextOf t tasks = tasks ≡ t ∷ drop 1 tasks

-- what there is to do next of these tasks
abbrev pub IsTodo : Todo → List Task → Type 0
IsTodo todo.Nothing tasks = tasks ≡ []
IsTodo todo.Rest tasks = IsNextOf (ask a_rest) tasks
IsTodo (todo.Mark m) tasks = IsNextOf (ask (a_mark m)) tasks × IsMark m
IsTodo todo.Move tasks = (m : PlannedMove) × IsNextOf (ask (a_move m)) tasks
IsTodo todo.Tell tasks = (r : Reply) × IsNextOf (tell r) tasks
IsTodo todo.Pause tasks = IsNextOf pause tasks
IsTodo todo.Normal tasks = IsNextOf normal tasks
IsTodo todo.Finish tasks = IsNextOf finish tasks
IsTodo todo.Halt tasks = IsNextOf halt tasks

-- what it keeps as its next task is that
abbrev pub KnowsNext : Line → Type 0
KnowsNext l = (s : State) → IsTodo l.next (part_left l s)

-- the fields of a line are in range
pub record IsSound (l : Line) : Type 0 where
  pub line : 1 ≤ l.number
  pub items : All IsItem l.items.items
