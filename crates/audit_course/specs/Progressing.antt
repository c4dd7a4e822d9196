-- What is known of a line by how it was judged, and by its tasks.
use Rattle.std.specs.Prelude.{◌≡◌, ℕ, ◌+◌, Bool, true, false, cond, not, ◌&&◌, ◌||◌, List, [], ◌∷◌}
use Rattle.std.specs.List.{list_any}
use Rattle.step_line.specs.Asking.{ticks_of_all, moves_of}
use Rattle.step_line.specs.Asking.Asked.{a_move, a_mark}
use Rattle.step_line.specs.declared.Record.{Record}
use Rattle.step_line.specs.declared.Record.TheVariants as kinds
use Rattle.run_rules.specs.Cuts.{ticks_asked_for}
use Rattle.run_rules.specs.Work.{Task, Outcome, accepted_jog, asks, asks_move, told_by, asked_by_task}
use Rattle.run_rules.specs.Work.Task.{ask, halt}
use Rattle.line_interpreter.specs.declared.desk.Accepted.TheVariants.{Neither}
use Rattle.part_making.specs.Judging.{item_ticks, item_moves}
use Rattle.run_texts.specs.Parts.{is_ending}
use Rattle.part_making.specs.declared.Item.{Item}
use Rattle.audit_course.specs.declared.Progress.{Progress}
use Rattle.audit_course.specs.declared.ticks.Ticks.{Ticks}
use Rattle.audit_course.specs.declared.ticks.Ticks.TheVariants.{Whole, Owed, Lost}

-- a task asks for ticks
abbrev pub asks_ticks : Task → Bool
asks_ticks (ask (a_move m)) = true
asks_ticks (ask (a_mark m)) = true
asks_ticks _ = false

-- a list of records has one
abbrev pub has_some : List Record → Bool
has_some [] = false
has_some (r ∷ rs) = true

-- tasks ask for ticks: for a move with events, or a mark
abbrev pub has_ticks : List Task → Bool
has_ticks ts = has_some (ticks_of_all (asks ts))

abbrev pub is_halt : Task → Bool
is_halt halt = true
is_halt _ = false

abbrev pub has_halt : List Task → Bool
has_halt [] = false
has_halt (t ∷ ts) = is_halt t || has_halt ts

-- a task asks for no mark that ends a part
abbrev pub ends_none : Task → Bool
ends_none (ask (a_mark m)) = not (is_ending (kinds.Mark m))
ends_none _ = true

-- a task more of the line at hand is done
pub record Counts (before now : Progress) (t : Task) : Type 0 where
  pub accepted : now.accepted ≡ before.accepted
  pub moves : now.moves ≡ (before.moves || asks_move t)
  pub asks : now.asks ≡ (before.asks || asks_ticks t)
  pub settles : now.settles ≡ before.settles
  pub halts : now.halts ≡ (before.halts || is_halt t)

-- no task of it is done
pub record IsNew (l : Progress) : Type 0 where
  pub moves : l.moves ≡ false
  pub asks : l.asks ≡ false
  pub halts : l.halts ≡ false

-- a task that tells nothing, if its line is answered, and asks for no ticks
pub record IsUnseen (unanswered : Bool) (t : Task) : Type 0 where
  pub told : cond unanswered [] (told_by t) ≡ []
  pub ticks : ticks_of_all (asked_by_task t) ≡ []
  pub moves : moves_of (asked_by_task t) ≡ []
  pub none : asks_ticks t ≡ false

-- a task that asks for an item, and tells nothing
pub record IsItemOf (t : Task) (item : Item) : Type 0 where
  pub ticks : ticks_of_all (asked_by_task t) ≡ item_ticks item
  pub moves : moves_of (asked_by_task t) ≡ item_moves item
  pub told : told_by t ≡ []
  pub some : asks_ticks t ≡ true

-- ---- a line that is done

-- it is no jog, and asks for ticks
abbrev pub is_code : Outcome → Bool
is_code o = not (accepted_jog o.kind) && has_ticks o.work

-- how many ticks some lines ask for, up to and with the last that is so
abbrev pub ticks_to : (Outcome → Bool) → List Outcome → ℕ
ticks_to is_so [] = 0
ticks_to is_so (o ∷ os) = cond (list_any is_so (o ∷ os)) (ticks_asked_for o + ticks_to is_so os) 0

-- lines of this kind have moved since the last answered line that settles, up to it
abbrev pub moved_now : Bool → Progress → Bool → Bool
moved_now of_kind l before = not l.settles && (of_kind && l.moves || before)

-- no line is at hand
abbrev pub fresh : Bool → Progress
fresh halts = record { accepted = Neither; moves = false; asks = false; settles = false; halts = halts }

-- ---- how the ticks of lines stand

abbrev pub is_whole : Ticks → Bool
is_whole Whole = true
is_whole Owed = false
is_whole Lost = false

-- behind one record more, where the part owes nothing or something
abbrev pub behind_record : Bool → Ticks → Ticks
behind_record true Owed = Whole
behind_record idle t = t
