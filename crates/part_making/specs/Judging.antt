-- What a judge of the records of a part knows, and what it says of the next record.
use Rattle.std.specs.Prelude.{◌≡◌, ◌≤◌, ℕ, ◌+◌, ◌-◌, false, List, [], ◌∷◌, ◌++◌, map, None, Some, option_map}
use Rattle.std.specs.declared.option.Option.{Option}
use Rattle.legal_heads.specs.Speeds.{IsOfItsMove}
use Rattle.legal_heads.specs.declared.ToldHead.{ToldHead}
use Rattle.step_line.specs.Asking.{IsPlannedMove}
use Rattle.step_line.specs.Counting.{events_of}
use Rattle.step_line.specs.Events.{events_after, line_events}
use Rattle.step_line.specs.declared.Bits.{Bits}
use Rattle.step_line.specs.declared.Head.{Head}
use Rattle.step_line.specs.declared.Record.{Record}
use Rattle.step_line.specs.declared.Record.TheVariants as kinds
use Rattle.step_line.specs.declared.planned_move.PlannedMove.{PlannedMove}
use Rattle.run_texts.specs.Making.{Making, Comes}
use Rattle.run_texts.specs.Parts.{is_ending}
use Rattle.part_making.specs.declared.Item.{Item}
use Rattle.part_making.specs.declared.Item.TheVariants as items

-- ---- an item that is asked for

abbrev pub item_ticks : Item → List Record
item_ticks (items.Move m) = map kinds.Event (line_events m.mv)
item_ticks (items.Mark mark) = kinds.Mark mark ∷ []

abbrev pub item_moves : Item → List PlannedMove
item_moves (items.Move m) = m ∷ []
item_moves (items.Mark mark) = []

-- a move may be planned, and a mark ends no part
abbrev pub IsItem : Item → Type 0
IsItem (items.Move m) = IsPlannedMove m
IsItem (items.Mark mark) = is_ending (kinds.Mark mark) ≡ false

abbrev pub all_ticks : Option Item → List Record
all_ticks None = []
all_ticks (Some item) = item_ticks item

abbrev pub all_moves : Option Item → List PlannedMove
all_moves None = []
all_moves (Some item) = item_moves item

abbrev pub MayBeNext : Option Item → Type 0
MayBeNext None = Unit {0}
MayBeNext (Some item) = IsItem item

-- ---- the last head

-- a head, and how many of its events are out
pub record Traced : Type 0 where
  pub told : ToldHead
  pub out : ℕ

pub record IsTraced (t : Traced) : Type 0 where
  pub planned : IsPlannedMove t.told.planned
  pub of_move : IsOfItsMove t.told
  pub within : t.out ≤ t.told.head.n

-- its events that are not out
abbrev pub coming_of : Option Traced → List Bits
coming_of None = []
coming_of (Some t) = events_after t.told.planned.mv (t.told.first + t.out) (t.told.head.n - t.out)

-- the events of its move that are not out
abbrev pub rest_of : Option Traced → List Record
rest_of None = []
rest_of (Some t) = map kinds.Event (events_after t.told.planned.mv (t.told.first + t.out) (events_of t.told.planned.mv - (t.told.first + t.out)))

abbrev pub head_of : Option Traced → Option ToldHead
head_of latest = option_map (λ t. t.told) latest

-- a head that goes on with its move where it ends, and one that begins a move
abbrev pub head_on : Traced → Head → ToldHead
head_on t head = record { head = head; planned = t.told.planned; first = t.told.first + t.told.head.n }

abbrev pub first_head : PlannedMove → Head → ToldHead
first_head m head = record { head = head; planned = m; first = 0 }

-- ---- what is known

-- the last head, if its stretch is open, and the next item that no record has begun
pub record Known : Type 0 where
  pub latest : Option Traced
  pub next : Option Item

-- at the beginning of a part
abbrev pub nothing_known : Known
nothing_known = record { latest = None; next = None }

-- what is owed of what was asked for
abbrev pub owed_of : Known → List Record
owed_of k = rest_of k.latest ++ all_ticks k.next

-- the part in the making, where these ticks and moves are asked for behind the next item
abbrev pub making : Known → List Record → List PlannedMove → Making
making k ticks moves = record {
  owed = rest_of k.latest ++ (all_ticks k.next ++ ticks);
  coming = coming_of k.latest;
  latest = head_of k.latest;
  left = all_moves k.next ++ moves;
}

-- ---- the next record

-- a record comes next, and this is known behind it, whatever else is asked for
abbrev pub Goes : Known → Record → Known → Type 0
Goes k r now = (ticks : List Record) (moves : List PlannedMove) → Comes (making k ticks moves) r (making now ticks moves)

-- a record does not come next, whatever else is asked for
abbrev pub Refuses : Known → Record → Type 0
Refuses k r = (ticks : List Record) (moves : List PlannedMove) (n : Making) → Comes (making k ticks moves) r n → ⊥
