-- How many subticks are handed out, by the records that were tried: put, or handed back.
use Rattle.std.specs.Prelude.{◌≡◌, ℕ, ◌+◌, ◌*◌, ◌^◌, ◌<◌, Bool, true, false, cond, List, [], ◌∷◌, Option, Some, None}
use Rattle.step_line.specs.declared.Record.{Record}
use Rattle.step_line.specs.declared.Record.TheVariants as kinds
use Rattle.pulse_engine.specs.Logs.{RecordLog}
use Rattle.pulse_engine.specs.Logs.RecordEvent.{put, full}
use Rattle.smooth_step.specs.Subticks.{level_of}

-- the level of the events behind a record: a head begins a segment
abbrev pub level_after : Record → ℕ → ℕ
level_after (kinds.Head h) level = level_of h.cycles
level_after (kinds.Event b) level = level
level_after (kinds.Mark m) level = level
level_after kinds.End level = level

-- that of the events behind the head that was put last
abbrev pub level_in : RecordLog → ℕ
level_in [] = 0
level_in (put r ∷ k) = level_after r (level_in k)
level_in (full r ∷ k) = level_in k

abbrev pub is_event : Record → Bool
is_event (kinds.Head h) = false
is_event (kinds.Event b) = true
is_event (kinds.Mark m) = false
is_event kinds.End = false

-- whether the record that was tried last is an event that was handed back
abbrev pub is_held : RecordLog → Bool
is_held [] = false
is_held (put r ∷ k) = false
is_held (full r ∷ k) = is_event r

-- how many subticks are handed out for a record before it is tried: those of an event, where it was not tried before
abbrev pub fresh_in : Record → RecordLog → ℕ
fresh_in r k = cond (is_event r) (cond (is_held k) 0 (2 ^ level_in k)) 0

-- The subticks of the events that were tried, each event once: it has 2 to the power of the level of its head many. An event that was
-- handed back is tried again until it is put, unless a halt drops it.
abbrev pub subticks_in : RecordLog → ℕ
subticks_in [] = 0
subticks_in (put r ∷ k) = subticks_in k + fresh_in r k
subticks_in (full r ∷ k) = subticks_in k + fresh_in r k

-- ---- by what was put

-- The subticks of the events behind some heads: a head of n events has n times 2 to the power of its level.
abbrev pub subticks_of_heads : List Record → ℕ
subticks_of_heads [] = 0
subticks_of_heads (kinds.Head h ∷ rs) = h.n * 2 ^ level_of h.cycles + subticks_of_heads rs
subticks_of_heads (kinds.Event b ∷ rs) = subticks_of_heads rs
subticks_of_heads (kinds.Mark m ∷ rs) = subticks_of_heads rs
subticks_of_heads (kinds.End ∷ rs) = subticks_of_heads rs

-- the subticks of the events that were put, at the levels of their heads
abbrev pub subticks_put : RecordLog → ℕ
subticks_put [] = 0
subticks_put (put r ∷ k) = subticks_put k + cond (is_event r) (2 ^ level_in k) 0
subticks_put (full r ∷ k) = subticks_put k

-- those of the event that was handed back, if the record that was tried last is one
abbrev pub subticks_held : RecordLog → ℕ
subticks_held k = cond (is_held k) (2 ^ level_in k) 0

-- ---- what a pulse has in hand between two tries

-- A record that is put next: a head of this level, or an event that was tried before, at this level.
abbrev pub IsHeldAt : Record → ℕ → RecordLog → Type 0
IsHeldAt (kinds.Head h) level k = level_of h.cycles ≡ level
IsHeldAt (kinds.Event b) level k = (is_held k ≡ true) × (level_in k ≡ level)
IsHeldAt (kinds.Mark m) level k = Unit {0}
IsHeldAt kinds.End level k = Unit {0}

-- the events that are left have this level, and the next is not tried yet
abbrev pub AreLeftAt : Option Record → (left level : ℕ) → RecordLog → Type 0
AreLeftAt None left level k = 0 < left → (is_held k ≡ false) × (level_in k ≡ level)
AreLeftAt (Some r) left level k = IsHeldAt r level k

-- whether an event is in hand
abbrev pub has_event : Option Record → Bool
has_event None = false
has_event (Some r) = is_event r

-- No event is lost: one that was handed back is in hand, and the subticks that were handed out are those of the events that were put,
-- and of that one.
pub record LosesNone (hand : Option Record) (k : RecordLog) : Type 0 where
  pub held : is_held k ≡ has_event hand
  pub sum : subticks_in k ≡ subticks_put k + subticks_held k
