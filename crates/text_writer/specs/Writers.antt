-- A writer: what waits in it, when it writes, and what each call makes of it.
use Rattle.std.specs.Prelude.{◌≡◌, ℕ, ◌+◌, ◌≤◌, ◌<◌, ◌⊎◌, Bool, true, false, not, cond, ◌&&◌, ◌||◌, nat_lt, nat_eq, List, [], ◌++◌, length, drop, take}
use Rattle.std.specs.Io.KnownBytes.{Appends, Keeps}
use Rattle.outside.specs.Causes.{Rose, SinkState}

-- the text that waits to be written, whether some of the text that waited with it is written, whether a call of the
-- sink failed, and whether all that waits was asked to be written
pub record Writing : Type 0 where
  pub waiting : List ℕ
  pub begun : Bool
  pub failed : Bool
  pub asked : Bool

-- nothing was put
abbrev pub fresh : Writing
fresh = record { waiting = []; begun = false; failed = false; asked = false }

-- Text is written once fewer than 192 of 4,096 bytes are free, or it was asked for, and then until none waits; never to
-- a sink that has failed.
abbrev pub is_due : Writing → Bool
is_due v = not v.failed && (nat_lt 0 (length v.waiting) && (v.begun || v.asked || nat_lt 4096 (length v.waiting + 192)))

abbrev pub Writes : Writing → Type 0
Writes v = is_due v ≡ true

-- all was asked for, and all is written, or the sink has failed
abbrev pub is_done : Writing → Bool
is_done v = v.asked && (v.failed || nat_eq (length v.waiting) 0)

-- one more text waits, unless the sink has failed
abbrev pub with_text : Writing → List ℕ → Writing
with_text v text = record v { waiting = cond v.failed v.waiting (v.waiting ++ text); asked = false }

-- all that waits is asked for
abbrev pub with_all_asked : Writing → Writing
with_all_asked v = record v { asked = true }

-- the first n bytes that waited are written
abbrev pub with_written : Writing → ℕ → Writing
with_written v n = record v { waiting = drop n v.waiting; begun = nat_lt n (length v.waiting) }

-- nothing waits for a sink that has failed
abbrev pub given_up : Writing → Writing
given_up v = record v { waiting = []; begun = false; failed = true }

-- the sink took some of what waited, at least a byte, and its count of faults is as before
pub record TookSome (v w : Writing) (before now : SinkState) : Type 0 where
  pub count : ℕ
  pub some : 0 < count
  pub within : count ≤ length v.waiting
  pub left : w ≡ with_written v count
  pub held : Appends before.held now.held (take count v.waiting)
  pub same : now.faults ≡ before.faults

-- the sink failed
pub record WriteFailed (v w : Writing) (before now : SinkState) : Type 0 where
  pub left : w ≡ given_up v
  pub held : Keeps before.held now.held
  pub rose : Rose before.faults now.faults
  pub later : before.faults ≤ now.faults

-- one call of the sink with what waits
abbrev pub WroteOnce : Writing → Writing → SinkState → SinkState → Type 0
WroteOnce v w before now = TookSome v w before now ⊎ WriteFailed v w before now
