-- A window on a source.
use Rattle.std.specs.Prelude.{◌≡◌, ◌<◌, ◌≤◌, ◌+◌, ◌^◌, ◌⊎◌, ℕ, Bool, true, false, List, [], ◌++◌, length}
use Rattle.std.specs.declared.option.Option.{Option}
use Rattle.std.specs.Io.KnownBytes.{Consumes, IsAtEnd, Keeps, prepend_known}
use Rattle.outside.specs.Causes.{Rose, SourceState}

-- the bytes that were read and are not taken, and whether the source's end was read
pub record Window : Type 0 where
  pub waiting : List ℕ
  pub ended : Bool

-- A read gave these bytes, which wait behind the others; none only at the source's end.
pub record Fills (old now : Window) (before after : SourceState) : Type 0 where
  pub given : List ℕ
  pub consumed : Consumes before.left after.left given
  pub waiting : now.waiting ≡ old.waiting ++ given
  pub going : now.ended ≡ false → 0 < length given
  pub over : now.ended ≡ true → IsAtEnd after.left
  pub same : after.faults ≡ before.faults

-- a read failed, and nothing was taken
pub record FillsNot (old now : Window) (before after : SourceState) : Type 0 where
  pub window : now ≡ old
  pub kept : Keeps before.left after.left
  pub rose : Rose before.faults after.faults

-- ---- a text that is read by a window

-- what follows in the text, if it is known: what waits, and what the source has left
abbrev pub ahead : Window → SourceState → Option (List ℕ)
ahead w s = prepend_known w.waiting s.left

-- if the source's end was read, nothing is left of it
abbrev pub KnowsEnd : Window → SourceState → Type 0
KnowsEnd w s = w.ended ≡ true → IsAtEnd s.left

-- so many bytes are looked at at once, at most
abbrev pub look_ahead : ℕ
look_ahead = 192

-- what follows in the text stays, and a window knows whether it has read the end
pub record Stays (old now : Window) (before after : SourceState) : Type 0 where
  pub kept : Keeps (ahead old before) (ahead now after)
  pub known : KnowsEnd now after

-- bytes were read behind those that wait, until enough do, or to the end
pub record FillsUp (old now : Window) (before after : SourceState) : Type 0 where
  pub stays : Stays old now before after
  pub enough : (look_ahead ≤ length now.waiting) ⊎ (now.ended ≡ true)
  pub same : after.faults ≡ before.faults

-- bytes were read, perhaps, and some wait, or the end was read
pub record FillsSome (old now : Window) (before after : SourceState) : Type 0 where
  pub stays : Stays old now before after
  pub some : now.waiting ≡ [] → now.ended ≡ true
  pub same : after.faults ≡ before.faults

-- some bytes were read, perhaps, and then a read failed
pub record FailsToFill (old now : Window) (before after : SourceState) : Type 0 where
  pub stays : Stays old now before after
  pub rose : Rose before.faults after.faults

-- ---- a text to its end

-- so many bytes are too many
abbrev pub too_long : ℕ
too_long = 2 ^ 63

-- Bytes were taken, so many in all by now.
pub record TakesSome (old now : Window) (before after : SourceState) (place place_now : ℕ) : Type 0 where
  pub bytes : List ℕ
  pub text : Consumes (ahead old before) (ahead now after) bytes
  pub count : place_now ≡ place + length bytes
  pub known : KnowsEnd now after

-- all bytes were taken that follow, or as many as are too many
pub record TakesRest (old now : Window) (before after : SourceState) (place place_now : ℕ) : Type 0 where
  pub some : TakesSome old now before after place place_now
  pub over : (too_long ≤ place_now) ⊎ ((now.waiting ≡ []) × (now.ended ≡ true))
  pub same : after.faults ≡ before.faults

-- a read failed, behind some bytes
pub record FailsToTake (old now : Window) (before after : SourceState) : Type 0 where
  pub bytes : List ℕ
  pub text : Consumes (ahead old before) (ahead now after) bytes
  pub known : KnowsEnd now after
  pub rose : Rose before.faults after.faults
