-- A text on its way to a sink that may fail: what the sink was given of it since a moment.
use Rattle.std.specs.Prelude.{◌≡◌, ℕ, ◌≤◌, Bool, true, false, List, [], ◌++◌}
use Rattle.std.specs.Io.KnownBytes.{Appends}
use Rattle.outside.specs.Causes.{Rose, SinkState}

-- The sink took a front of a text. If no call failed, what is left of the text still waits, and the count of faults is
-- as before; if one failed, the count rose.
pub record Wrote (before now : SinkState) (failed : Bool) (waiting text : List ℕ) : Type 0 where
  pub front : List ℕ
  pub back : List ℕ
  pub whole : text ≡ front ++ back
  pub held : Appends before.held now.held front
  pub all : failed ≡ false → back ≡ waiting
  pub same : failed ≡ false → now.faults ≡ before.faults
  pub later : before.faults ≤ now.faults
  pub cause : failed ≡ true → Rose before.faults now.faults

-- A sink holds a front of a text more than before: all of it if no call failed, and then the count of faults is as
-- before. If one failed, the count rose.
abbrev pub Took : SinkState → SinkState → Bool → List ℕ → Type 0
Took before now failed text = Wrote before now failed [] text
