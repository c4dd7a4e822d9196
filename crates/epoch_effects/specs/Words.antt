-- What was taken of the words of flags, in an epoch or over a run.
use Rattle.std.specs.Prelude.{◌≡◌, ◌≤◌, true, List, map}
use Rattle.std.specs.List.{AllByRecursion, sum}
use Rattle.code_table.specs.declared.flags.Ovr.{Ovr}
use Rattle.run_law.specs.Changes.{IsAmong}
pub use Rattle.run_law.specs.Flags.{WordsTaken, words_taken}

-- What was taken in one epoch was taken in the run.
pub record IsTakenIn (all one : WordsTaken) : Type 0 where
  pub held : one.held ≡ true → all.held ≡ true
  pub slowed : one.slowed ≡ true → all.slowed ≡ true
  pub changed : one.changed ≡ true → all.changed ≡ true
  pub changes : (word : Ovr) → IsAmong one.changes word → IsAmong all.changes word

-- What was taken in each epoch was taken in the run, and no word counts for two epochs. What the work of a reset takes counts for none.
pub record AreTakenIn (all : WordsTaken) (epochs : List WordsTaken) : Type 0 where
  pub each : AllByRecursion (IsTakenIn all) epochs
  pub cancels : sum (map (λ w. w.cancels) epochs) ≤ all.cancels
  pub asked : sum (map (λ w. w.asked) epochs) ≤ all.asked
