-- The slots of a ring between one side that sends and one that gets.
use Rattle.std.specs.Prelude.{◌≡◌, ◌≢◌, ℕ, ◌+◌, ◌%◌, ◌<◌, ◌≤◌, Bool, true, List, length, Some, None}
use Rattle.std.specs.declared.option.Option.{Option}
use mathlib.Core.Option.{some}
use mathlib.Core.Option as maybe
use lib.ListN.{get_elem?}
use Rattle.shared_rings.specs.Placed.{placed}

-- Item k has the slot k % size. What was sent and not got is in its slot. From the first item whose slot was given
-- back, the slots after what was sent are empty; if one is being filled, the next of them is out with the sender.
pub record Shelf {A : Type 0} (size : ℕ) (homes : List (maybe.Option (Option A))) (sent got : List A) (given_back : ℕ) (filling : Bool) : Type 0 where
  pub deep : length homes ≡ size
  pub few : length sent ≤ given_back + size
  pub room : filling ≡ true → length sent < given_back + size
  pub back : given_back ≤ length got
  pub within : length got ≤ length sent
  pub full : (k : ℕ) (x : A) → placed sent k ≡ some x → length got ≤ k → get_elem? homes (k % size) ≡ some (some (Some x))
  pub free : (k : ℕ) → length sent ≤ k → k < given_back + size → (filling ≡ true → k ≢ length sent) → get_elem? homes (k % size) ≡ some (some None)
