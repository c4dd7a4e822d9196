-- The order of turns in lockstep.
use Rattle.std.specs.Prelude.{◌≡◌, ℕ, zero, suc, ◌+◌, ◌*◌, ◌/◌, ◌%◌, ◌^◌, ◌≤◌, ◌<◌, true, false, cond, nat_eq, List, [], ◌∷◌, ◌++◌}
use Rattle.outside.specs.declared.Actor.{Actor}
use Rattle.outside.specs.declared.Actor.TheVariants as actors
use Rattle.actor_turns.specs.Worlds.{Seen, Devices, IsDone, RunsOn}
use Rattle.actor_turns.specs.declared.lockstep.Ended.{Ended}

-- the numbers of a linear congruential generator, one behind the other
abbrev pub state_after : ℕ → ℕ
state_after x = (x * 6364136223846793005 + 1442695040888963407) % 2 ^ 64

-- the number of an actor
abbrev pub number_of : Actor → ℕ
number_of actors.Host = 0
number_of actors.Board = 1
number_of actors.Pulse = 2
number_of actors.Record = 3

-- the actor of a number
abbrev pub actor_of : ℕ → Actor
actor_of n = cond (nat_eq n 0) actors.Host (cond (nat_eq n 1) actors.Board (cond (nat_eq n 2) actors.Pulse actors.Record))

-- the number of the generator behind so many steps from a seed
abbrev pub state_at : ℕ → ℕ → ℕ
state_at seed zero = seed
state_at seed (suc n) = state_after (state_at seed n)

-- the first n turns that a seed gives: of each number of the generator the two highest bits choose the actor
abbrev pub order_from : ℕ → ℕ → List Actor
order_from seed zero = []
order_from seed (suc n) = order_from seed n ++ actor_of (state_at seed (suc n) / 2 ^ 62) ∷ []

-- from one number, so many further on, to another: each of them gives the pulse or the recorder a turn
abbrev pub Passes : ℕ → ℕ → ℕ → Type 0
Passes zero from to = to ≡ from
Passes (suc n) from to = (mid : ℕ) × Passes n from mid × (to ≡ state_after mid) × (2 ≤ to / 2 ^ 62)

-- of the numbers behind one up to another, these are, in order, those that give the host or the board a turn
abbrev pub Sifts : ℕ → List ℕ → ℕ → Type 0
Sifts from [] to = (n : ℕ) × Passes n from to
Sifts from (number ∷ numbers) to = (n : ℕ) × (before : ℕ) × Passes n from before × (number ≡ state_after before) × (number / 2 ^ 62 < 2) × Sifts number numbers to

-- the turns that a seed gives, as many as there were
pub record RunsInOrder {N : ℕ} (seed : ℕ) (before after : Devices) (w w' : Seen N) : Type 0 where
  pub count : ℕ
  pub runs : RunsOn (order_from seed count) before after w w'

-- so far, where no turn is left out: the turns that a seed gives, up to this number of the generator
pub record IsInOrder {N : ℕ} (seed state : ℕ) (before after : Devices) (w w' : Seen N) : Type 0 where
  pub order : RunsInOrder seed before after w w'
  pub state_is : state ≡ state_at seed order.count

-- an actor has answered Done
abbrev pub with_end : Actor → Ended → Ended
with_end actors.Host e = record e { host = true }
with_end actors.Board e = record e { board = true }
with_end actors.Pulse e = record e { pulse = true }
with_end actors.Record e = record e { recorder = true }

-- none has
abbrev pub none_ended : Ended
none_ended = record { host = false; board = false; pulse = false; recorder = false }

-- those that have answered Done are done
pub record AreEnded {N : ℕ} (e : Ended) (w : Seen N) : Type 0 where
  pub host : e.host ≡ true → IsDone actors.Host w
  pub board : e.board ≡ true → IsDone actors.Board w
  pub pulse : e.pulse ≡ true → IsDone actors.Pulse w
  pub recorder : e.recorder ≡ true → IsDone actors.Record w

-- all have
pub record HaveAllEnded (e : Ended) : Type 0 where
  pub host : e.host ≡ true
  pub board : e.board ≡ true
  pub pulse : e.pulse ≡ true
  pub recorder : e.recorder ≡ true
