-- How long an actor rests while it waits.
use Rattle.std.specs.Prelude.{ℕ, zero, suc, ◌+◌, ◌-◌, ◌*◌, min}
use Rattle.outside.specs.declared.Actor.{Actor}
use Rattle.outside.specs.declared.Actor.TheVariants.{Host, Board, Pulse, Record}

-- behind so many waits in a row an actor looks again at once
abbrev pub busy_before : Actor → ℕ
busy_before Host = 2500
busy_before Board = 1000
busy_before Pulse = 1000
busy_before Record = 1000

-- how many microseconds it rests at most
abbrev pub longest_rest : Actor → ℕ
longest_rest Host = 100
longest_rest Board = 3000
longest_rest Pulse = 4000
longest_rest Record = 5000

-- how many it rests behind the k-th wait in a row
abbrev pub rest_behind : Actor → ℕ → ℕ
rest_behind actor k = min (20 * (k - busy_before actor)) (longest_rest actor)

-- all its rests behind the first k of them
abbrev pub rests_of : Actor → ℕ → ℕ
rests_of _ zero = 0
rests_of actor (suc k) = rests_of actor k + rest_behind actor (suc k)
