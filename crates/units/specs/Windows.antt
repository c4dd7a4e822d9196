-- The slots of a ring that are in use: so many from one place on, round the end.
use Rattle.std.specs.Prelude.{ℕ, List, ◌++◌, take, drop}

-- a list turned k places to the left
abbrev pub turned : {X : Type 0} → ℕ → List X → List X
turned k xs = drop k xs ++ take k xs

-- the n slots from the place k on
abbrev pub window : {X : Type 0} → ℕ → ℕ → List X → List X
window k n xs = take n (turned k xs)
