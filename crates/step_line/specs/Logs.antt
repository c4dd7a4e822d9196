-- What was done, step by step.
use Rattle.std.specs.Prelude.{List}

-- a log: the newest is first, before all that was done earlier
abbrev pub NewestFirst : Type 0 → Type 0
NewestFirst A = List A
