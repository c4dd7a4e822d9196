-- Squared speeds, and caps on them.
use Rattle.std.specs.Prelude.{ℕ, ◌*◌, min}
use Rattle.line_geom.specs.declared.Cap.{Cap}
use Rattle.line_geom.specs.declared.Cap.TheVariants.{At, Free}

abbrev pub squared : ℕ → ℕ
squared n = n * n

-- the lesser of a cap and a number
abbrev pub under : Cap → ℕ → ℕ
under (At cap) n = min cap n
under Free n = n
