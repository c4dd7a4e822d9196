-- What the fields of a writer keep.
use Rattle.std.specs.Prelude.{◌≡◌, ℕ, ◌<◌, ◌≤◌, Bool, true, nat_lt, List, [], length, drop}
use Rattle.text_writer.specs.Writers.{Writing, is_due}

-- the state, by its fields
abbrev pub writing : List ℕ → ℕ → Bool → Bool → Writing
writing held written failed asked = record { waiting = drop written held; begun = nat_lt 0 written; failed = failed; asked = asked }

-- at most 4,096 bytes are held; some of them wait, or none is written; none is held for a sink that has failed; and
-- `due` says whether what waits is to be written
pub record IsHeld (held : List ℕ) (written : ℕ) (due failed asked : Bool) : Type 0 where
  pub few : length held ≤ 4096
  pub some : 0 < written → written < length held
  pub none : failed ≡ true → held ≡ []
  pub rule : due ≡ is_due (writing held written failed asked)
