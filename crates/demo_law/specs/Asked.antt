-- What the generated job asks of the machine.
use Rattle.std.specs.Prelude.{ℕ, ◌+◌, List, [], ◌∷◌, ◌++◌, map, pos}
use Rattle.std.specs.List.{range_with_len}
use Rattle.units.specs.declared.Rate.TheVariants.{Feed}
use Rattle.settings.specs.declared.Settings.{Settings}
use Rattle.step_line.specs.declared.planned_move.PlannedMove.{PlannedMove}
use Rattle.step_line.specs.Asking.{Asked}
use Rattle.step_line.specs.Asking.Asked.{a_move, a_rest}
use Rattle.run_rules.specs.Asks.{planned}
use Rattle.demo_job.specs.Jobs.{job_move}

-- move i, of line i + 2, at 600 mm a minute
abbrev pub demo_move : Settings → ℕ → PlannedMove
demo_move s i = planned (i + 2) s (job_move i) (Feed (pos 600000000))

-- the moves of a job of n moves in their order, and that the machine comes to rest before the end of the program and
-- after it
abbrev pub demo_asks : Settings → ℕ → List Asked
demo_asks s n = map (λ i. a_move (demo_move s i)) (range_with_len 1 n) ++ a_rest ∷ a_rest ∷ []
