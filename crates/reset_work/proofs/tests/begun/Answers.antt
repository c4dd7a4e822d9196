use Rattle.std.proofs.Common.{[], refl}
use Rattle.planner_runs.specs.Runs.{most_blocks}
use Rattle.reset_work.proofs.Begun.{asked, begins, epochs, may}
use Rattle.reset_work.proofs.tests.begun.Goals as goal

pub reset-requires : goal.reset-requires
reset-requires c = let state = c.opening-state.result in (most_blocks, state, [], asked, epochs state, c.new.ensures, refl)

pub returns : goal.returns
returns c = let state = c.opening-state.result in begins state c.reset.result (c.reset.ensures.begins most_blocks state [] asked (epochs state) (may state) c.new.ensures refl refl).1
