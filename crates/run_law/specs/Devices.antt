-- What the devices of a run tell.
use Rattle.outside.specs.Causes.{SourceState, SinkState}
use Rattle.run_law.specs.Runs.{Sinks}

-- what the devices tell: the source of the job, the console, and the sink of the steps
pub record Devices : Type 0 where
  pub job : SourceState
  pub console : SinkState
  pub steps : SinkState

abbrev pub devices : SourceState → SinkState → SinkState → Devices
devices job console steps = record { job = job; console = console; steps = steps }

abbrev pub sinks : Devices → Sinks
sinks now = record { console = now.console; steps = now.steps }
