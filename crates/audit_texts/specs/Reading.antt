-- Texts that are read: what a call leaves known of them, and that a failure has its cause.
use Rattle.std.specs.Prelude.{◌≡◌, ◌≤◌}
use Rattle.outside.specs.Causes.{SourceState}
use Rattle.run_rules.specs.Readings.{largest_job}
use Rattle.audit_readers.specs.Jobs.{JobRead}
use Rattle.audit_readers.specs.Console.{ConsoleRead}
use Rattle.audit_readers.specs.Steps.{StepsRead}
use Rattle.audit_readers.specs.Windows.{KnowsEnd}

-- a job is read within its largest size, and so on
abbrev pub KnowsJob : JobRead → SourceState → Type 0
KnowsJob r s = KnowsEnd r.window s × (r.place ≤ largest_job)

abbrev pub KnowsConsole : ConsoleRead → SourceState → Type 0
KnowsConsole r s = KnowsEnd r.window s

abbrev pub KnowsSteps : StepsRead → SourceState → Type 0
KnowsSteps r s = KnowsEnd r.window s

-- no call has failed
abbrev pub IsSame : SourceState → SourceState → Type 0
IsSame before after = after.faults ≡ before.faults
