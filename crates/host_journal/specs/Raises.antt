-- What a host raised of flags, by the log of its port.
use Rattle.std.specs.Prelude.{Bool, List, [], ◌∷◌, Some, None}
use Rattle.std.specs.declared.option.Option.{Option}
use Rattle.realtime_flags.specs.declared.words.Flag.{Flag}
use Rattle.realtime_flags.specs.declared.words.Raise.{Raise}
use Rattle.realtime_flags.specs.Bytes.{flag_of_byte}
use Rattle.host_journal.specs.Steps.{HostLog}
use Rattle.host_journal.specs.Steps.PortStep.{raised}

-- the flag that a byte raises goes to those that were raised before, the latest first
abbrev pub raised_to : Option Flag → Bool → List Raise → List Raise
raised_to (Some f) found_down rs = record { flag = f; down = found_down } ∷ rs
raised_to None found_down rs = rs

-- the flags that a host raised, the latest first
abbrev pub raises_in : HostLog → List Raise
raises_in [] = []
raises_in (raised b found_down ∷ h) = raised_to (flag_of_byte b) found_down (raises_in h)
raises_in (_ ∷ h) = raises_in h
