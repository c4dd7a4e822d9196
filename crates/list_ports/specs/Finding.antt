-- What a poll of the lists finds.
use Rattle.std.specs.Prelude.{ℕ, Bool, true, false, Some, None}
use Rattle.std.specs.declared.option.Option.{Option}
use Rattle.serial_ring.specs.declared.view.ByteIn.{ByteIn}
use Rattle.serial_ring.specs.declared.view.ByteIn.TheVariants.{Byte, Empty, Closed}

-- the byte that has waited longest; where none waits, that none is there yet, or that the link is closed
abbrev pub byte_found : Option ℕ → Bool → ByteIn
byte_found (Some b) closed = Byte b
byte_found None false = Empty
byte_found None true = Closed
