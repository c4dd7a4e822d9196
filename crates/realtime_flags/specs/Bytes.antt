-- Which flag a realtime byte raises.
use Rattle.std.specs.Prelude.{ℕ, ◌%◌, cond, nat_lt, Some, None}
use Rattle.std.specs.declared.option.Option.{Option}
use Rattle.code_table.specs.Tables.{value_of, rows_of_bytes}
use Rattle.realtime_flags.specs.declared.words.Flag.{Flag}
use Rattle.realtime_flags.specs.declared.words.Flag.TheVariants as flags
use Rattle.realtime_flags.specs.declared.words.Raised.{Raised}
use Rattle.realtime_flags.specs.declared.words.Raised.TheVariants as kinds

-- the flag of a number of the rows of realtime bytes: from 16 on it is a change of an override
abbrev pub flag_of_bit : ℕ → Flag
flag_of_bit bit = cond (nat_lt bit 16) (flags.Exec (bit % 16)) (flags.Override (bit % 16))

abbrev pub flag_of_row : Option ℕ → Option Flag
flag_of_row None = None
flag_of_row (Some bit) = Some (flag_of_bit bit)

-- the flag that a byte raises; a byte with no row raises none
abbrev pub flag_of_byte : ℕ → Option Flag
flag_of_byte byte = flag_of_row (value_of byte rows_of_bytes)

abbrev pub raised_as : ℕ → Option Flag → Raised
raised_as byte (Some (flags.Exec place)) = kinds.Exec
raised_as byte (Some (flags.Override place)) = kinds.Override
raised_as byte None = cond (nat_lt byte 128) kinds.Plain kinds.Ignored

-- what a byte does: one with a row raises a bit of its word; of the others those from 0x80 are ignored
abbrev pub raised_by : ℕ → Raised
raised_by byte = raised_as byte (flag_of_byte byte)
