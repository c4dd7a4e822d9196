-- What the two ends stand for.
use Rattle.std.specs.Prelude.{List}
use Rattle.atomic_table.specs.Seated.{TableId}
use Rattle.realtime_flags.specs.declared.words.Raise.{Raise}
use Rattle.realtime_flags.specs.declared.words.Take.{Take}
use Rattle.realtime_flags.specs.declared.ends.Raiser.{Raiser}
use Rattle.realtime_flags.specs.declared.ends.Taker.{Taker}

-- which table an end is of
abbrev pub raised_in : Raiser → TableId
raised_in r = r.seat.table_id

abbrev pub taken_in : Taker → TableId
taken_in t = t.seat.table_id

-- what an end raised, the latest first
abbrev pub raises_by : Raiser → List Raise
raises_by r = r.seat.me.0.raises

-- what an end took, the latest first
abbrev pub takes_by : Taker → List Take
takes_by t = t.seat.me.0.takes
