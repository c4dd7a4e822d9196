-- What the two ends stand for.
use Rattle.std.specs.Prelude.{ℕ, length}
use Rattle.atomic_table.specs.Seated.{TableId}
use Rattle.step_line.specs.declared.Piece.{Piece}
use Rattle.step_line.specs.Logs.{NewestFirst}
use Rattle.motion_ring.specs.declared.lists.Sent.{Sent}
use Rattle.motion_ring.specs.declared.lists.Taken.{Taken}
use Rattle.motion_ring.specs.declared.ends.SegOut.{SegOut}
use Rattle.motion_ring.specs.declared.ends.SegIn.{SegIn}
use Rattle.motion_ring.specs.Sides.{published_in, passed_in, last_stop}

-- which ring an end is of
abbrev pub ring_of_out : SegOut → TableId
ring_of_out o = o.seat.table_id

abbrev pub ring_of_in : SegIn → TableId
ring_of_in i = i.seat.table_id

-- the pieces published, the stops stored and the halts seen
abbrev pub sent_by : SegOut → Sent
sent_by o = o.seat.me.0.sent

-- all pieces published
abbrev pub published_by : SegOut → NewestFirst Piece
published_by o = published_in (sent_by o)

-- the number of pieces of the stop that was stored last
abbrev pub stop_of : SegOut → ℕ
stop_of o = last_stop (sent_by o).stops

-- the done count, as it was loaded last
abbrev pub known_by : SegOut → ℕ
known_by o = o.seat.me.0.known

-- how many times the done count was loaded
abbrev pub done_loads_of : SegOut → ℕ
done_loads_of o = o.seat.me.0.done_loads

-- the halted word, as it was loaded last, and how many times it was loaded
abbrev pub heard_by : SegOut → ℕ
heard_by o = o.seat.me.0.heard

abbrev pub halt_loads_of : SegOut → ℕ
halt_loads_of o = o.seat.me.0.halt_loads

-- the pieces got or dropped, the ticks counted and the halts stored
abbrev pub taken_by : SegIn → Taken
taken_by i = i.seat.me.0.taken

-- all pieces got or dropped
abbrev pub passed_by : SegIn → NewestFirst Piece
passed_by i = passed_in (taken_by i)

-- the number of pieces of the halt that was stored last
abbrev pub halted_by : SegIn → ℕ
halted_by i = length (taken_by i).past

-- the head, as it was loaded last, and how many times it was loaded
abbrev pub shown_to : SegIn → ℕ
shown_to i = i.seat.me.0.shown

abbrev pub head_loads_of : SegIn → ℕ
head_loads_of i = i.seat.me.0.head_loads

-- the stop word, as it was loaded last, and how many times it was asked for
abbrev pub asked_by : SegIn → ℕ
asked_by i = i.seat.me.0.asked

abbrev pub stop_loads_of : SegIn → ℕ
stop_loads_of i = i.seat.me.0.stop_loads

-- how many ticks were counted
abbrev pub counted_by : SegIn → ℕ
counted_by i = (taken_by i).counted

-- how many ticks of the piece that was got last are not counted
abbrev pub left_in : SegIn → ℕ
left_in i = (taken_by i).left
