-- What the two ends stand for.
use Rattle.std.specs.Prelude.{◌≡◌, ℕ, ◌+◌, Bool, List, length}
use Rattle.atomic_table.specs.Seated.{TableId}
use Rattle.status_report.specs.declared.Reply.{Reply}
use Rattle.serial_ring.specs.declared.ends.HostEnd.{HostEnd}
use Rattle.serial_ring.specs.declared.ends.BoardEnd.{BoardEnd}
use Rattle.serial_ring.specs.declared.view.LinkStep.{LinkStep}
use Rattle.serial_ring.specs.Marks.{Mark}
use Rattle.serial_ring.specs.Lists as lists
use Rattle.serial_ring.specs.Logs.{taken_in, marked_in, answered_in}

-- the host's end of a link with so much room
module _ {room : ℕ} (h : HostEnd room) where
  -- which link it is of
  abbrev pub link_of_host : TableId
  link_of_host = h.seat.table_id

  -- the bytes stored, and whether the link was closed
  abbrev pub stored_by : List ℕ
  stored_by = h.seat.me.0.stored

  abbrev pub closed_by : Bool
  closed_by = h.seat.me.0.closed

  -- the marks stored, by how many bytes were stored before each
  abbrev pub marks_by : List ℕ
  marks_by = h.seat.me.0.marks

  -- how many bytes are taken, as it loaded it last, and how many times it did
  abbrev pub tail_shown : ℕ
  tail_shown = h.seat.me.0.tail

  abbrev pub tail_loads_of : ℕ
  tail_loads_of = h.seat.me.0.tail_loads

  -- the tail that it loaded last shows no room for a byte
  abbrev pub IsFull : Type 0
  IsFull = length stored_by ≡ tail_shown + room

  -- the replies got, and the marks of the Banners among them
  abbrev pub got_by : List Reply
  got_by = h.seat.me.0.got

  abbrev pub greeted_by : List Mark
  greeted_by = h.seat.me.0.greeted

  -- how many bytes were stored when each of these Banners was got
  abbrev pub moments_by : List ℕ
  moments_by = h.seat.me.0.moments

  -- the bytes that may be unread, by the replies got
  abbrev pub maybe_unread_by : List ℕ
  maybe_unread_by = lists.maybe_unread stored_by got_by greeted_by

  -- how many replies are answered, as it loaded it last, and how many times it did
  abbrev pub replies_shown : ℕ
  replies_shown = h.seat.me.0.reply_head

  abbrev pub reply_loads_of : ℕ
  reply_loads_of = h.seat.me.0.reply_head_loads

-- the board's end
module _ {room : ℕ} (b : BoardEnd room) where
  abbrev pub link_of_board : TableId
  link_of_board = b.seat.table_id

  -- what it has done: the bytes taken, the marks loaded, the replies answered
  abbrev pub log_by : List LinkStep
  log_by = b.seat.me.0.log

  abbrev pub taken_by : List ℕ
  taken_by = taken_in log_by

  abbrev pub marked_by : List Mark
  marked_by = marked_in log_by

  abbrev pub answered_by : List Reply
  answered_by = answered_in log_by

  -- whether the link was found closed with every byte taken
  abbrev pub found_closed : Bool
  found_closed = b.seat.me.0.over

  -- how many bytes are stored, as it loaded it last, and how many times it did
  abbrev pub bytes_shown : ℕ
  bytes_shown = b.seat.me.0.head

  abbrev pub head_loads_of : ℕ
  head_loads_of = b.seat.me.0.head_loads

  -- all bytes that the head shows that it loaded last are taken
  abbrev pub HasTakenAll : Type 0
  HasTakenAll = length taken_by ≡ bytes_shown

  -- how many replies are taken, as it loaded it last, and how many times it did
  abbrev pub replies_taken : ℕ
  replies_taken = b.seat.me.0.reply_tail

  abbrev pub room_loads_of : ℕ
  room_loads_of = b.seat.me.0.reply_tail_loads
