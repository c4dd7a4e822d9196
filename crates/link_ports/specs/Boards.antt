-- What a board's log says of its ends of a link, of the flags and of the ring of pieces.
use Rattle.std.specs.Prelude.{◌≡◌, ℕ, ◌+◌, ◌-◌, ◌≤◌, ◌<◌, Bool, true, false, List, [], ◌∷◌, length}
use Rattle.status_report.specs.Answering.{reply_room}
use Rattle.realtime_flags.specs.declared.words.Take.{Take}
use Rattle.serial_ring.specs.declared.ends.BoardEnd.{BoardEnd}
use Rattle.serial_ring.specs.declared.view.LinkStep.{LinkStep}
use Rattle.serial_ring.specs.Ends.{found_closed as closed_for, bytes_shown, head_loads_of, answered_by, replies_taken, room_loads_of}
use Rattle.motion_ring.specs.declared.lists.Sent.{Sent}
use Rattle.motion_ring.specs.declared.ends.SegOut.{SegOut}
use Rattle.motion_ring.specs.Ends.{known_by, done_loads_of, heard_by, halt_loads_of, stop_of}
use Rattle.link_ports.specs.Loads.{TookByte, FoundNoByte}
use Rattle.board_journal.specs.Ports.{PortStep, BoardLog, taken_in, link_steps, has_closed_in, sent_in, known_in}
use Rattle.board_journal.specs.Ports.PortStep.{took, found_empty, found_closed, found_free, answered, reported, no_reply_room, published, no_piece_room, loaded, found_no_halt, found_halt}
use Rattle.board_journal.specs.Takes.{takes_in}

-- what the end of the link took, loaded of marks and answered, the latest first, is what the log says, and so is what was taken
-- of the flags, and what went to the pulse, pieces, stops and halts; where it was found closed, the link is known to be; and the
-- done count that was loaded last is no less than the log says
pub record BoardDid (steps : List LinkStep) (over : Bool) (takes : List Take) (sent : Sent) (known : ℕ) (l : BoardLog) : Type 0 where
  pub steps_are : link_steps l ≡ steps
  pub over_is : has_closed_in l ≡ true → over ≡ true
  pub takes_are : takes_in l ≡ takes
  pub pieces_are : sent ≡ sent_in l
  pub known_is : known_in l ≤ known

-- How often the head of the bytes was loaded, and how many bytes it showed stored at last: a call that finds no byte, or that
-- tells the room, loads it once, and a call that takes a byte loads it if all that it had shown were taken.
abbrev pub LooksForBytes : (room : ℕ) → BoardLog → (loads shown : ℕ) → Type 0
LooksForBytes room [] loads shown = (loads ≡ 0) × (shown ≡ 0)
LooksForBytes room (took b ∷ l) loads shown = (k s : ℕ) × LooksForBytes room l k s × TookByte (length (taken_in l)) k s loads shown
LooksForBytes room (found_empty ∷ l) loads shown = (k s : ℕ) × LooksForBytes room l k s × FoundNoByte (length (taken_in l)) k s loads shown
LooksForBytes room (found_closed ∷ l) loads shown = (k s : ℕ) × LooksForBytes room l k s × FoundNoByte (length (taken_in l)) k s loads shown
LooksForBytes room (found_free n ∷ l) loads shown = (k s : ℕ) × LooksForBytes room l k s × (loads ≡ k + 1) × (n + (shown - length (taken_in l)) ≡ room)
LooksForBytes room (e ∷ l) loads shown = LooksForBytes room l loads shown

-- how often it was looked for room for a reply, for the done count, and for a halt
abbrev pub room_looks_at : PortStep → ℕ → ℕ
room_looks_at (answered r) n = n + 1
room_looks_at (reported r) n = n + 1
room_looks_at no_reply_room n = n + 1
room_looks_at e n = n

abbrev pub room_looks_in : BoardLog → ℕ
room_looks_in [] = 0
room_looks_in (e ∷ l) = room_looks_at e (room_looks_in l)

abbrev pub done_looks_at : PortStep → ℕ → ℕ
done_looks_at (published p) n = n + 1
done_looks_at (no_piece_room done) n = n + 1
done_looks_at (loaded done) n = n + 1
done_looks_at (found_halt done) n = n + 1
done_looks_at e n = n

abbrev pub done_looks_in : BoardLog → ℕ
done_looks_in [] = 0
done_looks_in (e ∷ l) = done_looks_at e (done_looks_in l)

abbrev pub halt_looks_at : PortStep → ℕ → ℕ
halt_looks_at found_no_halt n = n + 1
halt_looks_at (found_halt done) n = n + 1
halt_looks_at e n = n

abbrev pub halt_looks_in : BoardLog → ℕ
halt_looks_in [] = 0
halt_looks_in (e ∷ l) = halt_looks_at e (halt_looks_in l)

-- What was loaded last showed: the link is found closed exactly if the head showed it closed; a reply is handed back only where
-- the tail of the replies showed 16 untaken ones; the ticks that it tells are those that it loaded; and a halt is found exactly
-- where the halted word showed the stop that was stored last, or one behind it.
abbrev pub BoardSaw : BoardLog → (closed : Bool) (replies got known heard stop : ℕ) → Type 0
BoardSaw [] closed replies got known heard stop = Unit {0}
BoardSaw (found_empty ∷ l) closed replies got known heard stop = closed ≡ false
BoardSaw (found_closed ∷ l) closed replies got known heard stop = closed ≡ true
BoardSaw (no_reply_room ∷ l) closed replies got known heard stop = replies ≡ got + reply_room
BoardSaw (no_piece_room n ∷ l) closed replies got known heard stop = known ≡ n
BoardSaw (loaded n ∷ l) closed replies got known heard stop = known ≡ n
BoardSaw (found_no_halt ∷ l) closed replies got known heard stop = heard < stop
BoardSaw (found_halt n ∷ l) closed replies got known heard stop = (known ≡ n) × (stop ≤ heard)
BoardSaw (e ∷ l) closed replies got known heard stop = Unit {0}

-- The ends have loaded the head of the bytes as often as they had to, the tail of the replies once each time that they looked for
-- room, and the done count and the halted word once each time that they looked for that. So what is not found is what a load of
-- that call showed.
pub record BoardLooked {room : ℕ} (end : BoardEnd room) (pieces : SegOut) (l : BoardLog) : Type 0 where
  pub byte_looks : LooksForBytes room l (head_loads_of end) (bytes_shown end)
  pub room_looks : room_loads_of end ≡ room_looks_in l
  pub done_looks : done_loads_of pieces ≡ done_looks_in l
  pub halt_looks : halt_loads_of pieces ≡ halt_looks_in l
  pub saw : BoardSaw l (closed_for end) (length (answered_by end)) (replies_taken end) (known_by pieces) (heard_by pieces) (stop_of pieces)
