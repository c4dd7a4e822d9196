-- The lists between a host, a board and a pulse, and what the three have done with them.
use Rattle.std.specs.Prelude.{◌≡◌, ℕ, ◌+◌, ◌-◌, ◌^◌, ◌<◌, ◌≤◌, ◌⊎◌, Bool, true, false, cond, nat_lt, List, [], ◌∷◌, ◌++◌, length, map, drop, reverse}
use Rattle.std.specs.List.{All}
use Rattle.std.specs.Int.Bits.{bit_or}
use Rattle.status_report.specs.declared.Reply.{Reply}
use Rattle.status_report.specs.Replies.{IsReply}
use Rattle.realtime_flags.specs.declared.words.Flag.{Flag}
use Rattle.realtime_flags.specs.declared.words.Flag.TheVariants as flags
use Rattle.realtime_flags.specs.declared.words.Raise.{Raise}
use Rattle.realtime_flags.specs.declared.words.Take.{Take}
use Rattle.realtime_flags.specs.Bits.{IsBalanced, raises_of, report_flag}
use Rattle.host_journal.specs.Raises.{raises_in}
use Rattle.board_journal.specs.Takes.{takes_in}
use Rattle.step_line.specs.declared.Piece.{Piece}
use Rattle.step_line.specs.Logs.{NewestFirst}
use Rattle.step_line.specs.Ordering.{InTurn}
use Rattle.step_line.specs.Finishing.{ticks_together, most_unfinished}
use Rattle.motion_ring.specs.declared.lists.Halt.{Halt}
use Rattle.motion_ring.specs.declared.lists.Sent.{Sent}
use Rattle.motion_ring.specs.Sides.{ticks_at, ticks_published, unfinished_in}
use Rattle.motion_ring.specs.Sides.{published_in as pieces_sent}
use Rattle.motion_ring.specs.Ticks.{slots}
use Rattle.board_journal.specs.Ports.{taken_in, link_steps, has_closed_in, answered_in, sent_in, known_in}
use Rattle.status_report.specs.Answering.{reply_room, lfs_in, answers_in, banners_in}
use Rattle.board_journal.specs.Ports.{BoardLog}
use Rattle.pulse_engine.specs.Logs.{PieceLog, pieces_of, got_since, counted, uncounted, saw_stop, halts_of}
use Rattle.serial_ring.specs.declared.view.LinkStep.{LinkStep}
use Rattle.serial_ring.specs.Marks.{Mark, AreMarks, AreRising, latest}
use Rattle.serial_ring.specs.Lists.{IsRoom, AreAtMost}
use Rattle.serial_ring.specs.Logs.{marked_in, greeted_in, taken_at_banners, answers_since, lfs_since, AnswersWell}
use Rattle.host_journal.specs.Links.{AreGreetings}
use Rattle.host_journal.specs.Steps.{stored_in, stored_at_banners, got_in, marks_in, marks_at_banners, is_shut_in}
use Rattle.host_journal.specs.Steps.{HostLog}
use Rattle.list_ports.specs.Asked.{AsksBetween, LooksFirst, AsksPass, report_is_up, raised_behind, words_behind, told_by, resets_taken, has_looked}

-- what the lists hold: bytes and replies on their way, whether the link is closed, how many bytes were stored, and the last mark;
-- the two words of flags; pieces on their way, how many ticks of the piece that was got last are left, and how many ticks are
-- done; whether a stop waits for its halt
pub record Listed : Type 0 where
  pub bytes : List ℕ
  pub closed : Bool
  pub stored : ℕ
  pub mark : Mark
  pub replies : List Reply
  pub exec : ℕ
  pub override : ℕ
  pub pieces : List Piece
  pub left : ℕ
  pub done : ℕ
  pub stop : Bool

-- there is room for so many bytes, 16 replies and six pieces, and the replies that wait have a text each
pub record AreSized (room bytes replies pieces : ℕ) (waiting : List Reply) : Type 0 where
  pub sized : IsRoom room
  pub bytes_are : bytes ≡ room
  pub replies_are : replies ≡ reply_room
  pub pieces_are : pieces ≡ slots
  pub texts : All IsReply waiting

-- a flag is raised in its word
abbrev pub with_flag : Flag → Listed → Listed
with_flag (flags.Exec place) l = record l { exec = bit_or l.exec (2 ^ place) }
with_flag (flags.Override place) l = record l { override = bit_or l.override (2 ^ place) }

-- one where some ticks are left
abbrev pub one_if_some : ℕ → ℕ
one_if_some left = cond (nat_lt 0 left) 1 0

-- bytes on their way from a host to a board: what was stored is what was taken and what waits, in order. Where the board
-- found the link closed, it is closed, and no byte waits
pub record BytesPass (waiting : List ℕ) (closed : Bool) (stored_bytes : List ℕ) (is_shut : Bool) (taken : List ℕ) (over : Bool) : Type 0 where
  pub fifo : stored_bytes ≡ taken ++ waiting
  pub short : length stored_bytes ≤ 2 ^ 31
  pub shut_is : closed ≡ is_shut
  pub all : over ≡ true → (closed ≡ true) × (waiting ≡ [])

-- replies on their way back: what was answered is what was got and what waits, in order. No more lines were answered than
-- had their end taken
pub record RepliesPass (waiting answered got_replies : List Reply) (taken : List ℕ) : Type 0 where
  pub fifo : answered ≡ got_replies ++ waiting
  pub fewer : answers_in answered ≤ lfs_in taken

-- Marks on their way: the last one stored is there. Each that was loaded is one that was stored, or the start, and each reply was
-- answered where it might be. Each Banner that does not wait was answered for a mark that was stored before it was got.
pub record MarksPass (stored_count : ℕ) (mark : Mark) (waiting : List Reply) (stored_bytes marks : List ℕ) (at_banners : List (List ℕ)) (steps : List LinkStep) : Type 0 where
  pub count_is : stored_count ≡ length stored_bytes
  pub number_is : mark.0 ≡ length marks
  pub bytes_is : mark.1 ≡ latest marks
  pub within : latest marks ≤ length stored_bytes
  pub rising : AreRising marks
  pub loads : AreMarks marks (marked_in steps)
  pub well : AnswersWell steps
  pub greeted : AreGreetings at_banners (drop (banners_in waiting) (greeted_in steps))

-- No byte is taken before it is stored: of each Banner that was got, the first of those that were answered, no more bytes were taken
-- when it was answered than were stored when it was got. Both have the latest first.
abbrev pub IsInTime : (at_answers at_got : List ℕ) → Type 0
IsInTime at_answers at_got = AreAtMost (drop (length at_answers - length at_got) at_answers) at_got

-- flags that were raised and not taken
pub record FlagsPass (exec override : ℕ) (raises : List Raise) (takes : List Take) : Type 0 where
  pub balance : IsBalanced (exec ∷ override ∷ []) raises takes
  pub exec_small : exec < 2 ^ 5
  pub override_small : override < 2 ^ 13
  pub few : raises_of report_flag raises ≤ 2 ^ 31

-- a halt, by how many pieces were passed up to it, and how many ticks were done
abbrev pub numbers_of : Halt → ℕ × ℕ
numbers_of halt = (halt.pieces, halt.done)

-- The pulse has stored no halt that the board has not found: what was published since the last one is what was got since and what
-- waits, the ticks that are done are those up to it and those of the pieces got since, but for those of the last that are left, and a
-- stop waits where the board knows of one
pub record IsGoing (waiting : List Piece) (left done : ℕ) (stop : Bool) (sent : Sent) (since_halt : NewestFirst Piece) (halts : NewestFirst (ℕ × ℕ)) : Type 0 where
  pub waits_is : sent.waits ≡ stop
  pub since_is : sent.since ≡ reverse waiting ++ since_halt
  pub ticks : done + left ≡ ticks_at sent.halts + ticks_together since_halt
  pub past : ticks_at sent.halts + ticks_together (drop 1 since_halt) ≤ done
  pub halts_are : map numbers_of sent.halts ≡ halts

-- The pulse has halted, and the board has not found it: nothing waits, no tick is left, and the halt is behind all that was published
pub record HasHalted (waiting : List Piece) (left done : ℕ) (stop : Bool) (sent : Sent) (since_halt : NewestFirst Piece) (halts : NewestFirst (ℕ × ℕ)) : Type 0 where
  pub waits_is : sent.waits ≡ true
  pub stop_is : stop ≡ false
  pub none_waits : waiting ≡ []
  pub none_left : left ≡ 0
  pub none_since : since_halt ≡ []
  pub halts_are : (length (pieces_sent sent), done) ∷ map numbers_of sent.halts ≡ halts

-- Pieces, stops and halts on their way between a board and a pulse: what was published is what was got or dropped and what waits, in
-- order; those that were got since the last halt and those that wait came in turn. The ticks that are done are those that were
-- counted; no more are done than were published, and at most five pieces are unfinished. Each halt that the board has found is one
-- of the pulse, with as many ticks, and at most one of the pulse was not found.
pub record PiecesPass (waiting : List Piece) (left done : ℕ) (stop : Bool) (sent : Sent) (known : ℕ) (passed since_halt : NewestFirst Piece) (ticked unticked : ℕ) (halts : NewestFirst (ℕ × ℕ)) : Type 0 where
  pub fifo : pieces_sent sent ≡ reverse waiting ++ passed
  pub turns : InTurn (reverse waiting ++ since_halt)
  pub short : done + left + ticks_together waiting < 2 ^ 62
  pub within : done ≤ ticks_published sent
  pub few : unfinished_in sent done ≤ most_unfinished
  pub done_is : done ≡ ticked
  pub left_is : left ≡ unticked
  pub known_is : known ≤ done
  pub phase : IsGoing waiting left done stop sent since_halt halts ⊎ HasHalted waiting left done stop sent since_halt halts

-- The lists between the three: each passes on what its two sides have done. A stop that the pulse has seen waits. Where the host asks
-- for reports only between lines, and the board takes its requests behind each line before it answers, and a reset before its Banner, each
-- report that is asked for is asked for in its epoch, and in its line.
pub record Joined (l : Listed) (host : HostLog) (board : BoardLog) (pulse : PieceLog) : Type 0 where
  pub bytes : BytesPass l.bytes l.closed (stored_in host) (is_shut_in host) (taken_in board) (has_closed_in board)
  pub replies : RepliesPass l.replies (answered_in board) (got_in host) (taken_in board)
  pub marks : MarksPass l.stored l.mark l.replies (stored_in host) (marks_in host) (marks_at_banners host) (link_steps board)
  pub in_time : IsInTime (taken_at_banners (link_steps board)) (stored_at_banners host)
  pub flags : FlagsPass l.exec l.override (raises_in host) (takes_in board)
  pub pieces : PiecesPass l.pieces l.left l.done l.stop (sent_in board) (known_in board) (pieces_of pulse) (got_since pulse) (counted pulse) (uncounted pulse) (halts_of pulse)
  pub stops : saw_stop pulse ≡ true → l.stop ≡ true
  pub asks : AsksBetween host → LooksFirst board → AsksPass (report_is_up l.exec) (λ e k. raised_behind e k host) (λ e k. words_behind e k board) (told_by board)
      (answers_since (link_steps board)) (lfs_since (link_steps board)) (resets_taken board) (has_looked board)
