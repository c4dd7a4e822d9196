-- What a board does at its port, what it owes the port, and what the port promises.
use Rattle.std.specs.Prelude.{◌≡◌, ℕ, ◌+◌, ◌^◌, ◌≤◌, ◌<◌, Bool, true, false, not, ◌||◌, cond, nat_eq, List, [], ◌∷◌, ◌++◌, length}
use Rattle.code_table.specs.declared.flags.Exec.{Exec}
use Rattle.code_table.specs.declared.flags.Ovr.{Ovr}
use Rattle.code_table.specs.Tables.{query}
use Rattle.feed_hold.specs.Motions.{asks, hold_byte, cancel_byte}
use Rattle.code_table.specs.Flags.{ovr_bits}
use Rattle.status_report.specs.declared.Reply.{Reply}
use Rattle.status_report.specs.declared.Reply.TheVariants as replies
use Rattle.status_report.specs.declared.reports.Report.{Report}
use Rattle.status_report.specs.Answering.{reply_room}
use Rattle.serial_ring.specs.declared.view.LinkStep.{LinkStep}
use Rattle.serial_ring.specs.declared.view.LinkStep.TheVariants.{Took, Marked, Answered}
use Rattle.serial_ring.specs.Marks.{MarkedPast}
use Rattle.serial_ring.specs.Logs as link
use Rattle.step_line.specs.declared.Piece.{Piece}
use Rattle.step_line.specs.Finishing.{most_unfinished}
use Rattle.step_line.specs.Logs.{NewestFirst}
use Rattle.motion_ring.specs.declared.lists.Sent.{Sent}
use Rattle.motion_ring.specs.Sides as ring
use Rattle.motion_ring.specs.Rule.{none_sent}

-- what a board does at its port
pub data PortStep : Type 0 where
  took : ℕ → PortStep
  -- a poll found no byte; it found none, and the link closed
  found_empty : PortStep
  found_closed : PortStep
  -- the link had room for so many bytes
  found_free : ℕ → PortStep
  -- the mark of this number was loaded, before which so many bytes were stored
  found_mark : ℕ → ℕ → PortStep
  -- a reply that is no report was answered; a report was
  answered : Reply → PortStep
  reported : Report → PortStep
  -- a reply, or a report, was handed back
  no_reply_room : PortStep
  took_exec : Exec → PortStep
  took_ovr : Ovr → PortStep
  published : Piece → PortStep
  -- a piece was handed back, while so many ticks were done
  no_piece_room : ℕ → PortStep
  -- so many ticks were found done
  loaded : ℕ → PortStep
  -- the pulse was told to stop behind all that was published
  stored_stop : PortStep
  -- a stop waits for its halt; the pulse has halted, and so many ticks are done
  found_no_halt : PortStep
  found_halt : ℕ → PortStep

-- all steps at the port, the latest first
abbrev pub BoardLog : Type 0
BoardLog = NewestFirst PortStep

-- 0x18 resets the machine
abbrev pub reset_byte : ℕ
reset_byte = 0x18

-- the step of answering a reply
abbrev pub said : Reply → PortStep
said (replies.Report r) = reported r
said r = answered r

-- ---- what was done, as lists in the order in which it was done

abbrev pub taken_at : PortStep → List ℕ → List ℕ
taken_at (took b) bytes = bytes ++ b ∷ []
taken_at e bytes = bytes

-- the bytes taken
abbrev pub taken_in : BoardLog → List ℕ
taken_in [] = []
taken_in (e ∷ l) = taken_at e (taken_in l)

abbrev pub closed_at : PortStep → Bool → Bool
closed_at found_closed closed = true
closed_at e closed = closed

-- the link was found closed
abbrev pub has_closed_in : BoardLog → Bool
has_closed_in [] = false
has_closed_in (e ∷ l) = closed_at e (has_closed_in l)

abbrev pub answered_at : PortStep → List Reply → List Reply
answered_at (answered r) rs = rs ++ r ∷ []
answered_at (reported r) rs = rs ++ replies.Report r ∷ []
answered_at e rs = rs

-- the replies answered
abbrev pub answered_in : BoardLog → List Reply
answered_in [] = []
answered_in (e ∷ l) = answered_at e (answered_in l)

abbrev pub link_steps_at : PortStep → List LinkStep → List LinkStep
link_steps_at (took b) steps = Took b ∷ steps
link_steps_at (found_mark number bytes) steps = Marked number bytes ∷ steps
link_steps_at (answered r) steps = Answered r ∷ steps
link_steps_at (reported r) steps = Answered (replies.Report r) ∷ steps
link_steps_at e steps = steps

-- what the link's bounds speak of, the latest first: the bytes taken, the marks loaded, the replies answered
abbrev pub link_steps : BoardLog → List LinkStep
link_steps [] = []
link_steps (e ∷ l) = link_steps_at e (link_steps l)

-- a word of requests asks for a report
abbrev pub asks_report : Exec → Bool
asks_report word = asks word query

-- a word of changes of overrides holds one
abbrev pub has_changes : Ovr → Bool
has_changes word = not (nat_eq (ovr_bits word) 0)

abbrev pub reports_at : PortStep → ℕ → ℕ
reports_at (took_exec word) n = cond (asks_report word) (n + 1) n
reports_at e n = n

-- how many words that ask for a report were taken
abbrev pub reports_in : BoardLog → ℕ
reports_in [] = 0
reports_in (e ∷ l) = reports_at e (reports_in l)

abbrev pub owes_at : PortStep → Bool → Bool
owes_at (took_exec word) owes = asks_report word || owes
owes_at (reported r) owes = false
owes_at e owes = owes

-- a word that asks for a report was taken, and none was answered since
abbrev pub owes_in : BoardLog → Bool
owes_in [] = false
owes_in (e ∷ l) = owes_at e (owes_in l)

abbrev pub holds_at : PortStep → Bool → Bool
holds_at (took_exec word) held = asks word hold_byte || held
holds_at e held = held

-- a word that asks for a hold was taken
abbrev pub has_held_in : BoardLog → Bool
has_held_in [] = false
has_held_in (e ∷ l) = holds_at e (has_held_in l)

abbrev pub cancels_at : PortStep → Bool → Bool
cancels_at (took_exec word) cancelled = asks word cancel_byte || cancelled
cancels_at e cancelled = cancelled

-- a word that asks for a jog's cancel was taken
abbrev pub has_cancelled_in : BoardLog → Bool
has_cancelled_in [] = false
has_cancelled_in (e ∷ l) = cancels_at e (has_cancelled_in l)

-- a word that asks for a hold or for a cancel was taken: each may slow the machine down
abbrev pub has_slowed_in : BoardLog → Bool
has_slowed_in l = has_held_in l || has_cancelled_in l

-- a word of requests asks for a hold or for a cancel: each cancels jogs
abbrev pub asks_cancel : Exec → Bool
asks_cancel word = asks word hold_byte || asks word cancel_byte

abbrev pub cancel_words_at : PortStep → ℕ → ℕ
cancel_words_at (took_exec word) n = cond (asks_cancel word) (n + 1) n
cancel_words_at e n = n

-- how many such words were taken
abbrev pub cancel_words_in : BoardLog → ℕ
cancel_words_in [] = 0
cancel_words_in (e ∷ l) = cancel_words_at e (cancel_words_in l)

-- a word of requests asks for a reset
abbrev pub asks_reset : Exec → Bool
asks_reset word = asks word reset_byte

abbrev pub resets_at : PortStep → Bool → Bool
resets_at (took_exec word) reset = asks_reset word || reset
resets_at e reset = reset

-- a word that asks for a reset was taken
abbrev pub has_reset_in : BoardLog → Bool
has_reset_in [] = false
has_reset_in (e ∷ l) = resets_at e (has_reset_in l)

abbrev pub changes_at : PortStep → Bool → Bool
changes_at (took_ovr word) changed = has_changes word || changed
changes_at e changed = changed

-- a word that changes overrides was taken
abbrev pub has_changed_in : BoardLog → Bool
has_changed_in [] = false
has_changed_in (e ∷ l) = changes_at e (has_changed_in l)

abbrev pub published_at : PortStep → List Piece → List Piece
published_at (published p) ps = ps ++ p ∷ []
published_at e ps = ps

-- the pieces published
abbrev pub published_in : BoardLog → List Piece
published_in [] = []
published_in (e ∷ l) = published_at e (published_in l)

abbrev pub known_at : PortStep → ℕ → ℕ
known_at (loaded n) known = n
known_at (found_halt n) known = n
known_at e known = known

-- how many ticks were found done when that was loaded last, or when a halt was found
abbrev pub known_in : BoardLog → ℕ
known_in [] = 0
known_in (e ∷ l) = known_at e (known_in l)

abbrev pub sent_at : PortStep → Sent → Sent
sent_at (published p) s = ring.with_piece s p
sent_at stored_stop s = ring.with_stop s
sent_at (found_halt n) s = ring.with_halt s n
sent_at e s = s

-- What went to the pulse, as the ring of pieces has it: the pieces published up to the last halt that was found, and those since;
-- the stops, the halts, and whether a stop waits for its halt. The ticks published are those done at that halt, and those of the
-- pieces published since: of the pieces before it, which the halt may have cut, no further tick is counted.
abbrev pub sent_in : BoardLog → Sent
sent_in [] = none_sent
sent_in (e ∷ l) = sent_at e (sent_in l)

-- these pieces alone went to it, the latest first
abbrev pub unstopped : List Piece → Sent
unstopped ps = record { older = []; since = ps; stops = []; halts = []; waits = false }

-- ---- what a board owes

-- A reply may be answered: a line only if fewer were answered since the last Banner than were taken to their LF since, and a
-- Banner behind another only for a new mark.
abbrev pub MayAnswer : BoardLog → Reply → Type 0
MayAnswer l r = link.MayAnswer (link_steps l) r

-- A piece may be published: no stop waits for its halt, and no end was published; it may come behind the pieces published since the
-- last halt, so that the first segment behind a stop begins its move; the ticks published and its own are fewer than 2 ^ 62, and so
-- were the pieces.
abbrev pub MayPublish : BoardLog → Piece → Type 0
MayPublish l p = ring.MayPublish (sent_in l) p

-- the pulse may be told to stop: no stop waits for its halt, and where there was one before, a piece was published since
abbrev pub MayStop : BoardLog → Type 0
MayStop l = ring.MayStop (sent_in l)

-- it may be looked for a halt: a stop waits for it
abbrev pub MayAskHalt : BoardLog → Type 0
MayAskHalt l = (sent_in l).waits ≡ true

-- ---- what a port promises

-- fewer bytes are taken than were stored before a mark that was loaded: there is one more
abbrev pub IsMarkedPast : BoardLog → Type 0
IsMarkedPast l = MarkedPast (length (taken_in l)) (link.marked_in (link_steps l))

-- one more byte is taken: fewer than 2 ^ 31 were
abbrev pub HasTakenFew : BoardLog → Type 0
HasTakenFew l = length (taken_in l) < 2 ^ 31

-- one more report is asked for: fewer than 2 ^ 31 were
abbrev pub HasFewReports : BoardLog → Type 0
HasFewReports l = reports_in l < 2 ^ 31

-- a reply is handed back only if 16 that were answered may be on the link
abbrev pub LacksReplyRoom : BoardLog → Type 0
LacksReplyRoom l = reply_room ≤ length (answered_in l)

-- a piece is handed back, while so many ticks are done, only if five pieces are unfinished
pub record LacksPieceRoom (done : ℕ) (l : BoardLog) : Type 0 where
  pub later : known_in l ≤ done
  pub full : ring.unfinished_in (sent_in l) done ≡ most_unfinished

-- So many ticks may be found done: no fewer than before, and no more than the ticks published, so that nothing is done before it is
-- published. At most five pieces are unfinished then. It is so at a halt, too, from which on all pieces are finished.
pub record MayBeDone (done : ℕ) (l : BoardLog) : Type 0 where
  pub later : known_in l ≤ done
  pub below : done ≤ ring.ticks_published (sent_in l)
  pub few : ring.unfinished_in (sent_in l) done ≤ most_unfinished
