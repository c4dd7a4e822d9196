-- The work of a reset: what a board does between two epochs, step by step.
use Rattle.std.specs.Prelude.{◌≡◌, ℕ, zero, suc, ◌-◌, ◌^◌, ◌≤◌, ◌<◌, Bool, true, false, nat_eq, nat_lt, [], ◌∷◌, ◌++◌, length}
use Rattle.std.specs.List.{list_any, count_by}
use Rattle.motion_ring.specs.Sides as ring
use Rattle.outside.specs.declared.On.{On}
use Rattle.outside.specs.declared.On.TheVariants as on
use Rattle.outside.specs.declared.Turn.{Turn}
use Rattle.outside.specs.declared.Turn.TheVariants.{Did, Wait, Done}
use Rattle.serial_ring.specs.Logs.{greeted_in}
use Rattle.serial_ring.specs.Marks.{last_of}
use Rattle.step_line.specs.declared.Mark.TheVariants as marks
use Rattle.step_line.specs.declared.Piece.TheVariants as pieces
use Rattle.board_journal.specs.Ports.{PortStep, BoardLog, asks_report, taken_in, link_steps, sent_in, MayBeDone, HasTakenFew, HasFewReports, LacksPieceRoom}
use Rattle.board_journal.specs.Ports.PortStep.{took, found_mark, took_exec, took_ovr, published, no_piece_room, loaded, stored_stop, found_no_halt, found_halt}
use Rattle.board_journal.specs.Steps.{Step, Journal, port_log}
use Rattle.board_journal.specs.Steps.Step.{at_port, turned}
use Rattle.board_rules.specs.Turns.{this_turn, publishing, loads, lacks_piece_room, by_wait}

-- What is done for a reset, the latest first: steps at the port, and ends of turns. What a reset changes in the board itself comes
-- with its end, which opens the next epoch.
abbrev pub Work : Type 0
Work = Journal

-- How far it is. The word of overrides is to be dropped; the mark is awaited that the host has stored for the reset; the pulse is to be
-- told to stop; its halt is awaited; the bytes before the mark are dropped, of which so many are left; the mark of the reset is to
-- be published; it is awaited; and all is done.
pub data Stage : Type 0 where
  drops_changes : Stage
  awaits_mark : Stage
  stops : (bytes : ℕ) → Stage
  awaits_halt : (bytes : ℕ) → Stage
  drops : (bytes : ℕ) → Stage
  publishes : Stage
  awaits_done : Stage
  over : Stage

-- the number of the mark that was worked last: that of the last Banner
abbrev pub worked_in : BoardLog → ℕ
worked_in l = (last_of (greeted_in (link_steps l))).0

-- so many bytes are left to drop, or none is
abbrev pub dropping : ℕ → Stage
dropping zero = publishes
dropping (suc n) = drops (suc n)

-- a mark is new, with so many bytes before it that are not taken, or it is not
abbrev pub by_mark : Bool → ℕ → Stage
by_mark true bytes = stops bytes
by_mark false bytes = awaits_mark

-- all published ticks are done, or not
abbrev pub by_load : Bool → Stage
by_load true = over
by_load false = awaits_done

-- a step at the port leads from stage to stage, behind all that was done there
abbrev pub stage_at : BoardLog → PortStep → Stage → Stage
stage_at l (took_ovr word) drops_changes = awaits_mark
stage_at l (found_mark number bytes) awaits_mark = by_mark (nat_lt (worked_in l) number) (bytes - length (taken_in l))
stage_at l stored_stop (stops n) = awaits_halt n
stage_at l (found_halt done) (awaits_halt n) = dropping n
stage_at l (took b) (drops (suc n)) = dropping n
stage_at l (published p) publishes = awaits_done
stage_at l (loaded done) awaits_done = by_load (nat_eq done (ring.ticks_published (sent_in l)))
stage_at l e stage = stage

-- how far the work is, behind what was done at the port before it
abbrev pub stage_of : BoardLog → Work → Stage
stage_of before [] = drops_changes
stage_of before (at_port e ∷ w) = stage_at (port_log w ++ before) e (stage_of before w)
stage_of before (_ ∷ w) = stage_of before w

-- ---- at the port

-- What may be done there at each stage, behind all that was done at the port, where the mark that is published has this number.
-- Words of requests, and of overrides, are taken and dropped at any stage. The number of a mark of the link is below 2 ^ 32. What
-- else the port promises is as in `Conduct` of `board_rules`.
abbrev pub MayWorkAt : (number : ℕ) → BoardLog → PortStep → Stage → Type 0
MayWorkAt number l e over = ⊥
MayWorkAt number l (took_exec word) stage = asks_report word ≡ true → HasFewReports l
MayWorkAt number l (took_ovr word) stage = Unit {0}
MayWorkAt number l (found_mark m bytes) awaits_mark = m < 2 ^ 32
MayWorkAt number l stored_stop (stops n) = Unit {0}
MayWorkAt number l found_no_halt (awaits_halt n) = Unit {0}
MayWorkAt number l (found_halt done) (awaits_halt n) = MayBeDone done l
MayWorkAt number l (took b) (drops n) = HasTakenFew l
MayWorkAt number l (published p) publishes = p ≡ pieces.Mark (marks.Reset number)
MayWorkAt number l (no_piece_room done) publishes = LacksPieceRoom done l
MayWorkAt number l (loaded done) awaits_done = MayBeDone done l
MayWorkAt number l e stage = ⊥

-- ---- its turns

-- a step that the port's other side can see
abbrev pub goes_out : Step → Bool
goes_out (at_port stored_stop) = true
goes_out s = publishing s

-- it is looked for what the other side does: for a mark of the link, a halt, room for the mark of the reset, or how many ticks are done
abbrev pub looks_out : Step → Bool
looks_out (at_port (found_mark number bytes)) = true
looks_out (at_port found_no_halt) = true
looks_out (at_port (found_halt done)) = true
looks_out (at_port (published p)) = true
looks_out (at_port (no_piece_room done)) = true
looks_out (at_port (loaded done)) = true
looks_out _ = false

-- in a turn the other side can see one step at most, and it is looked for once at most
pub record IsOneTurn (w : Work) : Type 0 where
  pub once : count_by goes_out (this_turn w) ≤ 1
  pub looks : count_by looks_out (this_turn w) ≤ 1

-- a byte is dropped, a stop is stored, or the mark is published
abbrev pub goes_on : Step → Bool
goes_on (at_port (took b)) = true
goes_on (at_port stored_stop) = true
goes_on (at_port (published p)) = true
goes_on _ = false

abbrev pub finds_mark : Step → Bool
finds_mark (at_port (found_mark number bytes)) = true
finds_mark _ = false

abbrev pub finds_no_halt : Step → Bool
finds_no_halt (at_port found_no_halt) = true
finds_no_halt _ = false

-- the word of requests was taken since the work began, or since anything was waited for
abbrev pub requests_dropped : Work → Bool
requests_dropped [] = true
requests_dropped (at_port (took_exec word) ∷ w) = true
requests_dropped (turned t ∷ w) = by_wait t (requests_dropped w)
requests_dropped (_ ∷ w) = requests_dropped w

-- so was the word of overrides
abbrev pub changes_dropped : Work → Bool
changes_dropped [] = true
changes_dropped (at_port (took_ovr word) ∷ w) = true
changes_dropped (turned t ∷ w) = by_wait t (changes_dropped w)
changes_dropped (_ ∷ w) = changes_dropped w

-- Why a turn waits: the mark that it loaded is not new; it found no halt; the mark of the reset was handed back; or it found the mark
-- not done.
abbrev pub NeedsAt : On → Stage → Work → Type 0
NeedsAt on.Reset awaits_mark w = list_any finds_mark (this_turn w) ≡ true
NeedsAt on.Halt (awaits_halt n) w = list_any finds_no_halt (this_turn w) ≡ true
NeedsAt on.SegmentRoom publishes w = list_any lacks_piece_room (this_turn w) ≡ true
NeedsAt on.Motion awaits_done w = list_any loads (this_turn w) ≡ true
NeedsAt o stage w = ⊥

-- A turn waits: nothing went on in it, and both words of flags were taken since the work began, or since the last wait.
pub record WorkWaits (before : BoardLog) (o : On) (w : Work) : Type 0 where
  pub one : IsOneTurn w
  pub cause : NeedsAt o (stage_of before w) w
  pub still : list_any goes_on (this_turn w) ≡ false
  pub requests : requests_dropped w ≡ true
  pub changes : changes_dropped w ≡ true

abbrev pub MayEndWork : BoardLog → Turn → Work → Type 0
MayEndWork before Did w = IsOneTurn w
MayEndWork before (Wait o) w = WorkWaits before o w
MayEndWork before Done w = ⊥

-- ---- all of it

-- the reset is worked
pub record IsWorked (before : BoardLog) (w : Work) : Type 0 where
  pub done : stage_of before w ≡ over
  pub between : this_turn w ≡ []

abbrev pub MayWork : (number : ℕ) → BoardLog → Step → Work → Type 0
MayWork number before (at_port e) w = MayWorkAt number (port_log w ++ before) e (stage_of before w)
MayWork number before (turned t) w = MayEndWork before t w
MayWork number before s w = ⊥

-- A reset is worked behind what was done at the port before, and its mark has this number. Once it is worked, the next epoch begins.
abbrev pub Works : (number : ℕ) → BoardLog → Work → Type 0
Works number before [] = Unit {0}
Works number before (s ∷ w) = MayWork number before s w × (IsWorked before w → ⊥) × Works number before w

-- the ticks that were done when the pulse halted
abbrev pub halted_in : Work → ℕ
halted_in [] = 0
halted_in (at_port (found_halt done) ∷ w) = done
halted_in (_ ∷ w) = halted_in w
