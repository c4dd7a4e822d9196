-- How what the actors have done goes together.
use Rattle.std.specs.Prelude.{◌≡◌, ◌⊎◌, ℕ, ◌+◌, ◌≤◌, true, List, ◌∷◌, ◌++◌, length, reverse}
use Rattle.std.specs.List.{AllByRecursion}
use Rattle.run_rules.specs.Lines.{ended}
use Rattle.epoch_links.specs.Drops.{lines_among}
use Rattle.epoch_links.specs.Links.{AreLinked}
use Rattle.epoch_links.specs.Pieces.{joined}
use Rattle.epoch_records.specs.Epochs.{Epoch}
use Rattle.epoch_records.specs.Publishing.{AreSameHalts, halts_in}
use Rattle.epoch_records.specs.SoFar.{HaltsUnseen}
use Rattle.epoch_runs.specs.Epochs.{halts_seen}
use Rattle.motion_ring.specs.Sides.{published_in, ticks_published}
use Rattle.motion_ring.specs.declared.lists.Sent.{Sent}
use Rattle.pulse_engine.specs.Logs.{PieceLog, pieces_of, counted, uncounted, halts_of}
use Rattle.step_line.specs.declared.Piece.{Piece}
use Rattle.status_report.specs.Answering.{banners_in}
use Rattle.run_law.specs.Changes.{AreAskedIn}
use Rattle.run_law.specs.Flags.{AreTaken}
use Rattle.epoch_effects.specs.Words.{WordsTaken}
use Rattle.step_line.specs.Logs.{NewestFirst}
use Rattle.run_texts.specs.Fronts.{BeginsWith}
use Rattle.epoch_law.specs.Ran.{HostDid, BoardDid, PulseDid}

-- what was taken of words of flags was raised
pub record AreRaisedFor (raised : List ℕ) (w : WordsTaken) : Type 0 where
  pub taken : AreTaken raised w
  pub changes : AreAskedIn raised w.changes

-- The pieces of a ring: those published are those that the pulse got or dropped; and the halts that it stored are those that were seen.
pub record ArePassed (b : BoardDid) (p : PulseDid) : Type 0 where
  pub pieces : p.got ≡ b.published
  pub halts : AreSameHalts b.halts p.halts

-- A pulse has halted where these epochs end, but the last: a run of one epoch has no halt.
abbrev pub HasHaltedFor : List Epoch → PulseDid → Type 0
HasHaltedFor epochs p = AreSameHalts (reverse (halts_in 0 0 epochs)) p.halts

-- Host and board by their link and the flags: what goes over the link goes together; what was taken of flags was raised; and the lines that
-- each reset leaves without an answer take no more bytes than the link has room for, each with its LF. If the Banner of each was got,
-- the host has forgotten as many lines.
pub record AreConnected (room : ℕ) (h : HostDid) (b : BoardDid) : Type 0 where
  pub link : AreLinked h.stored h.marks h.at_got h.shut (joined b.taken) b.loaded b.at_answers b.closed
  pub flags : AreRaisedFor h.raised b.words
  pub few : AllByRecursion (λ ls. length (ended ls) ≤ room) b.dropped
  pub lost : banners_in h.got ≡ length b.dropped + 1 → h.forgotten ≡ lines_among b.dropped

-- The pieces of a ring, where some may not have come to the pulse: it got or dropped the first of those published.
pub record ArePassedSome (b : BoardDid) (p : PulseDid) : Type 0 where
  pub pieces : BeginsWith b.published p.got
  pub halts : AreSameHalts b.halts p.halts

-- The pieces of a ring so far, while so many ticks are put: it is so, or the pulse has halted once more, which was not seen.
abbrev pub ArePassedSoFar : (ticks : ℕ) → BoardDid → PulseDid → Type 0
ArePassedSoFar ticks b p = ArePassedSome b p ⊎ HaltsUnseen b.phase ticks b.published p.got b.halts p.halts

-- ---- by logs

-- A pulse has halted, which the board has not seen: a stop waits for its halt, all that was published was got or dropped, and no tick of it
-- is left.
pub record HasHaltedUnseen (sent : Sent) (h : PieceLog) : Type 0 where
  pub waits : sent.waits ≡ true
  pub all : published_in sent ≡ pieces_of h
  pub none_left : uncounted h ≡ 0
  pub halts_are : AreSameHalts ((length (published_in sent), counted h) ∷ halts_seen sent) (halts_of h)

-- What a ring of pieces says of a board, which has found so many ticks done, and a pulse: the pieces got or dropped are the first of those
-- published, no more ticks are found done than are counted, and those counted and those left of the last piece were published; and the
-- halts are those that were seen, or one more.
pub record ArePiecesPassed (sent : Sent) (known : ℕ) (h : PieceLog) : Type 0 where
  pub rest : NewestFirst Piece
  pub fifo : published_in sent ≡ rest ++ pieces_of h
  pub known_is : known ≤ counted h
  pub within : counted h + uncounted h ≤ ticks_published sent
  pub halts : AreSameHalts (halts_seen sent) (halts_of h) ⊎ HasHaltedUnseen sent h
