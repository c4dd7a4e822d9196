-- How much a board has done behind some resets.
use Rattle.std.specs.Prelude.{◌≡◌, ℕ, ◌+◌, ◌*◌, ◌^◌, ◌≤◌, ◌<◌, true, length}
use Rattle.motion_ring.specs.Sides as ring
use Rattle.serial_ring.specs.Logs.{marked_in, has_greeted}
use Rattle.serial_ring.specs.Marks.{Mark as LinkMark, last_of}
use Rattle.board_journal.specs.Ports.{BoardLog, taken_in, answered_in, reports_in, known_in, link_steps, sent_in}
use Rattle.board_epochs.specs.Work.{worked_in}

-- the mark that was loaded last
abbrev pub loaded_mark : BoardLog → LinkMark
loaded_mark l = last_of (marked_in (link_steps l))

-- Behind so many resets: as many marks were worked, of which the last is below 2 ^ 32; it is new behind the last Banner, and the bytes
-- before it are taken.
pub record AreMarked (l : BoardLog) (resets : ℕ) : Type 0 where
  pub many : resets ≤ (loaded_mark l).0
  pub few : (loaded_mark l).0 < 2 ^ 32
  pub later : worked_in l < (loaded_mark l).0
  pub bytes : (loaded_mark l).1 ≤ length (taken_in l)
  pub greeted : has_greeted (link_steps l) ≡ true

-- So much at most is done behind so many resets: of each byte taken so many ticks, pieces and replies, and of each reset a few; and the
-- reports that were asked for.
pub record IsFew (l : BoardLog) (resets : ℕ) : Type 0 where
  pub ticks : known_in l ≤ 400000006 * length (taken_in l) + resets
  pub pieces : length (ring.published_in (sent_in l)) ≤ 400000006 * length (taken_in l) + resets
  pub replies : length (answered_in l) ≤ 64 * length (taken_in l) + 4 * resets + reports_in l
