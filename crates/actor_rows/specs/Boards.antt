-- What a board that is a plain list has told.
use Rattle.std.specs.Prelude.{◌≡◌, ℕ, ◌+◌, ◌≤◌, ◌<◌, List, [], length}
use Rattle.status_report.specs.declared.Reply.{Reply}
use Rattle.status_report.specs.Answering.{lfs_in, banners_in}
use Rattle.serial_ring.specs.Marks.{Mark, last_of}
use Rattle.serial_ring.specs.Lists.{answers_behind_mark}
use Rattle.host_journal.specs.Links.{behind_mark, AreGreetings}
use Rattle.host_journal.specs.Steps.{HostLog, latest_got, marks_in, marks_at_banners, stored_in}

-- So many lines that were stored behind the mark of the last banner have no answer, so many replies were told, so many marks are
-- stored, and no banner is of a mark with a larger number than this: by the replies, the latest first, the marks, those that were
-- stored when each banner was got, and the bytes.
pub record Told (owed told marks greeted : ℕ) (replies : List Reply) (places : List ℕ) (at_banners : List (List ℕ)) (bytes : List ℕ) : Type 0 where
  pub seen : List Mark
  pub each : length seen ≡ banners_in replies
  pub are : AreGreetings at_banners seen
  pub lines : answers_behind_mark replies + owed ≤ lfs_in (behind_mark seen bytes)
  pub none : told ≡ 0 → seen ≡ []
  pub some : 0 < told → 0 < length seen
  pub stored : marks ≡ length places
  pub low : (last_of seen).0 ≤ greeted
  pub within : (last_of seen).1 ≤ length bytes

abbrev pub HasTold : ℕ → ℕ → ℕ → ℕ → HostLog → Type 0
HasTold owed told marks greeted h = Told owed told marks greeted (latest_got h) (marks_in h) (marks_at_banners h) (stored_in h)
