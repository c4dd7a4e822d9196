-- What a host owes its port, and what the port promises.
use Rattle.std.specs.Prelude.{◌≡◌, ℕ, ◌+◌, ◌^◌, ◌≤◌, ◌<◌, Bool, true, false, cond, nat_eq, List, [], ◌∷◌, ◌++◌, length, reverse}
use Rattle.code_table.specs.Tables.{query}
use Rattle.status_report.specs.Answering.{lfs_in, banners_in}
use Rattle.status_report.specs.declared.Reply.{Reply}
use Rattle.serial_ring.specs.declared.view.LinkStep.{LinkStep}
use Rattle.serial_ring.specs.Logs.{AnswersWell, taken_in, marked_in, answered_in, greeted_in, taken_at_banners}
use Rattle.serial_ring.specs.Marks.{Mark, AreMarks}
use Rattle.serial_ring.specs.Lists.{AreAtMost, answers_behind_mark}
use Rattle.host_journal.specs.Links.{behind_lf, behind_mark, AreGreetings}
use Rattle.host_journal.specs.Steps.{HostLog, stored_in, stored_at_banners, latest_got, marks_in, marks_at_banners, is_shut_in}
use Rattle.host_journal.specs.Steps.PortStep.{raised}

-- how often a report was asked for
abbrev pub queries_in : HostLog → ℕ
queries_in [] = 0
queries_in (raised b down ∷ h) = cond (nat_eq b query) (queries_in h + 1) (queries_in h)
queries_in (_ ∷ h) = queries_in h

-- the link was not closed
abbrev pub IsOpen : HostLog → Type 0
IsOpen h = is_shut_in h ≡ false

-- a byte may be stored: the link is open, and fewer than 2 ^ 31 bytes were stored
pub record TakesByte (h : HostLog) : Type 0 where
  pub going : IsOpen h
  pub few : length (stored_in h) < 2 ^ 31

-- a byte may be raised: of `?` fewer than 2 ^ 31 were
abbrev pub TakesRaise : ℕ → HostLog → Type 0
TakesRaise b h = b ≡ query → queries_in h < 2 ^ 31

-- a mark may be stored: fewer than 2 ^ 32 - 1 were
abbrev pub TakesMark : HostLog → Type 0
TakesMark h = length (marks_in h) + 1 < 2 ^ 32

-- these may be the marks of the Banners got, the latest first: one of each, which was stored before its Banner was got
pub record AreGreeted (h : HostLog) (greeted : List Mark) : Type 0 where
  pub each : length greeted ≡ banners_in (latest_got h)
  pub stored : AreGreetings (marks_at_banners h) greeted

-- So many bytes may not be taken yet: those stored behind the last mark whose Banner was got, after the last line that was
-- answered since. A byte is dropped only where they leave no room on the link, which has room for so many.
pub record SeemsFull (room : ℕ) (h : HostLog) : Type 0 where
  pub greeted : List Mark
  pub are : AreGreeted h greeted
  pub full : room ≤ length (behind_lf (answers_behind_mark (latest_got h)) (behind_mark greeted (stored_in h)))

-- since the last Banner of a mark each answer is to a line that was stored behind that mark
pub record AnswersLines (h : HostLog) : Type 0 where
  pub greeted : List Mark
  pub are : AreGreeted h greeted
  pub few : answers_behind_mark (latest_got h) ≤ lfs_in (behind_mark greeted (stored_in h))

-- What the two ends of a link know of each other, by what a host's port did, what a board's end did, and whether the board found the
-- link closed. The bytes taken are the first of those stored, and all of them where the link was found closed, as it then is. Each mark
-- that was loaded is one that was stored, or the start. The replies got are the first of those answered, each where it might be; and
-- of the Banners got the board answered each for a mark that was stored before it was got, and had then taken no more bytes than were
-- stored as it was got.
pub record PortsAgree (h : HostLog) (log : List LinkStep) (over : Bool) : Type 0 where
  pub unread : List ℕ
  pub bytes : stored_in h ≡ reverse (taken_in log) ++ unread
  pub closes : over ≡ true → is_shut_in h ≡ true
  pub all : over ≡ true → unread ≡ []
  pub loads : AreMarks (marks_in h) (marked_in log)
  pub well : AnswersWell log
  pub untaken : List Reply
  pub replies : answered_in log ≡ untaken ++ latest_got h
  pub ungreeted : List Mark
  pub greeted : List Mark
  pub banners : greeted_in log ≡ ungreeted ++ greeted
  pub are : AreGreeted h greeted
  pub ungot : List ℕ
  pub of_got : List ℕ
  pub moments : taken_at_banners log ≡ ungot ++ of_got
  pub in_time : AreAtMost of_got (stored_at_banners h)
