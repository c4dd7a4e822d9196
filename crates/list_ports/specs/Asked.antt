-- How often reports are asked for on one thread, epoch by epoch, by how many lines of the epoch were answered then.
use Rattle.std.specs.Prelude.{◌≡◌, ℕ, ◌+◌, ◌-◌, ◌≤◌, ◌⊎◌, Bool, true, false, not, ◌&&◌, cond, nat_eq, List, [], ◌∷◌, length, drop}
use Rattle.code_table.specs.Tables.{query}
use Rattle.status_report.specs.declared.Reply.{Reply}
use Rattle.status_report.specs.Answering.{is_answer, is_banner, banners_in, lfs_in}
use Rattle.realtime_flags.specs.Bits.{is_up, report_flag}
use Rattle.serial_ring.specs.Lists.{answers_behind_mark}
use Rattle.serial_ring.specs.Logs as link
use Rattle.serial_ring.specs.Marks.{latest}
use Rattle.host_journal.specs.Steps.{stored_in, latest_got, marks_in, resets_in}
use Rattle.host_journal.specs.Steps.{HostLog}
use Rattle.host_journal.specs.Steps.PortStep.{raised}
use Rattle.board_journal.specs.Ports.{asks_report, asks_reset, link_steps}
use Rattle.board_journal.specs.Ports.{PortStep as BoardStep, BoardLog}
use Rattle.board_journal.specs.Ports.PortStep.{took, answered, took_exec}

-- ---- moments

-- The epoch that these replies lead to, the latest first: each Banner but the first begins one.
abbrev pub epoch_behind : List Reply → ℕ
epoch_behind replies = banners_in replies - 1

-- What stands behind these replies stands in epoch e, behind k answers of it.
abbrev pub is_at : (e k : ℕ) → List Reply → Bool
is_at e k replies = nat_eq (epoch_behind replies) e && nat_eq (answers_behind_mark replies) k

-- ---- the host

-- Nothing that was sent waits for a reply: of each mark, and of each reset, the Banner was got, and each line that was stored to its end
-- behind the last mark has its answer.
pub record AwaitsNoReply (h : HostLog) : Type 0 where
  pub marks : (length (marks_in h) ≡ 0) ⊎ (banners_in (latest_got h) ≡ length (marks_in h) + 1)
  pub resets : resets_in h ≤ epoch_behind (latest_got h)
  pub lines : lfs_in (drop (latest (marks_in h)) (stored_in h)) ≡ answers_behind_mark (latest_got h)

-- `?` is raised only then
abbrev pub AsksBetween : HostLog → Type 0
AsksBetween [] = Unit {0}
AsksBetween (raised b down ∷ h) = (b ≡ query → AwaitsNoReply h) × AsksBetween h
AsksBetween (_ ∷ h) = AsksBetween h

-- how often `?` was raised in epoch e behind k answers of it, and found its flag down
abbrev pub raised_behind : (e k : ℕ) → HostLog → ℕ
raised_behind e k [] = 0
raised_behind e k (raised b down ∷ h) = cond (down && (nat_eq b query && is_at e k (latest_got h))) 1 0 + raised_behind e k h
raised_behind e k (_ ∷ h) = raised_behind e k h

-- ---- the board

-- the replies answered, the latest first
abbrev pub told_by : BoardLog → List Reply
told_by l = link.answered_in (link_steps l)

abbrev pub looked_at : BoardStep → Bool → Bool
looked_at (took b) looked = not (nat_eq b 10) && looked
looked_at (took_exec word) looked = true
looked_at e looked = looked

-- the word of requests was taken since a line was last taken to its end
abbrev pub has_looked : BoardLog → Bool
has_looked [] = true
has_looked (e ∷ l) = looked_at e (has_looked l)

abbrev pub resets_at : BoardStep → ℕ → ℕ
resets_at (took_exec word) resets = cond (asks_reset word) (resets + 1) resets
resets_at e resets = resets

-- how many words that ask for a reset were taken
abbrev pub resets_taken : BoardLog → ℕ
resets_taken [] = 0
resets_taken (e ∷ l) = resets_at e (resets_taken l)

-- A line is answered only once the word of requests was taken behind it. Of each Banner but the first a reset of its own was taken before.
pub record MayFollow (r : Reply) (l : BoardLog) : Type 0 where
  pub line : is_answer r ≡ true → has_looked l ≡ true
  pub banner : is_banner r ≡ true → banners_in (told_by l) ≤ resets_taken l

abbrev pub LooksAt : BoardStep → BoardLog → Type 0 → Type 0
LooksAt (answered r) l before = MayFollow r l × before
LooksAt e l before = before

-- each reply was answered so
abbrev pub LooksFirst : BoardLog → Type 0
LooksFirst [] = Unit {0}
LooksFirst (e ∷ l) = LooksAt e l (LooksFirst l)

abbrev pub words_at : (e k : ℕ) → BoardStep → List Reply → ℕ → ℕ
words_at e k (took_exec word) told words = cond (asks_report word && is_at e k told) 1 0 + words
words_at e k step told words = words

-- how many words that ask for a report were taken in epoch e behind k answers of it
abbrev pub words_behind : (e k : ℕ) → BoardLog → ℕ
words_behind e k [] = 0
words_behind e k (step ∷ l) = words_at e k step (told_by l) (words_behind e k l)

-- ---- both

-- the flag of reports is up in the word of requests
abbrev pub report_is_up : ℕ → Bool
report_is_up exec = is_up report_flag (exec ∷ [])

-- In each epoch, behind each number of answers of it, so many words that ask for a report were taken, with the one whose flag is up now, as
-- `?` found the flag down at most. While it is up, each line that was taken to its end since the last Banner has its answer, or the word of
-- requests is still to be taken behind the last one; and no more resets were taken than have their Banner.
pub record AsksPass (up : Bool) (raises words : ℕ → ℕ → ℕ) (told : List Reply) (answers lfs resets : ℕ) (looked : Bool) : Type 0 where
  pub each : (e k : ℕ) → words e k + cond (up && is_at e k told) 1 0 ≤ raises e k
  pub before : up ≡ true → (answers ≡ lfs) ⊎ (looked ≡ false)
  pub calm : up ≡ true → resets ≤ epoch_behind told
