-- Which bytes of a job are scanned, and which of its lines are sent.
use Rattle.std.specs.Prelude.{◌≡◌, ℕ, ◌+◌, ◌-◌, ◌≤◌, ◌<◌, Bool, false, not, ◌&&◌, cond, List, [], ◌∷◌, ◌++◌, length, map, take, nat_eq, nat_le, nat_lt}
use Rattle.std.specs.List.{count_by, flat_map, list_any, filter, take_while}
use Rattle.gcode_words.specs.Comments.{cut}
use Rattle.gcode_words.specs.Stripping.{is_plain, capital, realtime}
use Rattle.run_rules.specs.Lines.{HasNoLf, lines_of}
use Rattle.run_rules.specs.Readings.{largest_job, largest_piece, most_sent, job_of}
use Rattle.run_rules.specs.Lines.{whole_lines}
use Rattle.host_journal.specs.declared.Reading.{Reading}
use Rattle.host_journal.specs.declared.Reading.TheVariants.{Ended, Failed, Large, Stopped}
use Rattle.host_journal.specs.declared.Stop.{Stop}
use Rattle.host_journal.specs.declared.Stop.TheVariants.{End, LongLine, TooLarge}

-- `~` resumes the machine
abbrev pub resume : ℕ
resume = 0x7e

-- 0x85 cancels a jog
abbrev pub cancel : ℕ
cancel = 0x85

abbrev pub is_cancel : ℕ → Bool
is_cancel b = nat_eq b cancel

-- the realtime bytes of a line: each of them is raised
abbrev pub served : List ℕ → List ℕ
served line = realtime line

-- those of a text
abbrev pub served_in : List ℕ → List ℕ
served_in text = flat_map served (lines_of text)

-- how many cancels of jogs stand outside the comments of some lines
abbrev pub cancels_in : List (List ℕ) → ℕ
cancels_in lines = count_by is_cancel (flat_map served lines)

-- 0x18 resets the machine
abbrev pub is_reset : ℕ → Bool
is_reset b = nat_eq b 0x18

-- how many resets stand outside the comments of a text
abbrev pub resets_scanned : List ℕ → ℕ
resets_scanned text = count_by is_reset (served_in text)

-- A Banner is lacking, where there are so many resets, and so many Banners were got: the n-th reset waits for the (n + 1)-th Banner.
abbrev pub lacks_banner : (resets : ℕ) → (banners : ℕ) → Bool
lacks_banner resets banners = nat_lt 0 resets && nat_le banners resets

-- what stands behind the last byte of a text that passes a test; all of it where none does
abbrev pub behind_last : (ℕ → Bool) → List ℕ → List ℕ
behind_last p [] = []
behind_last p (b ∷ bs) = cond (list_any p bs) (behind_last p bs) (cond (p b) bs (b ∷ bs))

-- What is sent of a line: what is kept of it behind its last reset outside comments. A reset drops what stands before it.
abbrev pub sent_text : List ℕ → List ℕ
sent_text line = map capital (filter is_plain (behind_last is_reset (cut line).outside))

-- the marks of a line's resets, by how many bytes are sent of the lines before it
abbrev pub marks_at : ℕ → List ℕ → List ℕ
marks_at bytes line = map (λ b. bytes) (filter is_reset (served line))

-- The marks of the resets of some lines, in order, each by how many bytes are sent of the lines before its own; so many were sent
-- before all of them.
abbrev pub marks_behind : ℕ → List (List ℕ) → List ℕ
marks_behind bytes [] = []
marks_behind bytes (line ∷ lines) = marks_at bytes line ++ marks_behind (bytes + (length (sent_text line) + 1)) lines

-- the fronts of a line: none of its bytes, the first, the first two, and so on to all of them
abbrev pub fronts : List ℕ → List (List ℕ)
fronts [] = [] ∷ []
fronts (b ∷ bs) = [] ∷ map (λ front. b ∷ front) (fronts bs)

-- behind its last reset a text has too many bytes
abbrev pub has_too_many : List ℕ → Bool
has_too_many text = nat_lt most_sent (length (sent_text text))

-- A line is too long: a front of it has too many bytes behind its last reset. A reset behind them comes too late.
abbrev pub is_long : List ℕ → Bool
is_long line = list_any has_too_many (fronts line)

-- the sending ends in a line with these bytes: it is too long
abbrev pub ends_sending : List ℕ → Bool
ends_sending line = is_long line

-- a line is sent
abbrev pub is_sent : List ℕ → Bool
is_sent line = not (ends_sending line)

-- the sending ends in a line of a text
abbrev pub ends_in : List ℕ → Bool
ends_in text = list_any ends_sending (lines_of text)

-- the lines of what was read: a last one without LF counts where the source's end was read
abbrev pub lines_read : Reading → List ℕ → List (List ℕ)
lines_read Ended job = lines_of job
lines_read _ job = whole_lines job

-- the lines that are sent: those before the first in which the sending ends
abbrev pub lines_to_send : Reading → List ℕ → List (List ℕ)
lines_to_send reading job = take_while is_sent (lines_read reading job)

-- How many bytes were read, by how the reading goes: at most as many as a job may have, or a byte more and the rest of its
-- piece.
abbrev pub MayHaveRead : Reading → ℕ → Type 0
MayHaveRead Ended n = n ≤ largest_job
MayHaveRead Failed n = n ≤ largest_job
MayHaveRead Large n = (largest_job < n) × (n ≤ largest_job + largest_piece)
MayHaveRead Stopped n = n ≤ largest_job

abbrev pub but_last : List ℕ → List ℕ
but_last text = take (length text - 1) text

-- The bytes of a job that were scanned so far are a front of it, in which no byte stands behind one with which the sending
-- ends.
pub record ScansFront (job text : List ℕ) : Type 0 where
  pub left : List ℕ
  pub front : job ≡ text ++ left
  pub early : ends_in (but_last text) ≡ false

-- what may be left at the end of a run in which the sending ended in no line
abbrev pub MayLeave : Reading → List ℕ → Type 0
MayLeave Ended left = left ≡ []
MayLeave Failed left = HasNoLf left
MayLeave Large left = left ≡ []
MayLeave Stopped left = ⊥

-- The bytes of a job that were scanned in a whole run.
pub record MayScan (reading : Reading) (job text : List ℕ) : Type 0 where
  pub scans : ScansFront job text
  pub whole : ends_in text ≡ false → MayLeave reading scans.left

-- the first line in which the sending ends, where it is too long, by its number
abbrev pub long_line : List (List ℕ) → Stop
long_line lines = LongLine (length (take_while is_sent lines) + 1)

-- why a run in which these bytes were scanned sends no more, the first that holds: the job was too large, a line too long
abbrev pub stop_by : Reading → List ℕ → Stop
stop_by Large text = TooLarge
stop_by _ text = cond (list_any is_long (lines_of text)) (long_line (lines_of text)) End

-- What was sent of a job in a run so far: by what was read of it and how the reading goes, the bytes that were scanned,
-- the lines that were cut, and why no more is sent.
pub record IsSentSoFar (read : List ℕ) (reading : Reading) (text : List ℕ) (lines : List (List ℕ)) (stop : Stop) : Type 0 where
  pub fits : MayHaveRead reading (length read)
  pub scans : ScansFront (job_of read) text
  pub later : List (List ℕ)
  pub sent : lines_to_send reading (job_of read) ≡ lines ++ later
  pub cause : stop ≡ stop_by reading text

-- the same in a whole run
pub record IsSent (read : List ℕ) (reading : Reading) (text : List ℕ) (lines : List (List ℕ)) (stop : Stop) : Type 0 where
  pub fits : MayHaveRead reading (length read)
  pub scans : MayScan reading (job_of read) text
  pub sent : lines ≡ lines_to_send reading (job_of read)
  pub cause : stop ≡ stop_by reading text
