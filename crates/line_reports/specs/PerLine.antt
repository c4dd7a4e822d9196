-- The reports of a run on one thread, epoch by epoch and line by line.
use Rattle.std.specs.Prelude.{ℕ, ◌+◌, ◌≤◌, ◌&&◌, cond, nat_eq, List, [], ◌∷◌, reverse}
use Rattle.status_report.specs.declared.Reply.{Reply}
use Rattle.status_report.specs.Answering.{is_report}
use Rattle.run_rules.specs.Reports.{is_query}
use Rattle.host_journal.specs.Jobs.{is_reset, served}
use Rattle.list_ports.specs.Asked.{is_at}

-- ---- the reports among replies

-- how many of these replies, the latest first, are reports that stand in epoch e, behind k answers of it
abbrev pub reports_at : (e k : ℕ) → List Reply → ℕ
reports_at e k [] = 0
reports_at e k (r ∷ earlier) = cond (is_report r && is_at e k earlier) 1 0 + reports_at e k earlier

-- ---- the `?` among lines

-- A byte more in realtime: how many resets there are then, and how many lines stand behind the one with the last of them.
abbrev pub resets_with : ℕ → ℕ → ℕ
resets_with b resets = cond (is_reset b) (resets + 1) resets

abbrev pub lines_with : ℕ → ℕ → ℕ
lines_with b lines = cond (is_reset b) 0 lines

-- so many there are behind some realtime bytes
abbrev pub resets_behind : ℕ → List ℕ → ℕ
resets_behind resets [] = resets
resets_behind resets (b ∷ bs) = resets_behind (resets_with b resets) bs

abbrev pub lines_behind : ℕ → List ℕ → ℕ
lines_behind lines [] = lines
lines_behind lines (b ∷ bs) = lines_behind (lines_with b lines) bs

-- how many `?` of some realtime bytes stand behind e resets in all, and k lines behind the one with the last of them, if so many of both
-- stand before
abbrev pub queries_at : (e k resets lines : ℕ) → List ℕ → ℕ
queries_at e k resets lines [] = 0
queries_at e k resets lines (b ∷ bs) = cond (is_query b && (nat_eq resets e && nat_eq lines k)) 1 0 + queries_at e k (resets_with b resets) (lines_with b lines) bs

-- The same of some lines, outside their comments: a line with a reset is the first of the epoch that the reset begins, and its `?` before
-- that reset are of the epoch that the reset ends, in which it is the last.
abbrev pub queries_in : (e k resets lines : ℕ) → List (List ℕ) → ℕ
queries_in e k resets lines [] = 0
queries_in e k resets lines (raw ∷ later) = queries_at e k resets lines (served raw) + queries_in e k (resets_behind resets (served raw)) (lines_behind lines (served raw) + 1) later

-- ---- both

-- In each epoch each line has at most as many reports as it has `?` there: so many of these replies at most are reports that stand in the
-- epoch behind the answers to the lines before it, and before its own. So a line without a `?` has none, and none is kept over a Banner.
abbrev pub ReportsPerLine : List (List ℕ) → List Reply → Type 0
ReportsPerLine lines replies = (e k : ℕ) → reports_at e k (reverse replies) ≤ queries_in e k 0 0 lines
