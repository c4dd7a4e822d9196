-- What is scanned of a job that is audited, and what is sent of it, if no alarm ends it.
use Rattle.std.specs.Prelude.{ℕ, ◌+◌, ◌-◌, Bool, cond, ◌||◌, List, [], ◌∷◌, ◌++◌, length, take, drop, nat_eq, nat_lt, Some, None}
use Rattle.std.specs.declared.option.Option.{Option}
use Rattle.std.specs.List.{sum_by, count_by}
use Rattle.std.specs.Option.{is_some, unwrap_or}
use Rattle.gcode_words.specs.Stripping.{realtime}
use Rattle.run_rules.specs.Lines.{lines_of, whole_lines, ended}
use Rattle.run_rules.specs.Readings.{largest_job, job_of}
pub use Rattle.run_rules.specs.Readings.{most_sent}
use Rattle.run_texts.specs.Points.{Point}
use Rattle.run_texts.specs.Sent.{Sent, kept_of, sent_of}

-- ---- a line that is too long

-- the front of a line, behind some bytes of it, up to the byte with which too many are kept
abbrev pub long_front : List ℕ → List ℕ → Option (List ℕ)
long_front before [] = None
long_front before (c ∷ cs) =
    cond (nat_lt most_sent (length (kept_of (before ++ c ∷ [])))) (Some (before ++ c ∷ [])) (long_front (before ++ c ∷ []) cs)

-- a line is too long, also if a reset comes later in it
abbrev pub is_long : List ℕ → Bool
is_long line = is_some (long_front [] line)

-- what is scanned of a line: no byte behind the one with which too many are kept
abbrev pub scanned_of : List ℕ → List ℕ
scanned_of line = unwrap_or (long_front [] line) line

-- ---- a job

-- the lines that are sent, and what is scanned besides: the front of a line that is too long, or, of a job that is too
-- large, what stands behind its last LF
pub record Scanned : Type 0 where
  pub lines : List (List ℕ)
  pub rest : List ℕ

abbrev pub onto_lines : List ℕ → Scanned → Scanned
onto_lines line s = record s { lines = line ∷ s.lines }

-- of these lines, and of what stands behind them: those before the first that is too long
abbrev pub up_to_long : List (List ℕ) → List ℕ → Scanned
up_to_long [] rest = record { lines = []; rest = scanned_of rest }
up_to_long (line ∷ lines) rest = cond (is_long line) (record { lines = []; rest = scanned_of line }) (onto_lines line (up_to_long lines rest))

-- what stands behind the last LF of a text
abbrev pub open_line : List ℕ → List ℕ
open_line text = drop (length (ended (whole_lines text))) text

-- Of a job that is too large the first bytes are scanned, and a last piece of these without LF is no line.
abbrev pub scanned : List ℕ → Scanned
scanned job =
    cond (nat_lt largest_job (length job)) (up_to_long (whole_lines (job_of job)) (open_line (job_of job))) (up_to_long (lines_of job) [])

-- what comes of it to a board, if no alarm of a soft limit ends the sending
abbrev pub sent_in : List ℕ → List Sent
sent_in job = sent_of (scanned job).lines (scanned job).rest

-- ---- the bytes that may cut jogs

-- `!`
abbrev pub is_hold : ℕ → Bool
is_hold byte = nat_eq byte 33

-- `!`, and 0x85
abbrev pub may_cut : ℕ → Bool
may_cut byte = is_hold byte || nat_eq byte 133

-- how many of a line are realtime bytes, outside its comments
abbrev pub cuts_by : List ℕ → ℕ
cuts_by line = count_by may_cut (realtime line)

abbrev pub holds_by : List ℕ → ℕ
holds_by line = count_by is_hold (realtime line)

-- of all that is scanned
abbrev pub cuts_scanned : Scanned → ℕ
cuts_scanned s = sum_by cuts_by s.lines + cuts_by s.rest

-- With the alarm in line k: of the lines up to it, and each `!` behind them, since the sender may have raised that before
-- line k was begun. A 0x85 waits for the answers to the lines before it, and is not raised then.
abbrev pub cuts_with_alarm : ℕ → List ℕ → ℕ
cuts_with_alarm k job = sum_by cuts_by (take k (scanned job).lines) + sum_by holds_by (drop k (lines_of (job_of job)))

-- how many cuts there may be in a run that ends at this point
abbrev pub most_cuts : List ℕ → Point → ℕ
most_cuts job last = cond last.before.alarmed (cuts_with_alarm (last.before.number - 1) job) (cuts_scanned (scanned job))
