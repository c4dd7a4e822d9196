-- The reports of a run: what each of them may show.
use Rattle.std.specs.Prelude.{◌≡◌, ℕ, ◌+◌, ◌*◌, ◌/◌, ◌%◌, ◌≤◌, ◌<◌, ◌==◌, ◌⊎◌, Bool, true, false, ◌&&◌, cond, nat_eq, nat_lt, List, [], ◌∷◌, length, take, drop, reverse, get_or, Some, None}
use Rattle.std.specs.List.{list_any, sum}
use Rattle.std.specs.declared.option.Option.{Option}
use Rattle.code_table.specs.Tables.{query}
use Rattle.flight.specs.Places.{moved_by}
use Rattle.gcode_words.specs.Stripping.{realtime}
use Rattle.modal_state.specs.declared.SpindleMode.{SpindleMode}
use Rattle.modal_state.specs.declared.SpindleMode.TheVariants.{Off, Cw, Ccw}
use Rattle.modal_state.specs.Modes.{wco_of}
use Rattle.overrides.specs.Percents.{normal_overrides}
use Rattle.status_report.specs.Answering.{answers_in, is_report}
use Rattle.status_report.specs.Places.{in_thousandths}
use Rattle.status_report.specs.declared.Reply.{Reply}
use Rattle.status_report.specs.declared.Reply.TheVariants as replies
use Rattle.status_report.specs.declared.reports.Report.{Report}
use Rattle.status_report.specs.declared.reports.State.{State as Told}
use Rattle.status_report.specs.declared.reports.State.TheVariants as told
use Rattle.step_line.specs.declared.Record.{Record}
use Rattle.units.specs.declared.Nm3.{Nm3}
use Rattle.units.specs.declared.Per3.{Per3}
use Rattle.units.specs.declared.Steps3.{Steps3}
use Rattle.units.specs.Lengths.{thousandths_of}
use Rattle.run_rules.specs.declared.State.{State}
use Rattle.run_rules.specs.Work.{Outcome, is_limit, has_moves, pauses}

-- ---- of lines that were begun, in order

-- a line settles: it has items, and the last is no move
abbrev pub settles : Outcome → Bool
settles o = o.settles

-- how many lines there are up to and with the last that settles
abbrev pub settled_to : List Outcome → ℕ
settled_to [] = 0
settled_to (o ∷ os) = cond (list_any settles (o ∷ os)) (settled_to os + 1) 0

-- a line asks for a move
abbrev pub moves : Outcome → Bool
moves o = has_moves o.work

-- a line asks for a pause
abbrev pub has_pause : Outcome → Bool
has_pause o = nat_lt 0 (pauses o.work)

abbrev pub raises_alarm : Outcome → Bool
raises_alarm o = is_limit o.answer

-- What they leave; a cut after them changes no more of it than the position, which reports do not show.
abbrev pub state_behind : State → List Outcome → State
state_behind s [] = s
state_behind s (o ∷ os) = state_behind o.next os

-- ---- when k lines were answered

-- If so many ticks count of each line, so many at least are done: those of the lines up to the last among these k that
-- settles; and so many at most: those of the lines up to line k + 1.
abbrev pub fewest : ℕ → List Outcome → List ℕ → ℕ
fewest k os counts = sum (take (settled_to (take k os)) counts)

abbrev pub most : ℕ → List ℕ → ℕ
most k counts = sum (take (k + 1) counts)

-- whether a line moves, of those after the last one that settles among the first k, up to line k + 1
abbrev pub may_move : ℕ → List Outcome → Bool
may_move k os = list_any moves (drop (settled_to (take k os)) (take (k + 1) os))

-- ---- what is shown

-- where a machine that was at a place is after the first d of these ticks
abbrev pub place_at : Steps3 → List Record → ℕ → Steps3
place_at place ticks d = moved_by place (take d ticks)

-- a place in steps, in thousandths of a mm
abbrev pub steps_in_thousandths : Steps3 → Per3 → Nm3
steps_in_thousandths p per_mm = record { x = thousandths_of p.x per_mm.x; y = thousandths_of p.y per_mm.y; z = thousandths_of p.z per_mm.z }

-- the spindle speed by its override, and 0 if the spindle is off
abbrev pub turns_shown : SpindleMode → ℕ → ℕ → ℕ
turns_shown Off rpm percent = 0
turns_shown Cw rpm percent = rpm * percent / 100
turns_shown Ccw rpm percent = rpm * percent / 100

-- the report mask: bit 0 for the position of the machine, bit 1 for free room
abbrev pub shows_machine : ℕ → Bool
shows_machine mask = mask % 2 == 1

abbrev pub shows_room : ℕ → Bool
shows_room mask = mask / 2 % 2 == 1

abbrev pub has_room : Option (ℕ × ℕ) → Bool
has_room None = false
has_room (Some room) = true

-- What a report shows of a place and of what the lines left, all of one state: the position in thousandths of a mm, the
-- fields that the mask asks for, the offset of the work, and the spindle speed.
pub record Shows (place : Steps3) (s : State) (r : Report) : Type 0 where
  pub at : r.at ≡ steps_in_thousandths place s.settings.limits.per_mm
  pub machine : r.machine ≡ shows_machine s.settings.report
  pub room : has_room r.buffer ≡ shows_room s.settings.report
  pub wco : r.wco ≡ in_thousandths (wco_of s.parser)
  pub turns : r.s ≡ turns_shown s.parser.modal.spindle s.parser.rpm r.ov.spindle

-- the state is Hold:0 or Hold:1
abbrev pub is_held : Told → Bool
is_held told.Hold0 = true
is_held told.Hold1 = true
is_held state = false

-- ---- one report

-- What a run has done: the state before it, where the machine stood then, and whether it was locked; what became of the
-- lines that were begun, and how many ticks count of each; the ticks that were published, and how many were given; and
-- whether a hold was asked for, and a change of overrides. Of a line those ticks count that it asks for, less those
-- that a cut or a halt dropped; a cut is a tick, and counts with the last line before it.
pub record Course : Type 0 where
  pub first : State
  pub place : Steps3
  pub locked : Bool
  pub outcomes : List Outcome
  pub counts : List ℕ
  pub ticks : List Record
  pub given : ℕ
  pub held : Bool
  pub changed : Bool

-- more ticks than d were given, of lines up to line k + 1
pub record IsAhead (c : Course) (k d : ℕ) : Type 0 where
  pub given : ℕ
  pub below : d < given
  pub asked : given ≤ most k c.counts
  pub whole : given ≤ c.given

-- one of the lines up to line k + 1 raises an alarm
abbrev pub MayAlarm : Course → ℕ → Type 0
MayAlarm c k = list_any raises_alarm (take (k + 1) c.outcomes) ≡ true

-- A report after k answers, which shows the place after d ticks. It shows what line k left, or line k + 1. The feed is
-- 0 if all ticks up to line k + 1 are done. If no line moves after the last that settles, the machine stands. It is
-- held, or slows down, only by a hold, a pause or an alarm, stands in alarm only by one, or because it was locked, and
-- its overrides are 100 percent if none was changed.
pub record FitsReport (c : Course) (k d : ℕ) (r : Report) : Type 0 where
  pub lines : ℕ
  pub of_lines : (lines ≡ k) ⊎ (lines ≡ k + 1)
  pub begun : lines ≤ length c.outcomes
  pub answered : k ≤ length c.outcomes
  pub made : d ≤ length c.ticks
  pub low : fewest k c.outcomes c.counts ≤ d
  pub high : d ≤ most k c.counts
  pub shows : Shows (place_at c.place c.ticks d) (state_behind c.first (take lines c.outcomes)) r
  pub speed : d ≡ most k c.counts → r.f ≡ 0
  pub ahead : (r.f ≡ 0) ⊎ IsAhead c k d
  pub state : may_move k c.outcomes ≡ false → (r.state ≡ told.Idle) ⊎ ((r.state ≡ told.Hold0) ⊎ (r.state ≡ told.Alarm))
  pub holds : is_held r.state ≡ true → (c.held ≡ true) ⊎ ((list_any has_pause (take (k + 1) c.outcomes) ≡ true) ⊎ MayAlarm c k)
  pub alarm : r.state ≡ told.Alarm → (c.locked ≡ true) ⊎ MayAlarm c k
  pub overrides : c.changed ≡ false → r.ov ≡ normal_overrides

-- ---- all of them

-- Each report among these replies fits, the latest first. The numbers of ticks that they show never fall, and are at
-- most `top`.
abbrev pub Reported : Course → List Reply → ℕ → Type 0
Reported c [] top = Unit {0}
Reported c (replies.Report r ∷ earlier) top = (d : ℕ) × (d ≤ top) × FitsReport c (answers_in earlier) d r × Reported c earlier d
Reported c (r ∷ earlier) top = Reported c earlier top

-- a line asks for a report: a `?` is outside its comments
abbrev pub is_query : ℕ → Bool
is_query b = nat_eq b query

abbrev pub asks_report : List ℕ → Bool
asks_report line = list_any is_query (realtime line)

-- the reports among these replies, the latest first, that come after k answers, and before the next
abbrev pub reports_behind : ℕ → List Reply → ℕ
reports_behind k [] = 0
reports_behind k (r ∷ earlier) = cond (is_report r && nat_eq (answers_in earlier) k) 1 0 + reports_behind k earlier

-- each of these lines that asks for a report and has its answer has a report, after the answers to the lines before it
abbrev pub AreReported : List (List ℕ) → List Reply → Type 0
AreReported lines replies = (k : ℕ) → k < answers_in replies → asks_report (get_or lines k []) ≡ true → 0 < reports_behind k (reverse replies)
