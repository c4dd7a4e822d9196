-- The course that a board has taken over its epochs, and where it stands.
use Rattle.std.specs.Prelude.{ℕ, ◌-◌, ◌≤◌, Bool, true, false, not, ◌&&◌, cond, nat_lt, List, [], ◌∷◌, ◌++◌}
use Rattle.flight.specs.Places.{end_from}
use Rattle.run_rules.specs.declared.State.{State}
use Rattle.run_rules.specs.Outcomes.{Before, after, at_place}
use Rattle.run_texts.specs.Courses.{Passed, behind_cut}
use Rattle.run_texts.specs.Courses.Passed.{a_line, a_broken, a_cut, a_reset}
use Rattle.run_texts.specs.Points.{Point, behind_broken}
use Rattle.status_report.specs.Answering.{is_answer}
use Rattle.step_line.specs.Logs.{NewestFirst}
use Rattle.board_rules.specs.Conduct.{ticks_given, ticks_published}
use Rattle.board_journal.specs.Openings.{Opening, before_first}
use Rattle.board_journal.specs.Ports.{PortStep}
use Rattle.board_journal.specs.Ports.PortStep.{answered}
use Rattle.board_journal.specs.Steps.{Journal, given_of, known_of}
use Rattle.board_journal.specs.Steps.Step.{at_port, began, cut}
use Rattle.board_rules.specs.Turns.{is_locked}
use Rattle.board_epochs.specs.Epochs.{Closed, Epochs, opening_behind, point_of, reset_of, ticks_made}
use Rattle.board_epochs.specs.Epochs.Epochs.{goes, resets}
use Rattle.board_epochs.specs.Work.{Work, Stage, halted_in}
use Rattle.board_epochs.specs.Work.Stage.{awaits_done, over}

-- ---- of one epoch

abbrev pub unanswered_at : PortStep → Bool → Bool
unanswered_at (answered r) was = not (is_answer r) && was
unanswered_at e was = was

-- a line was begun, and its answer is not given
abbrev pub is_unanswered : Journal → Bool
is_unanswered [] = false
is_unanswered (at_port e ∷ h) = unanswered_at e (is_unanswered h)
is_unanswered (began o ∷ h) = true
is_unanswered (_ ∷ h) = is_unanswered h

-- The mark of a cut is the next tick behind all that was given before it. It is made once so many ticks of the epoch are made.
abbrev pub is_made : (made : ℕ) → Journal → Bool
is_made made h = nat_lt (ticks_given h) made

-- The lines that were begun, and the cuts, each where all pieces before it lead. A reset may keep the last line from its answer; and a
-- cut whose mark is not made is none: nothing is begun behind it.
abbrev pub passed_by : (broken : Bool) → (made : ℕ) → Opening → Journal → List Passed
passed_by broken made first [] = []
passed_by broken made first (began o ∷ h) = passed_by false made first h ++ cond broken (a_broken o) (a_line o) ∷ []
passed_by broken made first (cut k ∷ h) = passed_by broken made first h ++ cond (is_made made h) (a_cut k (end_from first.place (given_of h)) ∷ []) []
passed_by broken made first (_ ∷ h) = passed_by broken made first h

-- of an epoch that goes on: its last line is to be answered, as each before it was
abbrev pub passed_so_far : (made : ℕ) → Opening → Journal → List Passed
passed_so_far made first h = passed_by false made first h

-- of an epoch that a reset ends
abbrev pub passed_at_reset : (made : ℕ) → Opening → Journal → List Passed
passed_at_reset made first h = passed_by (is_unanswered h) made first h

-- ---- of all epochs

-- how many ticks of an epoch were made when the pulse halted, with so many made before it
abbrev pub made_at_halt : (base : ℕ) → Work → ℕ
made_at_halt base w = halted_in w - base

-- no fewer than the journal knows of, and no more than those of the pieces published
pub record IsMadeAtHalt (h : Journal) (made : ℕ) : Type 0 where
  pub known : known_of h ≤ made
  pub published : made ≤ ticks_published h

abbrev pub closed_course : (blocks : ℕ) → State → NewestFirst Closed → List Passed
closed_course blocks state [] = []
closed_course blocks state (e ∷ es) =
    let first = opening_behind blocks state es in
    closed_course blocks state es ++ (passed_at_reset (made_at_halt (ticks_made es) e.work) first e.journal ++ a_reset (reset_of (ticks_made es) first e.journal e.work) ∷ [])

-- So many ticks of the open epoch are made. A reset that is being worked comes once it is worked: no line is answered before.
abbrev pub course_of : (blocks : ℕ) → State → (made : ℕ) → Epochs → List Passed
course_of blocks state made (goes es h) = closed_course blocks state es ++ passed_so_far made (opening_behind blocks state es) h
course_of blocks state made (resets es h w) = closed_course blocks state es ++ passed_at_reset made (opening_behind blocks state es) h

-- The mark of a reset is published: it may be made, and recorded, before the work of the reset is done.
abbrev pub is_marked : Stage → Bool
is_marked awaits_done = true
is_marked over = true
is_marked stage = false

-- closed epochs, and one whose reset is being worked, as it is once that is done
abbrev pub with_reset : NewestFirst Closed → Journal → Work → NewestFirst Closed
with_reset es h w = record { journal = h; work = w } ∷ es

-- the journal of the open epoch
abbrev pub open_journal : Epochs → Journal
open_journal (goes es h) = h
open_journal (resets es h w) = h

-- ---- where it stands

-- what the lines that were begun leave for the next, as `before_of` has it, behind the cuts that are made
abbrev pub before_by : (made : ℕ) → Opening → Journal → Before
before_by made first [] = before_first first
before_by made first (began o ∷ h) = after (before_by made first h) o
before_by made first (cut k ∷ h) = cond (is_made made h) (at_place (end_from first.place (given_of h)) (before_by made first h)) (before_by made first h)
before_by made first (_ ∷ h) = before_by made first h

-- a line was begun since the last cut
abbrev pub has_line_by : (made : ℕ) → Journal → Bool
has_line_by made [] = false
has_line_by made (began o ∷ h) = true
has_line_by made (cut k ∷ h) = not (is_made made h) && has_line_by made h
has_line_by made (_ ∷ h) = has_line_by made h

-- behind an epoch, whose last line counts as answered
abbrev pub point_behind : (made : ℕ) → Opening → Journal → Point
point_behind made first h = record { before = before_by made first h; locked = is_locked first h; has_line = has_line_by made h; unanswered = false }

-- where the last line is kept from its answer: it changes nothing
abbrev pub point_broken : (made : ℕ) → Opening → Journal → Point
point_broken made first [] = point_of first
point_broken made first (began o ∷ h) = behind_broken (point_behind made first h) o
point_broken made first (cut k ∷ h) = cond (is_made made h) (behind_cut (end_from first.place (given_of h)) (point_broken made first h)) (point_broken made first h)
point_broken made first (_ ∷ h) = point_broken made first h

abbrev pub point_at_reset : (made : ℕ) → Opening → Journal → Point
point_at_reset made first h = cond (is_unanswered h) (point_broken made first h) (point_behind made first h)

abbrev pub stands_at : (blocks : ℕ) → State → (made : ℕ) → Epochs → Point
stands_at blocks state made (goes es h) = point_behind made (opening_behind blocks state es) h
stands_at blocks state made (resets es h w) = point_at_reset made (opening_behind blocks state es) h
