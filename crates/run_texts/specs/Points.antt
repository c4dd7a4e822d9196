-- Where a course stands between two lines, and what becomes of a line there.
use Rattle.std.specs.Prelude.{◌≡◌, ℕ, ◌+◌, Bool, true, false, not, ◌&&◌, ◌||◌, List}
use Rattle.system_lines.specs.Commands.{kind_of}
use Rattle.run_rules.specs.declared.State.{State}
use Rattle.run_rules.specs.Work.{Outcome, has_moves}
use Rattle.run_rules.specs.Outcomes.{Before, Becomes, start, after, either}
pub use Rattle.run_rules.specs.Locking.{is_unlock, unlocked, ByLockedDollar, ByLockedKept, BecomesLocked}

-- What the lines before leave: of their epoch, what `Before` has; whether the machine is locked; whether the part has a
-- line yet; and whether its last line was begun and has no answer, which only a reset leaves so.
pub record Point : Type 0 where
  pub before : Before
  pub locked : Bool
  pub has_line : Bool
  pub unanswered : Bool

-- before the first line
abbrev pub opening : State → Point
opening first = record { before = start first; locked = false; has_line = false; unanswered = false }

-- ---- at a point

-- What becomes of a line of which this is kept. `runs` says whether the machine may be found running, or in a jog.
abbrev pub BecomesAt : Bool → Point → List ℕ → Outcome → Type 0
BecomesAt runs p kept o = either p.locked (BecomesLocked p.before kept o) (Becomes runs p.before kept o)

-- A line is begun and answered, or raises an alarm, and becomes this: no line before it has raised an alarm, and all are
-- answered.
pub record IsPassed (p : Point) (kept : List ℕ) (o : Outcome) : Type 0 where
  pub free : p.before.alarmed ≡ false
  pub answered : p.unanswered ≡ false
  pub becomes : BecomesAt true p kept o

abbrev pub behind_line : Point → List ℕ → Outcome → Point
behind_line p kept o = record { before = after p.before o; locked = p.locked && not (is_unlock (kind_of kept)); has_line = true; unanswered = false }

-- A line is begun, and a reset keeps it from its answer: it would have become this, if no motion refused it.
pub record IsBroken (p : Point) (kept : List ℕ) (o : Outcome) : Type 0 where
  pub free : p.before.alarmed ≡ false
  pub answered : p.unanswered ≡ false
  pub becomes : BecomesAt false p kept o

-- It changes nothing but that it has moved, if it moves.
abbrev pub behind_broken : Point → Outcome → Point
behind_broken p o = record {
  before = record p.before { number = p.before.number + 1; moved = has_moves o.work || p.before.moved };
  locked = p.locked;
  has_line = true;
  unanswered = true;
}
