-- Where a journal begins: what was done before its first step, and what is told first.
use Rattle.std.specs.Prelude.{◌≡◌, ℕ, ◌+◌, ◌≤◌, false, cond, List, [], ◌∷◌}
use Rattle.feed_hold.specs.declared.Motion.{Motion}
use Rattle.feed_hold.specs.declared.Motion.TheVariants as motions
use Rattle.flight.specs.Places.{origin}
use Rattle.run_rules.specs.declared.State.{State}
use Rattle.run_rules.specs.Outcomes.{Before, start}
use Rattle.status_report.specs.declared.Reply.{Reply}
use Rattle.status_report.specs.declared.Reply.TheVariants.{Banner}
use Rattle.status_report.specs.Answering.{is_answer, is_banner, is_bye, is_report}
use Rattle.units.specs.declared.Steps3.{Steps3}

-- how many lines were begun before, and the state that they leave; the place where the machine stands, and the state of
-- its motion; what is told before all else; and how many blocks the plan holds at most
pub record Opening : Type 0 where
  pub lines : ℕ
  pub state : State
  pub place : Steps3
  pub motion : Motion
  pub tells : List Reply
  pub blocks : ℕ

-- A run begins with its first line, at the origin, with an idle machine, and is greeted by the banner.
abbrev pub first_opening : ℕ → State → Opening
first_opening blocks state = record { lines = 0; state = state; place = origin; motion = motions.Idle; tells = Banner ∷ []; blocks = blocks }

-- What the lines before leave for the first line: nothing has moved since the machine stands.
abbrev pub before_first : Opening → Before
before_first first = record (start first.state) { number = first.lines + 1 }

-- what greets answers no line, is no report, and is not Bye
pub record IsGreeting (r : Reply) : Type 0 where
  pub answers : is_answer r ≡ false
  pub reports : is_report r ≡ false
  pub parts : is_bye r ≡ false

-- what greets, up to the banner
abbrev pub up_to_banner : List Reply → List Reply
up_to_banner [] = []
up_to_banner (r ∷ rs) = r ∷ cond (is_banner r) [] (up_to_banner rs)

-- so many replies greet at most
abbrev pub most_greetings : ℕ
most_greetings = 3

-- so many blocks a plan may hold: one at least, so that a move has room in an empty one, and 63 at most
abbrev pub IsPlanSize : ℕ → Type 0
IsPlanSize blocks = (1 ≤ blocks) × (blocks ≤ 63)

-- the position is where the machine stands
abbrev pub IsPlaced : Opening → Type 0
IsPlaced first = first.place ≡ first.state.parser.pos_steps
