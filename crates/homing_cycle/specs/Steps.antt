-- The steps of a homing cycle, which are its phases without their moves.
use Rattle.std.specs.Prelude.{◌≡◌, ◌≤◌, Bool, true, false, if◌then◌else◌, List, [], ◌∷◌, Some, None}
use Rattle.std.specs.declared.option.Option.{Option}
use Rattle.units.specs.declared.Steps3.{Steps3}
use Rattle.units.specs.Lengths.{IsMove, IsScale}
use Rattle.units.specs.Limits.{OnEachAxis}
use Rattle.settings.specs.declared.Settings.{Settings}
use Rattle.settings.specs.Numbers.{IsTravel}
use Rattle.homing_cycle.specs.declared.axis.Axis.{Axis}
use Rattle.homing_cycle.specs.declared.axis.Axis.TheVariants.{X, Y, Z}
use Rattle.homing_cycle.specs.declared.steps.Step.{Step}
use Rattle.homing_cycle.specs.declared.steps.Step.TheVariants.{Search, PullOff, Home, Alarm}
use Rattle.homing_cycle.specs.declared.Phase.{Phase}
use Rattle.homing_cycle.specs.declared.Phase.TheVariants.{Search as Searching, PullOff as PullingOff, Home as IsHome, Alarm as Alarmed}
use Rattle.homing_cycle.specs.declared.cycle.Homing.{Homing}
use Rattle.homing_cycle.specs.Axes.{number_of}
use Rattle.homing_cycle.specs.Moves.{search_move, pull_off_move}

-- where a phase has ended, and how the switch of its axis was read there
pub record End : Type 0 where
  pub at : Steps3
  pub closed : Bool

-- what was handed to a cycle, the latest first. The first is where the cycle began; each other is the end of a phase.
abbrev pub Ends : Type 0
Ends = List End

-- what comes behind the pull-off of an axis: Z is first, then X, then Y
abbrev pub step_behind : Axis → Step
step_behind Z = Search X
step_behind X = Search Y
step_behind Y = Home

-- what comes behind a step that has ended with its switch closed, or open
abbrev pub step_after : Option Step → Bool → Step
step_after None closed = Search Z
step_after (Some (Search axis)) closed = if closed then PullOff axis else Alarm 9
step_after (Some (PullOff axis)) closed = if closed then Alarm 8 else step_behind axis
step_after (Some Home) closed = Home
step_after (Some (Alarm number)) closed = Alarm number

-- the step that was answered last
abbrev pub step_of : Ends → Option Step
step_of [] = None
step_of (end ∷ before) = Some (step_after (step_of before) end.closed)

-- neither Home nor an alarm was answered
abbrev pub goes_on : Option Step → Bool
goes_on None = true
goes_on (Some (Search axis)) = true
goes_on (Some (PullOff axis)) = true
goes_on (Some Home) = false
goes_on (Some (Alarm number)) = false

-- the phase of a step that begins at a place
abbrev pub phase_by : Settings → Step → Steps3 → Phase
phase_by s (Search axis) at = Searching (number_of axis) (search_move axis s.travel s.limits.per_mm at)
phase_by s (PullOff axis) at = PullingOff (number_of axis) (pull_off_move axis s.limits.per_mm at)
phase_by s Home at = IsHome
phase_by s (Alarm number) at = Alarmed number

-- the phase that is answered to an end, behind those before it
abbrev pub phase_of : Settings → Ends → End → Phase
phase_of s before end = phase_by s (step_after (step_of before) end.closed) end.at

-- the cycle has these settings, and was handed these ends
pub record HasHeard (homing : Homing) (s : Settings) (ends : Ends) : Type 0 where
  pub travel : homing.travel ≡ s.travel
  pub per_mm : homing.per_mm ≡ s.limits.per_mm
  pub last : homing.last ≡ step_of ends

-- neither Home nor an alarm was answered yet
pub record CanGoOn (homing : Homing) : Type 0 where
  pub going : goes_on homing.last ≡ true
  pub travel : OnEachAxis IsTravel homing.travel
  pub scales : OnEachAxis IsScale homing.per_mm

-- a phase whose axis and move, if it has them, are in range
abbrev pub IsPhase : Phase → Type 0
IsPhase (Searching axis mv) = (axis ≤ 2) × IsMove mv
IsPhase (PullingOff axis mv) = (axis ≤ 2) × IsMove mv
IsPhase IsHome = Unit {0}
IsPhase (Alarmed number) = Unit {0}

-- a search or a pull-off
abbrev pub IsUnderWay : Phase → Type 0
IsUnderWay (Searching axis mv) = Unit {0}
IsUnderWay (PullingOff axis mv) = Unit {0}
IsUnderWay IsHome = ⊥
IsUnderWay (Alarmed number) = ⊥
