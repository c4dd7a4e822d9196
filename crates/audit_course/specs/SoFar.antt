-- A course so far, as its judge knows it.
use Rattle.std.specs.Prelude.{◌≡◌, ◌≤◌, ◌<◌, ℕ, ◌+◌, Bool, true, false, cond, not, nat_eq, ◌&&◌, ◌||◌, List, [], ◌∷◌, ◌++◌, length, map}
use Rattle.std.specs.List.{AllByRecursion, list_any, count_by}
use Rattle.std.specs.declared.option.Option.{Option}
use Rattle.units.specs.declared.Steps3.{Steps3}
use Rattle.flight.specs.Places.{moved_by, origin}
use Rattle.legal_heads.specs.Whole.{events_among}
use Rattle.status_report.specs.declared.Reply.{Reply}
use Rattle.status_report.specs.declared.Reply.TheVariants.{Banner, Alarm, Error}
use Rattle.step_line.specs.Asking.{ticks_of_all, moves_of, ticks_among}
use Rattle.step_line.specs.declared.Mark.TheVariants.{Cut as CutMark, Reset as ResetMark}
use Rattle.step_line.specs.declared.Record.{Record}
use Rattle.step_line.specs.declared.Record.TheVariants as kinds
use Rattle.step_line.specs.declared.planned_move.PlannedMove.{PlannedMove}
use Rattle.run_rules.specs.declared.State.{State}
use Rattle.run_rules.specs.declared.machine.Machine.{Machine}
use Rattle.run_rules.specs.Finding.{Found}
use Rattle.run_rules.specs.Reports.{raises_alarm, settles}
use Rattle.run_rules.specs.Work.{Task, Outcome, tells, telling, asks, has_moves, accepted_code, accepted_jog}
use Rattle.line_interpreter.specs.Desks.{kind_told}
use Rattle.line_interpreter.specs.Lefts.{greeting}
use Rattle.legal_heads.specs.Speeds.{MayStop}
use Rattle.part_making.specs.Judging.{Known, Traced, nothing_known, making, owed_of, coming_of, head_of}
use Rattle.run_texts.specs.Courses.{Passed, Follows, cuts_in, reset_state}
use Rattle.run_texts.specs.Left.{behind_lines}
use Rattle.run_texts.specs.Making.{Making, IsMade}
use Rattle.run_texts.specs.Parts.{parts_of}
use Rattle.run_texts.specs.Points.{Point, BecomesAt, IsPassed, IsBroken, opening}
use Rattle.run_texts.specs.Recorded.{AreRecorded, ticks_for_all}
use Rattle.run_texts.specs.Sent.{Sent}
use Rattle.run_texts.specs.Sent.Sent.{a_text, a_stop}
use Rattle.run_texts.specs.SoFar.{Reaches}
use Rattle.run_texts.specs.Told.{told_in}
use Rattle.audit_course.specs.declared.MotionError.{MotionError}
use Rattle.audit_course.specs.declared.MotionError.TheVariants as errors
use Rattle.audit_course.specs.declared.Progress.{Progress}
use Rattle.audit_course.specs.declared.ticks.Ticks.{Ticks}
use Rattle.audit_course.specs.declared.ticks.Ticks.TheVariants as standing
use Rattle.audit_course.specs.declared.judge.CourseJudge.{CourseJudge}
use Rattle.audit_course.specs.Progressing.{has_ticks, has_halt, ends_none, is_code, is_whole, moved_now, ticks_to, fresh}

-- What is left of texts that fit goes on to this point, from another one on: `GoesOn` of `run_texts`, with the point told.
pub record GoesTo (p : Point) (since begun : List Outcome) (place : Steps3) (cuts : ℕ) (sent : List Sent) (replies : List Reply) (records : List Record) (last : Point) : Type 0 where
  pub course : List Passed
  pub follows : Follows p sent course last
  pub told : replies ≡ told_in course
  pub recorded : AreRecorded place (behind_lines since begun (parts_of course)) records
  pub few : cuts_in course ≤ cuts

-- how many cuts are among records
abbrev pub is_cut_mark : Record → Bool
is_cut_mark (kinds.Mark (CutMark k)) = true
is_cut_mark _ = false

abbrev pub cuts_among : List Record → ℕ
cuts_among records = count_by is_cut_mark records

-- how many lines are among what is sent
abbrev pub texts_among : List Sent → ℕ
texts_among [] = 0
texts_among (a_text line ∷ more) = texts_among more + 1
texts_among (a_stop ∷ more) = texts_among more

-- what is still told of the line at hand; of one that is not answered nothing
abbrev pub left_to_tell : CourseJudge → List Reply
left_to_tell j = cond j.unanswered [] (tells j.work.left)

-- ---- the line at hand

-- lines have moved up to it, since an answered line settled
abbrev pub has_moved : CourseJudge → Bool
has_moved j = moved_now (accepted_code (kind_told j.line.accepted)) j.line j.moved || moved_now (accepted_jog (kind_told j.line.accepted)) j.line j.jog_moved

-- no line is at hand: none settles, and nothing is accepted
pub record IsNoLine (l : Progress) (hand : List Outcome) : Type 0 where
  pub none : hand ≡ []
  pub settles : l.settles ≡ false
  pub code : accepted_code (kind_told l.accepted) ≡ false
  pub jog : accepted_jog (kind_told l.accepted) ≡ false

-- A line of this work was begun, or none: what is left to do of it, and what its tasks so far say of it, agree. What has
-- moved behind it is known by what had before it. It is at hand, unless it is not answered.
pub record OfLine (j : CourseJudge) (p : Point) (hand : List Outcome) : Type 0 where
  pub work : List Task
  pub limit : Bool
  pub moves : (j.line.moves || has_moves j.work.left) ≡ has_moves work
  pub ticks : (j.line.asks || has_ticks j.work.left) ≡ has_ticks work
  pub halts : (j.line.halts || has_halt j.work.left) ≡ limit
  pub marks : AllByRecursion (λ t. ends_none t ≡ true) j.work.left
  pub moved : p.before.moved ≡ (not j.line.settles && (accepted_code (kind_told j.line.accepted) && has_moves work || j.moved))
  pub jog_moved : p.before.jog_moved ≡ (not j.line.settles && (accepted_jog (kind_told j.line.accepted) && has_moves work || j.jog_moved))
  pub jogged : p.before.jogged ≡ j.jogged
  pub alarmed : p.before.alarmed ≡ (not j.unanswered && limit)
  pub unheld : j.unanswered ≡ true → hand ≡ []
  pub none : j.in_hand ≡ false → IsNoLine j.line hand
  pub held : j.in_hand ≡ true → j.unanswered ≡ false → (o : Outcome) × (hand ≡ o ∷ [])
  pub are : AllByRecursion (λ o. (o.work ≡ work) × (o.settles ≡ j.line.settles) × (o.kind ≡ kind_told j.line.accepted)) hand

-- ---- the part

-- Of the ticks of the first lines of a part, n in all, these records have each; or they lack the last, which the part owes, or
-- which is lost behind all that the part owes.
abbrev pub AreSo : Ticks → ℕ → Known → Bool → List Record → Type 0
AreSo standing.Whole n part lost made = n ≤ length (ticks_among made)
AreSo standing.Owed n part lost made = (n ≡ length (ticks_among made) + length (owed_of part)) × (0 < length (owed_of part))
AreSo standing.Lost n part lost made = (length (ticks_among made) + length (owed_of part) < n) × (lost ≡ true)

-- Of the answered lines of a part before the one at hand it is known how their ticks stand: of all of them, up to the last that
-- is no jog and asks for some, and up to the last that settles.
pub record KnowsTicks (j : CourseJudge) (since hand : List Outcome) (made : List Record) : Type 0 where
  pub before : List Outcome
  pub split : since ≡ before ++ hand
  pub answered : AreSo j.answered (length (ticks_for_all before)) j.part j.lost made
  pub code : AreSo j.code (ticks_to is_code before) j.part j.lost made
  pub settled : AreSo j.settled (ticks_to settles before) j.part j.lost made

-- how the ticks of all lines stand, where all that they ask for is asked of the part, or lost
abbrev pub AreNow : Ticks → CourseJudge → Type 0
AreNow standing.Whole j = (j.lost ≡ false) × (owed_of j.part ≡ [])
AreNow standing.Owed j = (j.lost ≡ false) × (owed_of j.part ≡ [] → ⊥)
AreNow standing.Lost j = j.lost ≡ true

-- This is made of the answered lines alone, and this is its last head: no record is of another line.
pub record IsBare (since : List Outcome) (made : List Record) (latest : Option Traced) : Type 0 where
  pub making : Making
  pub is : IsMade since made making
  pub out : making.coming ≡ coming_of latest
  pub head : making.latest ≡ head_of latest

-- This is made of the answered lines, and what is known of the part is owed of them alone.
pub record OwesBehind (since : List Outcome) (made : List Record) (part : Known) : Type 0 where
  pub ticks : List Record
  pub moves : List PlannedMove
  pub is : IsMade since made (making part ticks moves)

-- A record is of a line behind the answered ones, which have all their ticks. Once its last head is out a tick of it is recorded.
pub record IsTouched (since : List Outcome) (made : List Record) (latest : Option Traced) : Type 0 where
  pub all : length (ticks_for_all since) ≤ length (ticks_among made)
  pub behind : coming_of latest ≡ [] → length (ticks_for_all since) < length (ticks_among made)

-- ---- the one way on

-- `ALARM:3` and the banner: what is told at a reset begins with one of them, and no reply of a line is one
abbrev pub is_of_reset : Reply → Bool
is_of_reset Banner = true
is_of_reset (Alarm n) = nat_eq n 3
is_of_reset _ = false

abbrev pub begins_epoch : List Reply → Bool
begins_epoch [] = false
begins_epoch (r ∷ rs) = is_of_reset r

-- If a cut or a reset is the first of these records that ends a part, it comes behind the line before line n, or a later one.
abbrev pub EndsLate : ℕ → List Record → Type 0
EndsLate n [] = Unit {0}
EndsLate n (kinds.Mark (CutMark k) ∷ rs) = n ≤ k + 1
EndsLate n (kinds.Mark (ResetMark k) ∷ rs) = n ≤ k + 1
EndsLate n (kinds.End ∷ rs) = Unit {0}
EndsLate n (_ ∷ rs) = EndsLate n rs

-- This may be told and recorded behind all that a judge was told: no part ends before the last line, and behind a line
-- without its answer a reset is told.
pub record MayFollow (j : CourseJudge) (told : List Reply) (rest : List Record) : Type 0 where
  pub late : EndsLate j.work.number rest
  pub resets : j.unanswered ≡ true → begins_epoch told ≡ true

-- ---- so far

-- From the opening on the judge was told of these lines and resets, replies and records. A course leads through them, and
-- goes on as long as one goes on from here (`back`). And no other one does: texts that begin so go on from here, where what is
-- left of them may follow (`forth`).
pub record HasJudged (j : CourseJudge) (first : State) (sent : List Sent) (replies : List Reply) (records : List Record) : Type 0 where
  pub point : Point
  pub number : point.before.number ≡ j.work.number
  pub state : point.before.state ≡ j.state
  pub same_state : j.unanswered ≡ false → j.state ≡ j.work.state
  pub locked : point.locked ≡ j.locked
  pub has_line : point.has_line ≡ j.has_line
  pub unanswered : point.unanswered ≡ j.unanswered
  pub hand : List Outcome
  pub line : OfLine j point hand
  pub since : List Outcome
  pub begun : List Outcome
  pub none_begun : j.unanswered ≡ false → begun ≡ []
  pub from : Steps3
  pub made : List Record
  pub stands : j.place ≡ moved_by from made
  pub ticks : List Record
  pub moves : List PlannedMove
  pub asked : j.lost ≡ false → (ticks ≡ ticks_of_all (asks j.work.left)) × (moves ≡ moves_of (asks j.work.left))
  pub loses_some : j.lost ≡ true → ticks ≡ [] → ⊥
  pub is_made : IsMade (since ++ begun) made (making j.part ticks moves)
  pub untouched : j.unanswered ≡ true → j.touched ≡ false → IsBare since made j.part.latest
  pub owes_behind : j.unanswered ≡ true → is_whole j.answered ≡ false → OwesBehind since made j.part
  pub touched : j.unanswered ≡ true → j.touched ≡ true → IsTouched since made j.part.latest
  pub knows : KnowsTicks j since hand made
  pub alarm : point.before.alarmed ≡ true → list_any raises_alarm since ≡ true
  pub calm : point.before.alarmed ≡ false → list_any raises_alarm since ≡ false
  pub at_hand : j.in_hand ≡ false → has_halt j.work.left ≡ false
  pub events : j.events ≡ length (events_among records)
  pub counted : j.cuts ≡ cuts_among records
  pub numbered : j.work.number ≡ texts_among sent + 1
  pub whole : j.place ≡ moved_by origin records
  pub reached : Reaches first sent (replies ++ left_to_tell j) records point since begun from made
  pub back : (n : ℕ) (more : List Sent) (told : List Reply) (rest : List Record) (last : Point) → GoesTo point since begun from n more told (made ++ rest) last →
      GoesTo (opening first) [] [] origin (n + j.cuts) (sent ++ more) (replies ++ (left_to_tell j ++ told)) (records ++ rest) last
  pub forth : (n : ℕ) (more : List Sent) (told : List Reply) (rest : List Record) (last : Point) → MayFollow j told rest →
      GoesTo (opening first) [] [] origin (n + j.cuts) (sent ++ more) (replies ++ (left_to_tell j ++ told)) (records ++ rest) last → GoesTo point since begun from n more told (made ++ rest) last

-- It has come to its end: with these texts, and one record of the end, it leads to a point, whatever more cuts may come.
pub record IsOver (j : CourseJudge) (first : State) (sent : List Sent) (replies : List Reply) (records : List Record) : Type 0 where
  pub last : Point
  pub number : last.before.number ≡ j.work.number
  pub alarmed : last.before.alarmed ≡ j.line.halts
  pub fits : (n : ℕ) → GoesTo (opening first) [] [] origin (n + j.cuts) sent replies (records ++ kinds.End ∷ []) last

-- ---- steps

-- nothing more was told
abbrev pub StaysSoFar : CourseJudge → CourseJudge → Type 0
StaysSoFar j k = (first : State) (sent : List Sent) (replies : List Reply) (records : List Record) → HasJudged j first sent replies records → HasJudged k first sent replies records

-- these lines and resets more were told
abbrev pub AddsSent : CourseJudge → CourseJudge → List Sent → Type 0
AddsSent j k more = (first : State) (sent : List Sent) (replies : List Reply) (records : List Record) → HasJudged j first sent replies records → HasJudged k first (sent ++ more) replies records

-- a reply more was told
abbrev pub AddsReply : CourseJudge → CourseJudge → Reply → Type 0
AddsReply j k r = (first : State) (sent : List Sent) (replies : List Reply) (records : List Record) → HasJudged j first sent replies records → HasJudged k first sent (replies ++ r ∷ []) records

-- a record more was told
abbrev pub AddsRecord : CourseJudge → CourseJudge → Record → Type 0
AddsRecord j k r = (first : State) (sent : List Sent) (replies : List Reply) (records : List Record) → HasJudged j first sent replies records → HasJudged k first sent replies (records ++ r ∷ [])

-- a reset of the job was told, behind some lines that it dropped, and its record
abbrev pub AddsReset : CourseJudge → CourseJudge → ℕ → ℕ → Type 0
AddsReset j k number dropped =
    (lines : List (List ℕ)) → dropped ≡ length lines → (first : State) (sent : List Sent) (replies : List Reply) (records : List Record) → HasJudged j first sent replies records
    → HasJudged k first (sent ++ (map a_text lines ++ a_stop ∷ [])) replies (records ++ kinds.Mark (ResetMark number) ∷ [])

-- No texts fit that begin with what it was told and have this record next, whatever may follow.
abbrev pub RefusesRecord : CourseJudge → Record → Type 0
RefusesRecord j r =
    (first : State) (sent : List Sent) (replies : List Reply) (records : List Record) → HasJudged j first sent replies records → (n : ℕ) (more : List Sent) (told : List Reply) (rest : List Record) (last : Point)
    → MayFollow j told (r ∷ rest) → GoesTo (opening first) [] [] origin (n + j.cuts) (sent ++ more) (replies ++ (left_to_tell j ++ told)) (records ++ r ∷ rest) last → ⊥

-- Nor do texts with this reset next behind lines that are not begun, and its mark, told with or without its alarm.
abbrev pub RefusesReset : CourseJudge → ℕ → ℕ → Bool → Type 0
RefusesReset j k dropped alarm =
    (lines : List (List ℕ)) → dropped ≡ length lines → (first : State) (sent : List Sent) (replies : List Reply) (records : List Record) → HasJudged j first sent replies records
    → (n : ℕ) (more : List Sent) (told : List Reply) (rest : List Record) (last : Point)
    → GoesTo (opening first) [] [] origin (n + j.cuts) (sent ++ (map a_text lines ++ a_stop ∷ more)) (replies ++ (left_to_tell j ++ (cond alarm (Alarm 3 ∷ []) [] ++ Banner ∷ told))) (records ++ kinds.Mark (ResetMark k) ∷ rest) last → ⊥

-- No line may be begun where it stands, answered or not.
abbrev pub RefusesLine : CourseJudge → Type 0
RefusesLine j = (first : State) (sent : List Sent) (replies : List Reply) (records : List Record) (s : HasJudged j first sent replies records) (kept : List ℕ) (o : Outcome)
    → (IsPassed s.point kept o → ⊥) × (IsBroken s.point kept o → ⊥)

-- No texts fit that are what it was told and have the end next.
abbrev pub RefusesEnd : CourseJudge → Type 0
RefusesEnd j = (first : State) (sent : List Sent) (replies : List Reply) (records : List Record) → HasJudged j first sent replies records → (n : ℕ) (last : Point)
    → GoesTo (opening first) [] [] origin (n + j.cuts) sent replies (records ++ kinds.End ∷ []) last → ⊥

-- the course has come to its end
abbrev pub EndsSoFar : CourseJudge → CourseJudge → Type 0
EndsSoFar j k = (first : State) (sent : List Sent) (replies : List Reply) (records : List Record) → HasJudged j first sent replies records → IsOver k first sent replies records

-- a point of which a judge knows this
pub record Knows (j : CourseJudge) (p : Point) : Type 0 where
  pub locked : p.locked ≡ j.locked
  pub moved : p.before.moved ≡ j.moved
  pub jog_moved : p.before.jog_moved ≡ j.jog_moved
  pub jogged : p.before.jogged ≡ j.jogged

-- of a line of which this is kept it becomes what is found
abbrev pub FindsRight : CourseJudge → Machine → List ℕ → Type 0
FindsRight j machine kept = (p : Point) → Knows j p → (o : Outcome) → Found machine p.before kept o → BecomesAt true p kept o

-- a reply that is told first of a line fits the error that the motion can cause, or that there is none
abbrev pub IsErrorOf : MotionError → Reply → Type 0
IsErrorOf errors.None r = (r ≡ Error 8 → ⊥) × (r ≡ Error 9 → ⊥)
IsErrorOf errors.Busy r = r ≡ Error 8
IsErrorOf errors.Locked r = r ≡ Error 9

-- it becomes nothing else, if a reply is told first of it that fits the error
abbrev pub FindsAlone : CourseJudge → MotionError → Machine → List ℕ → Type 0
FindsAlone j error machine kept =
    (p : Point) → Knows j p → (o u : Outcome) → Found machine p.before kept o → BecomesAt true p kept u → (r : Reply) (xs ys : List Reply) → tells u.work ++ ys ≡ r ∷ xs → IsErrorOf error r → u ≡ o

-- what is left to do is the work of what the line becomes, by the rules
abbrev pub HasWorkOf : CourseJudge → CourseJudge → Bool → List ℕ → Type 0
HasWorkOf j k runs kept =
    (first : State) (sent : List Sent) (replies : List Reply) (records : List Record) → HasJudged j first sent replies records → (p : Point) × (o : Outcome) × BecomesAt runs p kept o × (k.work.left ≡ o.work)

-- Texts that begin with what it was told, have this line next, end no part before it, and tell first of it a reply that fits the
-- error and that no reset tells, tell all that is left to tell of the line now.
abbrev pub TellsAlone : CourseJudge → CourseJudge → MotionError → List ℕ → Type 0
TellsAlone j k error kept =
    (first : State) (sent : List Sent) (replies : List Reply) (records : List Record) → HasJudged j first sent replies records → (n : ℕ) (more : List Sent) (r : Reply) (told : List Reply) (rest : List Record) (last : Point)
    → EndsLate (j.work.number + 1) rest → is_of_reset r ≡ false → IsErrorOf error r
    → GoesTo (opening first) [] [] origin (n + j.cuts) (sent ++ a_text kept ∷ more) (replies ++ (left_to_tell j ++ r ∷ told)) (records ++ rest) last
    → (behind : List Reply) × (r ∷ told ≡ left_to_tell k ++ behind)

-- and of one that is not answered what it would have become
abbrev pub FindsStill : CourseJudge → Machine → List ℕ → Type 0
FindsStill j machine kept = (p : Point) → Knows j p → (o : Outcome) → Found machine p.before kept o → BecomesAt false p kept o

-- nothing is left of the line at hand, which is over; all lines are answered, and none has raised an alarm
pub record MayBegin (j : CourseJudge) : Type 0 where
  pub done : j.work.left ≡ []
  pub answered : j.unanswered ≡ false
  pub closed : j.in_hand ≡ false
  pub calm : j.line.halts ≡ false

-- It has a line at hand, or none, as before: none was begun or ended, none has lost anything or raised an alarm more.
pub record SameLine (j k : CourseJudge) : Type 0 where
  pub unanswered : k.unanswered ≡ j.unanswered
  pub in_hand : k.in_hand ≡ j.in_hand
  pub lost : k.lost ≡ j.lost
  pub halts : k.line.halts ≡ j.line.halts

-- a part begins, and no line is at hand that has raised an alarm
pub record BeginsPart (j : CourseJudge) : Type 0 where
  pub closed : j.in_hand ≡ false
  pub kept : j.lost ≡ false
  pub calm : (not j.unanswered && j.line.halts) ≡ false

-- nothing is owed of the part
pub record IsIdle (j : CourseJudge) : Type 0 where
  pub done : j.work.left ≡ []
  pub none : owed_of j.part ≡ []
  pub kept : j.lost ≡ false
  pub answered : j.unanswered ≡ false

-- ---- ends

-- A part may end: nothing is left of the line at hand, which is over.
pub record IsClosed (j : CourseJudge) : Type 0 where
  pub done : j.work.left ≡ []
  pub closed : j.in_hand ≡ false

-- A cut may end a part behind line k. A line that is not answered is dropped whole.
pub record MayCut (j : CourseJudge) (k : ℕ) : Type 0 where
  pub ends : IsClosed j
  pub untouched : j.unanswered ≡ true → j.touched ≡ false
  pub calm : (not j.unanswered && j.line.halts) ≡ false
  pub has_line : j.has_line ≡ true
  pub number : j.work.number ≡ k + 1
  pub out : coming_of j.part.latest ≡ []
  pub may : MayStop (head_of j.part.latest)
  pub code : is_whole j.code ≡ true

-- a reset may end a part behind line k, with or without its alarm
pub record MayReset (j : CourseJudge) (k : ℕ) (alarm : Bool) : Type 0 where
  pub ends : IsClosed j
  pub calm : (not j.unanswered && j.line.halts) ≡ false
  pub number : k + 1 ≡ j.work.number
  pub settled : is_whole j.settled ≡ true
  pub cause : alarm ≡ true → (j.moved || j.jog_moved) ≡ true

-- Behind a reset at a place, which drops so many lines, an epoch begins there, and nothing is known of its part.
abbrev pub opened_at : Steps3 → ℕ → Bool → CourseJudge → CourseJudge
opened_at at dropped alarm j = record j {
  work = record { state = reset_state at j.state; number = j.work.number + dropped; left = telling (greeting alarm (alarm || j.locked)) };
  state = reset_state at j.state;
  part = nothing_known;
  locked = alarm || j.locked;
  has_line = false;
  unanswered = false;
  lost = false;
  answered = standing.Whole;
  code = standing.Whole;
  settled = standing.Whole;
  moved = false;
  jog_moved = false;
  jogged = false;
  line = fresh false;
}

-- the end may come
pub record MayEnd (j : CourseJudge) : Type 0 where
  pub ends : IsClosed j
  pub answered : j.unanswered ≡ false
  pub out : coming_of j.part.latest ≡ []
  pub may : MayStop (head_of j.part.latest)
  pub settled : is_whole j.settled ≡ true
  pub none : j.line.halts ≡ false → IsIdle j
