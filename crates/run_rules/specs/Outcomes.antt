-- What becomes of a line, by the bytes that are kept of it.
use Rattle.std.specs.Prelude.{◌≡◌, ℕ, ◌+◌, ◌≤◌, ◌⊎◌, Bool, true, false, not, ◌&&◌, ◌||◌, cond, List, [], ◌∷◌, ◌++◌, length, nat_eq, nat_lt, Ok, Err, Some, None}
use Rattle.std.specs.declared.option.Option.{Option}
use Rattle.std.specs.declared.result.Result.{Result}
use Rattle.units.specs.declared.Decimal.{Decimal}
use Rattle.units.specs.declared.Steps3.{Steps3}
use Rattle.modal_state.specs.Modes.{rebased}
use Rattle.gcode_words.specs.declared.Word.{Word}
use Rattle.gcode_words.specs.declared.WordFault.{WordFault}
use Rattle.gcode_words.specs.declared.WordFault.TheVariants.{Letter, Number}
use Rattle.gcode_words.specs.Words.{words_of}
use Rattle.code_table.specs.declared.Code.{Code}
use Rattle.gcode_check.specs.Items.{settling}
use Rattle.gcode_check.specs.Verdicts.{verdict}
use Rattle.gcode_check.specs.declared.Accept.{Accept as Accepted}
use Rattle.gcode_check.specs.declared.Verdict.{Verdict}
use Rattle.gcode_check.specs.declared.Verdict.TheVariants.{Accept, Refuse, Limit}
use Rattle.jog.specs.declared.JogMove.{JogMove}
use Rattle.jog.specs.Jogs.{jog_of, jogged}
use Rattle.settings.specs.Numbers.{values, value_set, with_value, set_refusal}
use Rattle.system_lines.specs.Commands.{command_of, kind_of, jog_words, is_jog}
use Rattle.system_lines.specs.declared.Kind.{Kind as DollarKind}
use Rattle.system_lines.specs.declared.Kind.TheVariants as kinds
use Rattle.system_lines.specs.declared.Command.{Command}
use Rattle.system_lines.specs.declared.Command.TheVariants.{ListSettings, ListModes, ListOffsets, Unlock, Set}
use Rattle.status_report.specs.Lists.{setting_replies, modes_replies, offset_replies}
use Rattle.status_report.specs.declared.Reply.{Reply}
use Rattle.status_report.specs.declared.Reply.TheVariants.{Ok as Done, Error, Alarm}
use Rattle.run_rules.specs.declared.State.{State}
use Rattle.run_rules.specs.Work.{Outcome, Kind, accepted_code, accepted_jog, is_limit, soft_limit, halting_work, telling, asking, has_moves}
use Rattle.run_rules.specs.Work.Kind.{of_code, of_jog, of_none}
use Rattle.run_rules.specs.Work.Task.{tell}
use Rattle.run_rules.specs.Asks.{work_of, planned, move_asked}

-- what the lines before leave for a line: its number, and the state; whether a line of G-code with a move of some
-- events was accepted since the last accepted line that settles, and whether a jog with some was; whether the last that
-- was accepted of G-code and jogs is a jog; and whether a line has ended the run with the alarm of a soft limit, after which
-- none is begun
pub record Before : Type 0 where
  pub number : ℕ
  pub state : State
  pub moved : Bool
  pub jog_moved : Bool
  pub jogged : Bool
  pub alarmed : Bool

-- before the first line
abbrev pub start : State → Before
start first = record { number = 1; state = first; moved = false; jog_moved = false; jogged = false; alarmed = false }

-- an error changes nothing
abbrev pub refused : Before → ℕ → Outcome
refused b n = record { work = telling (Error n ∷ []); answer = Error n; settles = false; kind = of_none; next = b.state }

-- A line that a soft limit stops: none of its items is begun, and nothing of the state changes. The machine is halted,
-- and the alarm is sent in place of an answer.
abbrev pub limited : Before → Outcome
limited b = record { work = halting_work; answer = Alarm soft_limit; settles = false; kind = of_none; next = b.state }

-- a line that only tells something
abbrev pub told : State → List Reply → Outcome
told next body = record { work = telling (body ++ Done ∷ []); answer = Done; settles = false; kind = of_none; next = next }

-- an accepted line of G-code
abbrev pub executed : Before → Accepted → Outcome
executed b a = record {
  work = work_of b.number b.state.settings b.state.parser.modal.spindle b.state.parser.modal.flood a.items.items ++ tell Done ∷ [];
  answer = Done;
  settles = settling a.items.items;
  kind = of_code;
  next = record { parser = a.next; settings = b.state.settings };
}

-- an accepted jog asks for its move, and the position becomes its target; nothing else of the state changes
abbrev pub jogging : Before → JogMove → Outcome
jogging b jog = record {
  work = asking (move_asked (planned b.number b.state.settings jog.mv jog.rate)) ++ tell Done ∷ [];
  answer = Done;
  settles = false;
  kind = of_jog;
  next = record { parser = jogged b.state.parser jog; settings = b.state.settings };
}

-- setting n takes what counts of a value, and all else stays
pub record HasSet (s : State) (n : ℕ) (value : Decimal) (o : Outcome) : Type 0 where
  pub outcome : o ≡ told (record { parser = s.parser; settings = o.next.settings }) []
  pub settings : values o.next.settings ≡ with_value n (value_set n value) s.settings

-- the errors of words that can't be read
abbrev pub fault_number : WordFault → ℕ
fault_number Letter = 1
fault_number Number = 2

-- one outcome or another, by what holds
abbrev pub either : Bool → Type 0 → Type 0 → Type 0
either true a b = a
either false a b = b

abbrev pub ByVerdict : Before → Verdict → Outcome → Type 0
ByVerdict b (Accept a) o = o ≡ executed b a
ByVerdict b (Refuse code) o = o ≡ refused b code.0
ByVerdict b Limit o = o ≡ limited b

abbrev pub ByWords : Before → Result (List Word) WordFault → Outcome → Type 0
ByWords b (Err fault) o = o ≡ refused b (fault_number fault)
ByWords b (Ok ws) o = ByVerdict b (verdict b.state.parser b.state.settings ws) o

abbrev pub BySetting : Before → ℕ → Decimal → Option Code → Outcome → Type 0
BySetting b n value (Some code) o = o ≡ refused b code.0
BySetting b n value None o = HasSet b.state n value o

abbrev pub ByCommand : Before → Result Command Code → Outcome → Type 0
ByCommand b (Err code) o = o ≡ refused b code.0
ByCommand b (Ok ListSettings) o = o ≡ told b.state (setting_replies b.state.settings)
ByCommand b (Ok ListModes) o = o ≡ told b.state (modes_replies b.state.parser)
ByCommand b (Ok ListOffsets) o = o ≡ told b.state (offset_replies b.state.parser.offsets)
ByCommand b (Ok Unlock) o = o ≡ told b.state []
ByCommand b (Ok (Set n value)) o = BySetting b n value (set_refusal n value) o

-- ---- jogs

abbrev pub ByJogMove : Before → Result JogMove Code → Outcome → Type 0
ByJogMove b (Err code) o = o ≡ refused b code.0
ByJogMove b (Ok jog) o = o ≡ jogging b jog

-- a jog by its words, those after `$J=`
abbrev pub ByJog : Before → Result (List Word) WordFault → Outcome → Type 0
ByJog b (Err fault) o = o ≡ refused b (fault_number fault)
ByJog b (Ok ws) o = ByJogMove b (jog_of b.state.parser b.state.settings ws) o

-- a line that begins with `$` and is served: a jog by its words, and any other by what it asks for
abbrev pub ByServed : Before → List ℕ → Outcome → Type 0
ByServed b kept o = either (is_jog (kind_of kept)) (ByJog b (words_of (jog_words kept)) o) (ByCommand b (command_of kept) o)

-- ---- lines that are refused if the machine is found in motion

-- What lines of these kinds are refused for with 8. `$$` and lines that begin with `$J` are refused while the machine
-- runs, and not in a jog: so a line of G-code that moves was accepted since the last one that settles, and the last
-- accepted of G-code and jogs is no jog. `$#` and setting lines are refused in a jog too: such a line was accepted, or
-- a jog that moves.
abbrev pub has_cause : Before → DollarKind → Bool
has_cause b kinds.ListOffsets = b.moved || b.jog_moved
has_cause b kinds.Setting = b.moved || b.jog_moved
has_cause b kinds.ListModes = false
has_cause b kinds.Unlock = false
has_cause b kinds.Other = false
has_cause b _ = b.moved && not b.jogged

-- a line that begins with `$` is refused with 8
pub record IsBusy (runs : Bool) (b : Before) (kept : List ℕ) (o : Outcome) : Type 0 where
  pub cause : has_cause b (kind_of kept) ≡ true
  pub found : runs ≡ true
  pub outcome : o ≡ refused b 8

-- A line of G-code is refused with 9 in a jog. So the last accepted of G-code and jogs is a jog.
pub record IsLockedOut (runs : Bool) (b : Before) (o : Outcome) : Type 0 where
  pub cause : b.jogged ≡ true
  pub found : runs ≡ true
  pub outcome : o ≡ refused b 9

abbrev pub ByDollar : Bool → Before → List ℕ → Outcome → Type 0
ByDollar runs b kept o = IsBusy runs b kept o ⊎ ByServed b kept o

abbrev pub ByCode : Bool → Before → List ℕ → Outcome → Type 0
ByCode runs b kept o = IsLockedOut runs b o ⊎ ByWords b (words_of kept) o

-- what becomes of a line of which these bytes are kept, the first that holds: it is empty; it begins with `$`; it is
-- G-code
abbrev pub ByKept : Bool → Before → List ℕ → Outcome → Type 0
ByKept runs b [] o = o ≡ told b.state []
ByKept runs b (c ∷ cs) o = either (nat_eq c 36) (ByDollar runs b (c ∷ cs) o) (ByCode runs b (c ∷ cs) o)

-- so many bytes are kept of a line at most
abbrev pub most_kept : ℕ
most_kept = 79

-- What becomes of a line, where `runs` says whether the machine may be found running, or in a jog: a line that has too
-- many bytes is error 11, and any other by what is kept.
abbrev pub Becomes : Bool → Before → List ℕ → Outcome → Type 0
Becomes runs b kept o = either (nat_lt most_kept (length kept)) (o ≡ refused b 11) (ByKept runs b kept o)

abbrev pub begins_with_dollar : List ℕ → Bool
begins_with_dollar [] = false
begins_with_dollar (c ∷ cs) = nat_eq c 36

-- the errors that come from the motion alone: of a line that begins with `$`, and of one of G-code
abbrev pub motion_error : List ℕ → ℕ
motion_error kept = cond (begins_with_dollar kept) 8 9

-- whether the last that was accepted of G-code and jogs is a jog, after a line that was, or was not, before
abbrev pub jogged_behind : Kind → Bool → Bool
jogged_behind of_code was = false
jogged_behind of_jog was = true
jogged_behind of_none was = was

-- the same for the next line
abbrev pub after : Before → Outcome → Before
after b o = record {
  number = b.number + 1;
  state = o.next;
  moved = cond o.settles false (accepted_code o.kind && has_moves o.work || b.moved);
  jog_moved = cond o.settles false (accepted_jog o.kind && has_moves o.work || b.jog_moved);
  jogged = jogged_behind o.kind b.jogged;
  alarmed = is_limit o.answer;
}

-- A cut leaves the machine at a place: the position is there, and all else stays.
abbrev pub at_place : Steps3 → Before → Before
at_place at b = record b { state = record b.state { parser = rebased b.state.parser at b.state.settings.limits.per_mm } }

-- What a run passes: a line, with what becomes of it; or a cut, which drops what is left of jogs that were cancelled:
-- after so many lines in all, it leaves the machine at this place.
pub data Passed : Type 0 where
  a_line : Outcome → Passed
  a_cut : ℕ → Steps3 → Passed

-- what became of the lines that were passed
abbrev pub became_of : List Passed → List Outcome
became_of [] = []
became_of (a_line o ∷ ps) = o ∷ became_of ps
became_of (a_cut k at ∷ ps) = became_of ps

-- the numbers of the cuts that were passed
abbrev pub cuts_of : List Passed → List ℕ
cuts_of [] = []
cuts_of (a_line o ∷ ps) = cuts_of ps
cuts_of (a_cut k at ∷ ps) = k ∷ cuts_of ps

-- A line is begun and becomes this: no line before it has raised an alarm.
pub record IsBegun (runs : Bool) (b : Before) (kept : List ℕ) (o : Outcome) : Type 0 where
  pub free : b.alarmed ≡ false
  pub becomes : Becomes runs b kept o

-- Jogs are cut after so many lines: the machine is found in a jog, so the last that was accepted of G-code and jogs is
-- a jog. No line has raised an alarm.
pub record IsCut (runs : Bool) (b : Before) (k : ℕ) : Type 0 where
  pub free : b.alarmed ≡ false
  pub number : b.number ≡ k + 1
  pub cause : b.jogged ≡ true
  pub found : runs ≡ true

-- Lines are passed in order, each once, and leave this after them. `runs` says whether the machine may be found
-- running, or in a jog. A cut has the number of the lines before it, and the lines after it begin at its place. After a
-- line that raises an alarm nothing is passed.
abbrev pub Follows : Bool → Before → List (List ℕ) → List Passed → Before → Type 0
Follows runs b ls (a_cut k at ∷ ps) last = IsCut runs b k × Follows runs (at_place at b) ls ps last
Follows runs b [] [] last = last ≡ b
Follows runs b (l ∷ ls) (a_line o ∷ ps) last = IsBegun runs b l o × Follows runs (after b o) ls ps last
Follows runs b [] (a_line o ∷ ps) last = ⊥
Follows runs b (l ∷ ls) [] last = ⊥

-- numbers that never fall, each at least the first of these two and at most the second
abbrev pub NeverFall : ℕ → List ℕ → ℕ → Type 0
NeverFall low [] high = low ≤ high
NeverFall low (n ∷ ns) high = (low ≤ n) × NeverFall n ns high
