-- How far each of three texts was read, and what was told of it.
use Rattle.std.specs.Prelude.{◌≡◌, ◌≤◌, ◌⊎◌, ℕ, ◌<◌, ◌^◌, ◌+◌, ◌-◌, Bool, true, false, cond, not, ◌&&◌, ◌||◌, List, [], ◌∷◌, ◌++◌, length, replicate, IfSome, nat_eq, Some, None}
use Rattle.std.specs.declared.option.Option.{Option}
use Rattle.std.specs.List.{flat_map, sum_by, AllByRecursion}
use Rattle.outside.specs.Causes.{SourceState}
use Rattle.status_report.specs.Answering.{without_reports, is_report, is_bye}
use Rattle.status_report.specs.Replies.{reply_text}
use Rattle.status_report.specs.declared.Reply.{Reply}
use Rattle.status_report.specs.declared.Reply.TheVariants.{Banner, Error, Alarm}
use Rattle.step_line.specs.declared.Record.{Record}
use Rattle.step_line.specs.declared.Record.TheVariants as kinds
use Rattle.step_record.specs.Forms.{line_text}
use Rattle.step_record.specs.declared.forms.Line.{Line as AnyLine}
use Rattle.step_record.specs.declared.forms.Line.TheVariants as line_kinds
use Rattle.run_rules.specs.Told.{replies_text}
use Rattle.run_texts.specs.Sent.{Sent, resets_of, sent_by}
use Rattle.run_texts.specs.Sent.Sent.{a_text, a_stop}
use Rattle.audit_rules.specs.Consoles.{IsOnConsole, Tells}
use Rattle.audit_rules.specs.Findings.{is_foreign, foreign_in}
use Rattle.audit_rules.specs.Scanned.{Scanned, scanned, cuts_by, holds_by}
use Rattle.audit_rules.specs.Standing.{place_behind}
use Rattle.audit_rules.specs.StepTexts.{AreLinesOf, IsStepText, form_of, body_of, heading, last_of, lines_text, records_of}
use Rattle.audit_readers.specs.Console.{ConsoleRead}
use Rattle.audit_readers.specs.Jobs.{JobRead, scanned_behind, lines_behind}
use Rattle.audit_readers.specs.Windows.{Window, ahead, look_ahead, too_long}
use Rattle.audit_texts.specs.Audited.{IsFirstForeign}
use Rattle.audit_texts.specs.declared.listening.Listening.{Listening}
use Rattle.audit_texts.specs.declared.recorded.Recorded.{Recorded}
use Rattle.audit_texts.specs.declared.sending.Sending.{Sending}
use Rattle.audit_texts.specs.declared.sending.Item.{Item}
use Rattle.audit_texts.specs.declared.sending.Item.TheVariants.{Line, Stop, Nothing}

-- ---- the job

-- what was read of it and is not told: resets, and the line behind them
abbrev pub untold_of : Sending → List Sent
untold_of s = replicate s.stops a_stop ++ cond s.waits (a_text s.reader.line.kept ∷ []) []

-- What is left of it: lines to scan; or none, if it was read to its end. Behind an alarm no line is read.
abbrev pub IsLeft : Option ℕ → Bool → JobRead → SourceState → Scanned → List (List ℕ) → Type 0
IsLeft None false r source left later = (text : List ℕ) × (ahead r.window source ≡ Some text) × (scanned_behind r.place text ≡ left) × (lines_behind r.place text ≡ later)
IsLeft None true r source left later = left.lines ≡ []
IsLeft (Some k) true r source left later = Unit {0}
IsLeft (Some k) false r source left later = ⊥

-- the resets of what was scanned besides lines
abbrev pub stops_of : Option ℕ → Bool → List ℕ → List Sent
stops_of None false rest = []
stops_of None true rest = replicate (resets_of rest) a_stop
stops_of (Some k) over rest = []

-- how many bytes may cut besides those of the lines that were read: of what was scanned besides them, or behind an alarm
abbrev pub cuts_besides : Option ℕ → Bool → List ℕ → List (List ℕ) → ℕ
cuts_besides None false rest later = 0
cuts_besides None true rest later = cuts_by rest
cuts_besides (Some k) over rest later = sum_by holds_by later

-- of these lines the first that is not audited has this number; 0, if each is
pub record IsForeignOf (lines : List (List ℕ)) (line : ℕ) : Type 0 where
  pub none : line ≡ 0 → foreign_in lines ≡ false
  pub some : (line ≡ 0 → ⊥) → IsFirstForeign lines line

-- These lines were read of a job, and its judge was told this of them.
pub record JobSoFar (s : Sending) (source : SourceState) (text : List ℕ) (told : List Sent) : Type 0 where
  pub lines : List (List ℕ)
  pub left : Scanned
  pub split : (scanned text).lines ≡ lines ++ left.lines
  pub rest : (scanned text).rest ≡ left.rest
  pub later : List (List ℕ)
  pub all : lines_behind 0 text ≡ lines ++ later
  pub goes_on : IsLeft s.last s.over s.reader source left later
  pub told_are : told ++ untold_of s ≡ flat_map sent_by lines ++ stops_of s.last s.over left.rest
  pub cuts : s.cuts ≡ sum_by cuts_by lines + cuts_besides s.last s.over left.rest later
  pub count : s.lines ≡ length lines
  pub alarm : IfSome s.last (λ k. k ≡ length lines)
  pub waiting : s.last ≡ None → s.waits ≡ true → s.over ≡ false
  pub foreign : IsForeignOf lines s.foreign

-- A line was read, or what is no line, and is counted in.
pub record Counts (before now : Sending) (sent : Bool) : Type 0 where
  pub reader : now.reader ≡ before.reader
  pub stops : now.stops ≡ before.reader.line.resets
  pub waits : now.waits ≡ sent
  pub over : now.over ≡ not sent
  pub last : now.last ≡ before.last
  pub cuts : before.cuts + before.reader.line.cuts < 2 ^ 64 → now.cuts ≡ before.cuts + before.reader.line.cuts
  pub lines : before.lines + 1 < 2 ^ 32 → now.lines ≡ cond sent (before.lines + 1) before.lines
  pub foreign : now.foreign ≡ cond (sent && (nat_eq before.foreign 0 && is_foreign before.reader.line.kept)) now.lines before.foreign

-- The last line that was read has raised an alarm, and all stays but the cuts.
pub record Halts (before now : Sending) : Type 0 where
  pub last : now.last ≡ Some before.lines
  pub over : now.over ≡ true
  pub stops : now.stops ≡ before.stops
  pub waits : now.waits ≡ before.waits
  pub line : now.reader.line ≡ before.reader.line
  pub lines : now.lines ≡ before.lines
  pub foreign : now.foreign ≡ before.foreign

-- what comes next of it, as far as it was read
abbrev pub IsItem : Item → Sending → Type 0
IsItem Line s = (s.stops ≡ 0) × (s.waits ≡ true)
IsItem Stop s = 0 < s.stops
IsItem Nothing s = (s.stops ≡ 0) × (s.waits ≡ false)

-- nothing more was told of it
abbrev pub StaysSent : Sending → Sending → SourceState → SourceState → Type 0
StaysSent old now before after = (text : List ℕ) (told : List Sent) → JobSoFar old before text told → JobSoFar now after text told

-- All that is sent of it is told, or the line before the one with this number has raised an alarm.
abbrev pub IsAllRead : Sending → Bool → ℕ → Type 0
IsAllRead s true number = (k : ℕ) × (s.last ≡ Some k) × (number ≡ k + 1)
IsAllRead s false number = (s.last ≡ None) × (s.over ≡ true) × (s.stops ≡ 0) × (s.waits ≡ false)

-- ---- the console

-- the reply that was taken and is not told
abbrev pub known_of : Option Reply → List Reply
known_of None = []
known_of (Some reply) = reply ∷ []

-- this reply is looked for before it is told: an error of the motion, or what is told first at a reset
abbrev pub is_looked_for : Reply → Bool
is_looked_for Banner = true
is_looked_for (Error n) = nat_eq n 8 || nat_eq n 9
is_looked_for (Alarm n) = nat_eq n 3
is_looked_for _ = false

-- the first of these replies, if it is looked for
abbrev pub looked_for : List Reply → Option Reply
looked_for [] = None
looked_for (reply ∷ more) = cond (is_looked_for reply) (Some reply) None

-- no byte was taken, and no reply is known
pub record Opens (l : Listening) (source : SourceState) (text : List ℕ) : Type 0 where
  pub first : l.reader.place ≡ 0
  pub follows : ahead l.reader.window source ≡ Some text
  pub unknown : l.known ≡ None

-- These bytes were read of a text, and the source goes on behind them.
pub record HasRead (w : Window) (source : SourceState) (place : ℕ) (text front : List ℕ) : Type 0 where
  pub rest : List ℕ
  pub whole : text ≡ front ++ rest
  pub follows : ahead w source ≡ Some rest
  pub count : place ≡ length front

-- a text was read up to a place
abbrev pub IsReadTo : Window → SourceState → ℕ → List ℕ → Type 0
IsReadTo w source place text = (front : List ℕ) × HasRead w source place text front

-- it was read to its end, or up to a byte that is one too many
abbrev pub IsRead : Window → ℕ → Type 0
IsRead w place = (too_long ≤ place) ⊎ ((w.waiting ≡ []) × (w.ended ≡ true))

-- it was read on
abbrev pub IsReadOn : Window → Window → SourceState → SourceState → ℕ → ℕ → Type 0
IsReadOn w v before after place now = (text : List ℕ) → IsReadTo w before place text → IsReadTo v after now text

-- The banner and these replies were taken, and its judge was told this of them.
pub record ConsoleSoFar (l : Listening) (source : SourceState) (text : List ℕ) (told : List Reply) : Type 0 where
  pub behind : List Reply
  pub read : HasRead l.reader.window source l.reader.place text (replies_text (Banner ∷ behind))
  pub each : AllByRecursion IsOnConsole behind
  pub are : without_reports behind ≡ told ++ known_of l.known
  pub early : IfSome l.known (λ reply. is_looked_for reply ≡ true)

-- nothing more was told of it
abbrev pub StaysTold : Listening → Listening → SourceState → SourceState → Type 0
StaysTold old now before after = (text : List ℕ) (told : List Reply) → ConsoleSoFar old before text told → ConsoleSoFar now after text told

-- and this is known now
abbrev pub BecomesKnown : Listening → Listening → Option Reply → Type 0
BecomesKnown old now found = (source : SourceState) (text : List ℕ) (told : List Reply) → ConsoleSoFar old source text told → ConsoleSoFar (record now { known = found }) source text told

-- a reply that has a text was taken off the console
pub record TakesReply (old now : ConsoleRead) (reply : Reply) : Type 0 where
  pub some : is_bye reply ≡ false
  pub waiting : old.window.waiting ≡ reply_text reply ++ now.window.waiting
  pub place : now.place ≡ old.place + length (reply_text reply)

-- the text of a reply, which is no longer than what is looked at, does not begin what waits
pub record IsNotNext (r : ConsoleRead) (reply : Reply) : Type 0 where
  pub short : length (reply_text reply) ≤ look_ahead
  pub none : (later : List ℕ) → r.window.waiting ≡ reply_text reply ++ later → ⊥

-- a reply that is looked for begins what waits, or none does
abbrev pub StandsNext : ConsoleRead → Option Reply → Type 0
StandsNext r None = (reply : Reply) → is_looked_for reply ≡ true → IsNotNext r reply
StandsNext r (Some reply) = (is_looked_for reply ≡ true) × (later : List ℕ) × (r.window.waiting ≡ reply_text reply ++ later)

-- the reply was told next, or it was not and the text can be read on
abbrev pub Hears : Bool → Listening → SourceState → List ℕ → List Reply → Type 0
Hears true l source text told = ConsoleSoFar l source text told
Hears false l source text told = IsReadTo l.reader.window source l.reader.place text

-- a console tells this, and nothing else
pub record IsWhole (text : List ℕ) (told : List Reply) : Type 0 where
  pub behind : List Reply
  pub text_is : text ≡ replies_text (Banner ∷ behind)
  pub each : AllByRecursion IsOnConsole behind
  pub are : without_reports behind ≡ told

-- if so, nothing follows what was told
abbrev pub EndsConsole : Bool → Listening → SourceState → Type 0
EndsConsole none l source = none ≡ true → (text : List ℕ) (told : List Reply) → ConsoleSoFar l source text told → IsWhole text told

-- A console tells this, and then this is left of it, which begins with no report.
pub record StandsAt (text : List ℕ) (told : List Reply) (rest : List ℕ) : Type 0 where
  pub tells : Tells text told rest
  pub no_report : (report : Reply) (later : List ℕ) → is_report report ≡ true → IsOnConsole report → rest ≡ reply_text report ++ later → ⊥

-- of a console that is not too long this holds of what is left
abbrev pub StandsSo : (List ℕ → Type 0) → Listening → SourceState → Type 0
StandsSo So l source = (text : List ℕ) (told : List Reply) → ConsoleSoFar l source text told → (too_long ≤ length text → ⊥) → (rest : List ℕ) × StandsAt text told rest × So rest

-- it begins with this reply, or with none that is looked for
abbrev pub IsNextOn : Option Reply → List ℕ → Type 0
IsNextOn (Some reply) rest = (later : List ℕ) × (rest ≡ reply_text reply ++ later)
IsNextOn None rest = (reply : Reply) → is_looked_for reply ≡ true → (later : List ℕ) → rest ≡ reply_text reply ++ later → ⊥

-- it begins with a reply that is heard, and not with one that is not; `Bye` has no text
abbrev pub IsHeardOn : Bool → Reply → List ℕ → Type 0
IsHeardOn true reply rest = (later : List ℕ) × (rest ≡ reply_text reply ++ later)
IsHeardOn false reply rest = is_bye reply ≡ false → (later : List ℕ) → rest ≡ reply_text reply ++ later → ⊥

-- something is left, if the console is not at its end
abbrev pub IsMoreOn : Bool → List ℕ → Type 0
IsMoreOn none rest = none ≡ false → rest ≡ [] → ⊥

-- a console that is not too long tells these replies, and nothing else
pub record TellsAll (text : List ℕ) (all : List Reply) : Type 0 where
  pub whole : IsWhole text all
  pub short : too_long ≤ length text → ⊥

-- of a console that tells more, the next reply is found, if it is looked for
abbrev pub FindsReply : Option Reply → Listening → SourceState → Type 0
FindsReply found l source = (text : List ℕ) (told more : List Reply) → ConsoleSoFar l source text told → TellsAll text (told ++ more) → found ≡ looked_for more

-- if it is not heard, no console goes on with this reply
abbrev pub HearsNot : Bool → Listening → SourceState → Reply → Type 0
HearsNot heard l source reply = heard ≡ false → (text : List ℕ) (told more : List Reply) → ConsoleSoFar l source text told → TellsAll text (told ++ reply ∷ more) → ⊥

-- if something follows, what was told is not all
abbrev pub EndsNot : Bool → Listening → SourceState → Type 0
EndsNot none l source = none ≡ false → (text : List ℕ) (told : List Reply) → ConsoleSoFar l source text told → TellsAll text told → ⊥

-- ---- the steps

-- what was read of a line and is not told
abbrev pub records_left : Option Record → ℕ → List Record
records_left None count = []
records_left (Some r) count = r ∷ replicate (count - 1) r

-- The records that are left are the last ones of the last of these lines, which begins at this place.
pub record AreOfLast (text : List ℕ) (lines : List AnyLine) (at : ℕ) (left : List Record) : Type 0 where
  pub before : List AnyLine
  pub last : AnyLine
  pub split : lines ≡ before ++ last ∷ []
  pub place : at ≡ place_behind text before
  pub part : List Record
  pub are : records_of (last ∷ []) ≡ part ++ left

-- These lines were read of steps, and its judge was told these records.
pub record StepsSoFar (r : Recorded) (source : SourceState) (text : List ℕ) (told : List Record) : Type 0 where
  pub lines : List AnyLine
  pub rest : List ℕ
  pub body : body_of text ≡ lines_text lines ++ rest
  pub follows : ahead r.reader.window source ≡ Some rest
  pub are : AreLinesOf (form_of text) lines
  pub form : r.reader.form ≡ form_of text
  pub last : r.reader.last ≡ last_of lines
  pub place : r.reader.place ≡ length (heading (form_of text)) + length (lines_text lines)
  pub told_are : told ++ records_left r.next r.count ≡ records_of lines
  pub line : (x : Record) → r.next ≡ Some x → AreOfLast text lines r.at (records_left r.next r.count)

-- nothing more was told of them
abbrev pub StaysRecorded : Recorded → Recorded → SourceState → SourceState → Type 0
StaysRecorded old now before after = (text : List ℕ) (told : List Record) → StepsSoFar old before text told → StepsSoFar now after text told

-- These records are those of lines, behind which this place is.
pub record AreBehind (text : List ℕ) (told : List Record) (at : ℕ) : Type 0 where
  pub lines : List AnyLine
  pub rest : List ℕ
  pub body : body_of text ≡ lines_text lines ++ rest
  pub are : AreLinesOf (form_of text) lines
  pub told_are : told ≡ records_of lines
  pub place : at ≡ place_behind text lines

-- and no line stands there that may
pub record StandsNoLine (text : List ℕ) (told : List Record) (at : ℕ) : Type 0 where
  pub behind : AreBehind text told at
  pub none : (line : AnyLine) (more : List ℕ) → behind.rest ≡ line_text line ++ more → AreLinesOf (form_of text) (behind.lines ++ line ∷ []) → ⊥

-- A record is the next of a line that begins at this place.
pub record StandsIn (text : List ℕ) (told : List Record) (at : ℕ) (next : Record) : Type 0 where
  pub before : List AnyLine
  pub last : AnyLine
  pub rest : List ℕ
  pub body : body_of text ≡ lines_text (before ++ last ∷ []) ++ rest
  pub are : AreLinesOf (form_of text) (before ++ last ∷ [])
  pub place : at ≡ place_behind text before
  pub part : List Record
  pub later : List Record
  pub told_are : told ≡ records_of before ++ part
  pub of_last : records_of (last ∷ []) ≡ part ++ next ∷ later

-- behind these records comes this one, or no line, at this place
abbrev pub RecordStands : Option Record → List ℕ → List Record → ℕ → Type 0
RecordStands None text told at = StandsNoLine text told at
RecordStands (Some next) text told at = StandsIn text told at next

-- so it is in steps that are not too long
abbrev pub StandsNow : Option Record → Recorded → Recorded → SourceState → Type 0
StandsNow found old now source = (text : List ℕ) (told : List Record) → StepsSoFar old source text told → (too_long ≤ length text → ⊥) → RecordStands found text told now.at

-- where no record is left, its place is behind all that was told
abbrev pub IsPlaceBehind : Recorded → Recorded → SourceState → Type 0
IsPlaceBehind old now source = (text : List ℕ) (told : List Record) → StepsSoFar old source text told → old.next ≡ None → AreBehind text told now.at

-- steps are these records, and nothing else
pub record AreRecords (text : List ℕ) (told : List Record) : Type 0 where
  pub lines : List AnyLine
  pub are_lines : IsStepText text lines
  pub are : records_of lines ≡ told

-- the first of these records
abbrev pub next_of : List Record → Option Record
next_of [] = None
next_of (r ∷ more) = Some r

-- steps that are not too long are these records, and nothing else
pub record RecordsAll (text : List ℕ) (all : List Record) : Type 0 where
  pub are : AreRecords text all
  pub short : too_long ≤ length text → ⊥

-- of steps that have more records, the next one is found
abbrev pub FindsRecord : Option Record → Recorded → SourceState → Type 0
FindsRecord found r source = (text : List ℕ) (told more : List Record) → StepsSoFar r source text told → RecordsAll text (told ++ more) → found ≡ next_of more

-- if something follows, what was told is not all
abbrev pub StepsGoOn : Bool → Recorded → SourceState → Type 0
StepsGoOn over r source = over ≡ false → (text : List ℕ) (told : List Record) → StepsSoFar r source text told → AreRecords text told → ⊥

-- they can be read on; and if so, they are what was told
pub record Ending (over : Bool) (now : Recorded) (source : SourceState) (text : List ℕ) (told : List Record) : Type 0 where
  pub read : IsReadTo now.reader.window source now.reader.place text
  pub all : over ≡ true → AreRecords text told

abbrev pub EndsSteps : Bool → Recorded → Recorded → SourceState → SourceState → Type 0
EndsSteps over old now before after = (text : List ℕ) (told : List Record) → StepsSoFar old before text told → Ending over now after text told

-- a line was read: its record comes next, as often as it stands for
abbrev pub KeepsLine : Recorded → AnyLine → Type 0
KeepsLine r (line_kinds.One record_of) = (r.next ≡ Some record_of) × (r.count ≡ 1)
KeepsLine r (line_kinds.Run n b) = (r.next ≡ Some (kinds.Event b)) × (r.count ≡ n)
KeepsLine r line_kinds.Version = Unit {0}
