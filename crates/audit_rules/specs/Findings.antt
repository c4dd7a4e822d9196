-- What an audit finds.
use Rattle.std.specs.Prelude.{◌≡◌, ◌≢◌, ◌≤◌, ◌<◌, ◌^◌, ◌⊎◌, ℕ, ◌+◌, Bool, true, false, ◌&&◌, ◌||◌, List, [], ◌∷◌, ◌++◌, length, codes, decimal, nat_le, Ok, Err}
use Rattle.std.specs.declared.result.Result.{Result}
use Rattle.std.specs.List.{list_any, AllByRecursion}
use Rattle.std.specs.Str.{bytes_eq}
use Rattle.gcode_words.specs.Words.{words_of}
use Rattle.gcode_words.specs.declared.Word.{Word}
use Rattle.gcode_words.specs.declared.WordFault.{WordFault}
use Rattle.legal_heads.specs.Whole.{events_among}
use Rattle.line_words.specs.Codes.{has_g}
use Rattle.run_rules.specs.Outcomes.{either, most_kept}
use Rattle.run_rules.specs.Told.{replies_text}
use Rattle.run_texts.specs.Fits.{FitsTexts}
use Rattle.run_texts.specs.Sent.{Sent, kept_of}
use Rattle.status_report.specs.declared.Reply.{Reply}
use Rattle.status_report.specs.declared.Reply.TheVariants.{Banner}
use Rattle.step_line.specs.declared.Record.{Record}
use Rattle.step_line.specs.declared.Record.TheVariants as kinds
use Rattle.step_record.specs.Texts.{record_text}
use Rattle.audit_rules.specs.declared.Audit.{Audit}
use Rattle.audit_rules.specs.declared.Audit.TheVariants.{Fits, Misfit, Usage, JobFault, ConsoleFault, StepsFault, OutFault, BadReplies, Foreign, TooLong}
use Rattle.audit_rules.specs.Consoles.{IsOnConsole}
use Rattle.audit_rules.specs.Scanned.{scanned, sent_in, most_cuts}
use Rattle.audit_rules.specs.Standing.{StandTo, place_behind}
use Rattle.audit_rules.specs.StepTexts.{IsStepText, records_of}
use Rattle.step_record.specs.declared.forms.Line.{Line}
use Rattle.audit_rules.specs.Telling.{ConsoleStands, HasBadReply, HasAlarm}

-- ---- texts that fit

-- What was sent of a job, a console and these records fit. The console is the text of replies that can stand on one. All of
-- the job was sent that is scanned, but that of lines behind an alarm.
pub record TextsFit (job console : List ℕ) (records : List Record) : Type 0 where
  pub behind : List Reply
  pub text : console ≡ replies_text (Banner ∷ behind)
  pub each : AllByRecursion IsOnConsole behind
  pub sent : List Sent
  pub later : List Sent
  pub split : sent_in job ≡ sent ++ later
  pub cancels : ℕ
  pub fits : FitsTexts sent cancels (Banner ∷ behind) records
  pub counted : cancels ≡ most_cuts job fits.last
  pub over : either fits.last.before.alarmed (Unit {0}) (later ≡ [])

-- the steps have these lines, which fit, and so many events
pub record FitsWith (job console steps : List ℕ) (events : ℕ) : Type 0 where
  pub lines : List Line
  pub steps_are : IsStepText steps lines
  pub fit : TextsFit job console (records_of lines)
  pub count : events ≡ length (events_among (records_of lines))

-- ---- steps that break a rule

-- the end may stand behind these lines
abbrev pub MayEnd : List ℕ → List ℕ → List Line → Type 0
MayEnd job console done = TextsFit job console (records_of done ++ kinds.End ∷ [])

-- At this byte the first record stands that breaks a rule, or that which is no record's line, or the text ends without an
-- end: the lines before it stand. Or something follows the end.
pub data BreaksAt (job console steps : List ℕ) (at : ℕ) : Type 0 where
  at_line : (z : StandTo (sent_in job) console steps)
      → ((more : List ℕ) → z.rest ≡ record_text kinds.End ++ more → MayEnd job console z.done → ⊥)
      → at ≡ place_behind steps z.done → BreaksAt job console steps at
  behind_end : (z : StandTo (sent_in job) console steps) (more : List ℕ)
      → z.rest ≡ record_text kinds.End ++ more → MayEnd job console z.done → more ≢ []
      → at ≡ place_behind steps z.done + length (record_text kinds.End) → BreaksAt job console steps at

-- ---- lines that are not audited

-- the codes of a probe, G38.2 to G38.5
abbrev pub has_probe : Result (List Word) WordFault → Bool
has_probe (Ok ws) = has_g 382 ws || has_g 383 ws || has_g 384 ws || has_g 385 ws
has_probe (Err fault) = false

-- a line of which this is kept has a word of a probe, or asks for homing
abbrev pub is_foreign : List ℕ → Bool
is_foreign kept = nat_le (length kept) most_kept && (bytes_eq kept (codes "$H") || has_probe (words_of kept))

abbrev pub foreign_in : List (List ℕ) → Bool
foreign_in lines = list_any (λ line. is_foreign (kept_of line)) lines

-- It is the first such line that is sent: none before it raises an alarm.
pub record IsForeign (job console steps : List ℕ) (line : ℕ) : Type 0 where
  pub before : List (List ℕ)
  pub here : List ℕ
  pub behind : List (List ℕ)
  pub split : (scanned job).lines ≡ before ++ here ∷ behind
  pub number : line ≡ length before + 1
  pub first : foreign_in before ≡ false
  pub is : is_foreign (kept_of here) ≡ true
  pub sent : (k : ℕ) → k < line → HasAlarm (sent_in job) console steps k → ⊥

abbrev pub HasForeign : List ℕ → List ℕ → List ℕ → Type 0
HasForeign job console steps = (line : ℕ) × IsForeign job console steps line

-- ---- texts that are too long

abbrev pub IsTooLong : List ℕ → List ℕ → Type 0
IsTooLong console steps = (2 ^ 63 ≤ length console) ⊎ (2 ^ 63 ≤ length steps)

-- ---- what is found

-- Of three texts read whole one thing is found, the first that holds: one is too long; a line is not audited; the console
-- has a bad reply; the steps break a rule; the texts fit.
abbrev pub Finds : List ℕ → List ℕ → List ℕ → Audit → Type 0
Finds job console steps TooLong = IsTooLong console steps
Finds job console steps (Foreign line) = (IsTooLong console steps → ⊥) × IsForeign job console steps line
Finds job console steps (BadReplies line) = (IsTooLong console steps → ⊥) × (HasForeign job console steps → ⊥) × HasBadReply (sent_in job) console steps line
Finds job console steps (Misfit at) =
    (IsTooLong console steps → ⊥) × (HasForeign job console steps → ⊥) × ConsoleStands (sent_in job) console steps × BreaksAt job console steps at
Finds job console steps (Fits events) = (IsTooLong console steps → ⊥) × (HasForeign job console steps → ⊥) × FitsWith job console steps events
Finds job console steps Usage = ⊥
Finds job console steps JobFault = ⊥
Finds job console steps ConsoleFault = ⊥
Finds job console steps StepsFault = ⊥
Finds job console steps OutFault = ⊥

-- ---- what is printed

abbrev pub said_of : Audit → List ℕ
said_of (Fits events) = codes "fits: " ++ decimal events ++ codes " events"
said_of (Misfit at) = codes "misfit at byte " ++ decimal at
said_of (BadReplies line) = codes "replies differ at line " ++ decimal line
said_of (Foreign line) = codes "line " ++ decimal line ++ codes " isn't audited"
said_of Usage = codes "usage"
said_of JobFault = codes "job fault"
said_of ConsoleFault = codes "console fault"
said_of StepsFault = codes "steps fault"
said_of OutFault = codes "out fault"
said_of TooLong = codes "too long"

-- a line, ended by LF
abbrev pub audit_text : Audit → List ℕ
audit_text a = said_of a ++ codes "\n"

-- the status with which the program ends
abbrev pub exit_of : Audit → ℕ
exit_of (Fits events) = 0
exit_of (Misfit at) = 1
exit_of Usage = 2
exit_of JobFault = 3
exit_of ConsoleFault = 4
exit_of StepsFault = 5
exit_of OutFault = 6
exit_of (BadReplies line) = 7
exit_of (Foreign line) = 8
exit_of TooLong = 9
