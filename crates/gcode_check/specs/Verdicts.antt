-- What becomes of a line.
use Rattle.std.specs.Prelude.{if◌then◌else◌, List, Some, None, Ok, Err, All}
use Rattle.std.specs.declared.option.Option.{Option}
use Rattle.std.specs.declared.result.Result.{Result}
use Rattle.gcode_words.specs.declared.Word.{Word}
use Rattle.code_table.specs.Refusals.{or_else}
use Rattle.code_table.specs.declared.Code.{Code}
use Rattle.modal_state.specs.declared.Parser.{Parser}
use Rattle.modal_state.specs.Modes.{IsParser}
use Rattle.settings.specs.declared.Settings.{Settings}
use Rattle.line_words.specs.WordRefusals.{words_refusal}
use Rattle.line_words.specs.Targets.{targets}
use Rattle.gcode_check.specs.Conditions.{line_refusal, leaves_travel}
use Rattle.gcode_check.specs.Effects.{stops, parser_after}
use Rattle.gcode_check.specs.Items.{items_of, IsItem}
use Rattle.gcode_check.specs.declared.Accept.{Accept as Accepted}
use Rattle.gcode_check.specs.declared.Refusal.{Refusal}
use Rattle.gcode_check.specs.declared.Refusal.TheVariants.{Error, SoftLimit}
use Rattle.gcode_check.specs.declared.Verdict.{Verdict}
use Rattle.gcode_check.specs.declared.Verdict.TheVariants.{Accept, Refuse, Limit}

-- the first refusal of a line: that of its words, else that of the line
abbrev pub refusal_of : Parser → List Word → Option Code
refusal_of p ws = or_else (words_refusal ws) (line_refusal p ws)

-- what an accepted line leaves and gives
abbrev pub accepted : Parser → Settings → List Word → Accepted
accepted p s ws = record { next = parser_after p ws (targets p ws) (stops p s ws); items = record { items = items_of p ws (stops p s ws) } }

-- a verdict by the first refusal, and then by the travel
abbrev pub verdict_by : Option Code → Parser → Settings → List Word → Verdict
verdict_by (Some code) p s ws = Refuse code
verdict_by None p s ws = if leaves_travel p s ws then Limit else Accept (accepted p s ws)

unfoldable pub verdict : Parser → Settings → List Word → Verdict
verdict p s ws = verdict_by (refusal_of p ws) p s ws

-- the verdict on a line that is not accepted
abbrev pub verdict_of : Refusal → Verdict
verdict_of (Error code) = Refuse code
verdict_of SoftLimit = Limit

-- a refusal as a result
abbrev pub unless_refused : Option Code → Result (Unit {0}) Code
unless_refused None = Ok tt
unless_refused (Some code) = Err code

-- an accepted line leaves a state that a parser can be in, and gives items in range
pub record IsSoundAccept (a : Accepted) : Type 0 where
  pub parser_is : IsParser a.next
  pub items_are : All IsItem a.items.items

abbrev pub IsSoundVerdict : Verdict → Type 0
IsSoundVerdict (Accept a) = IsSoundAccept a
IsSoundVerdict (Refuse code) = Unit {0}
IsSoundVerdict Limit = Unit {0}
