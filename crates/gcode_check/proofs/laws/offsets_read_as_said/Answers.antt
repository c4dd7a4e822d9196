use Rattle.std.proofs.Common.{◌≡◌, List, [], sym, ◌∙◌, ap}
use Rattle.gcode_words.specs.declared.Word.{Word}
use Rattle.modal_state.specs.declared.Parser.{Parser}
use Rattle.settings.specs.declared.Settings.{Settings}
use Rattle.line_words.specs.Targets.{targets}
use Rattle.gcode_check.specs.Effects.{offsets_after}
use Rattle.gcode_check.specs.Verdicts.{verdict}
use Rattle.gcode_check.specs.declared.Accept.{Accept as Accepted}
use Rattle.gcode_check.specs.declared.Verdict.TheVariants.{Accept}
use Rattle.gcode_check.proofs.Causes.{is_accepted}
use Rattle.gcode_check.proofs.Readings.{StaysWith, words_pass, with_shift_nowhere, with_system_offset_nowhere, stays_with, after_shift, after_setting, here, there}
use Rattle.gcode_check.proofs.laws.offsets_read_as_said.Goals as goal

stays : (p : Parser) (s : Settings) (ws : List Word) (a : Accepted) → verdict p s ws ≡ Accept a → targets p ws ≡ [] → StaysWith p (offsets_after p ws) a.next
stays p s ws a e none =
    let same = (is_accepted p s ws a e).2 in
    let next = stays_with p s ws none in
    record { place = ap (λ (b : Accepted). b.next.pos_nm) (sym same) ∙ next.place; offsets_are = ap (λ (b : Accepted). b.next.offsets) (sym same) ∙ next.offsets_are }

pub returns-clause-shift : goal.returns-clause-shift
returns-clause-shift c = λ p s ws a valid shift e.
    let pass = words_pass p ws (is_accepted p s ws a e).0 in
    after_shift p s ws a.next shift pass.0 (stays p s ws a e (with_shift_nowhere p ws pass.0 shift))

pub returns-clause-here : goal.returns-clause-here
returns-clause-here c = λ p s ws a valid sets from_here e.
    let pass = words_pass p ws (is_accepted p s ws a e).0 in
    here p ws a.next from_here (after_setting p ws a.next valid sets pass.1 (stays p s ws a e (with_system_offset_nowhere p ws pass.0 sets)))

pub returns-clause-there : goal.returns-clause-there
returns-clause-there c = λ p s ws a valid sets values e.
    let pass = words_pass p ws (is_accepted p s ws a e).0 in
    there p ws a.next values (after_setting p ws a.next valid sets pass.1 (stays p s ws a e (with_system_offset_nowhere p ws pass.0 sets)))
