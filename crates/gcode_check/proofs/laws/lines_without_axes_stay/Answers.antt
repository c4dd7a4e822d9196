use Rattle.std.proofs.Common.{sym, ◌∙◌, ap}
use Rattle.line_words.proofs.Fixed.{no_targets}
use Rattle.gcode_check.specs.Laws.{moves_axes}
use Rattle.gcode_check.specs.declared.Accept.{Accept as Accepted}
use Rattle.gcode_check.proofs.Causes.{is_accepted}
use Rattle.gcode_check.proofs.Moves.{stays}
use Rattle.gcode_check.proofs.laws.lines_without_axes_stay.Goals as goal

pub returns-clause-moves : goal.returns-clause-moves
returns-clause-moves c = λ p s ws a none no28 no30 e.
    ap (λ (b : Accepted). moves_axes b.items.items) (sym (is_accepted p s ws a e).2) ∙ (stays p s ws (no_targets p ws none no28 no30)).0

pub returns-clause-position : goal.returns-clause-position
returns-clause-position c = λ p s ws a none no28 no30 e.
    let still = stays p s ws (no_targets p ws none no28 no30) in
    let same = sym (is_accepted p s ws a e).2 in
    (ap (λ (b : Accepted). b.next.pos_nm) same ∙ still.1, ap (λ (b : Accepted). b.next.pos_steps) same ∙ still.2)
