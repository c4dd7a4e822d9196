use Rattle.std.proofs.Common.{◌∙◌, ap, [], ◌∷◌}
use Rattle.line_words.specs.Targets.{target}
use Rattle.jog.specs.declared.JogMove.{JogMove}
use Rattle.jog.proofs.Causes.{is_accepted, passes}
use Rattle.jog.proofs.Going.{jog_line, goes}
use Rattle.jog.proofs.laws.jogs_go_where_lines_go.Goals as goal

pub returns : goal.returns
returns c = λ p s ws jog e.
    let accepted = is_accepted p s ws jog e in
    goes p ws (jog_line s ws (target p ws) (passes p s ws accepted.0)) ∙ ap (λ (j : JogMove). j.target ∷ []) accepted.1
