use Rattle.std.proofs.Common.{◌∙◌, ap, sym}
use Rattle.travel_limits.specs.Reach.{steps3}
use Rattle.gcode_check.specs.Laws.{moves_axes}
use Rattle.gcode_check.specs.declared.Accept.{Accept as Accepted}
use Rattle.gcode_check.proofs.Causes.{is_accepted}
use Rattle.gcode_check.proofs.Moves.{ends_there}
use Rattle.gcode_check.proofs.laws.moves_end_at_the_position.Goals as goal

pub returns : goal.returns
returns c = λ p s ws a e moves.
    let same = (is_accepted p s ws a e).2 in
    sym (ap (λ (b : Accepted). b.next.pos_steps) same)
    ∙ ends_there p s ws (ap (λ (b : Accepted). moves_axes b.items.items) same ∙ moves)
    ∙ ap (λ (b : Accepted). steps3 s.limits.per_mm b.next.pos_nm) same
