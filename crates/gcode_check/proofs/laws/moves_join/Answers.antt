use Rattle.std.proofs.Common.{◌≡◌, List, sym}
use Rattle.units.specs.declared.Steps3.{Steps3}
use Rattle.line_words.specs.Targets.{targets}
use Rattle.gcode_check.specs.Effects.{stops}
use Rattle.gcode_check.specs.Items.{items_of}
use Rattle.gcode_check.specs.Laws.{Join}
use Rattle.gcode_check.specs.declared.Accept.{Accept as Accepted}
use Rattle.gcode_check.specs.declared.Item.{Item}
use Rattle.gcode_check.proofs.Causes.{is_accepted}
use Rattle.gcode_check.proofs.Joining.{line}
use Rattle.gcode_check.proofs.Moves.{after_steps}
use Rattle.gcode_check.proofs.laws.moves_join.Goals as goal

end : (items : List Item) (a b c : Steps3) → b ≡ c → Join a items b → Join a items c
end items a b c e h = rw (sym e) h

same : (at : Steps3) (a b : Accepted) → a ≡ b → Join at a.items.items a.next.pos_steps → Join at b.items.items b.next.pos_steps
same at a b e h = rw (sym e) h

pub returns : goal.returns
returns c = λ p s ws a e.
    let is = (is_accepted p s ws a e).2 in
    same p.pos_steps _ a is
    (end (items_of p ws (stops p s ws)) p.pos_steps _ _ (sym (after_steps p ws (targets p ws) (stops p s ws))) (line p ws (stops p s ws)))
