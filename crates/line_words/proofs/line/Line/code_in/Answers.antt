use Rattle.std.proofs.Common.{◌∙◌}
use Rattle.line_words.proofs.Told.{code_is}
use Rattle.line_words.proofs.line.Line.code_in.Goals as goal

pub returns : goal.returns
returns c =
    rw (← c.self.view_is) (c.key_held.ensures ∙ code_is c.self.inside.slots c.self.inside.words.now c.args.group
    c.group_slot.result c.get.result c.self.invariant c.requires c.group_slot.ensures c.get.ensures)
