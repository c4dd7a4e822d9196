use Rattle.std.proofs.Common.{sym, ◌∙◌}
use Rattle.line_words.proofs.Told.{none_is}
use Rattle.line_words.proofs.line.Line.has_group_of.Goals as goal

pub returns-clause-none : goal.returns-clause-none
returns-clause-none c = λ e letter key row.
    rw (← c.self.view_is) (none_is c.self.inside.slots c.self.inside.words.now letter key c.args.command.group
    c.group_slot.result c.self.invariant row c.group_slot.ensures (sym c.is_filled.ensures ∙ e))
