use Rattle.std.proofs.Common.{◌∙◌, sym}
use Rattle.line_words.proofs.Told.{has_is, alone_is}
use Rattle.line_words.proofs.line.Line.has.Goals as goal

pub returns-clause-value : goal.returns-clause-value
returns-clause-value c =
    rw (← c.self.view_is) (c.is_number.ensures ∙ has_is c.self.inside.slots c.self.inside.words.now c.args.command.letter c.args.command.key c.args.command.group
    c.group_slot.result c.get.result c.self.invariant c.requires c.group_slot.ensures c.get.ensures)

pub returns-clause-alone : goal.returns-clause-alone
returns-clause-alone c = λ e letter key row differ.
    rw (← c.self.view_is) (alone_is c.self.inside.slots c.self.inside.words.now letter key c.args.command.key c.args.command.group
    c.group_slot.result c.get.result c.self.invariant row c.group_slot.ensures c.get.ensures (sym c.is_number.ensures ∙ e) differ)
