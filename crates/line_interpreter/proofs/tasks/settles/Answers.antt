use Rattle.std.proofs.Common.{rules, ◌≡◌, ◌-◌, not, length, Some, None, sym, ap, ◌∙◌}
use Rattle.std.specs.List.{slice_get}
use Rattle.line_interpreter.proofs.Settling.{settled_last, none_last}
use Rattle.line_interpreter.proofs.tasks.settles.Goals as goal

pub returns-in-Some : goal.returns-in-Some
returns-in-Some c =
    let at : slice_get c.args.items.now (length c.args.items.now - 1) ≡ Some c.in-Some.item.now = search rules in
    ap not c.is_move.ensures ∙ sym (settled_last c.args.items.now c.in-Some.item.now at)

pub returns-in-None : goal.returns-in-None
returns-in-None c =
    let at : slice_get c.args.items.now (length c.args.items.now - 1) ≡ None = search rules in
    sym (none_last c.args.items.now at)
