use Rattle.std.proofs.Common.{ap, sym, ◌∙◌, arith}
use Rattle.code_table.specs.Tables.{value_of}
use Rattle.code_table.proofs.Rows.{at_place, at_gap}
use Rattle.code_table.proofs.Table.find.Goals as goal

pub returns-in-Ok : goal.returns-in-Ok
returns-in-Ok g c =
    sym (at_place c.self.inside.keys c.self.inside.values c.args.key c.in-Ok.place c.self.invariant (omega arith) c.in-Ok.ensures.position)
    ∙ ap (value_of c.args.key) c.self.view_is

pub returns-in-Err : goal.returns-in-Err
returns-in-Err g c =
    sym (at_gap c.self.inside.keys c.self.inside.values c.args.key c.in-Err.field-0 c.self.invariant c.in-Err.ensures.position)
    ∙ ap (value_of c.args.key) c.self.view_is
