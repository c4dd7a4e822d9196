use Rattle.std.proofs.Common.{sym, ◌∙◌}
use Rattle.gcode_check.proofs.FirstRows.{number_refuses, command_refuses, value_refuses}
use Rattle.gcode_check.proofs.conditions.first_error.Goals as goal

pub returns-then-line_number_out_of_range : goal.returns-then-line_number_out_of_range
returns-then-line_number_out_of_range c = sym (number_refuses c.args.p.now c.args.line.now (sym c.if-line_number_out_of_range.ensures))

pub returns-in-Some : goal.returns-in-Some
returns-in-Some c = sym (command_refuses c.args.p.now c.args.line.now c.in-Some.code (sym c.if-line_number_out_of_range.ensures) (sym c.in-Some.ensures))

pub returns-in-None : goal.returns-in-None
returns-in-None c = c.value_error.ensures ∙ sym (value_refuses c.args.p.now c.args.line.now (sym c.if-line_number_out_of_range.ensures) (sym c.in-None.ensures))
