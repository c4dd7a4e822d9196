use Rattle.gcode_check.proofs.Nearness.{targets_near, offset_near}
use Rattle.gcode_check.proofs.conditions.line_refusal.Goals as goal

pub returns-clause-near : goal.returns-clause-near
returns-clause-near c = targets_near c.args.p.now c.args.line.now c.first_error.result c.first_error.ensures

pub returns-clause-offset : goal.returns-clause-offset
returns-clause-offset c = offset_near c.args.p.now c.args.line.now c.first_error.result c.first_error.ensures
