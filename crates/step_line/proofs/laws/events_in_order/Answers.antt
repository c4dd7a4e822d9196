use Rattle.step_line.proofs.Order.{length_line, one_of_line, in_parts, is_event}
use Rattle.step_line.proofs.laws.events_in_order.Goals as goal

pub returns-clause-all : goal.returns-clause-all
returns-clause-all c = length_line

pub returns-clause-one : goal.returns-clause-one
returns-clause-one c = one_of_line

pub returns-clause-parts : goal.returns-clause-parts
returns-clause-parts c = in_parts

pub returns-clause-step : goal.returns-clause-step
returns-clause-step c = is_event
