use Rattle.step_record.proofs.Longest.{some_line, some_event}
use Rattle.step_record.proofs.laws.longest_lines.Goals as goal

pub returns-clause-line_reached : goal.returns-clause-line_reached
returns-clause-line_reached c = some_line

pub returns-clause-event_reached : goal.returns-clause-event_reached
returns-clause-event_reached c = some_event
