use Rattle.line_interpreter.proofs.interpreter.Interpreter.report.Goals as goal

pub returns-clause-shows : goal.returns-clause-shows
returns-clause-shows c = rw (← c.self.view_is) c.report.ensures.shows
