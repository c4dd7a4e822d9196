use Rattle.std.proofs.Common.{refl, Ok, Err}
use Rattle.run_rules.specs.Outcomes.{refused}
use Rattle.line_interpreter.specs.Desks.{standing}
use Rattle.line_interpreter.proofs.Judging.{by_command}
use Rattle.line_interpreter.proofs.desk.Desk.judge_command.Goals as goal

pub returns-in-Ok-clause-begun : goal.returns-in-Ok-clause-begun
returns-in-Ok-clause-begun c = λ since.
    let is = c.obey.ensures.begun since in
    (is.0, by_command (standing c.args.self.now since) _ (Ok c.in-Ok.command) is.0 c.in-Ok.ensures is.1, is.2)

pub returns-in-Err-clause-begun : goal.returns-in-Err-clause-begun
returns-in-Err-clause-begun c = λ since.
    let b = standing c.args.self.now since in
    (refused b c.in-Err.code.0, by_command b _ (Err c.in-Err.code) _ c.in-Err.ensures refl, c.refuse.ensures.begun since)

pub returns-in-Ok-clause-number : goal.returns-in-Ok-clause-number
returns-in-Ok-clause-number c = c.obey.ensures.number

pub returns-in-Ok-clause-ready : goal.returns-in-Ok-clause-ready
returns-in-Ok-clause-ready c = c.obey.ensures.ready

pub returns-in-Err-clause-number : goal.returns-in-Err-clause-number
returns-in-Err-clause-number c = c.refuse.ensures.number

pub returns-in-Err-clause-ready : goal.returns-in-Err-clause-ready
returns-in-Err-clause-ready c = c.refuse.ensures.ready
