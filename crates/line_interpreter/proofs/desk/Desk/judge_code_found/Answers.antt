use Rattle.std.proofs.Common.{sym, ◌∙◌}
use Rattle.run_rules.specs.Outcomes.{refused}
use Rattle.line_interpreter.specs.Desks.{standing}
use Rattle.line_interpreter.proofs.Judging.{code_refused, code_served}
use Rattle.line_interpreter.proofs.desk.Desk.judge_code_found.Goals as goal

pub returns-then-locks-clause-begun : goal.returns-then-locks-clause-begun
returns-then-locks-clause-begun c = λ since.
    let b = standing c.args.self.now since in
    (refused b 9, code_refused c.args.machine b c.args.kept.now (sym c.locks.ensures ∙ c.if-locks.true), c.refuse.ensures.begun since)

pub returns-clause-begun : goal.returns-clause-begun
returns-clause-begun c = λ since.
    let b = standing c.args.self.now since in
    let is = c.judge_code.ensures.begun since in
    (is.0, code_served c.args.machine b c.args.kept.now is.0 (sym c.locks.ensures ∙ c.if-locks.false) is.1, is.2)

pub returns-then-locks-clause-number : goal.returns-then-locks-clause-number
returns-then-locks-clause-number c = c.refuse.ensures.number

pub returns-then-locks-clause-ready : goal.returns-then-locks-clause-ready
returns-then-locks-clause-ready c = c.refuse.ensures.ready

pub returns-clause-number : goal.returns-clause-number
returns-clause-number c = c.judge_code.ensures.number

pub returns-clause-ready : goal.returns-clause-ready
returns-clause-ready c = c.judge_code.ensures.ready
