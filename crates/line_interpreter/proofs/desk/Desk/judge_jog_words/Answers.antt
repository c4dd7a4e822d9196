use Rattle.std.proofs.Common.{refl, Ok, Err}
use Rattle.run_rules.specs.Outcomes.{refused, jogging}
use Rattle.line_interpreter.specs.Desks.{standing}
use Rattle.line_interpreter.proofs.Judging.{by_jog_move}
use Rattle.line_interpreter.proofs.desk.Desk.judge_jog_words.Goals as goal

pub returns-in-Ok-clause-begun : goal.returns-in-Ok-clause-begun
returns-in-Ok-clause-begun c = λ since.
    let b = standing c.args.self.now since in
    let jog = c.in-Ok.jog in
    (jogging b jog, by_jog_move b _ (Ok jog) (jogging b jog) c.in-Ok.ensures.verdict refl, c.begin_jog.ensures.begun since)

pub returns-in-Err-clause-begun : goal.returns-in-Err-clause-begun
returns-in-Err-clause-begun c = λ since.
    let b = standing c.args.self.now since in
    let code = c.in-Err.code in
    (refused b code.0, by_jog_move b _ (Err code) (refused b code.0) c.in-Err.ensures.verdict refl, c.refuse.ensures.begun since)

pub returns-in-Ok-clause-number : goal.returns-in-Ok-clause-number
returns-in-Ok-clause-number c = c.begin_jog.ensures.number

pub returns-in-Ok-clause-ready : goal.returns-in-Ok-clause-ready
returns-in-Ok-clause-ready c = c.begin_jog.ensures.ready

pub returns-in-Err-clause-number : goal.returns-in-Err-clause-number
returns-in-Err-clause-number c = c.refuse.ensures.number

pub returns-in-Err-clause-ready : goal.returns-in-Err-clause-ready
returns-in-Err-clause-ready c = c.refuse.ensures.ready
