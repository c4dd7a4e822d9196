use Rattle.std.proofs.Common.{◌∙◌}
use Rattle.line_interpreter.proofs.desk.Desk.judge.Goals as goal

pub returns-clause-begun : goal.returns-clause-begun
returns-clause-begun c = λ since kept is.
    let begun = c.judge_line-accepted.ensures.begun since kept is in
    (begun.0, begun.1, record { state = begun.2.state; left = c.settle.ensures.left _ ∙ begun.2.left; answer = begun.2.answer; settles = c.settle.ensures.settles ∙ begun.2.settles })
