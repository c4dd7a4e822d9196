use Rattle.std.proofs.Common.{refl, sym, ap, ◌∙◌, Ok, Err}
use Rattle.gcode_words.specs.Words.{words_of}
use Rattle.run_rules.specs.Outcomes.{refused, fault_number}
use Rattle.line_interpreter.specs.Desks.{standing}
use Rattle.line_interpreter.proofs.Judging.{by_jog}
use Rattle.line_interpreter.proofs.desk.Desk.judge_jog.Goals as goal

pub returns-in-Ok-clause-begun : goal.returns-in-Ok-clause-begun
returns-in-Ok-clause-begun c = λ since.
    let b = standing c.args.self.now since in
    let is = c.judge_jog_words.ensures.begun since in (
      is.0,
      by_jog b _ (Ok c.read_words.new.words.items) is.0 (sym c.in-Ok.ensures.ok ∙ ap words_of c.jog_words.ensures) is.1,
      record { state = is.2.state; left = is.2.left; answer = is.2.answer; settles = is.2.settles },
    )

pub returns-in-Err-clause-begun : goal.returns-in-Err-clause-begun
returns-in-Err-clause-begun c = λ since.
    let b = standing c.args.self.now since in
    let begun = rw c.fault_code.ensures at (c.refuse.ensures.begun since) in (
      refused b (fault_number c.in-Err.fault),
      by_jog b _ (Err c.in-Err.fault) (refused b (fault_number c.in-Err.fault)) (sym c.in-Err.ensures.err ∙ ap words_of c.jog_words.ensures) refl,
      record { state = begun.state; left = begun.left; answer = begun.answer; settles = begun.settles },
    )

pub returns-in-Ok-clause-number : goal.returns-in-Ok-clause-number
returns-in-Ok-clause-number c = c.judge_jog_words.ensures.number

pub returns-in-Ok-clause-ready : goal.returns-in-Ok-clause-ready
returns-in-Ok-clause-ready c = c.judge_jog_words.ensures.ready

pub returns-in-Err-clause-number : goal.returns-in-Err-clause-number
returns-in-Err-clause-number c = c.refuse.ensures.number

pub returns-in-Err-clause-ready : goal.returns-in-Err-clause-ready
returns-in-Err-clause-ready c = c.refuse.ensures.ready
