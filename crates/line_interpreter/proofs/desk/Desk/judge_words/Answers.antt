use Rattle.std.proofs.Common.{◌≡◌, refl, sym, ◌∙◌, ap}
use Rattle.gcode_check.specs.Verdicts.{verdict_of}
use Rattle.gcode_check.specs.declared.Accept.{Accept as Accepted}
use Rattle.gcode_check.specs.declared.Verdict.TheVariants.{Accept, Refuse, Limit}
use Rattle.modal_state.specs.declared.Parser.{Parser}
use Rattle.run_rules.specs.declared.State.{State}
use Rattle.run_rules.specs.Outcomes.{refused, limited, executed}
use Rattle.line_interpreter.specs.Desks.{standing}
use Rattle.line_interpreter.proofs.Judging.{by_verdict, work_is}
use Rattle.line_interpreter.proofs.desk.Desk.judge_words.Goals as goal

pub returns-in-Ok-clause-begun : goal.returns-in-Ok-clause-begun
returns-in-Ok-clause-begun c = λ since.
    let d = c.args.self.now in
    let b = standing d since in
    let a : Accepted = record { next = c.take_line.new.p; items = c.take_line.new.items } in (
      executed b a,
      by_verdict b _ (Accept a) (executed b a) (sym c.in-Ok.ensures.accepted) refl,
      record {
        state = refl;
        left = rw c.begin_items.ensures.same (work_is d.number (record { parser = a.next; settings = d.state.settings }) d.state.parser.modal.spindle d.state.parser.modal.flood c.take_line.new.items.items);
        answer = refl;
        settles = rw c.begin_items.ensures.same refl;
      },
    )

pub returns-in-Err-Error-clause-begun : goal.returns-in-Err-Error-clause-begun
returns-in-Err-Error-clause-begun c = λ since.
    let d = c.args.self.now in
    let s = d.state in
    let b = standing d since in
    let code = c.in-Err-Error.code in
    let begun = rw c.in-Err-Error.code-is at (c.refuse.ensures.begun since) in
    let same : record { parser = c.take_line.new.p; settings = s.settings } ≡ s = ap (λ (p : Parser). let next : State = record { parser = p; settings = s.settings } in next) c.in-Err-Error.ensures.same in (
      refused b code.0,
      by_verdict b _ (Refuse code) (refused b code.0) (sym (c.in-Err-Error.ensures.refused ∙ ap verdict_of c.in-Err-Error.field-0-is)) refl,
      record { state = begun.state ∙ same; left = begun.left; answer = begun.answer; settles = begun.settles },
    )

pub returns-in-Err-SoftLimit-clause-begun : goal.returns-in-Err-SoftLimit-clause-begun
returns-in-Err-SoftLimit-clause-begun c = λ since.
    let s = c.args.self.now.state in
    let b = standing c.args.self.now since in
    let begun = c.limit.ensures.begun since in
    let same : record { parser = c.take_line.new.p; settings = s.settings } ≡ s = ap (λ (p : Parser). let next : State = record { parser = p; settings = s.settings } in next) c.in-Err-SoftLimit.ensures.same in (
      limited b,
      by_verdict b _ Limit (limited b) (sym (c.in-Err-SoftLimit.ensures.refused ∙ ap verdict_of c.in-Err-SoftLimit.field-0-is)) refl,
      record { state = begun.state ∙ same; left = begun.left; answer = begun.answer; settles = begun.settles },
    )

pub take_line-requires : goal.take_line-requires
take_line-requires c = record { words = c.requires.words; parser = c.requires.ready.state.parser; settings = c.requires.ready.state.settings }

pub returns-in-Err-Error-clause-number : goal.returns-in-Err-Error-clause-number
returns-in-Err-Error-clause-number c = c.refuse.ensures.number

pub returns-in-Err-Error-clause-ready : goal.returns-in-Err-Error-clause-ready
returns-in-Err-Error-clause-ready c = c.refuse.ensures.ready

pub returns-in-Err-SoftLimit-clause-number : goal.returns-in-Err-SoftLimit-clause-number
returns-in-Err-SoftLimit-clause-number c = c.limit.ensures.number

pub returns-in-Err-SoftLimit-clause-ready : goal.returns-in-Err-SoftLimit-clause-ready
returns-in-Err-SoftLimit-clause-ready c = c.limit.ensures.ready
