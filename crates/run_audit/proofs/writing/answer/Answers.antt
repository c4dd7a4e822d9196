use Rattle.std.proofs.Common.{refl}
use Rattle.audit_rules.specs.declared.Audit.TheVariants.{JobFault, ConsoleFault, StepsFault}
use Rattle.run_audit.proofs.Telling.{none_right, all_right}
use Rattle.run_audit.proofs.writing.answer.Goals as goal

pub returns-in-Ok-clause-right : goal.returns-in-Ok-clause-right
returns-in-Ok-clause-right g c =
    all_right (g.J.Source.state c.args.job.now).left (g.C.Source.state c.args.console.now).left (g.S.Source.state c.args.steps.now).left c.answer_of.result
    (λ j k s e f h. c.answer_of.ensures.right j k s (c.in-Ok.ensures.right j k s e f h) (c.in-Ok.ensures.finds j k s e f h))

pub returns-in-Err-Job-clause-right : goal.returns-in-Err-Job-clause-right
returns-in-Err-Job-clause-right g c = none_right (g.J.Source.state c.args.job.now).left (g.C.Source.state c.args.console.now).left (g.S.Source.state c.args.steps.now).left JobFault refl

pub returns-in-Err-Console-clause-right : goal.returns-in-Err-Console-clause-right
returns-in-Err-Console-clause-right g c = none_right (g.J.Source.state c.args.job.now).left (g.C.Source.state c.args.console.now).left (g.S.Source.state c.args.steps.now).left ConsoleFault refl

pub returns-in-Err-Steps-clause-right : goal.returns-in-Err-Steps-clause-right
returns-in-Err-Steps-clause-right g c = none_right (g.J.Source.state c.args.job.now).left (g.C.Source.state c.args.console.now).left (g.S.Source.state c.args.steps.now).left StepsFault refl
