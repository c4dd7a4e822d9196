use Rattle.run_audit.proofs.ResetSteps.{reset_passed, reset_refused}
use Rattle.run_audit.proofs.auditor.Auditor.pass_reset.Goals as goal

pub returns-then-reset_unrecorded-clause-stands : goal.returns-then-reset_unrecorded-clause-stands
returns-then-reset_unrecorded-clause-stands c = λ later calm cause resets same lines count last job console steps.
    let e = c.reset_unrecorded.ensures in
    let yes = c.if-reset_unrecorded.true in
    reset_passed c.args.self.now lines c.args.dropped count c.args.alarm c.args.self.now.listening.known resets same calm last c.requires.broken later c.reset_unrecorded.new.self (e.heard yes) (e.greets yes) (e.answered yes) (e.calm yes) (e.quiet yes) (e.short yes) job console steps

pub returns-clause-stands : goal.returns-clause-stands
returns-clause-stands c = λ later calm cause resets same lines count last job console steps.
    let e = c.reset_unrecorded.ensures in
    let no = c.if-reset_unrecorded.false in
    reset_refused c.args.self.now lines c.args.dropped count c.args.alarm c.args.self.now.listening.known resets same calm last c.requires.broken later c.reset_unrecorded.new.self c.bad_behind.result cause (e.no no) (e.unanswered no) (e.halts no) c.bad_behind.ensures.line job console steps
