use Rattle.std.proofs.Common.{◌∙◌, ap, sym}
use Rattle.audit_texts.specs.declared.sending.Sending.{Sending}
use Rattle.run_audit.specs.Finding.{has_told_alarm}
use Rattle.run_audit.proofs.FoundTop.{found_on}
use Rattle.run_audit.proofs.auditor.Auditor.read_all.Goals as goal

pub returns-clause-right : goal.returns-clause-right
returns-clause-right g c = λ jt ct st r right.
    let job = g.J.Source.state c.read_job.new.job in
    let console = g.C.Source.state c.read_texts.new.console in
    let steps = g.S.Source.state c.read_texts.new.steps in
    let texts = c.in_ok-read_texts.ensures in
    c.said.ensures.right job console steps jt ct st (texts.read_on job jt ct st (c.in_ok-read_job.ensures.read_on (g.C.Source.state c.args.console.now) (g.S.Source.state c.args.steps.now) jt ct st r)) texts.read.0 texts.read.1 texts.over.0 texts.over.1 right

pub returns-clause-finds : goal.returns-clause-finds
returns-clause-finds g c = λ jt ct st r is.
    let job = g.J.Source.state c.read_job.new.job in
    let console = g.C.Source.state c.read_texts.new.console in
    let steps = g.S.Source.state c.read_texts.new.steps in
    let first = c.in_ok-read_job.ensures in
    let texts = c.in_ok-read_texts.ensures in
    let course = texts.course ∙ first.others.course in
    c.said.ensures.finds job console steps jt ct st (texts.read_on job jt ct st (first.read_on (g.C.Source.state c.args.console.now) (g.S.Source.state c.args.steps.now) jt ct st r)) texts.read.0 texts.read.1 texts.over.0 texts.over.1
    (λ none. ap (λ (s : Sending). s.over) texts.sending ∙ first.ended (g.C.Source.state c.args.console.now) (g.S.Source.state c.args.steps.now) jt ct st r (ap has_told_alarm (sym course) ∙ none))
    (λ short. found_on c.args.self.now c.read_texts.new.self jt ct st c.args.found course (λ told. texts.sending ∙ first.told told) (λ over none. texts.sending ∙ first.over over none) (ap (λ (s : Sending). s.last) texts.sending ∙ first.last) (is short))
