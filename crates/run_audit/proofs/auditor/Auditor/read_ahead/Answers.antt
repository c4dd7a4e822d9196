use Rattle.run_audit.specs.declared.auditor.Auditor.{Auditor}
use Rattle.run_audit.proofs.Under.{reads_on}
use Rattle.run_audit.proofs.auditor.Auditor.read_ahead.Goals as goal

pub returns-in-Ok-clause-ahead : goal.returns-in-Ok-clause-ahead
returns-in-Ok-clause-ahead g c = λ console steps.
    let a = c.args.self.now in
    let b : Auditor = record a { sending = c.halt.new.self } in
    reads_on a b (g.J.Source.state c.args.job.now) console steps (g.J.Source.state c.halt.new.source) console steps c.in-Ok.ensures.so_far (λ t told h. h) (λ t told h. h) (λ none. (none, λ f ss rs xs h. h))
