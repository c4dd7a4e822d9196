use Rattle.run_audit.proofs.ReadOn.{read_on_way}
use Rattle.std.specs.Prelude.{None}
use Rattle.run_audit.specs.declared.auditor.Auditor.{Auditor}
use Rattle.run_audit.proofs.Under.{reads_on, goes_then}
use Rattle.run_audit.proofs.auditor.Auditor.begin_next.Goals as goal

pub returns-in-Ok-clause-goes_on : goal.returns-in-Ok-clause-goes_on
returns-in-Ok-clause-goes_on g c = λ console steps.
    let a = c.args.self.now in
    let b : Auditor = record a { sending = c.look.new.self } in
    let before = g.J.Source.state c.args.job.now in
    let after = g.J.Source.state c.look.new.source in
    goes_then a b c.begin_unanswered.new.self before console steps after console steps after console steps None
    (reads_on a b before console steps after console steps c.in-Ok.ensures.so_far (λ t told h. h) (λ t told h. h) (λ none. (none, λ f ss rs xs h. h)))
    (c.begin_unanswered.ensures.so_far after console steps)

pub returns-in-Ok-clause-stands : goal.returns-in-Ok-clause-stands
returns-in-Ok-clause-stands g c = λ next later may calm resets console steps jt ct st short u looks n done.
    let after = g.J.Source.state c.look.new.source in
    let v = read_on_way u later.done calm c.look.new.self after (c.in-Ok.ensures.so_far jt u.sent u.are_read.job_so_far) c.in-Ok.ensures.last in
    c.begin_unanswered.ensures.stands next later may calm resets c.in-Ok.ensures.over after console steps jt ct st short v looks n done
