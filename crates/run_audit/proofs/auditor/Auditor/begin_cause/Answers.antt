use Rattle.std.proofs.Common.{None, inl, inr}
use Rattle.run_audit.specs.declared.auditor.Auditor.{Auditor}
use Rattle.audit_texts.proofs.JobTold.{next_sent}
use Rattle.run_audit.proofs.LineNone.{bad_found as bad_found_so}
use Rattle.run_audit.proofs.LineWaits.{no_line_next}
use Rattle.run_audit.proofs.ReadOn.{read_on_way}
use Rattle.run_audit.proofs.Under.{bad_found, can_read, goes_then, reads_on}
use Rattle.run_audit.proofs.auditor.Auditor.begin_cause.Goals as goal

pub returns-in-Ok-Line-clause-goes_on : goal.returns-in-Ok-Line-clause-goes_on
returns-in-Ok-Line-clause-goes_on g c = λ console steps.
    let a = c.args.self.now in
    let b : Auditor = record a { sending = c.look.new.self } in
    let before = g.J.Source.state c.args.job.now in
    let after = g.J.Source.state c.look.new.source in
    goes_then a b c.break_line.new.self before console steps after console steps after console steps None
    (reads_on a b before console steps after console steps c.in-Ok-Line.ensures.so_far (λ t told h. h) (λ t told h. h) (λ none. (none, λ f ss rs xs h. h)))
    (c.break_line.ensures.so_far after console steps)

pub returns-in-Ok-Stop-clause-goes_on : goal.returns-in-Ok-Stop-clause-goes_on
returns-in-Ok-Stop-clause-goes_on g c = λ console steps.
    let a = c.args.self.now in
    let b : Auditor = record a { sending = c.look.new.self } in
    let before = g.J.Source.state c.args.job.now in
    let after = g.J.Source.state c.look.new.source in
    bad_found a b before console steps after console steps c.bad_behind.result c.bad_behind.ensures.bad
    (λ jt ct st u. can_read b after console steps jt ct st (reads_on a b before console steps after console steps c.in-Ok-Stop.ensures.so_far (λ t told h. h) (λ t told h. h) (λ none. (none, λ f ss rs xs h. h)) jt ct st u))

pub returns-in-Ok-Nothing-clause-goes_on : goal.returns-in-Ok-Nothing-clause-goes_on
returns-in-Ok-Nothing-clause-goes_on g c = λ console steps.
    let a = c.args.self.now in
    let b : Auditor = record a { sending = c.look.new.self } in
    let before = g.J.Source.state c.args.job.now in
    let after = g.J.Source.state c.look.new.source in
    bad_found a b before console steps after console steps c.bad_behind-in-Ok-Nothing.result c.bad_behind-in-Ok-Nothing.ensures.bad
    (λ jt ct st u. can_read b after console steps jt ct st (reads_on a b before console steps after console steps c.in-Ok-Nothing.ensures.so_far (λ t told h. h) (λ t told h. h) (λ none. (none, λ f ss rs xs h. h)) jt ct st u))

pub returns-in-Ok-Line-clause-stands : goal.returns-in-Ok-Line-clause-stands
returns-in-Ok-Line-clause-stands g c = λ later calm answered still alarm resets console steps jt ct st short u looks n done.
    let after = g.J.Source.state c.look.new.source in
    let v = read_on_way u later.done calm c.look.new.self after (c.in-Ok-Line.ensures.so_far jt u.sent u.are_read.job_so_far) c.in-Ok-Line.ensures.last in
    c.break_line.ensures.stands None later tt (λ e. answered) calm resets after console steps jt ct st short v looks n done

pub returns-in-Ok-Stop-clause-stands : goal.returns-in-Ok-Stop-clause-stands
returns-in-Ok-Stop-clause-stands g c = λ later calm answered still alarm resets console steps jt ct st short u looks n done.
    let look = c.in-Ok-Stop in
    let q = c.look.new.self in
    let after = g.J.Source.state c.look.new.source in
    let read = look.ensures.so_far jt u.sent u.are_read.job_so_far in
    let v = read_on_way u later.done calm q after read look.ensures.last in
    bad_found_so v short later looks.0 calm answered still c.args.self.now.listening.known resets alarm looks.1
    (λ left whole. no_line_next look.field-0 q left (inl look.field-0-is) (next_sent q look.field-0 after jt u.sent left v.calm read whole look.ensures.item look.ensures.over))
    c.bad_behind.result c.bad_behind.ensures.line

pub returns-in-Ok-Nothing-clause-stands : goal.returns-in-Ok-Nothing-clause-stands
returns-in-Ok-Nothing-clause-stands g c = λ later calm answered still alarm resets console steps jt ct st short u looks n done.
    let look = c.in-Ok-Nothing in
    let q = c.look.new.self in
    let after = g.J.Source.state c.look.new.source in
    let read = look.ensures.so_far jt u.sent u.are_read.job_so_far in
    let v = read_on_way u later.done calm q after read look.ensures.last in
    bad_found_so v short later looks.0 calm answered still c.args.self.now.listening.known resets alarm looks.1
    (λ left whole. no_line_next look.field-0 q left (inr look.field-0-is) (next_sent q look.field-0 after jt u.sent left v.calm read whole look.ensures.item look.ensures.over))
    c.bad_behind-in-Ok-Nothing.result c.bad_behind-in-Ok-Nothing.ensures.line
