use Rattle.std.proofs.Common.{sym, subst}
use Rattle.audit_texts.specs.Reading.{KnowsSteps}
use Rattle.audit_texts.specs.declared.recorded.Recorded.{Recorded}
use Rattle.run_audit.proofs.Under.{goes_on_by}
use Rattle.run_audit.proofs.writing.audit.Goals as goal

pub run-requires : goal.run-requires
run-requires g c = record {
  known = record {
    job_known = c.new.ensures.job (g.J.Source.state c.args.job.now);
    console_known = c.new.ensures.console (g.C.Source.state c.args.console.now);
    steps_known = subst (λ (r : Recorded). KnowsSteps r.reader (g.S.Source.state c.open.new.source)) (sym c.new.ensures.steps) c.in-Ok.ensures.known.0;
  };
}

pub returns-in-Ok-clause-right : goal.returns-in-Ok-clause-right
returns-in-Ok-clause-right g c =
    let job = g.J.Source.state c.args.job.now in
    let console = g.C.Source.state c.args.console.now in
    let steps = g.S.Source.state c.open.new.source in
    goes_on_by c.run.result (λ found f jt ct st j k s. f jt ct st (c.new.ensures.opens job console steps jt ct st j k (c.in-Ok.ensures.opens st s))) c.run.ensures.right

pub returns-in-Ok-clause-finds : goal.returns-in-Ok-clause-finds
returns-in-Ok-clause-finds g c =
    let job = g.J.Source.state c.args.job.now in
    let console = g.C.Source.state c.args.console.now in
    let steps = g.S.Source.state c.open.new.source in
    goes_on_by c.run.result (λ found f jt ct st j k s. f jt ct st (c.new.ensures.opens job console steps jt ct st j k (c.in-Ok.ensures.opens st s))) c.run.ensures.finds
