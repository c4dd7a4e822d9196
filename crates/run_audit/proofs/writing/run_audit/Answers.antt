use Rattle.std.proofs.Common.{◌≢◌, not, is_ok, length, refl, rules}
use Rattle.audit_rules.specs.declared.Audit.TheVariants.{Usage, OutFault}
use Rattle.run_audit.proofs.Printed.{some_printed, all_printed}
use Rattle.run_audit.proofs.Telling.{none_right}
use Rattle.run_audit.proofs.writing.run_audit.Goals as goal

pub returns-then-words-ne3-clause-answered : goal.returns-then-words-ne3-clause-answered
returns-then-words-ne3-clause-answered g c =
    let before = g.O.Sink.state c.args.out.now in
    let now = g.O.Sink.state c.tell.new.out in
    let other : length c.args.words.now ≢ 3 = search rules in
    record {
      usage = (λ e. other, λ n. refl);
      job_fault = λ e. absurd cc;
      console_fault = λ e. absurd cc;
      steps_fault = λ e. absurd cc;
      out_fault = λ e. absurd cc;
      printed = λ calm. all_printed before now (not (is_ok c.tell.result)) Usage c.tell.ensures calm;
      front = some_printed before now (not (is_ok c.tell.result)) Usage c.tell.ensures;
    }

pub returns-then-words-ne3-clause-right : goal.returns-then-words-ne3-clause-right
returns-then-words-ne3-clause-right g c = none_right (g.J.Source.state c.args.job.now).left (g.C.Source.state c.args.console.now).left (g.S.Source.state c.args.steps.now).left Usage refl

pub returns-in-Err-clause-right : goal.returns-in-Err-clause-right
returns-in-Err-clause-right g c = none_right (g.J.Source.state c.args.job.now).left (g.C.Source.state c.args.console.now).left (g.S.Source.state c.args.steps.now).left OutFault refl
