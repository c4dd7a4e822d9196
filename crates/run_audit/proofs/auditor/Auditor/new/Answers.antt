use Rattle.std.proofs.Common.{refl}
use Rattle.run_audit.proofs.auditor.Auditor.new.Goals as goal

pub returns-clause-opens : goal.returns-clause-opens
returns-clause-opens c = λ job console steps jt ct st known told so_far.
    let s = c.new.ensures.opens in
    record {
      first = s.0;
      opens = s.1;
      job_so_far = c.new-2.ensures.opens job jt known;
      console_opens = c.new-3.ensures.opens console ct told;
      steps_so_far = so_far;
      judged = s.2;
      begins = c.new.ensures.begins;
      kept = c.new.ensures.kept;
      counts = refl;
      answered = refl;
      calm = c.new-2.ensures.last;
    }
