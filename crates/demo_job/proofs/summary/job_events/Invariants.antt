use Rattle.std.proofs.Common.{◌≡◌, ◌*◌, ◌≤◌}
use Rattle.demo_job.specs.Jobs.{job_events}
use Rattle.demo_job.proofs.summary.job_events.Given as goal

abbrev pub invariant-loop-i : goal.invariant-loop-i
invariant-loop-i l = record {
  total : l.total ≡ job_events l.i;
  few : l.total ≤ 1225 * l.i;
}
