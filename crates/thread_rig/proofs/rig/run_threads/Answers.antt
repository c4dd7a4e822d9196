use Rattle.std.proofs.Common.{rules}
use Rattle.thread_rig.proofs.rig.run_threads.Goals as goal

pub returns-clause-ran : goal.returns-clause-ran
returns-clause-ran g c = record { host = search rules; board = search rules; pulse = search rules; recorder = search rules; tells = c.end.ensures }
