use Rattle.std.proofs.Common.{rules}
use Rattle.thread_rig.proofs.rig.run_link.Goals as goal

pub returns-clause-board : goal.returns-clause-board
returns-clause-board g c = let told = c.join_mut.ensures.1.met.1 c.args.board.now c.begin_board.ensures.runs in search rules
