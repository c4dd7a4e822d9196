use Rattle.std.proofs.Common.{rules}
use Rattle.board_machine.proofs.Machining.{over}
use Rattle.board_machine.proofs.machine.Machine.observe.Goals as goal

pub returns-then-not-has_blocks : goal.returns-then-not-has_blocks
returns-then-not-has_blocks g c p now hand given r =
    over c.args.self.now c.drain.new.self p now hand given c.args.done r (search rules) (search rules) (search rules) (search rules) (c.drain.ensures.runs p now hand given r)
