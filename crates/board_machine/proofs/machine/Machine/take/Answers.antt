use Rattle.board_machine.proofs.Machining.{taken}
use Rattle.board_machine.proofs.machine.Machine.take.Goals as goal

pub returns : goal.returns
returns g c p now given r =
    let s = c.in-Some.segment in let t = taken c.args.self.now s _ _ p now given c.mode-mode.ensures c.in-Some.ensures.segment c.in-Some.ensures.advanced r in (s, t.0, t.1)
