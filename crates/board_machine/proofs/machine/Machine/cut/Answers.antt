use Rattle.std.proofs.Common.{[], ap}
use Rattle.plan_rules.specs.Plans.{Planned}
use Rattle.planner_runs.specs.Runs.{cleared}
use Rattle.board_machine.proofs.Machining.{cleared_runs}
use Rattle.board_machine.proofs.machine.Machine.cut.Goals as goal

pub returns : goal.returns
returns g c p now given r =
    let m = c.args.self.now in
    c.put_mark.ensures (cleared p) now given (cleared_runs m (record m { plan = c.clear.new.self }) p now [] given (ap (λ (q : Planned). record m { plan = q }) c.clear.ensures) r)
