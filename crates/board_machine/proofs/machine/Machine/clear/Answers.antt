use Rattle.std.proofs.Common.{ap}
use Rattle.plan_rules.specs.Plans.{Planned}
use Rattle.board_machine.proofs.Machining.{cleared_runs}
use Rattle.board_machine.proofs.machine.Machine.clear.Goals as goal

pub returns : goal.returns
returns g c p now hand given r =
    let m = c.args.self.now in
    cleared_runs m (record m { plan = c.clear.new.self }) p now hand given (ap (λ (q : Planned). record m { plan = q }) c.clear.ensures) r
