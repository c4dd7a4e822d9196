use Rattle.std.proofs.Common.{◌≡◌, ◌%◌, ◌^◌, rules, arith}
use Rattle.serial_ring.proofs.BoardSteps.{sees_head}
use Rattle.serial_ring.proofs.Turned.{head_shown}
use Rattle.serial_ring.proofs.ends.BoardEnd.look.Goals as goal

pub load-head-requires : goal.load-head-requires
load-head-requires g c = (search rules, search rules, sees_head _ _ _ _ _ c.args.self.now.mine.0)

pub returns-clause-marked : goal.returns-clause-marked
returns-clause-marked g c = λ n past. let saw = c.load-head.ensures.2 in
    let shown : c.load-head.new.seat.me.0.head ≡ c.load-head.result % 2 ^ 63 = head_shown c.args.self.now.seat.me c.load-head.new.seat.me _ _ saw.4 saw.5 in
    let more = saw.6 n past in omega arith
