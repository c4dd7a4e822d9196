use Rattle.std.proofs.Common.{◌+◌, ap}
use Rattle.audit_readers.specs.declared.holds.Holds.{Holds}
use Rattle.audit_readers.proofs.Holding.{one_comes}
use Rattle.audit_readers.proofs.holds.Holds.feed.Goals as goal

pub returns-clause-come : goal.returns-clause-come
returns-clause-come c =
    let old = c.args.self.now in
    let now : Holds = record { stripper = c.feed.new.self; count = old.count + c.holds_in.result } in
    one_comes old now c.args.byte c.feed.result c.feed.ensures (ap (◌+◌ old.count) c.holds_in.ensures.counted)
