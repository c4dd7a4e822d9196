use Rattle.host_journal.specs.Steps.{port_log}
use Rattle.stream_host.proofs.Hosting.{takes_mark, may_mark, marked_next}
use Rattle.stream_host.proofs.host.Host.mark.Goals as goal

pub mark-requires : goal.mark-requires
mark-requires g c = let r = c.requires.stands in (r.0, port_log r.1, r.2, takes_mark c.args.self.now r.1 r.3)

pub returns-clause-marked : goal.returns-clause-marked
returns-clause-marked g c = λ rest h stands f.
    let s = c.args.self.now in
    (c.mark.ensures rest (port_log h) stands (takes_mark s h f), marked_next s h f (may_mark s h f c.requires.calm c.requires.due c.requires.fresh))
