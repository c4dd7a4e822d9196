use Rattle.std.proofs.Common.{◌∙◌}
use Rattle.link_ports.proofs.Hosting.{byte_raised}
use Rattle.link_ports.proofs.Queries.{may_raise}
use Rattle.link_ports.proofs.host.HostLinkHostPort.raise.Goals as goal

pub raise-requires : goal.raise-requires
raise-requires g c = let q = c.requires in record { few = may_raise c.args.byte q.1 _ q.2.2.raises_are q.3 }

pub returns-clause-raised : goal.returns-clause-raised
returns-clause-raised g c = λ rest h s t.
    let e = c.raise.ensures in
    let r = byte_raised _ _ _ _ _ _ _ _ h c.args.byte s.2 e.raised e.nothing in
    (r.0, (s.0, e.table ∙ s.1, r.1, record { room_looks = s.3.room_looks; reply_looks = s.3.reply_looks; saw = tt }))
