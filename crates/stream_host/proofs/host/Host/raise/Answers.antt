use Rattle.host_journal.specs.Steps.{port_log}
use Rattle.stream_host.proofs.Hosting.{takes_raise, few_raised, few_live, raised_byte}
use Rattle.stream_host.proofs.host.Host.raise.Goals as goal

pub raise-requires : goal.raise-requires
raise-requires g c = let r = c.requires.stands in (r.0, port_log r.1, r.2, takes_raise g.P.HostPort.room c.args.byte r.1 r.3.conducted)

pub returns-clause-raised : goal.returns-clause-raised
returns-clause-raised g c = λ rest h stands f.
    let t = c.raise.ensures.raised rest (port_log h) stands (takes_raise g.P.HostPort.room c.args.byte h f.conducted) in
    (t.0, t.1, rw c.raise-2.ensures (raised_byte c.args.self.now c.args.byte t.0 _ _ _ _ h f c.requires.calm c.requires.due (c.requires.after _ h f) c.raised-self.ensures c.is_held_after-self.ensures c.resumed_after-self.ensures c.pause_after-self.ensures c.requires.behind_mark))

pub raise-requires-2 : goal.raise-requires-2
raise-requires-2 g c = let r = c.requires.stands in record { few = few_raised c.args.self.now r.1 r.3 }

pub resumed_after-self-requires : goal.resumed_after-self-requires
resumed_after-self-requires g c = let r = c.requires.stands in few_live c.args.self.now r.1 r.3
