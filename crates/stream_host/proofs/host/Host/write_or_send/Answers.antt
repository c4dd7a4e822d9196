use Rattle.stream_host.proofs.Turns.{did_alone, asked_now, worked_asked, tells_asked, did_goes_on}
use Rattle.stream_host.proofs.host.Host.write_or_send.Goals as goal

pub returns-then-shows-clause-goes_on : goal.returns-then-shows-clause-goes_on
returns-then-shows-clause-goes_on g c = λ rest h stands f polled.
    let s = c.args.self.now in
    let n = c.write.ensures _ h (asked_now s _ h c.ask.ensures f) in
    (n.0, rw n.1.port stands, worked_asked _ s _ _ h n.0 c.ask.ensures (did_alone _ _ h n.0 polled.quiet polled.once n.1), tells_asked s _ _ h n.0 _ _ _ _ c.ask.ensures (n.2 _))

pub returns-clause-goes_on : goal.returns-clause-goes_on
returns-clause-goes_on g c = λ rest h stands f polled.
    let s = c.args.self.now in
    let n = c.send.ensures.goes_on rest h stands (asked_now s _ h c.ask.ensures f) polled in
    (n.0, n.1, worked_asked _ s _ _ h n.0 c.ask.ensures n.2, tells_asked s _ _ h n.0 _ _ _ _ c.ask.ensures (n.3 _))

pub returns-then-shows-clause-going : goal.returns-then-shows-clause-going
returns-then-shows-clause-going g c = did_goes_on

pub returns-clause-going : goal.returns-clause-going
returns-clause-going g c = c.send.ensures.going

pub send-requires-clause-stands : goal.send-requires-clause-stands
send-requires-clause-stands g c = let r = c.requires.stands in (r.0, r.1, r.2, asked_now c.args.self.now _ r.1 c.ask.ensures r.3, r.4)
