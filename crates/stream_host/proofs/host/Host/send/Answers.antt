use Rattle.std.proofs.Common.{sym, ◌∙◌}
use Rattle.stream_host.proofs.Turns.{tells_same, waits_for_banner, waits_on}
use Rattle.stream_host.proofs.host.Host.send.Goals as goal

pub send_no_more-requires : goal.send_no_more-requires
send_no_more-requires g c = record { alarm = c.if-self.true; shown = c.requires.shown; stands = c.requires.stands }

pub returns-then-self-clause-goes_on : goal.returns-then-self-clause-goes_on
returns-then-self-clause-goes_on g c = λ rest h stands f polled.
    let n = c.send_no_more.ensures.goes_on rest h stands f polled in (n.0, n.1, n.2, λ console. n.3 _ console)

pub returns-then-self-clause-going : goal.returns-then-self-clause-going
returns-then-self-clause-going g c = c.send_no_more.ensures.going

pub raise_due-requires : goal.raise_due-requires
raise_due-requires g c = record { due = c.in-Some.is; calm = c.if-self.false; shown = c.requires.shown; stands = c.requires.stands }

pub returns-in-Some-clause-goes_on : goal.returns-in-Some-clause-goes_on
returns-in-Some-clause-goes_on g c = λ rest h stands f polled.
    let n = c.raise_due.ensures.goes_on rest h stands f polled in (n.0, n.1, n.2, λ console. n.3 _ console)

pub returns-in-Some-clause-going : goal.returns-in-Some-clause-going
returns-in-Some-clause-going g c = c.raise_due.ensures.going

pub returns-then-awaits-clause-goes_on : goal.returns-then-awaits-clause-goes_on
returns-then-awaits-clause-goes_on g c = λ rest h stands f polled.
    let s = c.args.self.now in
    (h, stands, waits_for_banner s h f polled c.requires.shown c.in_default.is (sym c.awaits.ensures ∙ c.if-awaits.true), λ console. tells_same s h _ console)

pub returns-then-awaits-clause-going : goal.returns-then-awaits-clause-going
returns-then-awaits-clause-going g c = waits_on

pub send_line-requires : goal.send_line-requires
send_line-requires g c =
    record { none_due = c.in_default.is; calm = c.if-self.false; epoch = sym c.awaits.ensures ∙ c.if-awaits.false; shown = c.requires.shown; stands = c.requires.stands }

pub returns-clause-goes_on : goal.returns-clause-goes_on
returns-clause-goes_on g c = c.send_line.ensures.goes_on

pub returns-clause-going : goal.returns-clause-going
returns-clause-going g c = c.send_line.ensures.going
