use Rattle.std.proofs.Common.{◌∷◌, refl, sym, ◌∙◌}
use Rattle.host_journal.specs.Steps.PortStep.{shut}
use Rattle.host_journal.specs.Steps.Step.{at_port}
use Rattle.stream_host.proofs.Hosting.{may_shut_at_alarm}
use Rattle.stream_host.proofs.Turns.{did_at_port, few_shut_now, tells_shut, tells_same, waits_at_alarm, shut_already, shut_later, did_goes_on, waits_on}
use Rattle.stream_host.proofs.host.Host.send_no_more.Goals as goal

pub returns-then-self-clause-goes_on : goal.returns-then-self-clause-goes_on
returns-then-self-clause-goes_on g c = λ rest h stands f polled.
    let s = c.args.self.now in
    (h, stands, waits_at_alarm s h f polled c.requires.shown c.requires.alarm (shut_already s h f c.if-self.true), λ job console. tells_same s h job console)

pub returns-then-awaits-clause-goes_on : goal.returns-then-awaits-clause-goes_on
returns-then-awaits-clause-goes_on g c = λ rest h stands f polled.
    let s = c.args.self.now in
    (h, stands, waits_at_alarm s h f polled c.requires.shown c.requires.alarm (shut_later s h f (sym c.awaits.ensures ∙ c.if-awaits.true)), λ job console. tells_same s h job console)

pub close-requires-clause-may : goal.close-requires-clause-may
close-requires-clause-may g c = λ room h f. may_shut_at_alarm c.args.self.now h f c.if-self.false (sym c.awaits.ensures ∙ c.if-awaits.false) c.requires.alarm

pub returns-clause-goes_on : goal.returns-clause-goes_on
returns-clause-goes_on g c = λ rest h stands f polled.
    let t = c.close.ensures.closed rest h stands f in (
      at_port shut ∷ h,
      t.0,
      did_at_port c.args.self.now _ (at_port shut) h refl refl t.1 (few_shut_now h polled),
      λ job console. tells_shut c.args.self.now _ h job console c.close.ensures.text,
    )

pub returns-then-self-clause-going : goal.returns-then-self-clause-going
returns-then-self-clause-going g c = waits_on

pub returns-then-awaits-clause-going : goal.returns-then-awaits-clause-going
returns-then-awaits-clause-going g c = waits_on

pub returns-clause-going : goal.returns-clause-going
returns-clause-going g c = did_goes_on

pub close-requires-clause-going : goal.close-requires-clause-going
close-requires-clause-going g c = c.if-self.false

pub close-requires-clause-stands : goal.close-requires-clause-stands
close-requires-clause-stands g c = let r = c.requires.stands in (r.0, r.1, r.2, r.3)
