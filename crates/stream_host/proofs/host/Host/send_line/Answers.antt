use Rattle.std.proofs.Common.{◌∷◌, refl, arith}
use Rattle.stream_host.specs.Conduct.{IsSettled}
use Rattle.host_journal.specs.Steps.PortStep.{stored, shut}
use Rattle.host_journal.specs.Steps.Step.{at_port}
use Rattle.stream_host.proofs.Turns.{did_alone, did_at_port, few_stored_now, few_shut_now, tells_stored, tells_shut, tells_same, waits_held_back, waits_shut, did_goes_on, waits_on, not_both}
use Rattle.stream_host.proofs.Settling.{waits_unsettled}
use Rattle.stream_host.proofs.Hosting.{may_shut}
use Rattle.stream_host.proofs.host.Host.send_line.Goals as goal

pub returns-then-is_held_back-clause-goes_on : goal.returns-then-is_held_back-clause-goes_on
returns-then-is_held_back-clause-goes_on g c = λ rest h stands f polled.
    (h, stands, waits_held_back c.args.self.now h f c.requires.calm polled c.requires.shown c.requires.none_due c.if-self.true (λ free. not_both _ ((c.is_held_back.ensures _ h f).1 free) c.if-is_held_back.true), λ console. tells_same c.args.self.now h _ console)

pub returns-then-self-clause-goes_on : goal.returns-then-self-clause-goes_on
returns-then-self-clause-goes_on g c = λ rest h stands f polled.
    let t = c.store.ensures.stored rest h stands f in (
      at_port (stored t.0) ∷ h,
      t.1,
      did_at_port c.args.self.now _ (at_port (stored t.0)) h refl refl t.2 (few_stored_now t.0 h polled),
      λ console. tells_stored c.args.self.now _ t.0 h _ console c.store.ensures.text,
    )

pub returns-then-self-2-clause-goes_on : goal.returns-then-self-2-clause-goes_on
returns-then-self-2-clause-goes_on g c = λ rest h stands f polled.
    (h, stands, waits_shut c.args.self.now h f polled c.requires.shown c.requires.none_due c.if-self.false c.if-self-2.true, λ console. tells_same c.args.self.now h _ console)

pub returns-then-may_scan-clause-goes_on : goal.returns-then-may_scan-clause-goes_on
returns-then-may_scan-clause-goes_on g c = λ rest h stands f polled.
    let n = c.scan.ensures _ h f in (n.0, rw n.1.port stands, did_alone c.args.self.now _ h n.0 polled.quiet polled.once n.1, λ console. n.2 _ console)

pub returns-then-not-is_settled-clause-goes_on : goal.returns-then-not-is_settled-clause-goes_on
returns-then-not-is_settled-clause-goes_on g c = λ rest h stands f polled.
    let busy : IsSettled h → ⊥ = (λ settled. not_both _ c.if-not-is_settled.true ((c.is_settled.ensures _ h f).1 settled)) in
    (h, stands, waits_unsettled c.args.self.now h f c.requires.calm polled c.requires.shown (c.may_read.ensures.may c.if-may_read.true) busy, λ console. tells_same c.args.self.now h _ console)

pub returns-then-may_read-clause-goes_on : goal.returns-then-may_read-clause-goes_on
returns-then-may_read-clause-goes_on g c = λ rest h stands f polled.
    let n = c.read.ensures _ h f in (n.0, rw n.1.port stands, did_alone c.args.self.now _ h n.0 polled.quiet polled.once n.1, λ console. n.2 console)

pub close-requires-clause-may : goal.close-requires-clause-may
close-requires-clause-may g c = λ room h f.
    may_shut c.args.self.now h f c.if-self.false c.if-self-2.false c.requires.epoch c.requires.none_due (c.may_scan.ensures.may_not c.if-may_scan.false) (c.may_read.ensures.may_not c.if-may_read.false)

pub returns-clause-goes_on : goal.returns-clause-goes_on
returns-clause-goes_on g c = λ rest h stands f polled.
    let t = c.close.ensures.closed rest h stands f in (
      at_port shut ∷ h,
      t.0,
      did_at_port c.args.self.now _ (at_port shut) h refl refl t.1 (few_shut_now h polled),
      λ console. tells_shut c.args.self.now _ h _ console c.close.ensures.text,
    )

pub returns-then-is_held_back-clause-going : goal.returns-then-is_held_back-clause-going
returns-then-is_held_back-clause-going g c = waits_on

pub returns-then-self-clause-going : goal.returns-then-self-clause-going
returns-then-self-clause-going g c = did_goes_on

pub returns-then-self-2-clause-going : goal.returns-then-self-2-clause-going
returns-then-self-2-clause-going g c = waits_on

pub returns-then-may_scan-clause-going : goal.returns-then-may_scan-clause-going
returns-then-may_scan-clause-going g c = did_goes_on

pub returns-then-not-is_settled-clause-going : goal.returns-then-not-is_settled-clause-going
returns-then-not-is_settled-clause-going g c = waits_on

pub returns-then-may_read-clause-going : goal.returns-then-may_read-clause-going
returns-then-may_read-clause-going g c = did_goes_on

pub returns-clause-going : goal.returns-clause-going
returns-clause-going g c = did_goes_on

pub store-requires-clause-storing : goal.store-requires-clause-storing
store-requires-clause-storing g c = c.if-self.true

pub store-requires-clause-calm : goal.store-requires-clause-calm
store-requires-clause-calm g c = c.requires.calm

pub store-requires-clause-room : goal.store-requires-clause-room
store-requires-clause-room g c = let r = c.requires.stands in let e = r.3.room_is in let few = ((c.is_held_back.ensures _ r.1 r.3).0 c.if-is_held_back.false).1 in omega arith

pub store-requires-clause-stands : goal.store-requires-clause-stands
store-requires-clause-stands g c = let r = c.requires.stands in (r.0, r.1, r.2, r.3)

pub scan-requires : goal.scan-requires
scan-requires g c = let r = c.requires.stands in record { may = c.may_scan.ensures.may c.if-may_scan.true; going = c.if-self-2.false; calm = c.requires.calm; epoch = c.requires.epoch; fits = (_, r.1, r.3) }

pub read-requires : goal.read-requires
read-requires g c =
    let r = c.requires.stands in
    record {
      may = c.may_read.ensures.may c.if-may_read.true;
      shown = c.requires.shown;
      going = c.if-self-2.false;
      calm = c.requires.calm;
      epoch = c.requires.epoch;
      settled = λ room h f. (c.is_settled.ensures room h f).0 c.if-not-is_settled.false;
      fits = (_, r.1, r.3);
    }

pub close-requires-clause-going : goal.close-requires-clause-going
close-requires-clause-going g c = c.if-self-2.false

pub close-requires-clause-stands : goal.close-requires-clause-stands
close-requires-clause-stands g c = let r = c.requires.stands in (r.0, r.1, r.2, r.3)

pub store-requires-clause-epoch : goal.store-requires-clause-epoch
store-requires-clause-epoch g c = c.requires.epoch
