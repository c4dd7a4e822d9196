use Rattle.std.proofs.Common.{◌∷◌, ◌∙◌, sym, refl}
use Rattle.host_journal.specs.Steps.{port_log}
use Rattle.host_journal.specs.Steps.PortStep.{raised, got, no_reply}
use Rattle.host_journal.specs.Steps.Step.{at_port}
use Rattle.host_journal.specs.Jobs.{resume}
use Rattle.stream_host.proofs.Turns.{did_alone, did_at_port, few_got_now, quiet_between, polls_between, has_polled, worked_on, few_raised_now, tells_polled, tells_resumed, tells_same, is_done, did_goes_on, not_both}
use Rattle.stream_host.proofs.host.Host.work.Goals as goal

pub returns-then-is_due-clause-goes_on : goal.returns-then-is_due-clause-goes_on
returns-then-is_due-clause-goes_on g c = λ rest h stands f between.
    let n = c.write.ensures _ h f in
    (n.0, rw n.1.port stands, did_alone _ _ h n.0 (quiet_between h between) (polls_between h between) n.1, n.2 _)

pub returns-then-self-clause-goes_on : goal.returns-then-self-clause-goes_on
returns-then-self-clause-goes_on g c = λ rest h stands f between.
    (h, stands, is_done c.args.self.now h f between (record { bye = c.if-self.true; none = sym c.is_due.ensures.due ∙ c.if-is_due.false }), tells_same c.args.self.now h _ _)

pub count_poll-requires-clause-stands : goal.count_poll-requires-clause-stands
count_poll-requires-clause-stands g c = let r = c.requires.stands in (r.0, r.1, c.in-None.ensures.none r.0 (port_log r.1) r.2, r.3)

pub returns-then-count_poll-clause-goes_on : goal.returns-then-count_poll-clause-goes_on
returns-then-count_poll-clause-goes_on g c = λ rest h stands f between.
    let t = c.count_poll.ensures.resumed c.if-count_poll.true rest h (c.in-None.ensures.none rest (port_log h) stands) f in
    let next = at_port (raised resume t.0) ∷ at_port no_reply ∷ h in (
      next,
      t.1,
      worked_on _ _ _ _ h next refl
          (did_at_port c.args.self.now _ (at_port (raised resume t.0)) (at_port no_reply ∷ h) refl refl t.2 (few_raised_now resume t.0 (at_port no_reply ∷ h) (has_polled h between))),
      tells_resumed c.args.self.now _ resume t.0 h _ _ c.count_poll.ensures.text,
    )

pub write_or_send-requires : goal.write_or_send-requires
write_or_send-requires g c =
    let r = c.requires.stands in
    let n = c.count_poll.ensures.counted c.if-count_poll.false in
    record { stands = (r.0, at_port no_reply ∷ r.1, rw n.0 (c.in-None.ensures.none r.0 (port_log r.1) r.2), n.1 _ r.1 r.3, has_polled r.1 r.4) }

pub returns-else-count_poll-clause-goes_on : goal.returns-else-count_poll-clause-goes_on
returns-else-count_poll-clause-goes_on g c = λ rest h stands f between.
    let counted = c.count_poll.ensures.counted c.if-count_poll.false in
    let n = c.write_or_send.ensures.goes_on rest (at_port no_reply ∷ h) (rw counted.0 (c.in-None.ensures.none rest (port_log h) stands)) (counted.1 _ h f) (has_polled h between) in
    (n.0, n.1, worked_on _ c.args.self.now _ _ h n.0 c.count_poll.ensures.text n.2, tells_polled c.args.self.now _ _ h n.0 _ _ _ _ c.count_poll.ensures.text n.3)

pub take_reply-requires-clause-fits : goal.take_reply-requires-clause-fits
take_reply-requires-clause-fits g c =
    let r = c.requires.stands in
    (_, r.1, r.3, c.in-Some.ensures.lines r.0 (port_log r.1) r.2)

pub returns-in-Some-clause-goes_on : goal.returns-in-Some-clause-goes_on
returns-in-Some-clause-goes_on g c = λ rest h stands f between.
    let r = c.in-Some.reply in
    let lines = c.in-Some.ensures.lines rest (port_log h) stands in (
      at_port (got r) ∷ h,
      c.in-Some.ensures.some rest (port_log h) stands,
      did_at_port c.args.self.now _ (at_port (got r)) h refl refl (c.take_reply.ensures.fits _ h f lines) (few_got_now r h between),
      c.take_reply.ensures.tells h _ _,
    )

pub write-requires : goal.write-requires
write-requires g c = sym c.is_due.ensures.due ∙ c.if-is_due.true

pub returns-then-is_due-clause-done : goal.returns-then-is_due-clause-done
returns-then-is_due-clause-done g c = (λ e. absurd (did_goes_on e), λ rests. absurd (not_both _ rests.none (sym c.is_due.ensures.due ∙ c.if-is_due.true)))

pub returns-then-is_due-clause-still : goal.returns-then-is_due-clause-still
returns-then-is_due-clause-still g c = λ rests. absurd (not_both _ rests.none (sym c.is_due.ensures.due ∙ c.if-is_due.true))

pub returns-then-self-clause-done : goal.returns-then-self-clause-done
returns-then-self-clause-done g c = (λ e. record { bye = c.if-self.true; none = sym c.is_due.ensures.due ∙ c.if-is_due.false }, λ rests. refl)

pub returns-then-self-clause-still : goal.returns-then-self-clause-still
returns-then-self-clause-still g c = λ rests. (refl, refl, refl, refl)

pub take_reply-requires-clause-ready : goal.take_reply-requires-clause-ready
take_reply-requires-clause-ready g c = sym c.is_due.ensures.due ∙ c.if-is_due.false

pub take_reply-requires-clause-going : goal.take_reply-requires-clause-going
take_reply-requires-clause-going g c = c.if-self.false

pub count_poll-requires-clause-going : goal.count_poll-requires-clause-going
count_poll-requires-clause-going g c = c.if-self.false

pub returns-then-count_poll-clause-done : goal.returns-then-count_poll-clause-done
returns-then-count_poll-clause-done g c = (λ e. absurd (did_goes_on e), λ rests. absurd (not_both _ c.if-self.false rests.bye))

pub returns-then-count_poll-clause-still : goal.returns-then-count_poll-clause-still
returns-then-count_poll-clause-still g c = λ rests. absurd (not_both _ c.if-self.false rests.bye)

pub returns-in-Some-clause-done : goal.returns-in-Some-clause-done
returns-in-Some-clause-done g c = (λ e. absurd (did_goes_on e), λ rests. absurd (not_both _ c.if-self.false rests.bye))

pub returns-in-Some-clause-still : goal.returns-in-Some-clause-still
returns-in-Some-clause-still g c = λ rests. absurd (not_both _ c.if-self.false rests.bye)

pub returns-else-count_poll-clause-done : goal.returns-else-count_poll-clause-done
returns-else-count_poll-clause-done g c = (λ e. absurd (c.write_or_send.ensures.going e), λ rests. absurd (not_both _ c.if-self.false rests.bye))

pub returns-else-count_poll-clause-still : goal.returns-else-count_poll-clause-still
returns-else-count_poll-clause-still g c = λ rests. absurd (not_both _ c.if-self.false rests.bye)
