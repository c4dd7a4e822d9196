use Rattle.std.proofs.Common.{◌≡◌, ◌∷◌, inl, inr, refl, sym, ◌∙◌, arith}
use Rattle.host_journal.specs.Steps.{port_log, empty_polls}
use Rattle.host_journal.specs.Steps.PortStep.{no_reply}
use Rattle.stream_host.proofs.Hosting.{takes_resume, few_live, resumed, polled}
use Rattle.stream_host.proofs.host.Host.count_poll.Goals as goal

pub raise-requires : goal.raise-requires
raise-requires g c = let r = c.requires.stands in (r.0, no_reply ∷ port_log r.1, r.2, takes_resume (no_reply ∷ port_log r.1))

pub returns-clause-resumed : goal.returns-clause-resumed
returns-clause-resumed g c = λ yes rest h stands f.
    let t = c.raise.ensures.raised rest (no_reply ∷ port_log h) stands (takes_resume (no_reply ∷ port_log h)) in
    let all : c.polls_with_one_more-polls.result ≡ empty_polls = omega (arith, c.if-polls-ne-EMPTY_POLLS.false) in
    (t.0, t.1, resumed c.args.self.now t.0 _ h f c.requires.going (sym c.polls_with_one_more-polls.ensures ∙ all) (sym c.stands_by.ensures ∙ c.if-stands_by.false) c.resumed_after-self.ensures)

pub returns-then-stands_by-clause-counted : goal.returns-then-stands_by-clause-counted
returns-then-stands_by-clause-counted g c = λ no.
    (refl, λ room h f. rw c.polls_with_one_more-polls.ensures (polled c.args.self.now h f c.requires.going (inr (sym c.stands_by.ensures ∙ c.if-stands_by.true))))

pub returns-then-polls-ne-EMPTY_POLLS-clause-counted : goal.returns-then-polls-ne-EMPTY_POLLS-clause-counted
returns-then-polls-ne-EMPTY_POLLS-clause-counted g c = λ no.
    let few : c.polls_with_one_more-polls.result ≡ empty_polls → ⊥ = (λ all. omega (arith, all, c.if-polls-ne-EMPTY_POLLS.true)) in
    (refl, λ room h f. rw c.polls_with_one_more-polls.ensures (polled c.args.self.now h f c.requires.going (inl (λ all. few (c.polls_with_one_more-polls.ensures ∙ all)))))

pub resumed_after-self-requires : goal.resumed_after-self-requires
resumed_after-self-requires g c = let r = c.requires.stands in few_live c.args.self.now r.1 r.3
