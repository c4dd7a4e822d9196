use Rattle.actor_turns.proofs.lockstep.take_next_turns.Goals as goal

pub returns-then-rests-clause-goes_on : goal.returns-then-rests-clause-goes_on
returns-then-rests-clause-goes_on g c = λ seed before w was. c.take_turns_of_two.ensures.goes_on seed before w (g.S.Sink.state c.args.steps.now) was
