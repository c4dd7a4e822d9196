use Rattle.smooth_step.proofs.pulse_tests.Line.step.Goals as goal

pub invariant_of-self : goal.invariant_of-self
invariant_of-self c =
    let i = c.self.invariant in
    let next = c.turn-answer.ensures.logs tt tt i.0 i.1 i.2 tt i.3 in (next.0, next.1, next.2, next.4)

pub invariant_of-self-2 : goal.invariant_of-self-2
invariant_of-self-2 c =
    let i = c.self.invariant in
    let next = c.turn-answer.ensures.logs tt tt i.0 i.1 i.2 tt i.3 in (next.0, next.1, next.2, next.4)
