use Rattle.audit_texts.proofs.StepsRead.{steps_open}
use Rattle.audit_texts.proofs.recorded.Recorded.open.Goals as goal

pub returns-clause-opens : goal.returns-clause-opens
returns-clause-opens g c = λ text known.
    steps_open c.in_ok-reader.reader c.place-at.result (g.S.Source.state c.args.source.now) (g.S.Source.state c.open.new.source) text known c.in_ok-reader.ensures
