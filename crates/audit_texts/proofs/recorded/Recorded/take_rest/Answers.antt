use Rattle.audit_texts.proofs.ConsoleRead.{read_to_more}
use Rattle.audit_texts.proofs.recorded.Recorded.take_rest.Goals as goal

pub returns-clause-read : goal.returns-clause-read
returns-clause-read g c = λ text h.
    let old = c.args.self.now.reader in
    let t = c.in_ok-take_rest.ensures.some in
    read_to_more old.window c.take_rest.new.self.window (g.S.Source.state c.args.source.now) (g.S.Source.state c.take_rest.new.source) old.place c.take_rest.new.self.place text t.bytes h t.text t.count
