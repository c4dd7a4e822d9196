use Rattle.std.proofs.Common.{rules}
use Rattle.run_audit.specs.declared.auditor.Auditor.{Auditor}
use Rattle.run_audit.proofs.Under.{still_read}
use Rattle.run_audit.proofs.auditor.Auditor.read_texts.Goals as goal

pub returns-clause-read_on : goal.returns-clause-read_on
returns-clause-read_on g c = λ job jt ct st.
    let a = c.args.self.now in
    let b : Auditor = record a { listening = c.ends.new.self; recorded = c.take_rest.new.self } in
    still_read a b job (g.C.Source.state c.args.console.now) (g.S.Source.state c.args.steps.now) job (g.C.Source.state c.ends.new.source) (g.S.Source.state c.take_rest.new.source) (λ t told h. h) (search rules) (search rules) jt ct st
