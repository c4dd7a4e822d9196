use Rattle.std.proofs.Common.{refl, subst}
use Rattle.run_texts.specs.Sent.Sent.{a_text, a_stop}
use Rattle.audit_texts.specs.SoFar.{IsItem}
use Rattle.run_audit.specs.declared.auditor.Auditor.{Auditor}
use Rattle.audit_texts.specs.declared.sending.Item.{Item}
use Rattle.run_audit.proofs.FoundTop.{taken_on}
use Rattle.run_audit.proofs.Under.{read_sent, taken_read}
use Rattle.run_audit.proofs.auditor.Auditor.read_one.Goals as goal

pub returns-in-Ok-Nothing-clause-reads : goal.returns-in-Ok-Nothing-clause-reads
returns-in-Ok-Nothing-clause-reads g c = λ console steps jt ct st r.
    let a = c.args.self.now in
    let b : Auditor = record a { sending = c.look.new.self } in
    read_sent a b (g.J.Source.state c.args.job.now) (g.J.Source.state c.look.new.source) console steps jt ct st c.in-Ok-Nothing.ensures.so_far refl refl r

pub returns-in-Ok-Line-clause-reads : goal.returns-in-Ok-Line-clause-reads
returns-in-Ok-Line-clause-reads g c = λ console steps jt ct st r.
    let a = c.args.self.now in
    let b : Auditor = record a { sending = c.look.new.self } in
    let e : Auditor = record a { sending = c.take_line.new.self } in
    let before = g.J.Source.state c.args.job.now in
    let after = g.J.Source.state c.look.new.source in
    let look = c.in-Ok-Line.ensures in
    let item = subst (λ (x : Item). IsItem x c.look.new.self) c.in-Ok-Line.field-0-is look.item in
    taken_read b e after console steps (a_text c.look.new.self.reader.line.kept) jt ct st (λ t told h. c.take_line.ensures.told item.0 item.1 after t told h) refl refl
    (read_sent a b before after console steps jt ct st look.so_far refl refl r)

pub returns-in-Ok-Stop-clause-reads : goal.returns-in-Ok-Stop-clause-reads
returns-in-Ok-Stop-clause-reads g c = λ console steps jt ct st r.
    let a = c.args.self.now in
    let b : Auditor = record a { sending = c.look.new.self } in
    let e : Auditor = record a { sending = c.take_stop.new.self } in
    let before = g.J.Source.state c.args.job.now in
    let after = g.J.Source.state c.look.new.source in
    let look = c.in-Ok-Stop.ensures in
    let item = subst (λ (x : Item). IsItem x c.look.new.self) c.in-Ok-Stop.field-0-is look.item in
    taken_read b e after console steps a_stop jt ct st (λ t told h. c.take_stop.ensures.told item after t told h) refl refl (read_sent a b before after console steps jt ct st look.so_far refl refl r)

pub returns-in-Ok-Line-clause-grows : goal.returns-in-Ok-Line-clause-grows
returns-in-Ok-Line-clause-grows g c = λ more console steps jt ct st r.
    let a = c.args.self.now in
    let b : Auditor = record a { sending = c.look.new.self } in
    let e : Auditor = record a { sending = c.take_line.new.self } in
    let after = g.J.Source.state c.look.new.source in
    let look = c.in-Ok-Line.ensures in
    let item = subst (λ (x : Item). IsItem x c.look.new.self) c.in-Ok-Line.field-0-is look.item in
    taken_on a b e (g.J.Source.state c.args.job.now) after console steps (a_text c.look.new.self.reader.line.kept) jt ct st look.so_far (λ t told h. c.take_line.ensures.told item.0 item.1 after t told h) refl refl r

pub returns-in-Ok-Stop-clause-grows : goal.returns-in-Ok-Stop-clause-grows
returns-in-Ok-Stop-clause-grows g c = λ more console steps jt ct st r.
    let a = c.args.self.now in
    let b : Auditor = record a { sending = c.look.new.self } in
    let e : Auditor = record a { sending = c.take_stop.new.self } in
    let after = g.J.Source.state c.look.new.source in
    let look = c.in-Ok-Stop.ensures in
    let item = subst (λ (x : Item). IsItem x c.look.new.self) c.in-Ok-Stop.field-0-is look.item in
    taken_on a b e (g.J.Source.state c.args.job.now) after console steps a_stop jt ct st look.so_far (λ t told h. c.take_stop.ensures.told item after t told h) refl refl r
