use Rattle.std.proofs.Common.{◌≡◌, false, arith, rules}
use Rattle.audit_texts.proofs.JobRead.{halted}
use Rattle.audit_texts.proofs.sending.Sending.halt.Goals as goal

pub returns-clause-so_far : goal.returns-clause-so_far
returns-clause-so_far g c = λ text told j.
    let old = c.args.self.now in
    let over : old.over ≡ false = search rules in
    let sum = c.saturating_add-self.ensures in
    let same = c.from.ensures in
    halted old c.count_holds.new.self c.in_ok-holds.holds c.saturating_add-self.result (g.S.Source.state c.args.source.now) (g.S.Source.state c.count_holds.new.source) text told over j c.in_ok-holds.ensures
    (λ few. omega (arith, sum, same, few))
