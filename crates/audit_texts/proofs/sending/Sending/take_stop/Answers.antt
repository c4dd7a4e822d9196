use Rattle.std.proofs.Common.{◌≡◌, ◌+◌, arith}
use Rattle.audit_texts.proofs.JobRead.{stop_told}
use Rattle.audit_texts.proofs.sending.Sending.take_stop.Goals as goal

pub returns-clause-told : goal.returns-clause-told
returns-clause-told c = λ some source text told j.
    let less = c.saturating_sub-self.ensures in
    let one : c.args.self.now.stops ≡ c.saturating_sub-self.result + 1 = omega (arith, some, less) in
    stop_told c.args.self.now c.saturating_sub-self.result source text told one j
