use Rattle.std.proofs.Common.{◌≡◌, false, rules}
use Rattle.audit_readers.specs.Jobs.{ReadsLine}
use Rattle.audit_texts.proofs.JobRead.{read_by}
use Rattle.audit_texts.proofs.sending.Sending.look.Goals as goal

pub returns-clause-so_far : goal.returns-clause-so_far
returns-clause-so_far g c = λ text told j.
    let old = c.args.self.now in
    let before = g.S.Source.state c.args.source.now in
    let after = g.S.Source.state c.next.new.source in
    let over : old.over ≡ false = search rules in
    let stops : old.stops ≡ 0 = search rules in
    let waits : old.waits ≡ false = search rules in
    let read : ReadsLine old.reader c.next.new.self before after c.in_ok-is_sent.is_sent = search rules in
    read_by c.in_ok-is_sent.is_sent old c.next.new.self c.count.new.self before after text told over stops waits j read c.count.ensures
