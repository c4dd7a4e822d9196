use Rattle.std.proofs.Common.{rules, sym, subst}
use Rattle.audit_readers.specs.Jobs.{CountsHolds, TakesByte}
use Rattle.audit_readers.proofs.Holding.{none_counted, one_counted, rest_counted}
use Rattle.audit_readers.proofs.jobs.JobReader.count_holds.Goals as goal

pub loop-byte-init : goal.loop-byte-init
loop-byte-init g c = none_counted c.args.self.now (g.S.Source.state c.args.source.now) c.new-holds.result c.new-holds.ensures.come c.new-holds.ensures.none c.requires.known c.requires.room

pub loop-byte-preserved : goal.loop-byte-preserved
loop-byte-preserved g c =
    let one : TakesByte c.loop-byte.self c.next_byte.new.self (g.S.Source.state c.loop-byte.source) (g.S.Source.state c.next_byte.new.source) c.in-Byte.byte = search rules in
    one_counted c.args.self.now c.loop-byte.self c.next_byte.new.self (g.S.Source.state c.args.source.now) (g.S.Source.state c.loop-byte.source) (g.S.Source.state c.next_byte.new.source) c.in-Byte.byte
    c.loop-byte.holds c.feed.new.self c.loop-byte.invariant one c.feed.ensures.come c.feed.ensures.few

pub returns-in-End : goal.returns-in-End
returns-in-End g c =
    let a = c.args.self.now in
    let before = g.S.Source.state c.args.source.now in
    let after = g.S.Source.state c.next_byte.new.source in
    subst (CountsHolds a c.next_byte.new.self before after) (sym c.count.ensures)
    (rest_counted a c.loop-byte.self c.next_byte.new.self before (g.S.Source.state c.loop-byte.source) after c.loop-byte.holds c.in_ok-byte.field-0 c.loop-byte.invariant c.in-End.is c.in_ok-byte.ensures)
