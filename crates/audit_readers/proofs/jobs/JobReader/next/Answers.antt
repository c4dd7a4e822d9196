use Rattle.std.proofs.Common.{◌≡◌, ◌≢◌, ◌∙◌, ap, sym, nat_lt, length, true, false, rules}
use Rattle.audit_readers.specs.Jobs.{JobRead, TakesByte, IsOver, IsTooLarge}
use Rattle.audit_readers.proofs.Reading.{IsFed, lf_read, over_read, large_read, fed_read, fed_long}
use Rattle.audit_readers.proofs.jobs.JobReader.next.Goals as goal

pub returns-in-Byte-eq10 : goal.returns-in-Byte-eq10
returns-in-Byte-eq10 g c =
    let one : TakesByte c.loop-byte.self c.next_byte.new.self (g.S.Source.state c.loop-byte.source) (g.S.Source.state c.next_byte.new.source) 10 = search rules in
    lf_read c.args.self.now c.loop-byte.self c.next_byte.new.self (g.S.Source.state c.args.source.now) (g.S.Source.state c.loop-byte.source) (g.S.Source.state c.next_byte.new.source) c.loop-byte.invariant one

pub returns-in-End : goal.returns-in-End
returns-in-End g c =
    let over : IsOver c.loop-byte.self c.next_byte.new.self (g.S.Source.state c.loop-byte.source) (g.S.Source.state c.next_byte.new.source) = search rules in
    let before : c.self.inside.place ≡ c.args.self.now.place = ap (λ (r : JobRead). r.place) c.self.view_is in
    let now : c.self-in-End.inside.place ≡ c.next_byte.new.self.place = ap (λ (r : JobRead). r.place) c.self-in-End.view_is in
    let same = over_read c.args.self.now c.loop-byte.self c.next_byte.new.self (g.S.Source.state c.args.source.now) (g.S.Source.state c.loop-byte.source) (g.S.Source.state c.next_byte.new.source) c.loop-byte.invariant over in
    rw (before, now) same

pub returns-in-TooLarge : goal.returns-in-TooLarge
returns-in-TooLarge g c =
    let large : IsTooLarge c.loop-byte.self c.next_byte.new.self (g.S.Source.state c.loop-byte.source) (g.S.Source.state c.next_byte.new.source) = search rules in
    large_read c.args.self.now c.loop-byte.self c.next_byte.new.self (g.S.Source.state c.args.source.now) (g.S.Source.state c.loop-byte.source) (g.S.Source.state c.next_byte.new.source) c.loop-byte.invariant large

pub returns-then-is_long : goal.returns-then-is_long
returns-then-is_long g c =
    let one : TakesByte c.loop-byte.self c.next_byte.new.self (g.S.Source.state c.loop-byte.source) (g.S.Source.state c.next_byte.new.source) c.in-Byte.byte = search rules in
    let other : c.in-Byte.byte ≢ 10 = search rules in
    let f : IsFed c.next_byte.new.self c.feed.new.self c.in-Byte.byte = record { window = c.feed.ensures.window; place = c.feed.ensures.place; come = c.feed.ensures.come; resets = c.feed.ensures.resets; cuts = c.feed.ensures.cuts } in
    let many : nat_lt 127 (length c.feed.new.self.line.kept) ≡ true = sym (ap (λ (r : JobRead). nat_lt 127 (length r.line.kept)) c.self-in-loop-byte.view_is) ∙ sym c.is_long.ensures ∙ c.if-is_long.true in
    fed_long c.args.self.now c.loop-byte.self c.next_byte.new.self c.feed.new.self (g.S.Source.state c.args.source.now) (g.S.Source.state c.loop-byte.source) (g.S.Source.state c.next_byte.new.source) c.in-Byte.byte
    c.loop-byte.invariant one other f many

pub loop-byte-preserved : goal.loop-byte-preserved
loop-byte-preserved g c =
    let one : TakesByte c.loop-byte.self c.next_byte.new.self (g.S.Source.state c.loop-byte.source) (g.S.Source.state c.next_byte.new.source) c.in-Byte.byte = search rules in
    let other : c.in-Byte.byte ≢ 10 = search rules in
    let f : IsFed c.next_byte.new.self c.feed.new.self c.in-Byte.byte = record { window = c.feed.ensures.window; place = c.feed.ensures.place; come = c.feed.ensures.come; resets = c.feed.ensures.resets; cuts = c.feed.ensures.cuts } in
    let few : nat_lt 127 (length c.feed.new.self.line.kept) ≡ false = sym (ap (λ (r : JobRead). nat_lt 127 (length r.line.kept)) c.self-in-loop-byte.view_is) ∙ sym c.is_long.ensures ∙ c.if-is_long.false in
    fed_read c.args.self.now c.loop-byte.self c.next_byte.new.self c.feed.new.self (g.S.Source.state c.args.source.now) (g.S.Source.state c.loop-byte.source) (g.S.Source.state c.next_byte.new.source) c.in-Byte.byte
    c.loop-byte.invariant one other f few
