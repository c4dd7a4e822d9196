use Rattle.std.proofs.Common.{rules, ◌≡◌, false, true, length, ◌<◌}
use Rattle.std.proofs.lemmas.Result.{err_from_is_err_and}
use Rattle.audit_readers.proofs.Filling.{nothing_filled, more_filled, filling_failed, enough_filled, all_filled, less_to_read}
use Rattle.audit_readers.proofs.window.Window.fill_up.Goals as goal

pub loop-self-init : goal.loop-self-init
loop-self-init g c = nothing_filled c.args.self.now (g.S.Source.state c.args.source.now) c.requires.known

pub loop-self-smaller : goal.loop-self-smaller
loop-self-smaller g c =
    let going : c.loop-self.self.ended ≡ false = search rules in
    let few : length c.loop-self.self.waiting < 192 = search rules in
    less_to_read c.loop-self.self c.fill.new.self (g.S.Source.state c.loop-self.source) (g.S.Source.state c.fill.new.source) going few c.in_ok-fill.ensures.filled

pub loop-self-preserved : goal.loop-self-preserved
loop-self-preserved g c =
    more_filled c.args.self.now c.loop-self.self c.fill.new.self (g.S.Source.state c.args.source.now) (g.S.Source.state c.loop-self.source) (g.S.Source.state c.fill.new.source)
    c.loop-self.invariant c.in_ok-fill.ensures.filled

pub returns-in_err-fill-clause-failed : goal.returns-in_err-fill-clause-failed
returns-in_err-fill-clause-failed g c =
    let going : c.loop-self.self.ended ≡ false = search rules in
    let failed = filling_failed c.args.self.now c.loop-self.self c.fill.new.self (g.S.Source.state c.args.source.now) (g.S.Source.state c.loop-self.source) (g.S.Source.state c.fill.new.source)
    going c.loop-self.invariant c.in_err-fill.ensures.failed in
    let p = err_from_is_err_and c.from_residual.result c.from_residual.ensures.1 in rw p.1 failed

pub returns-else-not-self-clause-filled : goal.returns-else-not-self-clause-filled
returns-else-not-self-clause-filled g c =
    let over : c.loop-self.self.ended ≡ true = search rules in
    all_filled c.args.self.now c.loop-self.self (g.S.Source.state c.args.source.now) (g.S.Source.state c.loop-self.source) c.loop-self.invariant over

pub returns-after-loop-self-clause-filled : goal.returns-after-loop-self-clause-filled
returns-after-loop-self-clause-filled g c =
    enough_filled c.args.self.now c.loop-self.self (g.S.Source.state c.args.source.now) (g.S.Source.state c.loop-self.source) c.loop-self.invariant (search rules)
