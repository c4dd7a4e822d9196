use Rattle.std.proofs.Common.{ap, sym, ◌∙◌, arith}
use Rattle.host_journal.specs.Steps.{over_of, or_alarm}
use Rattle.host_journal.specs.declared.Stop.TheVariants.{End, Alarm}
use Rattle.stream_host.proofs.Hosting.{alarm_now, calm_now, over_is}
use Rattle.stream_host.proofs.host.Host.stop_at_alarm.Goals as goal

pub returns-then-not-self : goal.returns-then-not-self
returns-then-not-self c = λ room h f. ap (λ b. or_alarm b (over_of h) End) (sym (calm_now c.args.self.now h f c.if-not-self.true))

pub returns : goal.returns
returns c = λ room h f.
    let few = over_is c.args.self.now h f in
    let e = c.saturating_add.ensures in let o = c.over.ensures few.0 few.1 in let k = few.2 in let m = few.3 in
    ap Alarm (omega arith) ∙ ap (λ b. or_alarm b (over_of h) End) (sym (alarm_now c.args.self.now h f c.if-not-self.false))
