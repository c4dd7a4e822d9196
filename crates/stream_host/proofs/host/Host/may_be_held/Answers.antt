use Rattle.std.proofs.Common.{◌||◌, nat_lt, sym, ap, ◌∙◌}
use Rattle.stream_host.proofs.Settling.{held_now}
use Rattle.stream_host.proofs.host.Host.may_be_held.Goals as goal

pub returns-else-self : goal.returns-else-self
returns-else-self c = λ room h f.
    let s = c.args.self.now in ap (λ held. held || nat_lt s.counts.answered s.counts.pause_at) (sym c.if-self.false) ∙ held_now s h f
