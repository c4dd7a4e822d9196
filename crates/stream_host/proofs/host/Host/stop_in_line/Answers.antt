use Rattle.std.proofs.Common.{◌∙◌, sym, ap, cond, ◌+◌, length, arith}
use Rattle.host_journal.specs.Steps.{cut_of}
use Rattle.host_journal.specs.declared.Stop.TheVariants.{End, LongLine}
use Rattle.stream_host.proofs.Hosting.{is_long_now, few_lines}
use Rattle.stream_host.proofs.host.Host.stop_in_line.Goals as goal

pub returns-then-self : goal.returns-then-self
returns-then-self c = λ room h f.
    let few = few_lines c.args.self.now h f in
    let e = c.saturating_add.ensures in
    ap LongLine (omega arith) ∙ ap (λ b. cond b (LongLine (length (cut_of h) + 1)) End) (sym c.if-self.true ∙ is_long_now c.args.self.now h f)

pub returns-else-self : goal.returns-else-self
returns-else-self c = λ room h f. ap (λ b. cond b (LongLine (length (cut_of h) + 1)) End) (sym c.if-self.false ∙ is_long_now c.args.self.now h f)
