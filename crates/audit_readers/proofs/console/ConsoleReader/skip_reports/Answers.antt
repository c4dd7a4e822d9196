use Rattle.std.proofs.Common.{◌<◌, rules}
use Rattle.audit_readers.specs.Windows.{too_long}
use Rattle.std.proofs.lemmas.Result.{err_from_is_err_and}
use Rattle.audit_readers.proofs.Skipping.{one_skipped, skipping_failed, less_left}
use Rattle.audit_readers.proofs.console.ConsoleReader.skip_reports.Goals as goal

pub loop-self-smaller : goal.loop-self-smaller
loop-self-smaller g c =
    let short : c.loop-self.self.place < too_long = search rules in
    less_left c.loop-self.self c.take_report.new.self c.look-in-loop-self.new.self short (search rules) c.look-in-loop-self.ensures.place

pub loop-self-preserved : goal.loop-self-preserved
loop-self-preserved g c =
    one_skipped c.args.self.now c.loop-self.self c.take_report.new.self c.look-in-loop-self.new.self (g.S.Source.state c.args.source.now) (g.S.Source.state c.loop-self.source) (g.S.Source.state c.look-in-loop-self.new.source)
    c.loop-self.invariant (search rules) c.in_ok-look-2.ensures.filled c.look-in-loop-self.ensures.place

pub returns-in_err-look-2 : goal.returns-in_err-look-2
returns-in_err-look-2 g c =
    let failed = skipping_failed c.args.self.now c.loop-self.self c.take_report.new.self c.look-in-loop-self.new.self (g.S.Source.state c.args.source.now) (g.S.Source.state c.loop-self.source) (g.S.Source.state c.look-in-loop-self.new.source)
    c.loop-self.invariant (search rules) c.in_err-look-2.ensures.failed c.look-in-loop-self.ensures.place in
    let p = err_from_is_err_and c.from_residual-in_err-look-2.result c.from_residual-in_err-look-2.ensures.1 in rw p.1 failed
