use Rattle.std.proofs.Common.{◌≡◌, ◌+◌, not, subst, arith}
use Rattle.std.specs.Result.{is_ok}
use Rattle.outside.specs.Writing.{Took}
use Rattle.run_status.proofs.Demos.{told_whole}
use Rattle.grbl_app.proofs.demo.tell_run.Goals as goal

pub returns-in-Events : goal.returns-in-Events
returns-in-Events g c = λ answered none.
    let ok : c.saturating_sub.result ≡ c.args.moves + 3 = omega (arith, c.saturating_sub.ensures, answered, none) in
    let told = told_whole c.args.moves c.saturating_sub.result c.args.counted.now.end.errors ok none in
    rw c.in-Events.is (subst (Took (g.Co.Sink.state c.args.console.now) (g.Co.Sink.state c.tell_summary.new.console) (not (is_ok c.tell_summary.result))) told c.tell_summary.ensures)
