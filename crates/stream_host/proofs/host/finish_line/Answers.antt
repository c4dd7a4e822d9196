use Rattle.std.proofs.Common.{◌+◌, cond, ap, ◌∙◌}
use Rattle.host_journal.specs.Holding.{has_pause}
use Rattle.stream_host.proofs.Hosting.{finished, size_is, pauses_is, counted_line}
use Rattle.stream_host.proofs.host.finish_line.Goals as goal

pub returns-clause-line : goal.returns-clause-line
returns-clause-line c = λ raw has. let f = c.finish-size.ensures in finished c.args.line.now _ raw has c.requires.sends f.kept f.long f.whole f.place

pub returns-clause-counts : goal.returns-clause-counts
returns-clause-counts c = λ raw cuts got has keeps few.
    let a = c.add_line.ensures in
    counted_line c.args.counts.now _ raw cuts got c.finish-size.result keeps few a.more a.summed (ap (λ d. d.lines) a.same) (ap (λ d. d.answered) a.same) (ap (λ d. d.errors) a.same)
    (size_is c.args.line.now raw c.finish-size.result has c.requires.sends c.finish-size.ensures.length)

pub returns-clause-pause : goal.returns-clause-pause
returns-clause-pause c = λ raw has.
    ap (λ d. d.pause_at) c.add_line.ensures.same
    ∙ ap (λ t. cond t (c.args.counts.now.lines + 1) c.args.counts.now.pause_at)
    (pauses_is c.args.line.now raw c.has_pause-pauses.result has c.requires.sends (c.has_pause-pauses.ensures ∙ ap has_pause c.as_slice.ensures.value))

pub returns-clause-all : goal.returns-clause-all
returns-clause-all c = ap (λ d. d.all) c.add_line.ensures.same
