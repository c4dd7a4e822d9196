-- In a world, in each epoch, each line has at most as many reports as it has `?`.
use Rattle.std.proofs.Common.{◌≡◌, ℕ, ◌-◌, false, sym, ◌∙◌}
use Rattle.run_rules.specs.Lines.{lines_of}
use Rattle.host_journal.specs.Steps.{got_of, scanned_of}
use Rattle.controller.proofs.Kept.{kept_by}
use Rattle.line_reports.specs.PerLine.{ReportsPerLine}
use Rattle.line_reports.proofs.Counting.{reports_per_line}
use Rattle.actor_turns.specs.Worlds.{Seen, History, Holds}

pub world_reports : {N : ℕ} (w : Seen N) (hist : History) → Holds w hist → w.host.attended ≡ false → ReportsPerLine (lines_of (scanned_of hist.host)) (got_of hist.host)
world_reports {N} w hist h alone =
    let kept = kept_by w.board hist.board h.board in
    reports_per_line w.room w.lists hist.host (N - 1) kept.first hist.board hist.pulse h.joined h.host.conducted (sym h.host.attended_is ∙ alone) kept.epochs
