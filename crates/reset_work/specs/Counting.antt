-- What the fields of counts say of closed epochs.
use Rattle.std.specs.Prelude.{◌≡◌, length}
use Rattle.step_line.specs.Logs.{NewestFirst}
use Rattle.board_journal.specs.Ports.{taken_in}
use Rattle.board_epochs.specs.Bounds.{loaded_mark}
use Rattle.board_epochs.specs.Epochs.{Closed, closed_log, ticks_made}
use Rattle.reset_work.specs.declared.counts.Counts.{Counts}

-- the ticks made in them, the bytes taken, and the number of the mark that was loaded last
pub record IsCounted (it : Counts) (es : NewestFirst Closed) : Type 0 where
  pub ticks_are : it.ticks ≡ ticks_made es
  pub bytes_are : it.bytes ≡ length (taken_in (closed_log es))
  pub mark_is : it.mark ≡ (loaded_mark (closed_log es)).0
