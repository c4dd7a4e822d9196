use Rattle.board_epochs.specs.Epochs.{closed_log, last_line, log_behind, opening_behind}
use Rattle.reset_work.proofs.Counted.{halted_behind, halted_within}
use Rattle.reset_work.proofs.counts.Counts.halted.Goals as goal

pub overflow_sub-result : goal.overflow_sub-result
overflow_sub-result c =
    let r = c.requires in
    halted_behind c.args.self.now c.halted.result r.0 r.1 r.2 r.3 r.4 r.5 r.6 r.7 (c.halted.ensures (last_line (opening_behind r.0 r.1 r.2) r.3) (log_behind (closed_log r.2) r.3) r.4 r.8)

pub returns : goal.returns
returns c = λ blocks state es h w epochs worked counted working.
    halted_within c.args.self.now c.halted.result blocks state es h w epochs worked counted (c.halted.ensures (last_line (opening_behind blocks state es) h) (log_behind (closed_log es) h) w working)
