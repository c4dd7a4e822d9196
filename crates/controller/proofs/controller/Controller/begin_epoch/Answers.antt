use Rattle.std.proofs.Common.{◌-◌, refl, arith}
use Rattle.board_epochs.specs.Epochs.{closed_log, last_line, log_behind, opening_behind, ticks_made}
use Rattle.reset_work.proofs.Parting.{resets_end}
use Rattle.controller.proofs.Working.{lines_few}
use Rattle.controller.proofs.controller.Controller.begin_epoch.Goals as goal

pub open_behind-requires : goal.open_behind-requires
open_behind-requires g c =
    let r = c.requires.worked in
    let halted = c.halted-halted.ensures (g.row.N - 1) r.0 r.1 r.2 r.3 r.4 r.5 r.7 r.8 in (
      omega arith,
      (
        ticks_made r.1,
        opening_behind (g.row.N - 1) r.0 r.1,
        r.2,
        r.3,
        r.6,
        r.4.1.may,
        halted.0,
        halted.1,
        c.dropped.ensures (last_line (opening_behind (g.row.N - 1) r.0 r.1) r.2) (log_behind (closed_log r.1) r.2) r.3 r.8,
        lines_few (g.row.N - 1) r.0 r.1 r.2 r.3 r.4 r.5,
      ),
    )

pub returns : goal.returns
returns g c = record {
  begins = λ state es h w epochs worked fits counts working.
      let first = opening_behind (g.row.N - 1) state es in
      let halted = c.halted-halted.ensures (g.row.N - 1) state es h w epochs worked counts working in
      let dropped = c.dropped.ensures (last_line first h) (log_behind (closed_log es) h) w working in
      record {
        epochs = (resets_end (g.row.N - 1) state es h w epochs worked).0;
        none = refl;
        board = c.open_behind.ensures (ticks_made es) first h w fits epochs.1.may halted.0 halted.1 dropped (lines_few (g.row.N - 1) state es h w epochs worked);
        counts = c.behind-self.ensures (last_line first h) es h w working worked;
        unready = λ may. absurd (let e = may.asked in cc);
      };
}
