use Rattle.std.proofs.Common.{[], arith}
use Rattle.run_rows.proofs.lists.mark_goes_from_host_to_board.Goals as goal

pub mark-requires : goal.mark-requires
mark-requires g c = (omega arith, (([], []), [], c.fresh-lists.ensures, omega arith))
