use Rattle.std.proofs.Common.{[], refl, arith}
use Rattle.run_rows.proofs.lists.closed_link_is_found_closed.Goals as goal

pub close-requires : goal.close-requires
close-requires g c = (omega arith, (([], []), [], c.fresh-lists.ensures, refl))
