use Rattle.std.proofs.Common.{[], arith}
use Rattle.run_rows.proofs.lists.bytes_raise_their_flags.Goals as goal

pub raise-requires : goal.raise-requires
raise-requires g c = (omega arith, (([], []), [], c.fresh-lists.ensures, λ e. omega arith))
