use Rattle.std.proofs.Common.{[], refl, arith}
use Rattle.run_rows.proofs.lists.byte_goes_from_host_to_board.Goals as goal

pub store-requires : goal.store-requires
store-requires g c = (omega arith, (([], []), [], c.fresh-lists.ensures, record { going = refl; few = omega arith }))
