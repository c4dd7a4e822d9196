use Rattle.std.proofs.Common.{◌≡◌, true, false, [], arith}
use Rattle.run_rows.proofs.lists.greeting_goes_from_board_to_host.Goals as goal

pub answer-requires : goal.answer-requires
answer-requires g c = (omega arith, (([], []), [], c.fresh-lists.ensures, record { line = λ e. absurd (let f : false ≡ true = e in cc); banner = λ is greeted. absurd (let f : false ≡ true = greeted in cc); text = tt; few = omega arith }))
