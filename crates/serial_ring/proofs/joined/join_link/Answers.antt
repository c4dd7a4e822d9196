use Rattle.std.proofs.Common.{rules, ap, ◌∙◌}
use Rattle.serial_ring.proofs.Steps.{joins, ties}
use Rattle.serial_ring.proofs.joined.join_link.Goals as goal

pub join_seat-requires : goal.join_seat-requires
join_seat-requires g c = (search rules, search rules, search rules, search rules, joins _ _ _ _ _ c.args.host.mine.0 c.args.board.mine.0)

pub load-requires : goal.load-requires
load-requires g c = let both = c.join_seat.ensures.2 in
    (search rules, search rules, ties _ _ _ _ _ (ap (λ m. m.0.may_store) both ∙ c.args.host.mine.0) (ap (λ m. m.0.may_take) both ∙ c.args.board.mine.0))
