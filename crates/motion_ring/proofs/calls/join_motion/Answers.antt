use Rattle.std.proofs.Common.{rules, ap, ◌∙◌}
use Rattle.motion_ring.proofs.Seats.{joins, ties}
use Rattle.motion_ring.proofs.calls.join_motion.Goals as goal

pub join_seat-requires : goal.join_seat-requires
join_seat-requires c = (search rules, search rules, search rules, search rules, joins _ _ _ _ c.args.into.mine.0 c.args.out.mine.0)

pub load-requires : goal.load-requires
load-requires c = let both = c.join_seat.ensures.2 in
    (search rules, search rules, ties _ _ _ _ (ap (λ m. m.0.may_publish) both ∙ c.args.out.mine.0) (ap (λ m. m.0.may_get) both ∙ c.args.into.mine.0))
