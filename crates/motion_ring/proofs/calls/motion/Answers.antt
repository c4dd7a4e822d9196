use Rattle.std.proofs.Common.{rules, ap}
use Rattle.motion_ring.proofs.Seats.{starts, splits}
use Rattle.motion_ring.proofs.calls.motion.Goals as goal

pub vacant-requires : goal.vacant-requires
vacant-requires c = starts

pub split_seat-far-requires : goal.split_seat-far-requires
split_seat-far-requires c = let made = c.in_ok-table.ensures.4 in
    (search rules, search rules, splits _ _ (ap (λ m. m.0.may_publish) made) (ap (λ m. m.0.may_get) made))
