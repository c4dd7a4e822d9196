use Rattle.std.proofs.Common.{rules, ap, ◌∙◌}
use Rattle.realtime_flags.proofs.Steps.{joins, balances}
use Rattle.realtime_flags.proofs.calls.join_flags.Goals as goal

pub join_seat-requires : goal.join_seat-requires
join_seat-requires c = (search rules, search rules, search rules, search rules, joins _ _ _ _ c.args.raiser.mine c.args.taker.mine)

pub load-requires : goal.load-requires
load-requires c = let both = c.join_seat.ensures.2 in
    (search rules, search rules, balances _ _ _ _ _ (ap (λ m. m.0.may_raise) both ∙ c.args.raiser.mine) (ap (λ m. m.0.may_take) both ∙ c.args.taker.mine))
