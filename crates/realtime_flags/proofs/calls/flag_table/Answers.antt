use Rattle.std.proofs.Common.{rules, ap}
use Rattle.realtime_flags.proofs.Steps.{starts, splits}
use Rattle.realtime_flags.proofs.calls.flag_table.Goals as goal

pub of_words-requires : goal.of_words-requires
of_words-requires c = starts

pub split_seat-far-requires : goal.split_seat-far-requires
split_seat-far-requires c = let made = c.in_ok-table.ensures.4 in
    (search rules, search rules, splits _ _ (ap (λ m. m.0.may_raise) made) (ap (λ m. m.0.may_take) made))
