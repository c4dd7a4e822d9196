-- How many ticks are among records.
use Rattle.std.proofs.Common.{◌≡◌, ◌+◌, List, [], ◌∷◌, length, refl, arith}
use Rattle.step_line.specs.declared.Record.{Record}
use Rattle.step_line.specs.declared.Record.TheVariants as kinds
use Rattle.step_line.specs.Asking.{ticks_among}
use Rattle.pulse_engine.specs.Logs.{ticks_in}

pub ticks_length : (rs : List Record) → length (ticks_among rs) ≡ ticks_in rs
ticks_length [] = refl
ticks_length (kinds.Event e ∷ rs) = let more = ticks_length rs in omega (arith, more)
ticks_length (kinds.Mark m ∷ rs) = let more = ticks_length rs in omega (arith, more)
ticks_length (_ ∷ rs) = let more = ticks_length rs in omega (arith, more)
