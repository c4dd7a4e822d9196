-- Words ask for one task at most.
use Rattle.std.proofs.Common.{◌≡◌, ℕ, List, ap}
use Rattle.command_line.specs.Command.{Asks}
use Rattle.command_line.specs.declared.StreamOptions.{StreamOptions}
use Rattle.command_line.specs.declared.Task.{Task}
use Rattle.motion_pulse.specs.declared.pulse.Stepping.{Stepping}
use Rattle.motion_pulse.specs.declared.pulse.Stepping.TheVariants.{Events}
use Rattle.command_line.specs.declared.Task.TheVariants.{Stream, Demo}
use Rattle.command_line.proofs.Numbers.{one_task}

pub no_stream : (words : List (List ℕ)) (options : StreamOptions) (moves : ℕ) (stepping : Stepping) → Asks (Demo moves stepping) words → Asks (Stream options) words → ⊥
no_stream words options moves stepping demo stream = let same : Stream options ≡ Demo moves stepping = one_task words (Stream options) (Demo moves stepping) stream demo in cc

moves_of : Task → ℕ
moves_of (Stream options) = 0
moves_of (Demo moves stepping) = moves

stepping_in : Task → Stepping
stepping_in (Stream options) = Events
stepping_in (Demo moves stepping) = stepping

pub same_demo : (words : List (List ℕ)) (m n : ℕ) (s t : Stepping) → Asks (Demo m s) words → Asks (Demo n t) words → (m ≡ n) × (s ≡ t)
unfolding moves_of stepping_in
same_demo words m n s t one other = let same = one_task words (Demo m s) (Demo n t) one other in (ap moves_of same, ap stepping_in same)

options_of : StreamOptions → Task → StreamOptions
options_of other (Stream options) = options
options_of other (Demo moves stepping) = other

pub same_options : (words : List (List ℕ)) (a b : StreamOptions) → Asks (Stream a) words → Asks (Stream b) words → a ≡ b
unfolding options_of
same_options words a b one other = ap (options_of a) (one_task words (Stream a) (Stream b) one other)
