-- What a board took of the words of flags, by the log of its port.
use Rattle.std.specs.Prelude.{List, [], ◌∷◌}
use Rattle.realtime_flags.specs.declared.words.Take.{Take}
use Rattle.realtime_flags.specs.declared.words.Take.TheVariants as takes
use Rattle.board_journal.specs.Ports.{PortStep, BoardLog}
use Rattle.board_journal.specs.Ports.PortStep.{took_exec, took_ovr}

-- the words that a board took, the latest first
abbrev pub takes_at : PortStep → List Take → List Take
takes_at (took_exec word) ts = takes.Exec word ∷ ts
takes_at (took_ovr word) ts = takes.Override word ∷ ts
takes_at e ts = ts

abbrev pub takes_in : BoardLog → List Take
takes_in [] = []
takes_in (e ∷ l) = takes_at e (takes_in l)
