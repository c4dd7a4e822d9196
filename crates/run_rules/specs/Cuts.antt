-- Lines of which a cut has dropped what was left: which of their ticks are lost, and how many count.
use Rattle.std.specs.Prelude.{◌≡◌, ℕ, ◌+◌, ◌-◌, ◌≤◌, ◌⊎◌, min, true, List, [], ◌∷◌, length, map}
use Rattle.step_line.specs.declared.Record.{Record}
use Rattle.step_line.specs.Asking.{ticks_of_all}
use Rattle.run_rules.specs.Work.{Outcome, asks, accepted_jog}

-- the ticks that a line asks for, and how many these are
abbrev pub ticks_for : Outcome → List Record
ticks_for o = ticks_of_all (asks o.work)

abbrev pub ticks_asked_for : Outcome → ℕ
ticks_asked_for o = length (ticks_for o)

-- the first m ticks of these lines leave out ticks of jogs alone
abbrev pub LosesJogsAlone : ℕ → List Outcome → Type 0
LosesJogsAlone m [] = Unit {0}
LosesJogsAlone m (o ∷ os) = ((accepted_jog o.kind ≡ true) ⊎ (ticks_asked_for o ≤ m)) × LosesJogsAlone (m - ticks_asked_for o) os

-- how many ticks count of each of some lines that no cut has ended
abbrev pub counts_asked : List Outcome → List ℕ
counts_asked outcomes = map ticks_asked_for outcomes

-- the same if only the first m of all of them were given
abbrev pub cut_to : ℕ → List ℕ → List ℕ
cut_to m [] = []
cut_to m (n ∷ ns) = min n m ∷ cut_to (m - n) ns

-- a cut is a tick itself, which counts with the last line before it
abbrev pub with_cut : List ℕ → List ℕ
with_cut [] = []
with_cut (n ∷ []) = (n + 1) ∷ []
with_cut (n ∷ more ∷ ns) = n ∷ with_cut (more ∷ ns)
