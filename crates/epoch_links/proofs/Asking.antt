-- A reset that ended an epoch was asked for by a word that was taken in it.
use Rattle.std.proofs.Common.{◌≡◌, ℕ, ◌+◌, ◌≤◌, ◌<◌, ◌&&◌, ◌||◌, not, Bool, true, false, cond, [], ◌∷◌, ◌++◌, length, arith}
use Rattle.run_rules.specs.declared.State.{State}
use Rattle.step_line.specs.Logs.{NewestFirst}
use Rattle.board_journal.specs.Ports.{BoardLog, asks_reset, known_in}
use Rattle.board_journal.specs.Ports.PortStep.{took_exec}
use Rattle.board_journal.specs.Steps.{Journal, port_log}
use Rattle.board_journal.specs.Steps.Step.{at_port}
use Rattle.board_epochs.specs.Epochs.{Closed, AreClosed, closed_log, log_behind, log_on}
use Rattle.board_epochs.specs.Resets.{has_reset, drops_resets}
use Rattle.epoch_links.specs.Taken.{resets_asked}

one_asked : (asked drops was : Bool) (n : ℕ) → (was ≡ true → 0 < n) → (asked && not drops || was) ≡ true → 0 < cond asked (n + 1) n
one_asked true drops was n before is = omega arith
one_asked false drops was n before is = before is

was_asked : (h : Journal) → has_reset h ≡ true → 0 < resets_asked (port_log h)
was_asked [] is = absurd cc
was_asked (at_port (took_exec word) ∷ h) is = one_asked (asks_reset word) (drops_resets h) (has_reset h) (resets_asked (port_log h)) (was_asked h) is
was_asked (at_port e ∷ h) is = was_asked h is
was_asked (_ ∷ h) is = was_asked h is

more_asked : (asked : Bool) (m n k : ℕ) → m ≡ n + k → cond asked (m + 1) m ≡ cond asked (n + 1) n + k
more_asked true m n k e = omega arith
more_asked false m n k e = e

asked_on : (base : ℕ) (l before : BoardLog) → resets_asked (log_on base l ++ before) ≡ resets_asked l + resets_asked before
asked_on base [] before = omega arith
asked_on base (took_exec word ∷ l) before = more_asked (asks_reset word) _ (resets_asked l) (resets_asked before) (asked_on base l before)
asked_on base (_ ∷ l) before = asked_on base l before

some_more : (asked : Bool) (n : ℕ) → n ≤ cond asked (n + 1) n
some_more true n = omega arith
some_more false n = omega arith

asked_before : (l before : BoardLog) → resets_asked before ≤ resets_asked (l ++ before)
asked_before [] before = omega arith
asked_before (took_exec word ∷ l) before = let i = asked_before l before in let m = some_more (asks_reset word) (resets_asked (l ++ before)) in omega (arith, i, m)
asked_before (_ ∷ l) before = asked_before l before

pub all_asked : (blocks : ℕ) (state : State) (es : NewestFirst Closed) → AreClosed blocks state es → length es ≤ resets_asked (closed_log es)
all_asked blocks state [] c = omega arith
all_asked blocks state (e ∷ es) c =
    let i = all_asked blocks state es c.1 in let own = was_asked e.journal c.0.resetting.may.asked in
    let on = asked_on (known_in (closed_log es)) (port_log e.journal) (closed_log es) in let more = asked_before (port_log e.work) (log_behind (closed_log es) e.journal) in omega (arith, i, own, on, more)
