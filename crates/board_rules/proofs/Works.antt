-- What there is to do of a line: by whatever becomes of it, it comes to rest where the line settles.
use Rattle.std.proofs.Common.{◌≡◌, ℕ, ◌==◌, if◌then◌else◌, inr, List, [], ◌∷◌, ◌++◌, true, false, Bool, refl}
use Rattle.status_report.specs.declared.Reply.{Reply}
use Rattle.status_report.specs.declared.Reply.TheVariants as replies
use Rattle.step_line.specs.Counting.{events_of}
use Rattle.step_line.specs.Asking.Asked.{a_move}
use Rattle.step_line.specs.declared.planned_move.PlannedMove.{PlannedMove}
use Rattle.run_rules.specs.Asks.{planned}
use Rattle.run_rules.specs.Work.{Outcome, telling, asking, has_moves}
use Rattle.run_rules.specs.Work.Task.{tell}
use Rattle.run_rules.specs.Outcomes.{Before, Becomes}
use Rattle.board_journal.specs.Openings.{Opening}
use Rattle.board_journal.specs.Steps.{Journal, open_of}
use Rattle.board_rules.specs.Conduct.{MayBegin}
use Rattle.board_rules.proofs.Beginning.{caused, of_begun}
use Rattle.board_rules.specs.Whole.{has_work, WorkRests}
use Rattle.board_rules.proofs.Resting.{settles, still}
use Rattle.run_rules.proofs.Each.{HoldsOfEach, holds_of_each}

-- no work is told
tells_are_no_work : (rs : List Reply) → has_work (telling rs) ≡ false
tells_are_no_work [] = refl
tells_are_no_work (r ∷ rs) = tells_are_no_work rs

no_moves : (none : Bool) (m : PlannedMove) → has_moves (asking (if none then [] else a_move m ∷ []) ++ tell replies.Ok ∷ []) ≡ false
    → has_work (asking (if none then [] else a_move m ∷ []) ++ tell replies.Ok ∷ []) ≡ false
no_moves true m e = refl
no_moves false m e = absurd cc

pub works : (runs : Bool) (b : Before) (kept : List ℕ) (o : Outcome) → Becomes runs b kept o → WorkRests o
works runs b kept o is =
    let modal = b.state.parser.modal in
    let each : HoldsOfEach b WorkRests = record {
      refuses = λ n. record { settles = λ e. absurd cc; still = λ none. inr refl };
      tells = λ next body kind. record { settles = λ e. absurd cc; still = λ none. inr (tells_are_no_work (body ++ replies.Ok ∷ [])) };
      executes = λ a. record {
        settles = settles b.number b.state.settings modal.spindle modal.flood a.items.items;
        still = still b.number b.state.settings modal.spindle modal.flood a.items.items;
      };
      jogs = λ jog. record {
        settles = λ e. absurd cc;
        still = λ none. inr (no_moves (events_of jog.mv == 0) (planned b.number b.state.settings jog.mv jog.rate) none);
      };
      limits = record { settles = λ e. absurd cc; still = λ none. inr refl };
    } in
    holds_of_each runs b WorkRests each kept o is

-- what there is to do of a line that is begun
pub begun_rests : (first : Opening) (h : Journal) (o : Outcome) → MayBegin first o h → WorkRests o
begun_rests first h o may = of_begun first h o WorkRests may (record { settles = λ e. absurd cc; still = λ none. inr refl }) (works true (caused first h) (open_of h))
