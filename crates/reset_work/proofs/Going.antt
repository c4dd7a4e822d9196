-- How one step at the port, and the answer of its turn, go on with a reset's work.
use Rattle.std.proofs.Common.{◌≡◌, ◌⊎◌, ℕ, ◌≤◌, ◌<◌, zero, suc, Bool, true, false, ◌||◌, ◌∷◌, [], refl, sym, ap, subst, ◌∙◌}
use Rattle.std.specs.List.{count_by, list_any}
use Rattle.std.proofs.lemmas.List.Sums.{count_by-le-length}
use Rattle.outside.specs.declared.On.{On}
use Rattle.outside.specs.declared.Turn.{Turn}
use Rattle.outside.specs.declared.Turn.TheVariants.{Did, Wait}
use Rattle.run_rules.specs.declared.State.{State}
use Rattle.step_line.specs.Logs.{NewestFirst}
use Rattle.board_journal.specs.Ports.{PortStep, BoardLog}
use Rattle.board_journal.specs.Steps.{Step, Journal}
use Rattle.board_journal.specs.Steps.Step.{at_port, turned}
use Rattle.board_rules.specs.Turns.{this_turn, moving}
use Rattle.board_epochs.specs.Epochs.{Closed, AreEpochs, IsBounded, closed_log, last_line, log_behind, log_of, opening_behind}
use Rattle.board_epochs.specs.Epochs.Epochs.{resets}
use Rattle.board_epochs.specs.Work.{Work, MayWorkAt, MayEndWork, NeedsAt, WorkWaits, IsOneTurn, stage_of, goes_out, looks_out, goes_on, requests_dropped, changes_dropped}
use Rattle.board_epochs.specs.Work.Stage.{over}
use Rattle.reset_work.specs.declared.reset.ResetWork.{ResetWork}
use Rattle.reset_work.specs.declared.reset.Stage.{Stage}
use Rattle.reset_work.specs.declared.reset.Stage.TheVariants.{DropsChanges, AwaitsMark, Stops, AwaitsHalt, Drops, AwaitsDone, Over}
use Rattle.reset_work.specs.declared.reset.Words.{Words}
use Rattle.reset_work.specs.declared.reset.Words.TheVariants.{Both, None}
use Rattle.reset_work.specs.Working.{IsWorking, WorksOn, AreDropped, stage_in, number_left, number_of}

-- where no word is left to be dropped, both were taken
pub both_dropped : (words : Words) (w : Work) → words ≡ None → AreDropped words w → (changes_dropped w ≡ true) × (requests_dropped w ≡ true)
both_dropped words w free dropped = subst (λ (ws : Words). AreDropped ws w) free dropped

-- in a turn of one step one thing goes out at most, and one is looked for
one_of : (f : Step → Bool) (s : Step) (w : Work) → this_turn w ≡ [] → count_by f (s ∷ this_turn w) ≤ 1
one_of f s w between = subst (λ (x : Work). count_by f (s ∷ x) ≤ 1) (sym between) (count_by-le-length f (s ∷ []))

pub one_out : (e : PortStep) (w : Work) → this_turn w ≡ [] → IsOneTurn (at_port e ∷ w)
one_out e w between = record { once = one_of goes_out (at_port e) w between; looks = one_of looks_out (at_port e) w between }

-- A step that is allowed, and the answer of its turn, go on with the work, which is not over.
pub stepped : (blocks : ℕ) (state : State) (es : NewestFirst Closed) (h : Journal) (w : Work) (e : PortStep) (t : Turn)
    → AreEpochs blocks state (resets es h w)
    → (stage_of (log_behind (closed_log es) h) w ≡ over → ⊥)
    → MayWorkAt (last_line (opening_behind blocks state es) h) (log_of (resets es h w)) e (stage_of (log_behind (closed_log es) h) w)
    → MayEndWork (log_behind (closed_log es) h) t (at_port e ∷ w)
    → IsBounded (e ∷ log_of (resets es h w))
    → AreEpochs blocks state (resets es h (turned t ∷ at_port e ∷ w))
stepped blocks state es h w e t c going may ends bounded = (
  c.0,
  record {
    epoch = c.1.epoch;
    may = c.1.may;
    works = (ends, (λ worked. absurd (let n = worked.between in cc)), (may, (λ worked. going worked.done), c.1.works));
  },
  bounded,
)

-- the last stage alone is that of a work that is over
is_last : (s : Stage) → stage_in s ≡ over → s ≡ Over
is_last Over e = refl
is_last DropsChanges e = absurd cc
is_last AwaitsMark e = absurd cc
is_last (Stops left) e = absurd cc
is_last (AwaitsHalt left) e = absurd cc
is_last (Drops zero) e = absurd cc
is_last (Drops (suc left)) e = absurd cc
is_last AwaitsDone e = absurd cc

-- a turn of one step, behind which the fields keep what was done
pub turned_by : (is : BoardLog → Type 0) (t : Turn) (was new : ResetWork) (blocks : ℕ) (state : State) (es : NewestFirst Closed) (h : Journal) (w : Work) (e : PortStep)
    → is (e ∷ log_of (resets es h w))
    → AreEpochs blocks state (resets es h (turned t ∷ at_port e ∷ w))
    → IsWorking new (last_line (opening_behind blocks state es) h) (log_behind (closed_log es) h) (turned t ∷ at_port e ∷ w)
    → (t ≡ Did → (list_any moving (at_port e ∷ this_turn w) ≡ true) ⊎ (number_of new < number_of was))
    → (new.stage ≡ Over → number_left < number_of was)
    → WorksOn is t was new blocks state es h w
turned_by is t was new blocks state es h w e port epochs working moves ends = (
  turned t ∷ at_port e ∷ w,
  record { port = port; epochs = epochs; working = working; between = refl },
  record { steps = at_port e ∷ []; are = refl; inner = refl; moves = moves; ends = λ worked. ends (is_last new.stage (sym working.stage_is ∙ worked.done)) },
)

-- a turn waits with one step that neither goes out nor goes on, once both words were taken
pub waits : (before : BoardLog) (w : Work) (e : PortStep) (o : On) → this_turn w ≡ [] → goes_on (at_port e) ≡ false
    → requests_dropped (at_port e ∷ w) ≡ requests_dropped w → changes_dropped (at_port e ∷ w) ≡ changes_dropped w
    → (changes_dropped w ≡ true) × (requests_dropped w ≡ true) → NeedsAt o (stage_of before (at_port e ∷ w)) (at_port e ∷ w) → WorkWaits before o (at_port e ∷ w)
waits before w e o between still requests changes dropped cause = record {
  one = one_out e w between;
  cause = cause;
  still = subst (λ (x : Work). list_any goes_on (at_port e ∷ x) ≡ false) (sym between) (ap (λ (b : Bool). b || false) still);
  requests = requests ∙ dropped.1;
  changes = changes ∙ dropped.0;
}

-- a turn that waits does so with both words to be dropped again
pub waited : (is : BoardLog → Type 0) (t : Turn) (new : ResetWork) (o : On) (it : ResetWork) (blocks : ℕ) (state : State) (es : NewestFirst Closed) (h : Journal) (w : Work)
    → t ≡ Wait o → new ≡ record it { words = Both } → WorksOn is (Wait o) it (record it { words = Both }) blocks state es h w → WorksOn is t it new blocks state es h w
waited is t new o it blocks state es h w turn words on =
    subst (λ (u : Turn). WorksOn is u it new blocks state es h w) (sym turn) (subst (λ (n : ResetWork). WorksOn is (Wait o) it n blocks state es h w) (sym words) on)
