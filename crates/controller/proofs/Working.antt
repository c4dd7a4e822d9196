-- A reset's work goes on, and the next epoch begins behind it.
use Rattle.std.proofs.Common.{ℕ, ◌≡◌, ◌+◌, ◌-◌, ◌^◌, ◌≤◌, ◌<◌, ◌⊎◌, inl, inr, true, Some, [], ◌∷◌, ◌++◌, refl, sym, ap, ◌∙◌, subst, arith}
use Rattle.std.specs.List.{list_any}
use Rattle.outside.specs.declared.Turn.{Turn}
use Rattle.run_rules.specs.declared.State.{State}
use Rattle.step_line.specs.Logs.{NewestFirst}
use Rattle.board_journal.specs.Ports.{BoardLog}
use Rattle.board_journal.specs.Steps.{Journal}
use Rattle.board_rules.specs.Turns.{this_turn, moving}
use Rattle.board_epochs.specs.Epochs.{Closed, AreEpochs, closed_log, last_line, log_behind, log_of, opening_behind}
use Rattle.board_epochs.specs.Epochs.Epochs.{goes, resets}
use Rattle.board_epochs.specs.Work.{Work, IsWorked}
use Rattle.board_epochs.proofs.Asking.{number_there}
use Rattle.board_turns.specs.Boards.{EpochFits}
use Rattle.board_turns.proofs.AnyState.{number_any}
use Rattle.board_turns.proofs.Numbers.{number_few}
use Rattle.reset_work.specs.Counting.{IsCounted}
use Rattle.reset_work.specs.Working.{IsBetween as IsBetweenWork, IsWorking, WorksOn, number_of as number_of_work}
use Rattle.reset_work.specs.declared.reset.ResetWork.{ResetWork}
use Rattle.reset_work.proofs.Parting.{resets_end}
use Rattle.controller.specs.declared.controller.Controller.{Controller}
use Rattle.controller.specs.Boards.{GoesFits, ResetsFits, number_in, work_number}
use Rattle.controller.specs.Turning.{GoesOn}

-- ---- the work

same_work : (a b : ResetWork) → Some a ≡ Some b → b ≡ a
same_work a b e = cc

-- the work of a controller, between two turns
pub work_between : {N : ℕ} (stands : BoardLog → Type 0) (state : State) (c : Controller N) (work : ResetWork) (es : NewestFirst Closed) (h : Journal) (w : Work) → c.reset ≡ Some work → stands (log_of (resets es h w)) → ResetsFits state c es h w → this_turn w ≡ []
    → IsBetweenWork stands work (N - 1) state es h w
work_between {N} stands state c work es h w is at f between = record {
  port = at;
  epochs = f.epochs;
  working = subst (λ (x : ResetWork). IsWorking x (last_line (opening_behind (N - 1) state es) h) (log_behind (closed_log es) h) w) (same_work work f.work (sym is ∙ f.works)) f.working;
  between = between;
}

-- it goes on, where it is not worked whole
pub still_works : {N : ℕ} (stands : BoardLog → Type 0) (t : Turn) (state : State) (was is : Controller N) (old new : ResetWork) (es : NewestFirst Closed) (h : Journal) (w : Work) → (n : WorksOn stands t old new (N - 1) state es h w)
    → ResetsFits state was es h w → was.reset ≡ Some old → is ≡ record was { reset = Some new } → (IsWorked (log_behind (closed_log es) h) n.0 → ⊥) → GoesOn stands t state was is (resets es h w)
still_works {N} stands t state was is old new es h w n f had same unworked = (
  resets es h n.0,
  n.1.port,
  record {
    epochs = n.1.epochs;
    work = new;
    works = ap (λ (c : Controller _). c.reset) same;
    board = subst (λ (c : Controller _). EpochFits (opening_behind (N - 1) state es) c.board h) (sym same) f.board;
    counts = subst (λ (c : Controller _). IsCounted c.counts es) (sym same) f.counts;
    working = n.1.working;
    unworked = unworked;
  },
  n.1.between,
  record { steps = n.2.steps; are = inl (ap (λ (j : Work). resets es h j) n.2.are); inner = n.2.inner; moves = λ did. by_kind (n.2.moves did) },
)
  where
    now : work_number is.reset ≡ number_of_work new
    now = ap (λ (c : Controller _). work_number c.reset) same

    before : work_number was.reset ≡ number_of_work old
    before = ap work_number had

    by_kind : (list_any moving (this_turn (n.2.steps ++ w)) ≡ true) ⊎ (number_of_work new < number_of_work old)
        → (list_any moving (this_turn (n.2.steps ++ w)) ≡ true) ⊎ ((s : State) → work_number is.reset < work_number was.reset)
    by_kind (inl some) = inl some
    by_kind (inr less) = inr (λ s. (let a = now in let b = before in omega (arith, less, a, b)))

-- ---- the next epoch

-- lines are no more than bytes
pub lines_few : (blocks : ℕ) (state : State) (es : NewestFirst Closed) (h : Journal) (w : Work) → AreEpochs blocks state (resets es h w) → IsWorked (log_behind (closed_log es) h) w
    → (opening_behind blocks state (record { journal = h; work = w } ∷ es)).lines ≤ 2 ^ 31
lines_few blocks state es h w epochs worked =
    let next = (resets_end blocks state es h w epochs worked).0 in
    let many = number_there blocks state (record { journal = h; work = w } ∷ es) [] next.0 next.1.conducted in
    let bytes = next.2.bytes in
    omega (arith, many, bytes)

-- it begins, once the work is whole
pub epoch_begins : {N : ℕ} (stands : BoardLog → Type 0) (t : Turn) (state : State) (was is : Controller N) (old new : ResetWork) (es : NewestFirst Closed) (h : Journal) (w : Work) → (n : WorksOn stands t old new (N - 1) state es h w)
    → was.reset ≡ Some old → GoesFits state is (record { journal = h; work = n.0 } ∷ es) [] → IsWorked (log_behind (closed_log es) h) n.0 → GoesOn stands t state was is (resets es h w)
epoch_begins {N} stands t state was is old new es h w n had f worked = (
  goes (record { journal = h; work = n.0 } ∷ es) [],
  n.1.port,
  f,
  refl,
  record { steps = n.2.steps; are = inr (ap (λ (j : Work). goes (record { journal = h; work = j } ∷ es) []) n.2.are); inner = n.2.inner; moves = λ did. inr less },
)
  where
    less : (s : State) → number_in s is (goes (record { journal = h; work = n.0 } ∷ es) []) < work_number was.reset
    less s =
        let few = number_few (opening_behind (N - 1) state (record { journal = h; work = n.0 } ∷ es)) is.board [] f.board in
        let same = number_any (N - 1) s state (record { journal = h; work = n.0 } ∷ es) is.board.flags [] in
        let many = n.2.ends worked in let before = ap work_number had in
        omega (arith, few, same, many, before)
