-- A turn of a controller: the open epoch goes on, or a reset's work.
use Rattle.std.proofs.Common.{ℕ, ◌-◌, ◌≡◌, ◌<◌, Some, None, [], refl, sym, ◌∙◌, subst, arith}
use Rattle.outside.specs.declared.Turn.{Turn}
use Rattle.run_rules.specs.declared.State.{State}
use Rattle.run_rules.specs.States.{IsOpening}
use Rattle.step_line.specs.Logs.{NewestFirst}
use Rattle.board_journal.specs.Ports.{BoardLog}
use Rattle.board_journal.specs.Steps.{Journal}
use Rattle.board_rules.specs.Turns.{this_turn}
use Rattle.board_epochs.specs.Epochs.{Closed, Epochs, log_of, opening_behind}
use Rattle.board_epochs.specs.Epochs.Epochs.{goes, resets}
use Rattle.board_epochs.specs.Work.{Work}
use Rattle.board_turns.proofs.Numbers.{number_few}
use Rattle.board_turns.specs.Boards.{GoingBetween}
use Rattle.reset_work.specs.declared.reset.ResetWork.{ResetWork}
use Rattle.controller.specs.declared.controller.Controller.{Controller}
use Rattle.controller.specs.Boards.{GoesFits, ResetsFits, BoardFits, BoardTurned, IsBetween, number_in}
use Rattle.controller.specs.Turning.{GoesOn}
use Rattle.board_turns.proofs.AnyState.{number_any}

-- what the public clause says of a turn
abbrev pub GoneOn : {N : ℕ} → (BoardLog → Type 0) → Turn → Controller N → Controller N → Epochs → Type 0
GoneOn stands t was is e = (next : Epochs) × stands (log_of next) × BoardFits is next × IsBetween next × BoardTurned t was is e next

from_state : {N : ℕ} (stands : BoardLog → Type 0) (t : Turn) (state : State) (was is : Controller N) (e : Epochs) → IsOpening state → GoesOn stands t state was is e → GoneOn stands t was is e
from_state stands t state was is e opening g = (g.0, g.1, (state, opening, g.2), g.3, g.4)

no_work : (work : ResetWork) {A : Type 0} → None ≡ Some work → A
no_work work e = absurd cc

-- ---- with no reset

pub record Goes {N : ℕ} (was : BoardLog → Type 0) (c : Controller N) (e : Epochs) : Type 0 where
  pub state : State
  pub opening : IsOpening state
  pub closed : NewestFirst Closed
  pub journal : Journal
  pub are : e ≡ goes closed journal
  pub at : was (log_of (goes closed journal))
  pub fits : GoesFits state c closed journal
  pub between : GoingBetween journal

pub goes_so : {N : ℕ} (was : BoardLog → Type 0) (c : Controller N) (e : Epochs) → c.reset ≡ None → was (log_of e) → BoardFits c e → IsBetween e → Goes was c e
goes_so was c (goes es h) none at f between = record { state = f.0; opening = f.1; closed = es; journal = h; are = refl; at = at; fits = f.2; between = between }
goes_so was c (resets es h w) none at f between = let fits = f.2 in no_work fits.work (sym none ∙ fits.works)

pub goes_gone : {N : ℕ} (stands : BoardLog → Type 0) (t : Turn) (c is : Controller N) (e : Epochs) (was : BoardLog → Type 0) → (g : Goes was c e) → GoesOn stands t g.state c is (goes g.closed g.journal) → GoneOn stands t c is e
goes_gone stands t c is e was g on =
    subst (λ (x : Epochs). GoneOn stands t c is x) (sym g.are) (from_state stands t g.state c is (goes g.closed g.journal) g.opening on)

-- ---- with one

pub record Resets {N : ℕ} (was : BoardLog → Type 0) (c : Controller N) (e : Epochs) : Type 0 where
  pub state : State
  pub opening : IsOpening state
  pub closed : NewestFirst Closed
  pub journal : Journal
  pub work : Work
  pub are : e ≡ resets closed journal work
  pub at : was (log_of (resets closed journal work))
  pub fits : ResetsFits state c closed journal work
  pub between : this_turn work ≡ []

pub resets_so : {N : ℕ} (was : BoardLog → Type 0) (c : Controller N) (work : ResetWork) (e : Epochs) → c.reset ≡ Some work → was (log_of e) → BoardFits c e → IsBetween e → Resets was c e
resets_so was c work (goes es h) some at f between = let fits = f.2 in no_work work (sym fits.none ∙ some)
resets_so was c work (resets es h w) some at f between = record { state = f.0; opening = f.1; closed = es; journal = h; work = w; are = refl; at = at; fits = f.2; between = between }

pub resets_gone : {N : ℕ} (stands : BoardLog → Type 0) (t : Turn) (c is : Controller N) (e : Epochs) (was : BoardLog → Type 0) → (g : Resets was c e) → GoesOn stands t g.state c is (resets g.closed g.journal g.work) → GoneOn stands t c is e
resets_gone stands t c is e was g on =
    subst (λ (x : Epochs). GoneOn stands t c is x) (sym g.are) (from_state stands t g.state c is (resets g.closed g.journal g.work) g.opening on)

-- ---- the number

pub few_going : {N : ℕ} (state : State) (c : Controller N) (e : Epochs) → c.reset ≡ None → BoardFits c e → number_in state c e < 64
few_going {N} state c (goes es h) none f =
    let fits = f.2 in let few = number_few (opening_behind (N - 1) f.0 es) c.board h fits.board in let same = number_any (N - 1) state f.0 es c.board.flags h in omega (arith, few, same)
few_going state c (resets es h w) none f = let fits = f.2 in no_work fits.work (sym none ∙ fits.works)
