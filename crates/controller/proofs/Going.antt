-- The open epoch goes on: its port serves it, and behind a turn a reset is worked as soon as it may be.
use Rattle.std.proofs.Common.{◌≡◌, ℕ, ◌+◌, ◌-◌, ◌<◌, ◌⊎◌, inl, inr, true, [], ◌++◌, refl, sym, ap, ◌∙◌, subst, arith}
use Rattle.std.specs.List.{list_any}
use Rattle.outside.specs.declared.Turn.{Turn}
use Rattle.outside.specs.declared.Turn.TheVariants.{Did}
use Rattle.run_rules.specs.declared.State.{State}
use Rattle.step_line.specs.Logs.{NewestFirst}
use Rattle.board_journal.specs.Ports.{BoardLog}
use Rattle.board_journal.specs.Steps.{Journal, port_log}
use Rattle.board_rules.specs.Turns.{this_turn, moving}
use Rattle.board_epochs.specs.Epochs.{Closed, AreEpochs, log_of, opening_behind, ticks_made}
use Rattle.board_epochs.specs.Epochs.Epochs.{goes, resets}
use Rattle.board_epochs.specs.Resets.{MayReset}
use Rattle.board_turns.specs.declared.board.Board.{Board}
use Rattle.board_turns.specs.Boards.{GoingTurned, number_of}
use Rattle.reset_work.specs.Counting.{IsCounted}
use Rattle.epoch_ports.specs.Serving.{Since, Serves}
use Rattle.controller.specs.declared.controller.Controller.{Controller}
use Rattle.controller.specs.Boards.{GoesFits, ResetsFits, going_number, number_in, work_number}
use Rattle.controller.specs.Turning.{GoesOn, WentOn}
use Rattle.board_turns.proofs.AnyState.{number_any}

-- ---- its port

abbrev pub since_closed : {R : Type 0} → R → (blocks : ℕ) → State → NewestFirst Closed → Since R
since_closed rest blocks state es = record { rest = rest; blocks = blocks; state = state; closed = es }

pub serves : (R : Type 0) (port : R → BoardLog → Type 0) (base : ℕ) (rest : R) (blocks : ℕ) (state : State) (es : NewestFirst Closed) (h : Journal) → base ≡ ticks_made es → port rest (log_of (goes es h)) → AreEpochs blocks state (goes es h)
    → Serves R port base (since_closed rest blocks state es) (opening_behind blocks state es) (port_log h)
serves R port base rest blocks state es h ticks at epochs = record {
  stands = at;
  ticks = ticks;
  opens = refl;
  closed = epochs.0;
  bounded = record { bytes = epochs.2.bytes; reports = epochs.2.reports };
}

-- ---- a turn

-- what a turn of the board moves, or lowers, it does whatever state the run began with
moves_any : {N : ℕ} (t : Turn) (state : State) (was is : Controller N) (es : NewestFirst Closed) (h next : Journal) → (g : GoingTurned (opening_behind (N - 1) state es) t was.board is.board h next)
    → t ≡ Did → (list_any moving (this_turn (g.steps ++ h)) ≡ true) ⊎ ((s : State) → number_in s is (goes es next) < number_in s was (goes es h))
moves_any {N} t state was is es h next g did = by_kind (g.moves did)
  where
    by_kind : (list_any moving (this_turn (g.steps ++ h)) ≡ true) ⊎ (number_of (opening_behind (N - 1) state es) is.board.flags next < number_of (opening_behind (N - 1) state es) was.board.flags h)
        → (list_any moving (this_turn (g.steps ++ h)) ≡ true) ⊎ ((s : State) → number_in s is (goes es next) < number_in s was (goes es h))
    by_kind (inl some) = inl some
    by_kind (inr less) = inr (λ s. (let a = number_any (N - 1) s state es is.board.flags next in let b = number_any (N - 1) s state es was.board.flags h in omega (arith, less, a, b)))

-- the epoch goes on, where no reset may be worked
pub still_goes : {N : ℕ} (stands : BoardLog → Type 0) (t : Turn) (state : State) (was is : Controller N) (es : NewestFirst Closed) (h : Journal) → (w : WentOn stands t state es was.board is.board h) → GoesFits state was es h
    → is ≡ record was { board = is.board } → (MayReset (opening_behind (N - 1) state es) w.next → ⊥) → GoesOn stands t state was is (goes es h)
still_goes {N} stands t state was is es h w f same unready = (
  goes es w.next,
  w.port,
  record {
    epochs = w.epochs;
    none = ap (λ (c : Controller _). c.reset) same ∙ f.none;
    board = w.fits;
    counts = subst (λ (c : Controller _). IsCounted c.counts es) (sym same) f.counts;
    unready = unready;
  },
  w.between,
  record { steps = w.turned.steps; are = inl (ap (λ (j : Journal). goes es j) w.turned.are); inner = w.turned.inner; moves = moves_any t state was is es h w.next w.turned },
)

-- a reset is worked behind it
pub reset_begins : {N : ℕ} (stands : BoardLog → Type 0) (t : Turn) (state : State) (was is : Controller N) (board : Board N) (es : NewestFirst Closed) (h : Journal) → (w : WentOn stands t state es was.board board h)
    → ResetsFits state is es w.next [] → work_number is.reset < going_number → GoesOn stands t state was is (goes es h)
reset_begins stands t state was is board es h w f few = (
  resets es w.next [],
  w.port,
  f,
  refl,
  record { steps = w.turned.steps; are = inr (ap (λ (j : Journal). resets es j []) w.turned.are); inner = w.turned.inner; moves = λ did. inr (λ s. omega (arith, few)) },
)
