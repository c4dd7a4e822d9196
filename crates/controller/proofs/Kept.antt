-- What the fields of a controller tell of all that it did: its epochs keep to their rules, and the open one has ended where it rests.
use Rattle.std.proofs.Common.{ℕ, ◌-◌, sym, ◌∙◌, subst}
use Rattle.std.specs.declared.option.Option.{Option}
use Rattle.run_rules.specs.declared.State.{State}
use Rattle.run_rules.specs.States.{IsOpening}
use Rattle.board_epochs.specs.Epochs.{Epochs, AreEpochs}
use Rattle.board_epochs.specs.Epochs.Epochs.{goes, resets}
use Rattle.board_turns.specs.Boards.{BoardIsOver}
use Rattle.reset_work.specs.declared.reset.ResetWork.{ResetWork}
use Rattle.controller.specs.declared.controller.Controller.{Controller}
use Rattle.controller.specs.Boards.{BoardFits, BoardRests, HaveFinished, rests_at}

-- what a board has done is what its rules allow, from an opening state on; the open epoch is finished where the board rests
pub record Kept {N : ℕ} (board : Controller N) (e : Epochs) : Type 0 where
  pub first : State
  pub opening : IsOpening first
  pub epochs : AreEpochs (N - 1) first e
  pub ended : BoardRests board → HaveFinished (N - 1) first e

pub kept_by : {N : ℕ} (board : Controller N) (e : Epochs) → BoardFits board e → Kept board e
kept_by board (goes es h) f = let fits = f.2 in record {
  first = f.0;
  opening = f.1;
  epochs = fits.epochs;
  ended = λ rests. (let over : BoardIsOver board.board = subst (λ (r : Option ResetWork). rests_at r board.board) fits.none rests in
      record { left = sym fits.board.keeps.lines.left_is ∙ over.none; closed = fits.board.keeps.closed over.closing });
}
kept_by board (resets es h w) f = let fits = f.2 in record {
  first = f.0;
  opening = f.1;
  epochs = fits.epochs;
  ended = λ rests. absurd (subst (λ (r : Option ResetWork). rests_at r board.board) fits.works rests);
}
