use Rattle.std.proofs.Common.{◌∷◌, refl, sym, ◌∙◌}
use Rattle.board_journal.specs.Steps.Step.{closing}
use Rattle.board_turns.proofs.Limiting.{may_close, closes_limited}
use Rattle.board_turns.proofs.Resetting.{unreset_limited}
use Rattle.board_turns.proofs.Steps.{closes}
use Rattle.board_turns.proofs.board.Board.close_limited.Goals as goal

pub returns-clause-goes_on : goal.returns-clause-goes_on
returns-clause-goes_on g c = λ first h k ready none.
    let s = c.args.self.now in
    let is = sym k.alarmed_is ∙ c.requires.alarmed in
    let now = closes first s _ h k (unreset_limited first s h k is) (may_close first s h k is none c.requires.«open») c.close.ensures in
    (closing ∷ h, refl, closes_limited first s _ h k now ready is none c.requires.«open» c.requires.unpublished c.requires.flags c.requires.flags)
