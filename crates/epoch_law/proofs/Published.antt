-- The end is published once, behind all else.
use Rattle.std.proofs.Common.{◌≡◌, ℕ, List, [], ◌∷◌, ◌++◌, sym, ◌∙◌, subst, append_assoc}
use Rattle.run_rules.specs.declared.State.{State}
use Rattle.step_line.specs.Logs.{NewestFirst}
use Rattle.step_line.specs.declared.Mark.TheVariants as marks
use Rattle.step_line.specs.declared.Piece.{Piece}
use Rattle.step_line.specs.declared.Piece.TheVariants as pieces
use Rattle.board_rules.specs.Conduct.{Conducted}
use Rattle.board_journal.specs.Steps.{Journal, planned_of, published_of}
use Rattle.board_rules.proofs.Ending.{planned_none}
use Rattle.board_epochs.specs.Epochs.{Closed, AreClosed, opening_behind, last_line}
use Rattle.board_epochs.proofs.Bounding.{none_ended}
use Rattle.board_epochs.proofs.Prompting.{unended}
use Rattle.epoch_records.specs.Publishing.{published_in}
use Rattle.epoch_records.proofs.PutSoFar.{published_both}
use Rattle.epoch_runs.specs.Epochs.{closed_epochs, epochs_of}
use Rattle.run_law.proofs.Fronts.{Others}

others_on : (xs ys : List Piece) → Others pieces.End xs → Others pieces.End ys → Others pieces.End (xs ++ ys)
others_on [] ys a b = b
others_on (x ∷ xs) ys a b = (a.0, others_on xs ys a.1 b)

closed_none : (blocks : ℕ) (state : State) (es : NewestFirst Closed) → AreClosed blocks state es → Others pieces.End (published_in (closed_epochs blocks state es))
closed_none blocks state [] c = tt
closed_none blocks state (e ∷ es) c =
    let first = opening_behind blocks state es in
    let is = c.0.resetting.epoch in
    subst (Others pieces.End) (sym (published_both (closed_epochs blocks state es) (_ ∷ [])))
    (others_on (published_in (closed_epochs blocks state es)) (published_of e.journal ++ pieces.Mark (marks.Reset (last_line first e.journal)) ∷ []) (closed_none blocks state es c.1)
    (others_on (published_of e.journal) (pieces.Mark (marks.Reset (last_line first e.journal)) ∷ []) (none_ended first e.journal is.conducted (unended first e.journal is c.0.resetting.may)) ((λ e. absurd cc), tt)))

pub before_all : (blocks : ℕ) (state : State) (es : NewestFirst Closed) (h : Journal) → published_in (epochs_of blocks state es h) ≡ (published_in (closed_epochs blocks state es) ++ planned_of h) ++ pieces.End ∷ []
before_all blocks state es h = published_both (closed_epochs blocks state es) (_ ∷ []) ∙ sym (append_assoc (published_in (closed_epochs blocks state es)) (planned_of h) (pieces.End ∷ []))

pub none_before : (blocks : ℕ) (state : State) (es : NewestFirst Closed) (h : Journal) → AreClosed blocks state es → Conducted (opening_behind blocks state es) h → Others pieces.End (published_in (closed_epochs blocks state es) ++ planned_of h)
none_before blocks state es h closed c = others_on (published_in (closed_epochs blocks state es)) (planned_of h) (closed_none blocks state es closed) (planned_none (opening_behind blocks state es) h c)
