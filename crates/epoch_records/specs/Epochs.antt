-- The pieces of a run, epoch by epoch, and the records that are put of them.
use Rattle.std.specs.Prelude.{◌≡◌, ℕ, List, [], ◌∷◌, ◌++◌, length}
use Rattle.planner_runs.specs.Runs.{all_records}
use Rattle.run_texts.specs.Fronts.{BeginsWith}
use Rattle.step_line.specs.Asking.{ticks_among}
use Rattle.step_line.specs.Pieces.{records_of}
use Rattle.step_line.specs.declared.Piece.{Piece}
use Rattle.step_line.specs.declared.Piece.TheVariants as pieces
use Rattle.step_line.specs.declared.Record.{Record}

-- An epoch: the pieces that were published in it, in order; how many of their ticks were made before it was over; and the
-- piece that was published then, and ends it: the mark of a reset, or the end.
pub record Epoch : Type 0 where
  pub pieces : List Piece
  pub done : ℕ
  pub closing : Piece

-- What is put of the pieces of an epoch: the first of their records, up to the ticks that were made. So a halt cuts a piece behind
-- its first ticks, and of a piece that it drops nothing is put. Before the end all of them are put.
pub record IsPut (e : Epoch) (mine : List Record) : Type 0 where
  pub first : BeginsWith (all_records e.pieces) mine
  pub ticks : length (ticks_among mine) ≡ e.done
  pub whole : e.closing ≡ pieces.End → mine ≡ all_records e.pieces

-- What is put of epochs, one after another, each with the record that ends it.
abbrev pub ArePut : List Epoch → List Record → Type 0
ArePut [] records = records ≡ []
ArePut (e ∷ es) records =
    (mine : List Record) × (rest : List Record) × (records ≡ mine ++ (records_of e.closing ++ rest))
    × IsPut e mine × ArePut es rest
