-- What is published of epochs, and which halts they have.
use Rattle.std.specs.Prelude.{◌≡◌, ◌⊎◌, ℕ, ◌+◌, ◌≤◌, nat_eq, cond, List, [], ◌∷◌, ◌++◌, length}
use Rattle.step_line.specs.Finishing.{ticks_together}
use Rattle.step_line.specs.declared.Piece.{Piece}
use Rattle.step_line.specs.declared.Piece.TheVariants as pieces
use Rattle.epoch_records.specs.Epochs.{Epoch}
use Rattle.epoch_records.specs.Stretches.{Opens}

-- of each epoch its pieces, and the one that ends it
abbrev pub published_in : List Epoch → List Piece
published_in [] = []
published_in (e ∷ es) = e.pieces ++ e.closing ∷ published_in es

-- Behind so many pieces, and so many ticks, a halt in each epoch but the last: how many pieces were published up to it, and how many
-- ticks were done. The mark that ends the epoch comes behind it, and is done before the next begins.
abbrev pub halts_in : (published done : ℕ) → List Epoch → List (ℕ × ℕ)
halts_in published done [] = []
halts_in published done (e ∷ []) = []
halts_in published done (e ∷ (f ∷ es)) = (published + length e.pieces, done + e.done) ∷ halts_in (published + length e.pieces + 1) (done + e.done + 1) (f ∷ es)

-- halts, but for one at no pieces
abbrev pub but_none : List (ℕ × ℕ) → List (ℕ × ℕ)
but_none [] = []
but_none (halt ∷ halts) = cond (nat_eq halt.0 0) (but_none halts) (halt ∷ but_none halts)

-- The halts that were stored are those that were seen; or those but for one at no pieces, where none is stored then.
abbrev pub AreSameHalts : (seen stored : List (ℕ × ℕ)) → Type 0
AreSameHalts seen stored = (stored ≡ seen) ⊎ (stored ≡ but_none seen)

-- Each epoch but the last is ended by a mark, and no more ticks are made in it than its pieces have; the last is ended by the end, and all
-- are made.
abbrev pub AreOver : List Epoch → Type 0
AreOver [] = ⊥
AreOver (e ∷ []) = (e.closing ≡ pieces.End) × (e.done ≡ ticks_together e.pieces)
AreOver (e ∷ (f ∷ es)) = Opens (e.closing ∷ []) × (e.done ≤ ticks_together e.pieces) × AreOver (f ∷ es)
