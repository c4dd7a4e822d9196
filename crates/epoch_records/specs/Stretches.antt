-- What a pulse has done, halt by halt, and the epochs that its halts end.
use Rattle.std.specs.Prelude.{◌≡◌, ℕ, ◌+◌, ◌⊎◌, List, [], ◌∷◌, ◌++◌, length, reverse}
use Rattle.std.specs.List.{flat_map}
use Rattle.flight.specs.Halts.{Stretch, count_made}
use Rattle.planner_runs.specs.Runs.{all_records}
use Rattle.pulse_engine.specs.Logs.{PieceLog, got_since}
use Rattle.pulse_engine.specs.Logs.PieceEvent.{ticked, halted}
use Rattle.run_texts.specs.Fronts.{BeginsWith}
use Rattle.step_line.specs.Asking.{ticks_among}
use Rattle.step_line.specs.Finishing.{ticks_together}
use Rattle.step_line.specs.Logs.{NewestFirst}
use Rattle.step_line.specs.declared.Piece.{Piece}
use Rattle.step_line.specs.declared.Piece.TheVariants as pieces
use Rattle.step_line.specs.declared.Record.{Record}
use Rattle.epoch_records.specs.Epochs.{Epoch}

-- ---- of a pulse

-- how many ticks were counted since the last halt
abbrev pub counted_since : PieceLog → ℕ
counted_since [] = 0
counted_since (ticked ∷ h) = counted_since h + 1
counted_since (halted ps ∷ h) = 0
counted_since (_ ∷ h) = counted_since h

-- the stretch that a halt ends: the pieces that were got in it or dropped, in order, and how many ticks were counted
abbrev pub stretch_of : NewestFirst Piece → PieceLog → Stretch
stretch_of dropped h = record { pieces = reverse (dropped ++ got_since h); done = counted_since h }

-- the stretches that halts have ended, the oldest first
abbrev pub stretches_in : PieceLog → List Stretch
stretches_in [] = []
stretches_in (halted ps ∷ h) = stretches_in h ++ stretch_of ps h ∷ []
stretches_in (_ ∷ h) = stretches_in h

-- the pieces that were got since the last halt, in order
abbrev pub pieces_since : PieceLog → List Piece
pieces_since h = reverse (got_since h)

-- the pieces of some stretches
abbrev pub pieces_of_all : List Stretch → List Piece
pieces_of_all ss = flat_map (λ s. s.pieces) ss

-- These halts end these stretches: of each, how many pieces were got or dropped up to it, and how many ticks were counted; the newest
-- first.
abbrev pub EndStretches : NewestFirst (ℕ × ℕ) → List Stretch → Type 0
EndStretches [] ss = ss ≡ []
EndStretches (halt ∷ halts) ss =
    (early : List Stretch) × (s : Stretch) × (ss ≡ early ++ s ∷ []) × (halt.0 ≡ length (pieces_of_all ss)) × (halt.1 ≡ count_made ss) × EndStretches halts early

-- ---- what is put

-- of a stretch the first of the records of its pieces, up to the ticks that were made
pub record IsPutOf (s : Stretch) (mine : List Record) : Type 0 where
  pub first : BeginsWith (all_records s.pieces) mine
  pub ticks : length (ticks_among mine) ≡ s.done

-- of stretches, one after another
abbrev pub ArePutOf : List Stretch → List Record → Type 0
ArePutOf [] records = records ≡ []
ArePutOf (s ∷ ss) records = (mine : List Record) × (rest : List Record) × (records ≡ mine ++ rest) × IsPutOf s mine × ArePutOf ss rest

-- of stretches that halts have ended, and all of the pieces behind the last halt
pub record ArePutOver (ss : List Stretch) (last : List Piece) (records : List Record) : Type 0 where
  pub halted : List Record
  pub split : records ≡ halted ++ all_records last
  pub are : ArePutOf ss halted

-- of stretches that halts have ended, and the first of the records of the pieces behind the last halt
pub record ArePutSince (ss : List Stretch) (last : List Piece) (records : List Record) : Type 0 where
  pub halted : List Record
  pub mine : List Record
  pub split : records ≡ halted ++ mine
  pub are : ArePutOf ss halted
  pub first : BeginsWith (all_records last) mine

-- ---- epochs

-- what is published first of an epoch but the first: the mark that ends the one before
abbrev pub Opens : List Piece → Type 0
Opens [] = Unit {0}
Opens (pieces.Mark m ∷ []) = Unit {0}
Opens _ = ⊥

-- an epoch, behind what is published first of it, is a stretch
pub record IsStretch (opens : List Piece) (e : Epoch) (s : Stretch) : Type 0 where
  pub pieces : s.pieces ≡ opens ++ e.pieces
  pub done : s.done ≡ ticks_together opens + e.done

-- or no piece was published before its end, so that no halt is stored
pub record IsUnhalted (opens : List Piece) (e : Epoch) : Type 0 where
  pub nothing : opens ++ e.pieces ≡ []
  pub done : e.done ≡ 0

-- These epochs are these stretches and the pieces behind the last halt. Each but the last is ended by a mark, and the last by the end,
-- before which all ticks are made.
abbrev pub AreEpochsOf : List Piece → List Epoch → List Stretch → List Piece → Type 0
AreEpochsOf opens [] ss last = ⊥
AreEpochsOf opens (e ∷ []) ss last =
    (ss ≡ []) × (e.closing ≡ pieces.End) × (e.done ≡ ticks_together e.pieces) × (last ≡ opens ++ (e.pieces ++ pieces.End ∷ []))
AreEpochsOf opens (e ∷ (f ∷ es)) ss last =
    Opens (e.closing ∷ [])
    × ((IsUnhalted opens e × AreEpochsOf (e.closing ∷ []) (f ∷ es) ss last)
    ⊎ ((s : Stretch) × (more : List Stretch) × (ss ≡ s ∷ more) × IsStretch opens e s × AreEpochsOf (e.closing ∷ []) (f ∷ es) more last))
