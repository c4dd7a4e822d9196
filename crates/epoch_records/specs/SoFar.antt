-- A run that goes on: its parts so far, and what is put of its epochs so far.
use Rattle.std.specs.Prelude.{◌≡◌, ◌⊎◌, ℕ, ◌+◌, ◌≤◌, List, [], ◌∷◌, ◌++◌, length, reverse}
use Rattle.plan_rules.specs.Plans.{Planned}
use Rattle.run_texts.specs.Parts.{Part, lines_counted}
use Rattle.step_line.specs.Finishing.{ticks_together}
use Rattle.step_line.specs.Pieces.{records_of}
use Rattle.step_line.specs.declared.Mark.TheVariants as marks
use Rattle.step_line.specs.declared.Piece.{Piece}
use Rattle.step_line.specs.declared.Piece.TheVariants as pieces
use Rattle.step_line.specs.declared.Record.{Record}
use Rattle.step_line.specs.declared.Record.TheVariants as kinds
use Rattle.units.specs.declared.Steps3.{Steps3}
use Rattle.epoch_records.specs.Epochs.{Epoch, IsPut}
use Rattle.epoch_records.specs.Publishing.{published_in, halts_in, AreSameHalts}
use Rattle.epoch_records.specs.Runs.{IsRunFor, IsUndone, EndsSo}
use Rattle.epoch_records.specs.Stretches.{Opens, IsPutOf}

-- A part that is not ended, while so many ticks are made of what was published.
pub record IsUnderWay (p : Part) (published : List Piece) (done : ℕ) : Type 0 where
  pub hand : List Piece
  pub given : List Piece
  pub behind : List Piece
  pub both : published ++ hand ≡ given ++ behind
  pub undone : IsUndone done given behind
  pub last : Planned
  pub run : IsRunFor (lines_counted p) given last

-- These parts, of which the last is not ended, have the pieces of these epochs, of which the last is open.
abbrev pub AreRunSoFar : List Part → Steps3 → List Epoch → Type 0
AreRunSoFar [] place es = ⊥
AreRunSoFar (p ∷ []) place es = (e : Epoch) × (es ≡ e ∷ []) × IsUnderWay p e.pieces e.done
AreRunSoFar (p ∷ (q ∷ ps)) place es = EndsSo place p p.ending es (λ at rest. AreRunSoFar (q ∷ ps) at rest)

-- What is put of epochs so far: of the open one the first records, whatever ends it.
abbrev pub ArePutSoFar : List Epoch → List Record → Type 0
ArePutSoFar [] records = ⊥
ArePutSoFar (e ∷ []) records = IsPutOf (record { pieces = e.pieces; done = e.done }) records
ArePutSoFar (e ∷ (f ∷ es)) records =
    (mine : List Record) × (rest : List Record) × (records ≡ mine ++ (records_of e.closing ++ rest))
    × IsPut e mine × ArePutSoFar (f ∷ es) rest

-- Behind the records of epochs so far nothing is put; or what ends the open one: the end, or the mark of its reset, which has this number.
abbrev pub MayEndSoFar : (number : ℕ) → List Record → Type 0
MayEndSoFar number [] = Unit {0}
MayEndSoFar number (kinds.End ∷ []) = Unit {0}
MayEndSoFar number (kinds.Mark (marks.Reset k) ∷ []) = k ≡ number
MayEndSoFar number _ = ⊥

-- what is put so far
pub record IsPutSoFar (number : ℕ) (es : List Epoch) (put : List Record) : Type 0 where
  pub made : List Record
  pub ending : List Record
  pub split : put ≡ made ++ ending
  pub are : ArePutSoFar es made
  pub may : MayEndSoFar number ending

-- ---- what is published so far

-- how many ticks are made in epochs, each with the mark that ends it
abbrev pub done_in : List Epoch → ℕ
done_in [] = 0
done_in (e ∷ es) = e.done + 1 + done_in es

-- each is ended by a mark, and no more ticks are made in it than its pieces have
abbrev pub EndByMarks : List Epoch → Type 0
EndByMarks [] = Unit {0}
EndByMarks (e ∷ es) = Opens (e.closing ∷ []) × (e.done ≤ ticks_together e.pieces) × EndByMarks es

-- How far the reset of the open epoch is: no stop was stored for it; one was, and its halt is not found; or it is.
pub data Phase : Type 0 where
  is_going : Phase
  is_stopping : Phase
  is_halted : Phase

-- what comes behind the pieces of the open epoch: the end, where no stop was stored; or the mark of its reset, once it is halted
abbrev pub MayFollow : (number : ℕ) → Phase → List Piece → Type 0
MayFollow number is_going more = (more ≡ []) ⊎ (more ≡ pieces.End ∷ [])
MayFollow number is_stopping more = more ≡ []
MayFollow number is_halted more = (more ≡ []) ⊎ (more ≡ pieces.Mark (marks.Reset number) ∷ [])

-- an epoch in which nothing is done
abbrev pub nothing_done : Epoch
nothing_done = record { pieces = []; done = 0; closing = pieces.End }

-- the halts of closed epochs, and of the open one once it is halted
abbrev pub halts_so_far : Phase → List Epoch → Epoch → List (ℕ × ℕ)
halts_so_far is_going closed now = halts_in 0 0 (closed ++ now ∷ [])
halts_so_far is_stopping closed now = halts_in 0 0 (closed ++ now ∷ [])
halts_so_far is_halted closed now = halts_in 0 0 (closed ++ now ∷ (nothing_done ∷ []))

-- So many ticks are made in all: those of the epochs; once the open one is halted, the mark of its reset may be made, too.
abbrev pub AreTicks : Phase → List Epoch → Epoch → (ticks : ℕ) → Type 0
AreTicks is_going closed now ticks = ticks ≡ done_in closed + now.done
AreTicks is_stopping closed now ticks = ticks ≡ done_in closed + now.done
AreTicks is_halted closed now ticks = done_in closed + now.done ≤ ticks

-- What was published of closed epochs and the open one, whose reset has this number, and which halts were seen, while so many ticks are made.
pub record ArePublishedSoFar (number : ℕ) (phase : Phase) (closed : List Epoch) (now : Epoch) (ticks : ℕ) (published : List Piece) (halts : List (ℕ × ℕ)) : Type 0 where
  pub marked : EndByMarks closed
  pub few : now.done ≤ ticks_together now.pieces
  pub more : List Piece
  pub are : published ≡ published_in closed ++ (now.pieces ++ more)
  pub follows : MayFollow number phase more
  pub halts_are : halts ≡ reverse (halts_so_far phase closed now)
  pub ticks_are : AreTicks phase closed now ticks

-- A pulse has halted for the open epoch, which was not seen: all that was published was got or dropped, and so many ticks were made.
pub record HaltsUnseen (phase : Phase) (ticks : ℕ) (published got : List Piece) (halts stored : List (ℕ × ℕ)) : Type 0 where
  pub stops : phase ≡ is_stopping
  pub all : got ≡ published
  pub halts_are : AreSameHalts ((length published, ticks) ∷ halts) stored
