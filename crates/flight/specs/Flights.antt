-- Pieces that were published, and how many of their ticks are known to be done.
use Rattle.std.specs.Prelude.{◌≡◌, ℕ, ◌+◌, ◌-◌, ◌≤◌, ◌<◌, Bool, nat_lt, List, [], ◌∷◌, ◌++◌, length}
use Rattle.std.specs.List.{All, filter}
use Rattle.units.specs.declared.Steps3.{Steps3}
use Rattle.units.specs.declared.Move.{Move}
use Rattle.units.specs.Lengths.{IsMove}
pub use Rattle.units.specs.Windows.{window}
use Rattle.step_line.specs.declared.Piece.{Piece}
use Rattle.step_line.specs.declared.Piece.TheVariants as pieces
use Rattle.step_line.specs.Counting.{events_of}
use Rattle.step_line.specs.Pieces.{ticks_of, IsTraceable}
use Rattle.step_line.specs.Places.{place_after}
use Rattle.step_line.specs.Finishing.{tick_count, ticks_together, most_unfinished}
use Rattle.flight.specs.Places.{moved_by, end_from}

-- ---- pieces

-- a segment can be traced; of a mark and of the end nothing is asked
abbrev pub IsFit : Piece → Type 0
IsFit (pieces.Segment s) = IsTraceable s
IsFit (pieces.Mark m) = Unit {0}
IsFit pieces.End = Unit {0}

-- a segment begins at a place: there its move is after the events before it. A mark and the end begin anywhere
abbrev pub BeginsAt : Steps3 → Piece → Type 0
BeginsAt place (pieces.Segment s) = place ≡ place_after s.mv s.first
BeginsAt place (pieces.Mark m) = Unit {0}
BeginsAt place pieces.End = Unit {0}

-- each piece begins where the ticks of those before it lead, and the first at a place
abbrev pub Join : Steps3 → List Piece → Type 0
Join place [] = Unit {0}
Join place (p ∷ ps) = BeginsAt place p × Join (moved_by place (ticks_of p)) ps

abbrev pub has_ticks : Piece → Bool
has_ticks p = nat_lt 0 (tick_count p)

-- a piece that may be kept
pub record MayBeKept (p : Piece) : Type 0 where
  pub fits : IsFit p
  pub ticks : 0 < tick_count p

-- ---- flights

-- one piece more than may be unfinished at once
abbrev pub flight_room : ℕ
flight_room = most_unfinished + 1

-- What a flight knows: the pieces that are not known to be finished, in order, the place and the number of ticks before
-- them, and how many ticks are known to be done in all.
pub record Flying : Type 0 where
  pub kept : List Piece
  pub from : Steps3
  pub before : ℕ
  pub known : ℕ

-- how many ticks the first of some pieces has
abbrev pub first_ticks : List Piece → ℕ
first_ticks [] = 0
first_ticks (p ∷ ps) = tick_count p

-- so many ticks end within the first of some pieces, before its last tick, or there is no piece
abbrev pub EndsWithin : List Piece → ℕ → Type 0
EndsWithin [] done = done ≡ 0
EndsWithin (p ∷ ps) done = done < tick_count p

-- how many slots there are
abbrev pub slots_in_all : ℕ
slots_in_all = 8

-- The fields of a flight: so many slots from the head on are in use, each by a piece that may be kept, and before them the
-- machine is after so many events of a move.
pub record IsFlight (slots : List Piece) (head count : ℕ) (mv : Move) (events before known : ℕ) : Type 0 where
  pub long : length slots ≡ slots_in_all
  pub place : head < slots_in_all
  pub few : count ≤ flight_room
  pub kept : All MayBeKept (window head count slots)
  pub fits : IsMove mv
  pub within_move : events ≤ events_of mv
  pub low : before ≤ known
  pub within : EndsWithin (window head count slots) (known - before)

-- A flight of all these pieces from a place on, with so many ticks known to be done: of the pieces that have ticks it
-- keeps those after the finished ones.
pub record Flies (start : Steps3) (f : Flying) (published : List Piece) (known : ℕ) : Type 0 where
  pub done : f.known ≡ known
  pub finished : List Piece
  pub order : filter has_ticks published ≡ finished ++ f.kept
  pub before : f.before ≡ ticks_together finished
  pub from : f.from ≡ end_from start finished
  pub joined : Join f.from f.kept
  pub low : f.before ≤ known
  pub within : EndsWithin f.kept (known - f.before)
