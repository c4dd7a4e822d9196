-- How the blocks of a plan join on to the pieces that came before them.
use Rattle.std.specs.Prelude.{◌≡◌, ◌+◌, ◌⊎◌, List, [], ◌∷◌}
use Rattle.std.specs.List.{All}
use Rattle.step_line.specs.declared.Segment.{Segment}
use Rattle.step_line.specs.declared.Piece.{Piece}
use Rattle.step_line.specs.declared.Piece.TheVariants as pieces
use Rattle.line_geom.specs.declared.Block.{Block}

-- none of a block's events is prepared
abbrev pub IsFresh : Block → Type 0
IsFresh b = b.prepared ≡ 0

-- the prepared events of a block are those up to the end of a segment
pub record IsCutAt (b : Block) (s : Segment) : Type 0 where
  pub line : b.line ≡ s.line
  pub mv : b.mv ≡ s.mv
  pub prepared : b.prepared ≡ s.first + s.n

-- they are those up to the end of the last of the pieces before; the latest is first
abbrev pub IsCutBehind : List Piece → Block → Type 0
IsCutBehind (pieces.Segment s ∷ before) b = IsCutAt b s
IsCutBehind _ b = ⊥

-- each block is fresh, but for a tail that the last of the pieces before has begun
abbrev pub BlocksJoin : List Piece → List Block → Type 0
BlocksJoin before [] = Unit {0}
BlocksJoin before (b ∷ bs) = (IsFresh b ⊎ IsCutBehind before b) × All IsFresh bs
