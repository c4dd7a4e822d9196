-- How segments join on.
use Rattle.std.proofs.Common.{◌+◌, ◌⊎◌, inl, inr, List, [], ◌∷◌, ◌++◌, Bool, true, false, cond, nat_eq, sym, ◌∙◌, arith}
use Rattle.std.specs.List.{All}
use Rattle.std.proofs.lemmas.List.Elements.{All-push, All-head, All-tail}
use Rattle.step_line.specs.declared.Segment.{Segment}
use Rattle.step_line.specs.declared.Piece.{Piece}
use Rattle.step_line.specs.declared.Piece.TheVariants as pieces
use Rattle.step_line.specs.Pieces.{JoinsOn}
use Rattle.line_geom.specs.declared.Block.{Block}
use Rattle.plan_rules.specs.Blocks.{left_of}
use Rattle.plan_rules.specs.Plans.{Planned}
use Rattle.plan_rules.specs.Segments.{moved}
use Rattle.plan_rules.specs.declared.Mode.{Mode}
use Rattle.plan_rules.specs.Taking.{IsTaken, IsTakenOf}
use Rattle.plan_rules.specs.Joining.{IsFresh, IsCutAt, IsCutBehind, BlocksJoin}

-- a fresh block behind the others
pub join_added : (before : List Piece) (bs : List Block) (b : Block) → BlocksJoin before bs → IsFresh b → BlocksJoin before (bs ++ b ∷ [])
join_added before [] b joins fresh = (inl fresh, λ k d h. absurd (omega arith))
join_added before (a ∷ bs) b joins fresh = (joins.0, All-push IsFresh bs b joins.1 fresh)

-- fresh blocks join on to anything
pub join_fresh : (before : List Piece) (bs : List Block) → All IsFresh bs → BlocksJoin before bs
join_fresh before [] fresh = tt
join_fresh before (b ∷ bs) fresh = (inl (All-head IsFresh b bs fresh), All-tail IsFresh b bs fresh)

joins_of : (before : List Piece) (p : Planned) (b : Block) (mode : Mode) (s : Segment) → IsFresh b ⊎ IsCutBehind before b
    → IsTaken p b mode s → JoinsOn before s
joins_of [] p b mode s (inl fresh) taken = taken.first ∙ fresh
joins_of (pieces.Segment u ∷ before) p b mode s (inl fresh) taken = inl (taken.first ∙ fresh)
joins_of (pieces.Segment u ∷ before) p b mode s (inr cut) taken =
    inr (record { line = taken.line ∙ cut.line; mv = taken.mv ∙ cut.mv; first = taken.first ∙ cut.prepared })
joins_of (pieces.Mark m ∷ before) p b mode s (inl fresh) taken = taken.first ∙ fresh
joins_of (pieces.End ∷ before) p b mode s (inl fresh) taken = taken.first ∙ fresh
joins_of [] p b mode s (inr cut) taken = absurd cut
joins_of (pieces.Mark m ∷ before) p b mode s (inr cut) taken = absurd cut
joins_of (pieces.End ∷ before) p b mode s (inr cut) taken = absurd cut

-- the next segment joins on
pub joins_on : (before : List Piece) (p : Planned) (mode : Mode) (bs : List Block) (s : Segment) → BlocksJoin before bs
    → IsTakenOf p bs mode s → JoinsOn before s
joins_on before p mode [] s joins taken = absurd taken
joins_on before p mode (b ∷ bs) s joins taken = joins_of before p b mode s joins.0 taken

cut_at : (p : Planned) (b : Block) (mode : Mode) (s : Segment) → IsTaken p b mode s → IsCutAt (record b { prepared = b.prepared + s.n }) s
cut_at p b mode s taken =
    let first = taken.first in
    record { line = sym taken.line; mv = sym taken.mv; prepared = omega (arith, first) }

-- and so do the blocks that it leaves
pub joins_behind : (before : List Piece) (p : Planned) (mode : Mode) (bs : List Block) (s : Segment) → BlocksJoin before bs
    → IsTakenOf p bs mode s → BlocksJoin (pieces.Segment s ∷ before) (moved s.n bs)
joins_behind before p mode [] s joins taken = absurd taken
joins_behind before p mode (b ∷ bs) s joins taken = at (nat_eq s.n (left_of b)) where
  at : (t : Bool) → BlocksJoin (pieces.Segment s ∷ before) (cond t bs (record b { prepared = b.prepared + s.n } ∷ bs))
  at true = join_fresh (pieces.Segment s ∷ before) bs joins.1
  at false = (inr (cut_at p b mode s taken), joins.1)
