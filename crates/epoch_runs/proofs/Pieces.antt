-- The pieces of the parts that cuts have ended are published where their ticks are made.
use Rattle.std.proofs.Common.{◌≡◌, ◌+◌, ◌≤◌, List, [], ◌∷◌, ◌++◌, refl, ap, ◌∙◌, subst, append_assoc, arith}
use Rattle.step_line.specs.Finishing.{ticks_together}
use Rattle.step_line.specs.declared.Mark.{Mark}
use Rattle.step_line.specs.declared.Mark.TheVariants as marks
use Rattle.step_line.specs.declared.Piece.{Piece}
use Rattle.step_line.specs.declared.Piece.TheVariants as pieces
use Rattle.step_line.proofs.Finished.{together, together_both}
use Rattle.board_rules.specs.Parts.{Part as CutPart, pieces_in}

-- one of two lists that begin the same one begins the other, or it is shorter
data Compared (xs ys a b : List Piece) : Type 0 where
  longer : (since : List Piece) → xs ≡ ys ++ since → since ++ a ≡ b → Compared xs ys a b
  shorter : (x : Piece) (more : List Piece) → ys ≡ xs ++ x ∷ more → Compared xs ys a b

one_more : (x : Piece) (xs ys a b : List Piece) → Compared xs ys a b → Compared (x ∷ xs) (x ∷ ys) a b
one_more x xs ys a b (longer since is rest) = longer since (ap (λ (ps : List Piece). x ∷ ps) is) rest
one_more x xs ys a b (shorter y more is) = shorter y more (ap (λ (ps : List Piece). x ∷ ps) is)

compared : (xs ys a b : List Piece) → xs ++ a ≡ ys ++ b → Compared xs ys a b
compared xs [] a b same = longer xs refl same
compared [] (y ∷ ys) a b same = shorter y ys refl
compared (x ∷ xs) (y ∷ ys) a b same =
    let first : x ≡ y = cc in
    let rest : xs ++ a ≡ ys ++ b = cc in
    subst (λ (z : Piece). Compared (x ∷ xs) (z ∷ ys) a b) first (one_more x xs ys a b (compared xs ys a b rest))

no_end : {A : Type 0} (ps : List Piece) (x : Piece) (more : List Piece) → ◌≡◌ {A = List Piece} [] (ps ++ x ∷ more) → A
no_end [] x more e = absurd cc
no_end (p ∷ ps) x more e = absurd cc

-- what ends with a mark has a tick
mark_among : (front xs : List Piece) (m : Mark) (x : Piece) (more : List Piece) → front ++ pieces.Mark m ∷ [] ≡ xs ++ x ∷ more → 1 ≤ ticks_together (x ∷ more)
mark_among [] [] m x more same = let e = ap ticks_together same in omega (arith, e)
mark_among [] (p ∷ xs) m x more same = no_end xs x more (let e : [] ≡ xs ++ x ∷ more = cc in e)
mark_among (f ∷ front) [] m x more same =
    let rest : front ++ pieces.Mark m ∷ [] ≡ more = cc in
    let e = ap ticks_together rest in let b = together_both front (pieces.Mark m ∷ []) in let t = together x more in omega (arith, e, b, t)
mark_among (f ∷ front) (p ∷ xs) m x more same = mark_among front xs m x more (let e : front ++ pieces.Mark m ∷ [] ≡ xs ++ x ∷ more = cc in e)

-- the pieces behind those of such parts
pub record IsBehind (qs : List CutPart) (out hand rest : List Piece) : Type 0 where
  pub since : List Piece
  pub is : out ≡ pieces_in qs ++ since
  pub both : since ++ hand ≡ rest

by_compared : (q : CutPart) (qs : List CutPart) (out hand rest : List Piece) → ticks_together (pieces_in (q ∷ qs)) ≤ ticks_together out → Compared out (pieces_in (q ∷ qs)) hand rest → IsBehind (q ∷ qs) out hand rest
by_compared q qs out hand rest few (longer since is more) = record { since = since; is = is; both = more }
by_compared q qs out hand rest few (shorter x more is) =
    let front : (pieces_in qs ++ q.given) ++ pieces.Mark (marks.Cut q.number) ∷ [] ≡ out ++ x ∷ more = append_assoc (pieces_in qs) q.given (pieces.Mark (marks.Cut q.number) ∷ []) ∙ is in
    let some = mark_among (pieces_in qs ++ q.given) out (marks.Cut q.number) x more front in
    let e = ap ticks_together is in let b = together_both out (x ∷ more) in
    absurd (omega (arith, some, e, b, few))

pub behind_parts : (qs : List CutPart) (out hand rest : List Piece) → out ++ hand ≡ pieces_in qs ++ rest → ticks_together (pieces_in qs) ≤ ticks_together out → IsBehind qs out hand rest
behind_parts [] out hand rest same few = record { since = out; is = refl; both = same }
behind_parts (q ∷ qs) out hand rest same few = by_compared q qs out hand rest few (compared out (pieces_in (q ∷ qs)) hand rest same)

-- the ticks of one part more, and its cut
pub part_more : (q : CutPart) (qs : List CutPart) → ticks_together (pieces_in (q ∷ qs)) ≡ ticks_together (pieces_in qs) + (ticks_together q.given + 1)
part_more q qs =
    let a = together_both (pieces_in qs) (q.given ++ pieces.Mark (marks.Cut q.number) ∷ []) in
    let b = together_both q.given (pieces.Mark (marks.Cut q.number) ∷ []) in
    omega (arith, a, b)
