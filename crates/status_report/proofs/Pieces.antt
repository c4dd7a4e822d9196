-- Texts that are written piece by piece.
use Rattle.std.proofs.Common.{◌≡◌, ℕ, ◌<◌, List, [], ◌∷◌, ◌++◌, length, ◌∙◌, refl, sym, ap, append_assoc, arith}
use Rattle.std.specs.List.{join_with_byte}

-- pieces one behind the other
abbrev pub all_of : List (List ℕ) → List ℕ
all_of [] = []
all_of (piece ∷ []) = piece
all_of (piece ∷ next ∷ pieces) = piece ++ all_of (next ∷ pieces)

-- one piece after the other was written behind a text, and this came of it
abbrev pub Grew : List ℕ → List (List ℕ) → List ℕ → Type 0
Grew text [] last = last ≡ text
Grew text (piece ∷ []) last = last ≡ text ++ piece
Grew text (piece ∷ next ∷ pieces) last = (longer : List ℕ) × (longer ≡ text ++ piece) × Grew longer (next ∷ pieces) last

-- what came of it is the text with all pieces
pub grown : (text piece : List ℕ) (pieces : List (List ℕ)) (last : List ℕ) → Grew text (piece ∷ pieces) last
    → last ≡ text ++ all_of (piece ∷ pieces)
grown text piece [] last grew = grew
grown text piece (next ∷ pieces) last (longer, first, others) =
    grown longer next pieces last others ∙ ap (λ t. t ++ all_of (next ∷ pieces)) first ∙ append_assoc text piece (all_of (next ∷ pieces))

-- words parted by a byte, and then more of them
pub join_with_byte-append : (c : ℕ) (words others : List (List ℕ)) → 0 < length words → 0 < length others
    → join_with_byte c (words ++ others) ≡ join_with_byte c words ++ c ∷ join_with_byte c others
join_with_byte-append c [] others some more = absurd (omega arith)
join_with_byte-append c (word ∷ words) [] some more = absurd (omega arith)
join_with_byte-append c (word ∷ []) (next ∷ others) some more = refl
join_with_byte-append c (word ∷ second ∷ words) (next ∷ others) some more =
    ap (λ t. word ++ c ∷ t) (join_with_byte-append c (second ∷ words) (next ∷ others) (omega arith) more)
    ∙ sym (append_assoc word (c ∷ join_with_byte c (second ∷ words)) (c ∷ join_with_byte c (next ∷ others)))
