-- What the two sides have done: the pieces of what was passed, and its ticks.
use Rattle.std.proofs.Common.{◌≡◌, ℕ, zero, suc, ◌+◌, ◌-◌, ◌<◌, ◌≤◌, false, List, [], ◌∷◌, ◌++◌, length, map, refl, ap, ◌∙◌, arith, append_assoc, length-append}
use Rattle.std.proofs.lemmas.List.{length-map, map-append}
use Rattle.step_line.specs.declared.Piece.{Piece}
use Rattle.step_line.specs.declared.Piece.TheVariants as pieces
use Rattle.step_line.specs.Ordering.{has_ended}
use Rattle.step_line.specs.Finishing.{tick_count, ticks_together}
use Rattle.step_line.proofs.Finished.{together}
use Rattle.motion_ring.specs.declared.lists.Passed.{Passed}
use Rattle.motion_ring.specs.declared.lists.Passed.TheVariants.{Whole, Dropped}
use Rattle.motion_ring.specs.Sides.{piece_of, ticks_passed, all_passed, AreFates, fate, fates, unless_none}

pub some_kept : {A : Type 0} (n : ℕ) (a : A) (l : List A) → 0 < n → unless_none n a l ≡ a ∷ l
some_kept zero a l lt = absurd (omega arith)
some_kept (suc n) a l lt = refl

pub none_kept : {A : Type 0} (n : ℕ) (a : A) (l : List A) → n ≡ 0 → unless_none n a l ≡ l
none_kept zero a l e = refl
none_kept (suc n) a l e = absurd (omega arith)

-- each piece becomes something of its own
whole_pieces : (ps : List Piece) → map piece_of (map Whole ps) ≡ ps
whole_pieces [] = refl
whole_pieces (p ∷ ps) = ap (λ (l : List Piece). p ∷ l) (whole_pieces ps)

dropped_pieces : (ps : List Piece) → map piece_of (map Dropped ps) ≡ ps
dropped_pieces [] = refl
dropped_pieces (p ∷ ps) = ap (λ (l : List Piece). p ∷ l) (dropped_pieces ps)

fate_piece : (p : Piece) (left : ℕ) → piece_of (fate p left) ≡ p
fate_piece p zero = refl
fate_piece p (suc left) = refl

fates_pieces : (ps : List Piece) (left : ℕ) → map piece_of (fates ps left) ≡ ps
fates_pieces [] left = refl
fates_pieces (p ∷ ps) left = λ i. fate_piece p left i ∷ whole_pieces ps i

pub halted_pieces : (dropped fresh : List Piece) (left : ℕ) (past : List Passed) → map piece_of (map Dropped dropped ++ (fates fresh left ++ past)) ≡ dropped ++ (fresh ++ map piece_of past)
halted_pieces dropped fresh left past =
    map-append piece_of (map Dropped dropped) (fates fresh left ++ past)
    ∙ (λ i. dropped_pieces dropped i ++ map-append piece_of (fates fresh left) past i)
    ∙ ap (λ (l : List Piece). dropped ++ (l ++ map piece_of past)) (fates_pieces fresh left)

pub halted_count : (dropped fresh : List Piece) (left : ℕ) (past : List Passed) → length (map Dropped dropped ++ (fates fresh left ++ past)) ≡ length dropped + (length fresh + length past)
halted_count dropped fresh left past =
    let a = length-map (map Dropped dropped ++ (fates fresh left ++ past)) piece_of in
    let b = ap length (halted_pieces dropped fresh left past) in
    let c = length-append dropped (fresh ++ map piece_of past) in
    let d = length-append fresh (map piece_of past) in
    let e = length-map past piece_of in omega arith

-- the ticks of what was passed
passed_both : (qs rs : List Passed) → all_passed (qs ++ rs) ≡ all_passed qs + all_passed rs
passed_both [] rs = omega arith
passed_both (q ∷ qs) rs = let e = passed_both qs rs in omega arith

whole_ticks : (ps : List Piece) → all_passed (map Whole ps) ≡ ticks_together ps
whole_ticks [] = refl
whole_ticks (p ∷ ps) = let e = whole_ticks ps in let t = together p ps in omega arith

dropped_ticks : (ps : List Piece) → all_passed (map Dropped ps) ≡ 0
dropped_ticks [] = refl
dropped_ticks (p ∷ ps) = let e = dropped_ticks ps in omega arith

fate_ticks : (p : Piece) (left : ℕ) → left ≤ tick_count p → ticks_passed (fate p left) + left ≡ tick_count p
fate_ticks p zero le = omega arith
fate_ticks p (suc left) le = omega arith

-- the last of the pieces got has at least so many ticks
abbrev pub HasLeft : List Piece → ℕ → Type 0
HasLeft [] left = left ≡ 0
HasLeft (p ∷ ps) left = left ≤ tick_count p

fates_ticks : (ps : List Piece) (left : ℕ) → HasLeft ps left → all_passed (fates ps left) + left ≡ ticks_together ps
fates_ticks [] left none = omega arith
fates_ticks (p ∷ ps) left le = let e = fate_ticks p left le in let w = whole_ticks ps in let t = together p ps in omega arith

pub halted_ticks : (dropped fresh : List Piece) (left : ℕ) (past : List Passed) → HasLeft fresh left
    → all_passed (map Dropped dropped ++ (fates fresh left ++ past)) + left ≡ all_passed past + ticks_together fresh
halted_ticks dropped fresh left past le =
    let a = passed_both (map Dropped dropped) (fates fresh left ++ past) in
    let b = passed_both (fates fresh left) past in
    let c = dropped_ticks dropped in
    let d = fates_ticks fresh left le in omega arith

-- who is cut has a tick left
whole_cuts : (ps : List Piece) (past : List Passed) → AreFates past → AreFates (map Whole ps ++ past)
whole_cuts [] past cuts = cuts
whole_cuts (p ∷ ps) past cuts = whole_cuts ps past cuts

fates_cuts : (ps : List Piece) (left : ℕ) (past : List Passed) → HasLeft ps left → AreFates past → AreFates (fates ps left ++ past)
fates_cuts [] left past le cuts = cuts
fates_cuts (p ∷ ps) zero past le cuts = whole_cuts ps past cuts
fates_cuts (p ∷ ps) (suc left) past le cuts = (omega arith, whole_cuts ps past cuts)

pub halted_cuts : (dropped fresh : List Piece) (left : ℕ) (past : List Passed) → HasLeft fresh left → AreFates past → AreFates (map Dropped dropped ++ (fates fresh left ++ past))
halted_cuts [] fresh left past le cuts = fates_cuts fresh left past le cuts
halted_cuts (p ∷ dropped) fresh left past le cuts = halted_cuts dropped fresh left past le cuts

-- the last of some pieces
pub last_of : (ps : List Piece) → 0 < length ps → (front : List Piece) × (p : Piece) × (ps ≡ front ++ p ∷ [])
last_of [] lt = absurd (omega arith)
last_of (p ∷ []) lt = ([], p, refl)
last_of (p ∷ q ∷ ps) lt = let l = last_of (q ∷ ps) (omega arith) in (p ∷ l.0, l.1, ap (λ (l : List Piece). p ∷ l) l.2)

pub moved_over : (rest front : List Piece) (p : Piece) (behind : List Piece) → rest ≡ front ++ p ∷ [] → rest ++ behind ≡ front ++ p ∷ behind
moved_over rest front p behind e = ap (λ (l : List Piece). l ++ behind) e ∙ append_assoc front (p ∷ []) behind

-- where none of all pieces is the end, none of the last is
pub going_since : (since older : List Piece) → has_ended (since ++ older) ≡ false → has_ended since ≡ false
going_since [] older going = refl
going_since (pieces.Segment s ∷ since) older going = refl
going_since (pieces.Mark m ∷ since) older going = refl
going_since (pieces.End ∷ since) older going = going

pub none_of : (l : List Piece) → length l ≡ 0 → l ≡ []
none_of [] e = refl
none_of (p ∷ l) e = absurd (omega arith)
