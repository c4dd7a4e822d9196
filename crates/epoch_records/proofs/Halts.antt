-- Halts of epochs, the last of which is open.
use Rattle.std.proofs.Common.{◌≡◌, ℕ, ◌+◌, Bool, true, false, cond, nat_eq, List, [], ◌∷◌, ◌++◌, length, length-append, reverse, refl, sym, ap, ◌∙◌, append-nil, arith}
use Rattle.std.proofs.lemmas.List.{reverse-append}
use Rattle.epoch_records.specs.Epochs.{Epoch}
use Rattle.epoch_records.specs.Publishing.{published_in, halts_in, but_none}
use Rattle.epoch_records.specs.SoFar.{done_in, nothing_done}

pub done_on : (xs : List Epoch) (e : Epoch) → done_in (xs ++ e ∷ []) ≡ done_in xs + (e.done + 1)
done_on [] e = omega arith
done_on (x ∷ xs) e = let more = done_on xs e in omega (arith, more)

pub halts_more : (p d : ℕ) (x e : Epoch) (xs more : List Epoch) → halts_in p d (x ∷ (xs ++ e ∷ more)) ≡ (p + length x.pieces, d + x.done) ∷ halts_in (p + length x.pieces + 1) (d + x.done + 1) (xs ++ e ∷ more)
halts_more p d x e [] more = refl
halts_more p d x e (y ∷ xs) more = refl

-- one epoch more has one halt more
pub halts_on : (p d : ℕ) (xs : List Epoch) (e f : Epoch) → halts_in p d (xs ++ e ∷ f ∷ []) ≡ halts_in p d (xs ++ e ∷ []) ++ (p + length (published_in xs) + length e.pieces, d + done_in xs + e.done) ∷ []
halts_on p d [] e f =
    let a : p + length e.pieces ≡ p + 0 + length e.pieces = omega arith in
    let b : d + e.done ≡ d + 0 + e.done = omega arith in
    ap (λ (n : ℕ). let h : ℕ × ℕ = (n, d + e.done) in h ∷ []) a ∙ ap (λ (n : ℕ). let h : ℕ × ℕ = (p + 0 + length e.pieces, n) in h ∷ []) b
halts_on p d (x ∷ xs) e f =
    let q : ℕ = p + length x.pieces + 1 in
    let c : ℕ = d + x.done + 1 in
    let many = length-append x.pieces (x.closing ∷ published_in xs) in
    let a : q + length (published_in xs) + length e.pieces ≡ p + length (published_in (x ∷ xs)) + length e.pieces = omega (arith, many) in
    let b : c + done_in xs + e.done ≡ d + done_in (x ∷ xs) + e.done = omega arith in
    let first : ℕ × ℕ = (p + length x.pieces, d + x.done) in
    let others = halts_in q c (xs ++ e ∷ []) in
    halts_more p d x e xs (f ∷ [])
    ∙ ap (λ (hs : List (ℕ × ℕ)). first ∷ hs) (halts_on q c xs e f
    ∙ ap (λ (n : ℕ). let h : ℕ × ℕ = (n, c + done_in xs + e.done) in others ++ h ∷ []) a
    ∙ ap (λ (n : ℕ). let h : ℕ × ℕ = (p + length (published_in (x ∷ xs)) + length e.pieces, n) in others ++ h ∷ []) b)
    ∙ ap (λ (hs : List (ℕ × ℕ)). hs ++ (p + length (published_in (x ∷ xs)) + length e.pieces, d + done_in (x ∷ xs) + e.done) ∷ []) (sym (halts_more p d x e xs []))

-- the last epoch has no halt, whatever it is
pub halts_last : (p d : ℕ) (xs : List Epoch) (e f : Epoch) → halts_in p d (xs ++ e ∷ []) ≡ halts_in p d (xs ++ f ∷ [])
halts_last p d [] e f = refl
halts_last p d (x ∷ xs) e f =
    halts_more p d x e xs [] ∙ ap (λ (hs : List (ℕ × ℕ)). (p + length x.pieces, d + x.done) ∷ hs) (halts_last (p + length x.pieces + 1) (d + x.done + 1) xs e f) ∙ sym (halts_more p d x f xs [])

-- once the open epoch is halted, its halt is the newest
pub newest_halt : (closed : List Epoch) (now : Epoch) (published done : ℕ) (halts : List (ℕ × ℕ)) → published ≡ length (published_in closed) + length now.pieces → done ≡ done_in closed + now.done → halts ≡ reverse (halts_in 0 0 (closed ++ now ∷ []))
    → (published, done) ∷ halts ≡ reverse (halts_in 0 0 (closed ++ now ∷ (nothing_done ∷ [])))
newest_halt closed now published done halts long made are =
    let n : ℕ = 0 + length (published_in closed) + length now.pieces in
    let d : ℕ = 0 + done_in closed + now.done in
    let long_is : published ≡ n = omega (arith, long) in
    let made_is : done ≡ d = omega (arith, made) in
    let halt : ℕ × ℕ = (n, d) in
    ap (λ (k : ℕ). let h : ℕ × ℕ = (k, done) in h ∷ halts) long_is ∙ ap (λ (k : ℕ). let h : ℕ × ℕ = (n, k) in h ∷ halts) made_is ∙ ap (λ (hs : List (ℕ × ℕ)). halt ∷ hs) are
    ∙ sym (reverse-append (halts_in 0 0 (closed ++ now ∷ [])) (halt ∷ [])) ∙ ap reverse (sym (halts_on 0 0 closed now nothing_done))

-- ---- but for one at no pieces

-- one halt, if it is at some pieces
abbrev if_some : ℕ × ℕ → List (ℕ × ℕ)
if_some halt = cond (nat_eq halt.0 0) [] (halt ∷ [])

none_on : (xs ys : List (ℕ × ℕ)) → but_none (xs ++ ys) ≡ but_none xs ++ but_none ys
none_on [] ys = refl
none_on (x ∷ xs) ys = by_test (nat_eq x.0 0) (none_on xs ys)
  where
    by_test : (t : Bool) → but_none (xs ++ ys) ≡ but_none xs ++ but_none ys → cond t (but_none (xs ++ ys)) (x ∷ but_none (xs ++ ys)) ≡ cond t (but_none xs) (x ∷ but_none xs) ++ but_none ys
    by_test true e = e
    by_test false e = ap (λ (hs : List (ℕ × ℕ)). x ∷ hs) e

reversed_one : (x : ℕ × ℕ) (hs : List (ℕ × ℕ)) (t : Bool) → reverse (cond t hs (x ∷ hs)) ≡ reverse hs ++ cond t [] (x ∷ [])
reversed_one x hs true = sym (append-nil (reverse hs))
reversed_one x hs false = reverse-append (x ∷ []) hs

-- in either order
pub none_reversed : (hs : List (ℕ × ℕ)) → but_none (reverse hs) ≡ reverse (but_none hs)
none_reversed [] = refl
none_reversed (x ∷ xs) =
    ap but_none (reverse-append (x ∷ []) xs) ∙ none_on (reverse xs) (x ∷ []) ∙ ap (λ (hs : List (ℕ × ℕ)). hs ++ if_some x) (none_reversed xs) ∙ sym (reversed_one x (but_none xs) (nat_eq x.0 0))
