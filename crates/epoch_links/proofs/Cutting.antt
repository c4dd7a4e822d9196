-- What is taken is cut where what is stored was marked.
use Rattle.std.proofs.Common.{Bool, ◌≡◌, ◌⊎◌, inl, inr, ⊎_elim, ℕ, ◌+◌, ◌≤◌, ◌<◌, List, [], ◌∷◌, ◌++◌, length, drop, reverse, length-append, append-nil, append_assoc, refl, sym, ap, ◌∙◌, subst, arith}
use Rattle.std.specs.List.{concat}
use Rattle.std.proofs.lemmas.List.{reverse-append, length-reverse}
use Rattle.std.proofs.lemmas.Bool.{cases_lt}
use Rattle.serial_ring.specs.Marks.{Mark, AreMarks, AreRising, IsMark, latest, last_of}
use Rattle.serial_ring.proofs.Marking.{mark_within}
use Rattle.epoch_links.specs.Pieces.{Pieces, joined, ends_behind}
use Rattle.serial_ring.specs.Lists.{AreAtMost}
use Rattle.epoch_links.specs.Links.{AreLinked, AwaitsBanners, AreEnded, IsLoaded, EndsEpochs, EndAtMarks, HasBanners}

-- ---- lists of numbers

pub at_most_length : (ns ms : List ℕ) → AreAtMost ns ms → length ns ≡ length ms
at_most_length [] [] a = refl
at_most_length [] (m ∷ ms) a = absurd a
at_most_length (n ∷ ns) [] a = absurd a
at_most_length (n ∷ ns) (m ∷ ms) a = let i = at_most_length ns ms a.1 in omega arith

at_most_same : (ns ms : List ℕ) → AreAtMost ns ms → AreAtMost ms ns → ns ≡ ms
at_most_same [] [] a b = refl
at_most_same [] (m ∷ ms) a b = absurd a
at_most_same (n ∷ ns) [] a b = absurd a
at_most_same (n ∷ ns) (m ∷ ms) a b =
    let l = a.0 in let g = b.0 in let e : n ≡ m = omega arith in let i = at_most_same ns ms a.1 b.1 in cc

at_most_front : (ns ms xs ys : List ℕ) → length ns ≡ length ms → AreAtMost (ns ++ xs) (ms ++ ys) → AreAtMost ns ms
at_most_front [] [] xs ys e a = tt
at_most_front [] (m ∷ ms) xs ys e a = absurd (omega arith)
at_most_front (n ∷ ns) [] xs ys e a = absurd (omega arith)
at_most_front (n ∷ ns) (m ∷ ms) xs ys e a = (a.0, at_most_front ns ms xs ys (omega arith) a.1)

pub none_by_length : (xs : List ℕ) → length xs ≡ 0 → xs ≡ []
none_by_length [] e = refl
none_by_length (x ∷ xs) e = absurd (omega arith)

record HasLast (xs : List ℕ) : Type 0 where
  front : List ℕ
  last : ℕ
  are : xs ≡ front ++ last ∷ []

has_last : (xs : List ℕ) → 0 < length xs → HasLast xs
has_last [] some = absurd (omega arith)
has_last (x ∷ []) some = record { front = []; last = x; are = refl }
has_last (x ∷ y ∷ ys) some = let i = has_last (y ∷ ys) (omega arith) in record { front = x ∷ i.front; last = i.last; are = ap (λ (zs : List ℕ). x ∷ zs) i.are }

-- ---- each epoch ends behind no fewer bytes than its mark has

is_mark : (marks : List ℕ) (loaded : List Mark) (m : Mark) → AreMarks marks loaded → IsLoaded loaded m → IsMark marks m
is_mark marks [] m are is = absurd is
is_mark marks (x ∷ earlier) m are is = ⊎_elim (λ e. subst (IsMark marks) (sym e) are.0) (λ before. is_mark marks earlier m are.1 before) is

number_above : (loaded ms : List Mark) (ends : List ℕ) → AreEnded loaded ms ends → length ends ≤ (last_of ms).0
number_above loaded [] [] e = omega arith
number_above loaded [] (end ∷ ends) e = absurd e
number_above loaded (m ∷ ms) [] e = absurd e
number_above loaded (m ∷ ms) (end ∷ ends) e = let i = number_above loaded ms ends e.3 in let l = e.1 in omega arith

below_latest : (front low : List ℕ) (b : ℕ) → AreRising (front ++ b ∷ low) → b ≤ latest (front ++ b ∷ low)
below_latest [] low b rising = omega arith
below_latest (x ∷ front) low b rising = let i = below_latest front low b rising.1 in let r = rising.0 in omega arith

-- a mark behind so many others has no fewer bytes than the first behind these
mark_above : (front low : List ℕ) (b : ℕ) (m : Mark) → AreRising (front ++ b ∷ low) → IsMark (front ++ b ∷ low) m → length low < m.0 → b ≤ m.1
mark_above [] low b m rising is lt = ⊎_elim
    (λ e. let k = ap (λ (x : Mark). x.1) e in omega arith)
    (λ before. absurd (let w = (mark_within low m rising.1 before).0 in omega arith))
    is
mark_above (x ∷ front) low b m rising is lt = ⊎_elim
    (λ e. let k = ap (λ (y : Mark). y.1) e in let l = below_latest front low b rising.1 in let r = rising.0 in omega arith)
    (λ before. mark_above front low b m rising.1 before lt)
    is

-- the first marks, as many as epochs were ended, and those behind them
record Lower (marks ends : List ℕ) : Type 0 where
  more : List ℕ
  low : List ℕ
  are : marks ≡ more ++ low
  same : length low ≡ length ends
  below : AreAtMost low ends

lower : (marks : List ℕ) (loaded ms : List Mark) (ends : List ℕ) → AreRising marks → AreMarks marks loaded → AreEnded loaded ms ends → Lower marks ends
lower marks loaded [] [] rising are e = record { more = marks; low = []; are = sym (append-nil marks); same = refl; below = tt }
lower marks loaded [] (end ∷ ends) rising are e = absurd e
lower marks loaded (m ∷ ms) [] rising are e = absurd e
lower marks loaded (m ∷ ms) (end ∷ ends) rising are e =
    let i = lower marks loaded ms ends rising are e.3 in
    let is = is_mark marks loaded m are e.0 in
    let w = (mark_within marks m rising is).0 in
    let n = number_above loaded ms ends e.3 in let lt = e.1 in
    let s = i.same in
    let l = ap length i.are ∙ length-append i.more i.low in
    let t = has_last i.more (omega arith) in
    let all : marks ≡ t.front ++ t.last ∷ i.low = i.are ∙ ap (λ (xs : List ℕ). xs ++ i.low) t.are ∙ append_assoc t.front (t.last ∷ []) i.low in
    let above = mark_above t.front i.low t.last m (subst AreRising all rising) (subst (λ (xs : List ℕ). IsMark xs m) all is) (omega arith) in
    let b = e.2 in
    record { more = t.front; low = t.last ∷ i.low; are = all; same = omega arith; below = (omega arith, i.below) }

-- ---- and behind no more than were stored at its Banner

record Upper (ends greeted : List ℕ) : Type 0 where
  many : length greeted ≤ length ends
  all : length ends ≡ length greeted → AreAtMost ends greeted
  but_one : (end : ℕ) (earlier : List ℕ) → ends ≡ end ∷ earlier → length earlier ≡ length greeted → AreAtMost earlier greeted

upper_all : (ends u of_got greeted : List ℕ) (first : ℕ) → ends ++ 0 ∷ [] ≡ u ++ of_got → AreAtMost of_got (greeted ++ first ∷ []) → length ends ≡ length greeted → AreAtMost ends greeted
upper_all ends u of_got greeted first e a same =
    let l = ap length e in let l1 = length-append ends (0 ∷ []) in let l2 = length-append u of_got in
    let l3 = at_most_length of_got (greeted ++ first ∷ []) a in let l4 = length-append greeted (first ∷ []) in
    let none = none_by_length u (omega arith) in
    let are : ends ++ 0 ∷ [] ≡ of_got = e ∙ ap (λ (xs : List ℕ). xs ++ of_got) none in
    at_most_front ends greeted (0 ∷ []) (first ∷ []) same (subst (λ (xs : List ℕ). AreAtMost xs (greeted ++ first ∷ [])) (sym are) a)

upper_but_one : (end : ℕ) (earlier u of_got greeted : List ℕ) (first : ℕ) → end ∷ (earlier ++ 0 ∷ []) ≡ u ++ of_got → AreAtMost of_got (greeted ++ first ∷ []) → length earlier ≡ length greeted → AreAtMost earlier greeted
upper_but_one end earlier [] of_got greeted first e a same = absurd (
    let l = ap length e in let l1 = length-append earlier (0 ∷ []) in
    let l3 = at_most_length of_got (greeted ++ first ∷ []) a in let l4 = length-append greeted (first ∷ []) in omega arith)
upper_but_one end earlier (x ∷ u) of_got greeted first e a same = upper_all earlier u of_got greeted first (ap (drop 1) e) a same

behind_first : (xs ys : List ℕ) → (ys ≡ xs) ⊎ (ys ≡ drop 1 xs) → (u : List ℕ) × (xs ≡ u ++ ys)
behind_first xs ys (inl e) = ([], sym e)
behind_first [] ys (inr e) = ([], sym e)
behind_first (x ∷ xs) ys (inr e) = (x ∷ [], ap (λ (zs : List ℕ). x ∷ zs) (sym e))

upper : (ends at_answers ungot of_got at_got greeted : List ℕ) → (at_answers ≡ ends ++ 0 ∷ []) ⊎ (at_answers ≡ drop 1 (ends ++ 0 ∷ [])) → at_answers ≡ ungot ++ of_got → AreAtMost of_got at_got
    → ((at_got ≡ []) × (greeted ≡ [])) ⊎ ((first : ℕ) × (at_got ≡ greeted ++ first ∷ [])) → Upper ends greeted
upper ends at_answers ungot of_got at_got greeted answers parts a (inl none) = record {
  many = (let l = ap length none.1 in omega arith);
  all = λ same. let l = ap length none.1 in let z = none_by_length ends (omega arith) in subst (AreAtMost ends) (sym none.1) (subst (λ (xs : List ℕ). AreAtMost xs []) (sym z) tt);
  but_one = λ end earlier is same. let l = ap length none.1 in let z = none_by_length earlier (omega arith) in subst (AreAtMost earlier) (sym none.1) (subst (λ (xs : List ℕ). AreAtMost xs []) (sym z) tt);
}
upper ends at_answers ungot of_got at_got greeted answers parts a (inr some) =
    let first = some.0 in
    let below : AreAtMost of_got (greeted ++ first ∷ []) = subst (AreAtMost of_got) some.1 a in
    let u = behind_first (ends ++ 0 ∷ []) at_answers answers in
    let v : ends ++ 0 ∷ [] ≡ (u.0 ++ ungot) ++ of_got = u.1 ∙ ap (λ (xs : List ℕ). u.0 ++ xs) parts ∙ sym (append_assoc u.0 ungot of_got) in
    record {
      many = (
          let l = ap length v in let l1 = length-append ends (0 ∷ []) in let l2 = length-append (u.0 ++ ungot) of_got in
          let l3 = at_most_length of_got (greeted ++ first ∷ []) below in let l4 = length-append greeted (first ∷ []) in omega arith
          );
      all = λ same. upper_all ends (u.0 ++ ungot) of_got greeted first v below same;
      but_one = λ end earlier is same. upper_but_one end earlier (u.0 ++ ungot) of_got greeted first (ap (λ (xs : List ℕ). xs ++ 0 ∷ []) (sym is) ∙ v) below same;
    }

-- ---- so it ends at its mark

last_end : (xs : List ℕ) (end n : ℕ) (closed : List (List ℕ)) → xs ++ end ∷ [] ≡ ends_behind n closed → end ≤ n + length (concat closed)
last_end [] end n [] e = absurd cc
last_end (x ∷ xs) end n [] e = absurd cc
last_end [] end n (p ∷ ps) e = let l = length-append p (concat ps) in let is : end ≡ n + length p = cc in omega arith
last_end (x ∷ xs) end n (p ∷ ps) e = let l = length-append p (concat ps) in let i = last_end xs end (n + length p) ps (ap (drop 1) e) in omega arith

-- no more bytes stand before the latest end than were stored
end_within : (stored taken rest : List ℕ) (p : Pieces) (end : ℕ) (earlier : List ℕ) → stored ≡ taken ++ rest → taken ≡ joined p → reverse (end ∷ earlier) ≡ ends_behind 0 p.closed → end ≤ length stored
end_within stored taken rest p end earlier front whole are =
    let l = last_end (reverse earlier) end 0 p.closed (sym (reverse-append (end ∷ []) earlier) ∙ are) in
    let l1 = ap length front ∙ length-append taken rest in let l2 = ap length whole ∙ length-append (concat p.closed) p.last in omega arith

marked_all : (stored marks ends : List ℕ) (p : Pieces) → reverse ends ≡ ends_behind 0 p.closed → ends ≡ marks → EndAtMarks stored marks p
marked_all stored marks ends p are same = record { left = []; are = ap (λ (xs : List ℕ). reverse xs) (sym same) ∙ are ∙ sym (append-nil (ends_behind 0 p.closed)); few = inl refl }

marked_but_one : (stored marks greeted ends : List ℕ) (p : Pieces) → marks ≡ length stored ∷ greeted → reverse ends ≡ ends_behind 0 p.closed → ends ≡ greeted → EndAtMarks stored marks p
marked_but_one stored marks greeted ends p is are same = record {
  left = length stored ∷ [];
  are = ap (λ (xs : List ℕ). reverse xs) is ∙ reverse-append (length stored ∷ []) greeted ∙ ap (λ (xs : List ℕ). reverse xs ++ length stored ∷ []) (sym same) ∙ ap (λ (xs : List ℕ). xs ++ length stored ∷ []) are;
  few = inr refl;
}

-- no mark is behind these
low_all : (marks ends : List ℕ) (l : Lower marks ends) → length marks ≡ length ends → AreAtMost marks ends
low_all marks ends l same =
    let k = ap length l.are ∙ length-append l.more l.low in let s = l.same in
    let none = none_by_length l.more (omega arith) in
    subst (λ (xs : List ℕ). AreAtMost xs ends) (sym (l.are ∙ ap (λ (xs : List ℕ). xs ++ l.low) none)) l.below

-- one is
low_but_one : (m : ℕ) (marks ends : List ℕ) (l : Lower (m ∷ marks) ends) → length marks ≡ length ends → AreAtMost marks ends
low_but_one m marks ends l same =
    let k = ap length l.are ∙ length-append l.more l.low in let s = l.same in
    let t = has_last l.more (omega arith) in
    let n = ap length t.are ∙ length-append t.front (t.last ∷ []) in
    let none = none_by_length t.front (omega arith) in
    let one : l.more ≡ t.last ∷ [] = t.are ∙ ap (λ (xs : List ℕ). xs ++ t.last ∷ []) none in
    let are : m ∷ marks ≡ t.last ∷ l.low = l.are ∙ ap (λ (xs : List ℕ). xs ++ l.low) one in
    subst (λ (xs : List ℕ). AreAtMost xs ends) (sym (ap (drop 1) are)) l.below

pub cut_at_marks : (stored marks at_got taken at_answers : List ℕ) (loaded : List Mark) (shut closed : Bool) (p : Pieces) →
    AreLinked stored marks at_got shut taken loaded at_answers closed → AwaitsBanners stored marks at_got → EndsEpochs p taken loaded at_answers → EndAtMarks stored marks p
cut_at_marks stored marks at_got taken at_answers loaded shut closed p k w b = by_marks w.are
  where
    l : Lower marks b.ends
    l = lower marks loaded b.marks b.ends w.rising k.loads b.ended

    u : Upper b.ends w.greeted
    u = upper b.ends at_answers k.ungot k.of_got at_got w.greeted b.greeted k.banners k.in_time w.got

    few : length b.ends ≤ length marks
    few = let n = ap length l.are ∙ length-append l.more l.low in let s = l.same in omega arith

    one_more : marks ≡ length stored ∷ w.greeted → (ends : List ℕ) → b.ends ≡ ends → length ends ≡ length w.greeted + 1 → EndAtMarks stored marks p
    one_more is [] e long = absurd (omega arith)
    one_more is (end ∷ earlier) e long =
        let below = low_all marks (end ∷ earlier) (subst (Lower marks) e l) (ap length is ∙ (let n : length (length stored ∷ w.greeted) ≡ length (end ∷ earlier) = omega arith in n)) in
        let both : AreAtMost (length stored ∷ w.greeted) (end ∷ earlier) = subst (λ (xs : List ℕ). AreAtMost xs (end ∷ earlier)) is below in
        let above = u.but_one end earlier e (omega arith) in
        let within = end_within stored taken k.rest p end earlier k.front b.whole (ap (λ (xs : List ℕ). reverse xs) (sym e) ∙ b.are) in
        let low = both.0 in
        let last : end ≡ length stored = omega arith in
        let others = at_most_same earlier w.greeted above both.1 in
        marked_all stored marks b.ends p b.are (e ∙ ap (λ (n : ℕ). n ∷ earlier) last ∙ ap (λ (xs : List ℕ). length stored ∷ xs) others ∙ sym is)

    by_count : marks ≡ length stored ∷ w.greeted → (length b.ends ≡ length w.greeted) ⊎ (length b.ends ≡ length w.greeted + 1) → EndAtMarks stored marks p
    by_count is (inl same) =
        let below = low_but_one (length stored) w.greeted b.ends (subst (λ (xs : List ℕ). Lower xs b.ends) is l) (sym same) in
        marked_but_one stored marks w.greeted b.ends p is b.are (at_most_same b.ends w.greeted (u.all same) below)
    by_count is (inr more) = one_more is b.ends refl more

    either : (n k : ℕ) → k ≤ n → n ≤ k + 1 → (n ≡ k) ⊎ (n ≡ k + 1)
    either n k low high = elim (cases_lt k n) [
      | inl more ↦ inr (omega arith)
      | inr same ↦ inl (omega arith)
    ]

    by_marks : (marks ≡ w.greeted) ⊎ (marks ≡ length stored ∷ w.greeted) → EndAtMarks stored marks p
    by_marks (inl is) =
        let m = u.many in let n = few in let e = ap length is in
        let same : length b.ends ≡ length w.greeted = omega arith in
        let below = low_all marks b.ends l (omega arith) in
        marked_all stored marks b.ends p b.are (at_most_same b.ends w.greeted (u.all same) (subst (λ (xs : List ℕ). AreAtMost xs b.ends) is below) ∙ sym is)
    by_marks (inr is) = by_count is (let m = u.many in let n = few in let e = ap length is in either (length b.ends) (length w.greeted) m (omega arith))

-- ---- as many epochs ended as there are marks, if a Banner of each was got

pub length-ends : (n : ℕ) (closed : List (List ℕ)) → length (ends_behind n closed) ≡ length closed
length-ends n [] = refl
length-ends n (p ∷ ps) = let i = length-ends (n + length p) ps in omega arith

pub one_of_each : (stored marks at_got taken at_answers : List ℕ) (loaded : List Mark) (shut closed : Bool) (p : Pieces) →
    AreLinked stored marks at_got shut taken loaded at_answers closed → AwaitsBanners stored marks at_got → EndsEpochs p taken loaded at_answers → HasBanners marks at_got → length p.closed ≡ length marks
one_of_each stored marks at_got taken at_answers loaded shut closed p k w b each = by_marks w.are w.got
  where
    u : Upper b.ends w.greeted
    u = upper b.ends at_answers k.ungot k.of_got at_got w.greeted b.greeted k.banners k.in_time w.got

    all : length p.closed ≡ length b.ends
    all = sym (length-ends 0 p.closed) ∙ ap length (sym b.are) ∙ length-reverse b.ends

    few : length b.ends ≤ length marks
    few = let l = lower marks loaded b.marks b.ends w.rising k.loads b.ended in let n = ap length l.are ∙ length-append l.more l.low in let s = l.same in omega arith

    by_marks : (marks ≡ w.greeted) ⊎ (marks ≡ length stored ∷ w.greeted) → ((at_got ≡ []) × (w.greeted ≡ [])) ⊎ ((first : ℕ) × (at_got ≡ w.greeted ++ first ∷ [])) → length p.closed ≡ length marks
    by_marks (inl is) got = let m = u.many in let n = few in let e = ap length is in let a = all in omega arith
    by_marks (inr is) (inl none) = absurd (let e = ap length is in let n = ap length none.0 in let lt = each (omega arith) in omega arith)
    by_marks (inr is) (inr some) = absurd (let e = ap length is in let n = ap length some.1 ∙ length-append w.greeted (some.0 ∷ []) in let lt = each (omega arith) in omega arith)
