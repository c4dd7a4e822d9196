-- What stands in a row whose first place moves on.
use Rattle.std.proofs.Common.{◌≡◌, ℕ, ◌+◌, ◌-◌, ◌≤◌, ◌<◌, arith, ap, sym, ◌∙◌}
use Rattle.std.proofs.Common.{List, ◌++◌, length, get_or, take, drop, set, take-take, drop-drop, get_or-take, get_or-drop, length-drop, length-take-le}
use Rattle.std.proofs.Math.Seq.{paste, take-set-lt}
use Rattle.std.proofs.lemmas.List.{drop-take, drop-set-add, take-append-le, drop_at, get_or_append_left}
use borrow.Rule.Slice.PartMut.{put_mid, post_of}
use Rattle.std.proofs.lemmas.List.Edits.{paste_all}
use Rattle.plan_passes.specs.Tables.{IsMovedUp}

module _ {X : Type 0} (N s : ℕ) (xs : List X) where
  pub length-standing : s + N ≤ length xs → length (take N (drop s xs)) ≡ N
  length-standing within = length-take-le N (drop s xs) (omega (arith, length-drop s xs))

  -- what stands in a place
  pub standing_at : (i : ℕ) (d : X) → i < N → get_or xs (s + i) d ≡ get_or (take N (drop s xs)) i d
  standing_at i d h = sym (get_or-take N (drop s xs) i d h ∙ get_or-drop s xs i d)

  -- what stands in the first places
  pub first_at : (k i : ℕ) (d : X) → i < k → k ≤ N → get_or (take k (drop s xs)) i d ≡ get_or (take N (drop s xs)) i d
  first_at k i d h few = get_or-take k (drop s xs) i d h ∙ sym (get_or-take N (drop s xs) i d (omega arith))

  -- and once they are written
  pub written_at : (k : ℕ) (ys : List X) (i : ℕ) (d : X) → s ≤ length xs → i < length ys → length ys ≤ N
      → get_or (take N (drop s (put_mid s k xs ys))) i d ≡ get_or ys i d
  written_at k ys i d within h few =
      get_or-take N (drop s (put_mid s k xs ys)) i d (omega arith)
      ∙ ap (λ l. get_or l i d) (drop_at (take s xs) (ys ++ post_of s k xs) s (length-take-le s xs within))
      ∙ get_or_append_left ys (post_of s k xs) d i h

  -- a place is written
  pub standing_put : (i : ℕ) (x : X) → i < N → take N (drop s (set xs (s + i) x)) ≡ set (take N (drop s xs)) i x
  standing_put i x h = ap (take N) (drop-set-add s xs i x) ∙ take-set-lt N (drop s xs) i x h

  -- what stands in the first places but the first
  behind_first : (n : ℕ) → n < N → take n (drop 1 (take N (drop s xs))) ≡ take n (drop (s + 1) xs)
  behind_first n h =
      let on : 1 + (N - 1) ≡ N = omega arith in
      ap (λ k. take n (drop 1 (take k (drop s xs)))) (sym on)
      ∙ ap (take n) (drop-take 1 (N - 1) (drop s xs)) ∙ take-take n (N - 1) (drop 1 (drop s xs)) (omega arith)
      ∙ ap (take n) (drop-drop 1 s xs)

  -- the row begins one place later
  pub standing_later : IsMovedUp N (take N (drop s xs)) (take N (drop (s + 1) xs))
  standing_later n h = take-take n N (drop (s + 1) xs) (omega arith) ∙ sym (behind_first n h)

  -- the row is copied to the front, but for its first place
  pub standing_again : (ys : List X) → s + N ≤ length xs → ys ≡ paste xs 0 (drop (s + 1) xs) (length xs - (s + 1))
      → IsMovedUp N (take N (drop s xs)) (take N (drop 0 ys))
  standing_again ys within e n h =
      let long = length-drop (s + 1) xs in
      take-take n N ys (omega arith)
      ∙ ap (take n) (e ∙ paste_all xs 0 (drop (s + 1) xs) (length xs - (s + 1)) (omega (arith, long)))
      ∙ take-append-le n (drop (s + 1) xs) (drop (0 + (length xs - (s + 1))) xs) (omega (arith, long)) ∙ sym (behind_first n h)
