-- The subticks of an event and its steps.
use Rattle.std.proofs.Common.{◌≡◌, ℕ, zero, suc, ◌+◌, ◌-◌, ◌*◌, ◌^◌, ◌≤◌, ◌<◌, inl, inr, arith, ap, refl, sym, ◌∙◌, subst, Bool, true, false, cond, nat_lt, ℤ, pos, negsuc, nat_abs, List, [], ◌∷◌, length, slice_get, map, Some}
use Rattle.std.proofs.lemmas.Bool.Decides.{nat_tests}
use Rattle.std.specs.List.{All}
use Rattle.units.specs.declared.Move.{Move}
use Rattle.units.specs.Rounding.{with_sign_of}
use Rattle.units.specs.Counting.{count, way, events_of}
use Rattle.step_line.specs.declared.Bits.{Bits}
use Rattle.step_line.specs.Events.{steps_at, bit_at, event_of, events_after}
use Rattle.smooth_step.specs.Subticks.{fine, rises, part_bit, part_of, parts_after, width_of, subticks_of, smoothed, is_step, steps_among, IsParted, AreParted}
use Rattle.smooth_step.proofs.Fine.{fine_is_count, one_more_or_same, rises_where_more, stays_where_same}

-- what parts in a row do to an axis
bits_after : ℤ → ℕ → ℕ → ℕ → ℕ → List ℤ
bits_after d N t w zero = []
bits_after d N t w (suc n) = part_bit d N t (t + w) ∷ bits_after d N (t + w) w n

xs_are : (m : Move) (t w n : ℕ) → map (λ (b : Bits). b.x) (parts_after m t w n) ≡ bits_after (way m).x (events_of m) t w n
unfolding part_of bits_after
xs_are m t w zero = refl
xs_are m t w (suc n) = ap (λ l. part_bit (way m).x (events_of m) t (t + w) ∷ l) (xs_are m (t + w) w n)

ys_are : (m : Move) (t w n : ℕ) → map (λ (b : Bits). b.y) (parts_after m t w n) ≡ bits_after (way m).y (events_of m) t w n
unfolding part_of bits_after
ys_are m t w zero = refl
ys_are m t w (suc n) = ap (λ l. part_bit (way m).y (events_of m) t (t + w) ∷ l) (ys_are m (t + w) w n)

zs_are : (m : Move) (t w n : ℕ) → map (λ (b : Bits). b.z) (parts_after m t w n) ≡ bits_after (way m).z (events_of m) t w n
unfolding part_of bits_after
zs_are m t w zero = refl
zs_are m t w (suc n) = ap (λ l. part_bit (way m).z (events_of m) t (t + w) ∷ l) (zs_are m (t + w) w n)

-- ---- an axis is stepped once at most

kept : (b : Bool) (x : ℤ) (rest : List ℤ) → b ≡ true → cond b (x ∷ rest) rest ≡ x ∷ rest
kept true x rest e = refl
kept false x rest e = absurd cc

-- one bit before others
bit_before : (s : ℤ) (first : Bool) (rest : List ℤ) → is_step s ≡ true → steps_among (cond first s (pos 0) ∷ rest) ≡ cond first (s ∷ steps_among rest) (steps_among rest)
bit_before s true rest is = kept (is_step s) s (steps_among rest) is
bit_before s false rest is = refl

one_is_step : (d : ℤ) → is_step (with_sign_of d 1) ≡ true
one_is_step (pos n) = refl
one_is_step (negsuc n) = refl

-- the first part steps, and the others do not
steps_first : (s : ℤ) (first : Bool) (rest : List ℤ) → is_step s ≡ true → first ≡ true → steps_among rest ≡ [] → steps_among (cond first s (pos 0) ∷ rest) ≡ s ∷ []
steps_first s first rest is e none = bit_before s first rest is ∙ rw e (ap (λ l. s ∷ l) none)

steps_later : (s : ℤ) (first : Bool) (rest : List ℤ) → is_step s ≡ true → first ≡ false → steps_among (cond first s (pos 0) ∷ rest) ≡ steps_among rest
steps_later s first rest is e = bit_before s first rest is ∙ rw e refl

not_now : (a N t : ℕ) → rises a N t t ≡ false
not_now a N t = stays_where_same a N t t refl

rises_by : (a N t u : ℕ) → fine a N t < fine a N u → rises a N t u ≡ true
unfolding rises
rises_by a N t u h = grind (arith, nat_tests)

stays_by : (a N t u : ℕ) → fine a N u ≤ fine a N t → rises a N t u ≡ false
unfolding rises
stays_by a N t u h = grind (arith, nat_tests)

same_from : (a N t u v : ℕ) → fine a N u ≡ fine a N t → rises a N u v ≡ rises a N t v
unfolding rises
same_from a N t u v e = ap (λ n. nat_lt n (fine a N v)) e

at_least : (a N t u : ℕ) → a ≤ N → u ≤ 8 → fine a N t ≤ fine a N (t + u)
at_least a N t u h small = elim (one_more_or_same a N t u h small) [
  | inl e ↦ omega (arith, e)
  | inr e ↦ omega (arith, e)
]

at_most : (a N t u : ℕ) → a ≤ N → u ≤ 8 → fine a N (t + u) ≤ fine a N t + 1
at_most a N t u h small = elim (one_more_or_same a N t u h small) [
  | inl e ↦ omega (arith, e)
  | inr e ↦ omega (arith, e)
]

-- parts in a row step an axis once where the fine count rises over all of them, and else not
steps_in_parts : (d : ℤ) (N t w n : ℕ) → nat_abs d ≤ N → w * n ≤ 8 → steps_among (bits_after d N t w n) ≡ cond (rises (nat_abs d) N t (t + w * n)) (with_sign_of d 1 ∷ []) []
unfolding bits_after
steps_in_parts d N t w zero h small =
    let here : t ≡ t + w * zero = omega arith in
    let still : rises (nat_abs d) N t (t + w * zero) ≡ false = subst (λ u. rises (nat_abs d) N t u ≡ false) here (not_now (nat_abs d) N t) in
    sym (ap (λ b. cond b (with_sign_of d 1 ∷ []) []) still)
steps_in_parts d N t w (suc n) h small =
    let a = nat_abs d in
    let s = with_sign_of d 1 in
    let there : t + w + w * n ≡ t + w * suc n = grind arith in
    let narrow : w ≤ 8 = grind arith in
    let few : w * n ≤ 8 = grind arith in
    let rest = steps_in_parts d N (t + w) w n h few in
    elim (one_more_or_same a N t w h narrow) [
      | inl e ↦
          steps_later s (rises a N t (t + w)) (bits_after d N (t + w) w n) (one_is_step d) (stays_where_same a N t (t + w) e)
          ∙ rest ∙ ap (λ b. cond b (s ∷ []) []) (same_from a N t (t + w) (t + w + w * n) e ∙ ap (λ v. rises a N t v) there)
      | inr e ↦
          let high : fine a N (t + w * suc n) ≤ fine a N t + 1 = at_most a N t (w * suc n) h small in
          let low : fine a N (t + w) ≤ fine a N (t + w + w * n) = at_least a N (t + w) (w * n) h few in
          let low_there : fine a N (t + w) ≤ fine a N (t + w * suc n) = subst (λ v. fine a N (t + w) ≤ fine a N v) there low in
          let high_there : fine a N (t + w + w * n) ≤ fine a N t + 1 = subst (λ v. fine a N v ≤ fine a N t + 1) (sym there) high in
          let over : rises a N t (t + w * suc n) ≡ true = rises_by a N t (t + w * suc n) (omega (arith, e, low_there)) in
          let no_more : rises a N (t + w) (t + w + w * n) ≡ false = stays_by a N (t + w) (t + w + w * n) (omega (arith, e, high_there)) in
          steps_first s (rises a N t (t + w)) (bits_after d N (t + w) w n) (one_is_step d) (rises_where_more a N t (t + w) e) (rest ∙ ap (λ b. cond b (s ∷ []) []) no_more)
          ∙ sym (ap (λ b. cond b (s ∷ []) []) over)
    ]

-- ---- an event

pub width_whole : (level : ℕ) → level ≤ 3 → width_of level * 2 ^ level ≡ 8
width_whole zero h = refl
width_whole (suc zero) h = refl
width_whole (suc (suc zero)) h = refl
width_whole (suc (suc (suc zero))) h = refl
width_whole (suc (suc (suc (suc n)))) h = absurd (omega arith)

sub-one : (k : ℕ) → k + 1 - 1 ≡ k
sub-one k = omega arith

-- the fine count rises over an event where the count does
pub rises_as_events : (a N k : ℕ) → rises a N (8 * (k + 1 - 1)) (8 * (k + 1 - 1) + 8) ≡ steps_at a N (k + 1)
unfolding rises steps_at
rises_as_events a N k =
    let later : 8 * (k + 1 - 1) + 8 ≡ 8 * (k + 1) = omega arith in
    let first : fine a N (8 * (k + 1 - 1)) ≡ count a N (k + 1 - 1) = fine_is_count a N (k + 1 - 1) in
    let last : fine a N (8 * (k + 1 - 1) + 8) ≡ count a N (k + 1) = ap (fine a N) later ∙ fine_is_count a N (k + 1) in
    ap (λ n. nat_lt n (fine a N (8 * (k + 1 - 1) + 8))) first ∙ ap (λ n. nat_lt (count a N (k + 1 - 1)) n) last

one_bit : (d : ℤ) (b : Bool) → steps_among (cond b (with_sign_of d 1) (pos 0) ∷ []) ≡ cond b (with_sign_of d 1 ∷ []) []
one_bit d b = bit_before (with_sign_of d 1) b [] (one_is_step d)

axis_parted : (d : ℤ) (N k level : ℕ) → nat_abs d ≤ N → level ≤ 3
    → steps_among (bits_after d N (8 * (k + 1 - 1)) (width_of level) (2 ^ level)) ≡ steps_among (bit_at d N (k + 1) ∷ [])
axis_parted d N k level h small =
    let whole = width_whole level small in
    let t = 8 * (k + 1 - 1) in
    let little : width_of level * 2 ^ level ≤ 8 = omega (arith, whole) in
    steps_in_parts d N t (width_of level) (2 ^ level) h little
    ∙ ap (λ v. cond (rises (nat_abs d) N t (t + v)) (with_sign_of d 1 ∷ []) []) whole
    ∙ ap (λ b. cond b (with_sign_of d 1 ∷ []) []) (rises_as_events (nat_abs d) N k)
    ∙ sym (one_bit d (steps_at (nat_abs d) N (k + 1)))

pub axes_within : (m : Move) → (nat_abs (way m).x ≤ events_of m) × (nat_abs (way m).y ≤ events_of m) × (nat_abs (way m).z ≤ events_of m)
unfolding events_of
axes_within m = (omega arith, omega arith, omega arith)

pub is_parted : (m : Move) (level k : ℕ) → level ≤ 3 → IsParted (event_of m (k + 1)) (subticks_of m level (k + 1))
unfolding subticks_of event_of
is_parted m level k small =
    let w = axes_within m in
    let N = events_of m in
    let t = 8 * (k + 1 - 1) in record {
      x = ap steps_among (xs_are m t (width_of level) (2 ^ level)) ∙ axis_parted (way m).x N k level w.0 small;
      y = ap steps_among (ys_are m t (width_of level) (2 ^ level)) ∙ axis_parted (way m).y N k level w.1 small;
      z = ap steps_among (zs_are m t (width_of level) (2 ^ level)) ∙ axis_parted (way m).z N k level w.2 small;
    }

pub are_parted : (m : Move) (k : ℕ) (levels : List ℕ) → All (λ level. level ≤ 3) levels → AreParted (events_after m k (length levels)) (smoothed m k levels)
are_parted m k [] small = tt
are_parted m k (level ∷ levels) small =
    (is_parted m level k (small 0 0 (omega arith)), are_parted m (k + 1) levels (λ i d h. small (suc i) d (omega arith)))

-- ---- each subtick

pub length_parts : (m : Move) (t w n : ℕ) → length (parts_after m t w n) ≡ n
length_parts m t w zero = refl
length_parts m t w (suc n) = omega (arith, length_parts m (t + w) w n)

-- parts between the same moments are the same
same_part : (m : Move) (t u v x : ℕ) → t ≡ v → u ≡ x → part_of m t u ≡ part_of m v x
same_part m t u v x e f = rw (e, f) refl

pub one_part : (m : Move) (t w n j : ℕ) → j < n → slice_get (parts_after m t w n) j ≡ Some (part_of m (t + j * w) (t + (j + 1) * w))
one_part m t w zero j h = absurd (omega arith)
one_part m t w (suc n) zero h = ap Some (same_part m t (t + w) (t + 0 * w) (t + (0 + 1) * w) (omega arith) (omega arith))
one_part m t w (suc n) (suc j) h =
    one_part m (t + w) w n j (omega arith)
    ∙ ap Some (same_part m (t + w + j * w) (t + w + (j + 1) * w) (t + suc j * w) (t + (suc j + 1) * w) (grind arith) (grind arith))

pub one_subtick : (m : Move) (level k j : ℕ) → j < 2 ^ level
    → slice_get (subticks_of m level (k + 1)) j ≡ Some (part_of m (8 * k + j * width_of level) (8 * k + (j + 1) * width_of level))
unfolding subticks_of
one_subtick m level k j h =
    one_part m (8 * (k + 1 - 1)) (width_of level) (2 ^ level) j h
    ∙ ap (λ i. Some (part_of m (8 * i + j * width_of level) (8 * i + (j + 1) * width_of level))) (sub-one k)

pub subtick_count : (m : Move) (level k : ℕ) → length (subticks_of m level (k + 1)) ≡ 2 ^ level
unfolding subticks_of
subtick_count m level k = length_parts m (8 * (k + 1 - 1)) (width_of level) (2 ^ level)

whole_bit : (d : ℤ) (N k : ℕ) → part_bit d N (8 * (k + 1 - 1)) (8 * (k + 1 - 1) + 8) ≡ bit_at d N (k + 1)
whole_bit d N k = ap (λ b. cond b (with_sign_of d 1) (pos 0)) (rises_as_events (nat_abs d) N k)

same_bits : (x y z x' y' z' : ℤ) → x ≡ x' → y ≡ y' → z ≡ z' → Path Bits (record { x = x; y = y; z = z }) (record { x = x'; y = y'; z = z' })
same_bits x y z x' y' z' e f g = cc

pub whole_event : (m : Move) (k : ℕ) → subticks_of m 0 (k + 1) ≡ event_of m (k + 1) ∷ []
unfolding subticks_of part_of event_of
whole_event m k =
    let N = events_of m in
    ap (λ (b : Bits). b ∷ []) (same_bits _ _ _ _ _ _ (whole_bit (way m).x N k) (whole_bit (way m).y N k) (whole_bit (way m).z N k))
