-- Parts of events, one after another.
use Rattle.std.proofs.Common.{◌≡◌, ℕ, zero, suc, ◌+◌, ◌-◌, ◌*◌, ◌/◌, ◌%◌, ◌^◌, ◌≤◌, ◌<◌, arith, ap, refl, sym, subst, ◌∙◌, ℤ, ◌-ℤ◌, List, [], ◌∷◌, ◌++◌}
use Rattle.units.specs.declared.Move.{Move}
use Rattle.units.specs.Counting.{way, events_of}
use Rattle.step_line.specs.declared.Bits.{Bits}
use Rattle.smooth_step.specs.Subticks.{part_bit, part_of, parts_after, width_of, subticks_of}
use Rattle.smooth_step.specs.Counters.{IsAxis, AreAxes}
use Rattle.smooth_step.specs.declared.axis.Axis.{Axis}
use Rattle.smooth_step.specs.declared.axes.Axes.{Axes}
use Rattle.smooth_step.proofs.Parting.{width_whole}

-- a part by what it does to each axis
pub part_by_axes : (m : Move) (N t u : ℕ) (x y z : ℤ) → N ≡ events_of m → x ≡ part_bit (way m).x N t u → y ≡ part_bit (way m).y N t u → z ≡ part_bit (way m).z N t u
    → Path Bits (record { x = x; y = y; z = z }) (part_of m t u)
unfolding part_of
part_by_axes m N t u x y z e f g h = cc

append_one : (items : List Bits) (b : Bits) (rest : List Bits) → (items ++ b ∷ []) ++ rest ≡ items ++ b ∷ rest
append_one [] b rest = refl
append_one (x ∷ items) b rest = ap (λ l. x ∷ l) (append_one items b rest)

append_none : (items : List Bits) → items ++ [] ≡ items
append_none [] = refl
append_none (x ∷ items) = ap (λ l. x ∷ l) (append_none items)

pub goes_on : (items : List Bits) (m : Move) (t w made count : ℕ) (b : Bits) (whole : List Bits) → made < count → b ≡ part_of m (t + w * made) (t + w * made + w)
    → items ++ parts_after m (t + w * made) w (count - made) ≡ whole → (items ++ b ∷ []) ++ parts_after m (t + w * (made + 1)) w (count - (made + 1)) ≡ whole
goes_on items m t w made count b whole less e so_far =
    let n = count - (made + 1) in
    let left : suc n ≡ count - made = omega arith in
    let there : t + w * (made + 1) ≡ t + w * made + w = grind arith in
    append_one items b (parts_after m (t + w * (made + 1)) w n)
    ∙ ap (λ u. items ++ b ∷ parts_after m u w n) there
    ∙ ap (λ c. items ++ c ∷ parts_after m (t + w * made + w) w n) e
    ∙ ap (λ k. items ++ parts_after m (t + w * made) w k) left
    ∙ so_far

pub ends : (items : List Bits) (m : Move) (t w made count : ℕ) (whole : List Bits) → count - made ≡ 0 → items ++ parts_after m (t + w * made) w (count - made) ≡ whole → items ≡ whole
ends items m t w made count whole none so_far = sym (append_none items) ∙ ap (λ k. items ++ parts_after m (t + w * made) w k) (sym none) ∙ so_far

-- the axes, a part further
pub axes_on : (axes : Axes) (m : Move) (t w made : ℕ) → AreAxes axes m (t + w * made + w) → AreAxes axes m (t + w * (made + 1))
axes_on axes m t w made are = let there : t + w * made + w ≡ t + w * (made + 1) = grind arith in subst (λ u. AreAxes axes m u) there are

-- an axis by the same way and as many events
pub same_axis : (axis : Axis) (f t f' t' : ℤ) (N M : ℕ) → f' ≡ f → t' ≡ t → N ≡ M → IsAxis axis (t' -ℤ f') N 0 → IsAxis axis (t -ℤ f) M 0
same_axis axis f t f' t' N M e g h is =
    subst (λ K. IsAxis axis (t -ℤ f) K 0) h (subst (λ u. IsAxis axis (t -ℤ u) N 0) e (subst (λ u. IsAxis axis (u -ℤ f') N 0) g is))

-- ---- the width and the number of the subticks of a level

pub halved : (level : ℕ) → level ≤ 3 → 8 / 2 ^ level ≡ width_of level
halved zero h = refl
halved (suc zero) h = refl
halved (suc (suc zero)) h = refl
halved (suc (suc (suc zero))) h = refl
halved (suc (suc (suc (suc n)))) h = absurd (omega arith)

pub paired : (level : ℕ) → 0 < level → level ≤ 3 → 2 * (1 * 2 ^ (level - 1) % 18446744073709551616) ≡ 2 ^ level
paired zero some h = absurd (omega arith)
paired (suc zero) some h = refl
paired (suc (suc zero)) some h = refl
paired (suc (suc (suc zero))) some h = refl
paired (suc (suc (suc (suc n)))) some h = absurd (omega arith)

pub four_at_most : (level : ℕ) → level ≤ 3 → 1 * 2 ^ (level - 1) % 18446744073709551616 ≤ 4
four_at_most zero h = omega arith
four_at_most (suc zero) h = omega arith
four_at_most (suc (suc zero)) h = omega arith
four_at_most (suc (suc (suc zero))) h = omega arith
four_at_most (suc (suc (suc (suc n)))) h = absurd (omega arith)

-- ---- a whole event

-- the axes, an event further
pub event_on : (axes : Axes) (m : Move) (done w n level : ℕ) → level ≤ 3 → w ≡ width_of level → n ≡ 2 ^ level → AreAxes axes m (8 * done + w * n) → AreAxes axes m (8 * (done + 1))
event_on axes m done w n level small e f are =
    let whole : w * n ≡ 8 = rw (e, f) (width_whole level small) in
    let there : 8 * done + w * n ≡ 8 * (done + 1) = omega (arith, whole) in
    subst (λ u. AreAxes axes m u) there are

pub subticks_are : (m : Move) (done w n level : ℕ) → w ≡ width_of level → n ≡ 2 ^ level → parts_after m (8 * done) w n ≡ subticks_of m level (done + 1)
unfolding subticks_of
subticks_are m done w n level e f =
    let before : done ≡ done + 1 - 1 = omega arith in
    ap (λ v. parts_after m (8 * done) v n) e ∙ ap (λ k. parts_after m (8 * done) (width_of level) k) f
    ∙ ap (λ k. parts_after m (8 * k) (width_of level) (2 ^ level)) before

-- at level 0 an event is one part
pub whole_is : (m : Move) (done level : ℕ) → level ≡ 0 → parts_after m (8 * done) 8 1 ≡ subticks_of m level (done + 1)
whole_is m done level none = subticks_are m done 8 1 level (sym (ap width_of none)) (sym (ap (λ l. 2 ^ l) none))
