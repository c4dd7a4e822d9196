-- How large the numbers of a segment are.
use Rattle.std.proofs.Common.{◌≡◌, ℕ, ◌+◌, ◌-◌, ◌*◌, ◌/◌, ◌^◌, ◌≤◌, ◌<◌, min, max, inl, inr, arith, sym, ap, subst, ◌∙◌}
use Rattle.std.proofs.lemmas.Bool.{cases_lt}
use Rattle.std.proofs.lemmas.Nat.{mul-le, le-div, div_below}
use Rattle.std.proofs.Math.Nat.{le_of_mul-le-mul_right, div-mul-le_self}
use Rattle.units.specs.Roots.{IsRoot, root_of}
use Rattle.units.proofs.Places.{root_is, one_root}
use Rattle.line_geom.specs.declared.Block.{Block}
use Rattle.profile.specs.Slowing.{speed_after}
use Rattle.plan_rules.specs.Blocks.{IsBlock, left_of, nominal_speed, squared, top_of}
use Rattle.plan_rules.specs.Segments.{count_of, stop_of, IsGoing, IsHolding}
use Rattle.plan_rules.specs.Plans.{Planned, IsReached, IsTail, exit_of}
use Rattle.plan_rules.proofs.Bounds.{bounds_of, rapid_small, nominal_below}

-- the square of a speed that the axes allow
pub square_le : (v : ℕ) (b : Block) → IsBlock b → v ≤ b.geom.rapid → v * v ≤ squared b.geom.rapid
square_le v b is le = mul-le v v b.geom.rapid b.geom.rapid le le

-- the root of a number is at most any number whose square is no less
pub root_below : (x r : ℕ) → x ≤ r * r → root_of x ≤ r
root_below x r h = elim (cases_lt r (root_of x)) [
  | inl more ↦
      let next : r + 1 ≤ root_of x = omega arith in
      let low = (root_is x).low in
      let square = mul-le (r + 1) (r + 1) (root_of x) (root_of x) next next in
      absurd (omega (arith, low, square))
  | inr le ↦ le
]

-- and so is the root that was found
pub root_under : (x r t : ℕ) → IsRoot x r → x < t * t → r ≤ t
root_under x r t is less =
    let below = root_below x t (omega (arith, less)) in
    let same = one_root x r is in
    omega (arith, below, same)

-- the root of a square
pub root_square : (r : ℕ) → root_of (r * r) ≡ r
root_square r = sym (one_root (r * r) r (record { low = omega arith; high = omega arith }))

-- the greater of a speed that the axes allow and such a root is one too
pub top_below : (nominal w rapid : ℕ) → nominal ≤ rapid → w ≤ squared rapid → (top : ℕ) → top ≡ max nominal (root_of w) → top ≤ rapid
top_below nominal w rapid le begins top is = let root = root_below w rapid begins in omega (arith, le, root, is)

-- a part of something is at least one, where it is rounded up
pub some_rounded_up : (a d : ℕ) → 0 < a → 0 < d → 0 < (a + d - 1) / d
some_rounded_up a d some part = le-div 1 (a + d - 1) d part (omega (arith, some))

-- events at a speed that the axes allow
pub product_small : (v : ℕ) (b : Block) → IsBlock b → v ≤ b.geom.rapid → b.geom.n * v ≤ 6666666600000000
product_small v b is le =
    let bounds = bounds_of b is in
    let n_high = bounds.n_high in
    let rapid_high = bounds.rapid_high in
    mul-le b.geom.n v 200000000 33333333 n_high (omega (arith, le, rapid_high))

pub product_some : (v : ℕ) (b : Block) → IsBlock b → 0 < v → 0 < b.geom.n * v
product_some v b is some = let n_low = (bounds_of b is).n_low in mul-le 1 1 b.geom.n v n_low some

-- the nominal speed of a tail
pub tail_nominal : (p : Planned) (b : Block) (top : ℕ) → IsReached p → IsTail p b → top ≡ nominal_speed p.overrides b → top ≤ b.geom.rapid
tail_nominal p b top is tail nominal = let below = nominal_below p.overrides b is.overrides tail.block in omega (arith, below, nominal)

-- what the segment rule takes in mode Go, from the plan's speed, its speed at the tail's end and the nominal speed
pub is_going : (p : Planned) (b : Block) (w exit nominal n v : ℕ) → w ≡ p.speed → exit ≡ exit_of p
    → nominal ≡ nominal_speed p.overrides b → n ≡ count_of b w
    → v ≡ speed_after w b.geom.q n (left_of b - n) exit (squared nominal) → IsGoing p b n v
unfolding top_of
is_going p b w exit nominal n v at_speed at_exit at_top events speed =
    let left = left_of b - n in
    record {
      events = events ∙ ap (count_of b) at_speed;
      speed = speed
          ∙ ap (λ x. speed_after x b.geom.q n left exit (squared nominal)) at_speed
          ∙ ap (λ x. speed_after p.speed b.geom.q n left x (squared nominal)) at_exit
          ∙ ap (λ x. speed_after p.speed b.geom.q n left (exit_of p) (squared x)) at_top;
    }

-- and what it takes in mode Hold
pub is_holding : (p : Planned) (b : Block) (w n v : ℕ) → 0 < w → w ≡ p.speed
    → n ≡ min (count_of b w) (stop_of b w) → v ≡ w - b.geom.q * n → IsHolding p b n v
is_holding p b w n v moves at_speed events speed = record {
  moves = subst (λ x. 0 < x) at_speed moves;
  events = events ∙ ap (λ x. min (count_of b x) (stop_of b x)) at_speed;
  speed = speed ∙ ap (λ x. x - b.geom.q * n) at_speed;
}

-- fewer than two lengths are fewer than two events, and two or more are two or more
pub one_event : (way length : ℕ) → 0 < length → way < 2 * length → way / length < 2
one_event way length some less = div_below way length 2 some less

pub some_events : (way length : ℕ) → 0 < length → 2 * length ≤ way → 2 ≤ way / length
some_events way length some le = le-div 2 way length some le

-- what events that take 10 ms at a speed may change: a fiftieth of the acceleration times the speed
change_of : (q n N L a r : ℕ) → 0 < N → 0 < L → q * (1000 * N) ≤ 2 * a * L → n * L ≤ r * 10 * N → q * n * 1000 ≤ 20 * (a * r)
change_of q n N L a r some part by way =
    let both = mul-le (q * (1000 * N)) (n * L) (2 * a * L) (r * 10 * N) by way in
    let left : q * (1000 * N) * (n * L) ≡ q * n * 1000 * (N * L) = grind arith in
    let right : 2 * a * L * (r * 10 * N) ≡ 20 * (a * r) * (N * L) = grind arith in
    le_of_mul-le-mul_right (omega (arith, both, left, right)) (mul-le 1 1 N L some part)

-- the events of about 10 ms change the squared speed by little
pub change_small : (w n : ℕ) (b : Block) → IsBlock b → w ≤ squared b.geom.rapid → n ≤ count_of b w → b.geom.q * n ≤ 2000000000000000
change_small w n b is speed few =
    let bounds = bounds_of b is in
    let q_high = bounds.q_high in
    let n_low = bounds.n_low in
    let length_low = bounds.length_low in
    let r = root_of (w + b.geom.q) in
    let x = r * 10 * b.geom.n / b.geom.length in
    elim (cases_lt 1 n) [
      | inr one ↦ let most = mul-le b.geom.q n b.geom.q 1 (omega arith) one in omega (arith, most, q_high)
      | inl more ↦
          let rapid = rapid_small b is in
          let slow = root_below (w + b.geom.q) 33453118 (omega (arith, speed, rapid, q_high)) in
          let within : n ≤ x = omega (arith, few, more) in
          let lengths = mul-le n b.geom.length x b.geom.length within (omega arith) in
          let whole = div-mul-le_self (r * 10 * b.geom.n) b.geom.length in
          let q = is.geom.geom.q in
          let share = div-mul-le_self (2 * b.geom.accel * b.geom.length) (1000 * b.geom.n) in
          let by : b.geom.q * (1000 * b.geom.n) ≤ 2 * b.geom.accel * b.geom.length =
          subst (λ q. q * (1000 * b.geom.n) ≤ 2 * b.geom.accel * b.geom.length) (sym q) share in
          let change = change_of b.geom.q n b.geom.n b.geom.length b.geom.accel r n_low (omega (arith, length_low, n_low)) by (omega (arith, lengths, whole)) in
          let most = mul-le b.geom.accel r 2000000000 33453118 bounds.accel_high slow in
          omega (arith, change, most)
    ]

-- one event is taken where no more is left, and where two take longer than 10 ms
pub one_left : (b : Block) (w : ℕ) → left_of b ≡ 1 → 1 ≡ count_of b w
one_left b w left = omega arith

pub one_taken : (b : Block) (w r : ℕ) → IsBlock b → IsRoot (w + b.geom.q) r → r * 10 * b.geom.n < 2 * b.geom.length → 1 ≡ count_of b w
one_taken b w r is root less =
    let left = is.left in
    let few = one_event (r * 10 * b.geom.n) b.geom.length (omega arith) less in
    let same = ap (λ r. r * 10 * b.geom.n / b.geom.length) (one_root _ r root) in
    omega (arith, few, same, left)

-- and otherwise those of about 10 ms, as far as they are left
pub some_taken : (b : Block) (w r m : ℕ) → IsBlock b → IsRoot (w + b.geom.q) r → 2 * b.geom.length ≤ r * 10 * b.geom.n
    → m ≡ min (r * 10 * b.geom.n / b.geom.length) (left_of b) → m ≡ count_of b w
some_taken b w r m is root more least =
    let left = is.left in
    let low = (bounds_of b is).length_low in
    let some = some_events (r * 10 * b.geom.n) b.geom.length (omega (arith, low)) more in
    let same = ap (λ r. r * 10 * b.geom.n / b.geom.length) (one_root _ r root) in
    omega (arith, some, same, left, least)

-- one at least, and no more than are left
pub count_within : (b : Block) (w : ℕ) → IsBlock b → (0 < count_of b w) × (count_of b w ≤ left_of b)
count_within b w is = let left = is.left in (omega arith, omega (arith, left))

-- what the numbers of a block come to in 64 bits
pub nominal_fits : (b : Block) (v : ℕ) → IsBlock b → v ≤ b.geom.rapid → v * v < 2 ^ 64
nominal_fits b v is le = omega (arith, square_le v b is le, rapid_small b is)

pub changed_fits : (b : Block) (w change : ℕ) → IsBlock b → w ≤ squared b.geom.rapid → change ≤ 2000000000000000 → w + change < 2 ^ 64
changed_fits b w change is speed small = omega (arith, speed, small, rapid_small b is)

-- the speed behind events in mode Go, where both ways to it are cut off at the end of 64 bits; it is one that the axes allow
pub speed_is : (b : Block) (w n exit nominal change change' for_exit towards v : ℕ) → IsBlock b → w ≤ squared b.geom.rapid → nominal ≤ b.geom.rapid
    → change' ≡ min (b.geom.q * (left_of b - n)) 18446744073709551615 → for_exit ≡ min (exit + change') 18446744073709551615
    → change ≡ b.geom.q * n → towards ≡ max (min (w + change) (nominal * nominal)) (w - change) → v ≡ min for_exit towards
    → (v ≡ speed_after w b.geom.q n (left_of b - n) exit (squared nominal)) × (v ≤ squared b.geom.rapid)
speed_is b w n exit nominal change change' for_exit towards v is speed top rest at_exit by at_top least =
    let square = square_le nominal b is top in
    let rapid = rapid_small b is in
    (omega (arith, square, rapid, speed, rest, at_exit, by, at_top, least), omega (arith, square, speed, at_top, least))
