-- How far from zero the places of a report lie.
use Rattle.std.proofs.Common.{◌≡◌, ℕ, zero, suc, ◌+◌, ◌*◌, ◌/◌, ◌≤◌, ◌<◌, ◌-◌, ◌+ℤ◌, ℤ, pos, negsuc, nat_abs, get_or, refl, arith}
use Rattle.std.proofs.lemmas.Int.{ints}
use Rattle.std.proofs.lemmas.Nat.{div_below}
use Rattle.units.specs.Rounding.{with_sign_of, rounded_quotient}
use Rattle.modal_state.specs.declared.Offsets.{Offsets}
use Rattle.modal_state.specs.declared.Parser.{Parser}
use Rattle.modal_state.specs.Modes.{IsWithin, IsOffsets, IsParser, farthest, systems, origin_nm, wco_of}

size_of : (a : ℤ) (q : ℕ) → nat_abs (with_sign_of a q) ≡ q
size_of (pos n) q = refl
size_of (negsuc n) zero = refl
size_of (negsuc n) (suc q) = refl

-- a length that is near in nm is near in thousandths of a mm
pub near_one : (a : ℤ) → nat_abs a ≤ 200000000000000 → nat_abs (rounded_quotient a 1000) ≤ 1000000000000
unfolding rounded_quotient
near_one a few =
    rw (size_of a ((2 * nat_abs a + 1000) / 2000))
    (let h : (2 * nat_abs a + 1000) / 2000 < 1000000000001 = div_below (2 * nat_abs a + 1000) 2000 1000000000001 (omega arith) (omega (arith, few)) in omega (arith, h))

near_at : (o : Offsets) → IsOffsets o → (n : ℕ) → IsWithin farthest (get_or (systems o) n origin_nm)
near_at o f zero = f.s1
near_at o f (suc zero) = f.s2
near_at o f (suc (suc zero)) = f.s3
near_at o f (suc (suc (suc zero))) = f.s4
near_at o f (suc (suc (suc (suc zero)))) = f.s5
near_at o f (suc (suc (suc (suc (suc zero))))) = f.s6
near_at o f (suc (suc (suc (suc (suc (suc n)))))) = record { x = omega arith; y = omega arith; z = omega arith }

sum_near : (a b : ℤ) → nat_abs a ≤ 100000000000000 → nat_abs b ≤ 100000000000000 → nat_abs (a +ℤ b) ≤ 200000000000000
sum_near a b x y = omega (arith, ints, x, y)

-- so is the offset of the work
pub wco_near : (p : Parser) → IsParser p → IsWithin 200000000000000 (wco_of p)
wco_near p f =
    let s = near_at p.offsets f.offsets (p.modal.system - 1) in
    let g = f.offsets.g92 in
    let o = get_or (systems p.offsets) (p.modal.system - 1) origin_nm in
    let m = p.offsets.g92 in
    record { x = sum_near o.x m.x s.x g.x; y = sum_near o.y m.y s.y g.y; z = sum_near o.z m.z s.z g.z }
