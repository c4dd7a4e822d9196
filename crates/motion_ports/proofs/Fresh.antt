-- The end of a ring at which nothing was done.
use Rattle.std.proofs.Common.{◌≡◌, true, false, [], map, refl, ap, arith}
use Rattle.motion_ring.specs.declared.ends.SegIn.{SegIn}
use Rattle.motion_ring.specs.declared.lists.Taken.{Taken}
use Rattle.motion_ring.specs.Ends.{ring_of_in, taken_by, head_loads_of, stop_loads_of, asked_by}
use Rattle.motion_ring.specs.Rule.{none_taken}
use Rattle.motion_ring.specs.Sides.{passed_in}
use Rattle.motion_ports.specs.Ports.{HasGot, numbers_of}

pub nothing_got : (end : SegIn) → taken_by end ≡ none_taken → head_loads_of end ≡ 0 → stop_loads_of end ≡ 0 → asked_by end ≡ 0
    → HasGot end (ring_of_in end) []
nothing_got end none looks asks asked = record {
  ring_is = refl;
  passed_are = ap passed_in none;
  fresh_are = ap (λ (t : Taken). t.fresh) none;
  counted_are = ap (λ (t : Taken). t.counted) none;
  left_are = ap (λ (t : Taken). t.left) none;
  halts_are = ap (λ (t : Taken). map numbers_of t.halts) none;
  looks = looks;
  saw_pieces = tt;
  asks = asks;
  saw_stop_is = (λ e. absurd (let x : false ≡ true = e in cc), λ above. absurd (omega (arith, above, asked)));
}
