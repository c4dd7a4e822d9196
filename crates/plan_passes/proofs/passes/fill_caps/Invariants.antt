use Rattle.std.proofs.Common.{◌≡◌, ℕ, ◌+◌, ◌*◌, ◌^◌, ◌≤◌, ◌<◌, get_or, length}
use Rattle.profile.specs.Profiles.{place}
use Rattle.profile.specs.Caps.{caps}
use Rattle.plan_passes.proofs.passes.fill_caps.Given as goal

abbrev pub invariant-loop-i : goal.invariant-loop-i
invariant-loop-i l = record {
  room : length l.speeds ≡ length l.gaps + 1;
  low : l.from ≤ l.i;
  at : l.place ≡ place l.gaps l.i;
  small : l.place ≤ l.i * 2 ^ 71;
  first : get_or l.speeds 0 0 ≡ l.w;
  before : (j : ℕ) → 0 < j → j ≤ l.from → get_or l.speeds j 0 ≡ get_or l.fn.speeds j 0;
  filled : (j : ℕ) → l.from < j → j ≤ l.i → get_or l.speeds j 0 ≡ get_or (caps l.w l.gaps l.softs) j 0;
}
