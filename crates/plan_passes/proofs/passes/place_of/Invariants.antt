use Rattle.std.proofs.Common.{◌≡◌, ◌*◌, ◌^◌, ◌≤◌}
use Rattle.profile.specs.Profiles.{place}
use Rattle.plan_passes.proofs.passes.place_of.Given as goal

abbrev pub invariant-loop-i : goal.invariant-loop-i
invariant-loop-i l = record {
  at : l.place ≡ place l.gaps l.i;
  small : l.place ≤ l.i * 2 ^ 71;
}
