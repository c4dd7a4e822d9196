use Rattle.std.proofs.Common.{◌≡◌}
use Rattle.profile.specs.Profiles.{least, allowed_by}
use Rattle.profile.proofs.tests.greatest_by_definition.Given as goal

abbrev pub invariant-loop-k : goal.invariant-loop-k
invariant-loop-k l = l.least ≡ least (allowed_by l.gaps l.caps l.j) l.k
