use Rattle.profile.proofs.Leasts.{least_at, least_le}
use Rattle.profile.proofs.laws.least_is_least.Goals as goal

pub returns : goal.returns
returns c = record { among = least_at; below = least_le }
