use Rattle.profile.proofs.Places.{profile_within, greatest_of_all, profile_at}
use Rattle.profile.proofs.laws.profile_is_the_greatest.Goals as goal

pub returns : goal.returns
returns c = record { points = profile_at; within = profile_within; greatest = greatest_of_all }
