use Rattle.profile.proofs.Slowing.{planned_first}
use Rattle.profile.proofs.laws.plan_begins_with_the_present_speed.Goals as goal

pub returns : goal.returns
returns c = λ w gaps hards softs many soft is. planned_first w gaps softs hards many is soft
