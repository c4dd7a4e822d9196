use Rattle.std.proofs.Common.{refl}
use Rattle.jog.proofs.Causes.{is_accepted}
use Rattle.run_rules.proofs.Jogging.{jog_asks}
use Rattle.run_rules.proofs.laws.jogs_change_the_place_alone.Goals as goal

pub returns-clause-asks : goal.returns-clause-asks
returns-clause-asks c = jog_asks

pub returns-clause-way : goal.returns-clause-way
returns-clause-way c = λ before words jog e. rw (← (is_accepted before.state.parser before.state.settings words jog e).1) (refl, refl)

pub returns-clause-place : goal.returns-clause-place
returns-clause-place c = λ before jog. (refl, refl)

pub returns-clause-modes : goal.returns-clause-modes
returns-clause-modes c = λ before jog. (refl, refl, refl, refl, refl)

pub returns-clause-settings : goal.returns-clause-settings
returns-clause-settings c = λ before jog. refl

pub returns-clause-behind : goal.returns-clause-behind
returns-clause-behind c = λ before jog. (refl, refl)
