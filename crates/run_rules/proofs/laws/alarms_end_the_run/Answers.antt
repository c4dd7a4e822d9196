use Rattle.std.proofs.Common.{refl}
use Rattle.run_rules.specs.Outcomes.{start}
use Rattle.run_rules.proofs.Answering.{halts}
use Rattle.run_rules.proofs.Alarms.{beyond, halts_beyond, none_behind, alarm_is_last, alarms_from_start}
use Rattle.run_rules.proofs.laws.alarms_end_the_run.Goals as goal

pub returns-clause-cause : goal.returns-clause-cause
returns-clause-cause c = λ runs before line outcome is one. (beyond runs before line outcome is one, halts runs before line outcome is one)

pub returns-clause-comes : goal.returns-clause-comes
returns-clause-comes c = halts_beyond

pub returns-clause-none : goal.returns-clause-none
returns-clause-none c = λ before. (refl, refl, refl, refl)

pub returns-clause-behind : goal.returns-clause-behind
returns-clause-behind c = none_behind

pub returns-clause-last : goal.returns-clause-last
returns-clause-last c = alarm_is_last

pub returns-clause-one : goal.returns-clause-one
returns-clause-one c = λ runs first last lines passed run. alarms_from_start runs (start first) last lines passed refl run
