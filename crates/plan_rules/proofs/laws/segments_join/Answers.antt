use Rattle.plan_rules.proofs.Joins.{join_fresh, join_added, joins_behind}
use Rattle.plan_rules.specs.Plans.{entered}
use Rattle.plan_rules.proofs.laws.segments_join.Goals as goal

pub returns-clause-fresh : goal.returns-clause-fresh
returns-clause-fresh c = join_fresh

pub returns-clause-added : goal.returns-clause-added
returns-clause-added c = λ before p b deviation o joins fresh. join_added before p.blocks (entered p.blocks b deviation) joins fresh

pub returns-clause-advanced : goal.returns-clause-advanced
returns-clause-advanced c = λ before p mode s joins next. joins_behind before p mode p.blocks s joins next
