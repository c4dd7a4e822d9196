use Rattle.outside.proofs.Written.{wrote_nothing, more_waits}
use Rattle.text_writer.proofs.Arriving.{once_more, all_arrived}
use Rattle.text_writer.proofs.laws.text_arrives.Goals as goal

pub returns-clause-first : goal.returns-clause-first
returns-clause-first c = wrote_nothing

pub returns-clause-put : goal.returns-clause-put
returns-clause-put c v text more before now was = more_waits before now v.failed v.waiting text more was

pub returns-clause-wrote : goal.returns-clause-wrote
returns-clause-wrote c = once_more

pub returns-clause-done : goal.returns-clause-done
returns-clause-done c = all_arrived
