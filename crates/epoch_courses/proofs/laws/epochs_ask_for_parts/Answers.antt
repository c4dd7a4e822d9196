use Rattle.epoch_courses.proofs.Asking.{epochs_driven, finished_driven}
use Rattle.epoch_courses.proofs.laws.epochs_ask_for_parts.Goals as goal

pub returns-clause-parts : goal.returns-clause-parts
returns-clause-parts c = epochs_driven

pub returns-clause-finished : goal.returns-clause-finished
returns-clause-finished c = finished_driven
