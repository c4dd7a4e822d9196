use Rattle.controller.proofs.Kept.{kept_by}
use Rattle.controller.proofs.laws.controllers_keep_to_epochs.Goals as goal

pub returns : goal.returns
returns c = λ N board e f. let k = kept_by board e f in (k.first, k.opening, k.epochs, k.ended)
