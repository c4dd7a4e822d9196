use Rattle.controller.proofs.Greets.{greets_at_once}
use Rattle.controller.proofs.laws.controllers_greet_first.Goals as goal

pub returns : goal.returns
returns c = λ N t was is next f g w. greets_at_once t was is next f g w
