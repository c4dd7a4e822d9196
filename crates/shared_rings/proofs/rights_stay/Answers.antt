use Rattle.std.proofs.Common.{◌≡◌, true}
use Rattle.shared_rings.proofs.Rights.{steps_own}
use Rattle.shared_rings.proofs.rights_stay.Goals as goal

pub returns : goal.returns
returns c views may knew knows owner id view sole me known = steps_own may views owner (λ v. knew v ≡ true) (λ v. knows v ≡ true) id view sole me (λ m. known)
