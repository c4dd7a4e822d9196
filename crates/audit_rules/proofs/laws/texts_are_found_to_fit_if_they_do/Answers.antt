use Rattle.audit_rules.proofs.Finding.{fits_exactly}
use Rattle.audit_rules.proofs.laws.texts_are_found_to_fit_if_they_do.Goals as goal

pub returns : goal.returns
returns c = fits_exactly
