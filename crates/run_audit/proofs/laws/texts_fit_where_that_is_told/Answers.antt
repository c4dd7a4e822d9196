use Rattle.run_audit.proofs.Answered.{told_to_fit}
use Rattle.run_audit.proofs.laws.texts_fit_where_that_is_told.Goals as goal

pub returns : goal.returns
returns c = λ job console steps a right e. let fit = told_to_fit job console steps a right e in (fit.0, fit.1)
