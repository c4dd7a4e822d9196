use Rattle.board_epochs.proofs.Locked.{tell_lock}
use Rattle.board_epochs.proofs.laws.reports_tell_the_lock.Goals as goal

pub returns-clause-told : goal.returns-clause-told
returns-clause-told c = λ first h conducted limited. tell_lock first h limited conducted
