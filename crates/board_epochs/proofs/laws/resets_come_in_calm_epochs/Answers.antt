use Rattle.board_epochs.proofs.Prompting.{calm, going, unended, unstopping}
use Rattle.board_epochs.proofs.laws.resets_come_in_calm_epochs.Goals as goal

pub returns-clause-calm : goal.returns-clause-calm
returns-clause-calm c = calm

pub returns-clause-going : goal.returns-clause-going
returns-clause-going c = going

pub returns-clause-unended : goal.returns-clause-unended
returns-clause-unended c = unended

pub returns-clause-motion : goal.returns-clause-motion
returns-clause-motion c = unstopping
