use Rattle.audit_rules.proofs.NextRefused.{cuts_not, makes_not, no_early_cut, no_early_reset, no_later_cut, no_later_reset, not_anew, resets_not}
use Rattle.audit_rules.proofs.laws.records_that_are_refused_do_not_stand.Goals as goal

pub returns-clause-makes : goal.returns-clause-makes
returns-clause-makes c = makes_not

pub returns-clause-cuts : goal.returns-clause-cuts
returns-clause-cuts c = cuts_not

pub returns-clause-resets : goal.returns-clause-resets
returns-clause-resets c = resets_not

pub returns-clause-anew : goal.returns-clause-anew
returns-clause-anew c = not_anew

pub returns-clause-later_cut : goal.returns-clause-later_cut
returns-clause-later_cut c = no_later_cut

pub returns-clause-later_reset : goal.returns-clause-later_reset
returns-clause-later_reset c = no_later_reset

pub returns-clause-early_cut : goal.returns-clause-early_cut
returns-clause-early_cut c = no_early_cut

pub returns-clause-early_reset : goal.returns-clause-early_reset
returns-clause-early_reset c = no_early_reset
