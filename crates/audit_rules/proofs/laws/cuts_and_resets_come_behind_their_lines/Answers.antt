use Rattle.audit_rules.proofs.BehindText.{alarm_told}
use Rattle.audit_rules.proofs.BehindStops.{cut_here, cut_later, reset_here, reset_later}
use Rattle.audit_rules.proofs.laws.cuts_and_resets_come_behind_their_lines.Goals as goal

pub returns-clause-cut : goal.returns-clause-cut
returns-clause-cut c = cut_here

pub returns-clause-cut_later : goal.returns-clause-cut_later
returns-clause-cut_later c = cut_later

pub returns-clause-reset : goal.returns-clause-reset
returns-clause-reset c = reset_here

pub returns-clause-reset_later : goal.returns-clause-reset_later
returns-clause-reset_later c = reset_later

pub returns-clause-alarm : goal.returns-clause-alarm
returns-clause-alarm c = alarm_told
