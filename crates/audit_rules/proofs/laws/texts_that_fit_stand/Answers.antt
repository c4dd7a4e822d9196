use Rattle.audit_rules.proofs.Finding.{no_bad_reply, no_break}
use Rattle.audit_rules.proofs.Fitted.{fitted}
use Rattle.audit_rules.proofs.Alarmed.{alarm_of}
use Rattle.audit_rules.proofs.laws.texts_that_fit_stand.Goals as goal

pub returns-clause-console : goal.returns-clause-console
returns-clause-console c job console steps events f = (fitted job console steps events f).console_stands

pub returns-clause-replies : goal.returns-clause-replies
returns-clause-replies c job console steps events line f = no_bad_reply job console steps line (fitted job console steps events f).console_stands

pub returns-clause-records : goal.returns-clause-records
returns-clause-records c = no_break

pub returns-clause-alarm : goal.returns-clause-alarm
returns-clause-alarm c job console steps events k f alarmed number = alarm_of job console steps events f alarmed k number
