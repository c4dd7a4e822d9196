use Rattle.audit_rules.proofs.Breaks.{done_all, done_before, no_line, other_line, stands_whole}
use Rattle.audit_rules.proofs.laws.steps_break_behind_the_lines_that_stand.Goals as goal

pub returns-clause-before : goal.returns-clause-before
returns-clause-before c = done_before

pub returns-clause-all : goal.returns-clause-all
returns-clause-all c = done_all

pub returns-clause-other : goal.returns-clause-other
returns-clause-other c = other_line

pub returns-clause-none : goal.returns-clause-none
returns-clause-none c = no_line

pub returns-clause-whole : goal.returns-clause-whole
returns-clause-whole c = stands_whole
