use Rattle.run_rules.proofs.Locking.{locked_still, code_refused, free_follows, follows_free, line_goes_on, cut_goes_on}
use Rattle.run_rules.proofs.laws.locked_machines_stand.Goals as goal

pub returns-clause-asks : goal.returns-clause-asks
returns-clause-asks c = λ b kept o is. let s = locked_still b kept o is in (s.asks, s.kind, s.settles)

pub returns-clause-place : goal.returns-clause-place
returns-clause-place c = λ b kept o is. (locked_still b kept o is).parser

pub returns-clause-alarm : goal.returns-clause-alarm
returns-clause-alarm c = λ b kept o is. (locked_still b kept o is).calm

pub returns-clause-code : goal.returns-clause-code
returns-clause-code c = code_refused

pub returns-clause-free : goal.returns-clause-free
returns-clause-free c = free_follows

pub returns-clause-follows : goal.returns-clause-follows
returns-clause-follows c = follows_free

pub returns-clause-goes_on : goal.returns-clause-goes_on
returns-clause-goes_on c = line_goes_on

pub returns-clause-cut : goal.returns-clause-cut
returns-clause-cut c = cut_goes_on
