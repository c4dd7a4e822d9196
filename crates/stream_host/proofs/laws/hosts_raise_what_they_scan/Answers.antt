use Rattle.stream_host.proofs.Raising.{raised_is, in_order, none_due_first, none_due_shut, few_polls, never_resumes, rested_is}
use Rattle.stream_host.proofs.Cutting.{all_now}
use Rattle.stream_host.proofs.Reporting.{reported_is}
use Rattle.stream_host.proofs.Waited.{cancels_waited}
use Rattle.stream_host.proofs.laws.hosts_raise_what_they_scan.Goals as goal

pub returns-clause-raised : goal.returns-clause-raised
returns-clause-raised c = raised_is

pub returns-clause-in_order : goal.returns-clause-in_order
returns-clause-in_order c = in_order

pub returns-clause-first : goal.returns-clause-first
returns-clause-first c = none_due_first

pub returns-clause-closed : goal.returns-clause-closed
returns-clause-closed c = none_due_shut

pub returns-clause-after : goal.returns-clause-after
returns-clause-after c = λ room b h down alone waits conducted. all_now room h conducted.1 (conducted.0.after alone waits)

pub returns-clause-waited : goal.returns-clause-waited
returns-clause-waited c = cancels_waited

pub returns-clause-reported : goal.returns-clause-reported
returns-clause-reported c = reported_is

pub returns-clause-tired : goal.returns-clause-tired
returns-clause-tired c = few_polls

pub returns-clause-alone : goal.returns-clause-alone
returns-clause-alone c = never_resumes

pub returns-clause-rested : goal.returns-clause-rested
returns-clause-rested c = rested_is
