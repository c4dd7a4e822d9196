use Rattle.board_rules.proofs.Alarms.{alarmed_is, limited_alarmed, halting_alarmed, unhalted, halted_once, none_asked, none_starts, obeys_late, told_halted, calm_plan}
use Rattle.board_rules.proofs.Answering.{alarms_are}
use Rattle.board_rules.proofs.Halts.{alarm_last}
use Rattle.board_rules.proofs.Waiting.{halts_between}
use Rattle.board_rules.proofs.laws.boards_halt_at_alarms.Goals as goal

pub returns-clause-alarms : goal.returns-clause-alarms
returns-clause-alarms c = alarms_are

pub returns-clause-state : goal.returns-clause-state
returns-clause-state c = alarmed_is

pub returns-clause-last : goal.returns-clause-last
returns-clause-last c = λ first h conducted one. let l = alarm_last first h conducted one in (l.early, l.outcome, l.last, l.alarm)

pub returns-clause-begun : goal.returns-clause-begun
returns-clause-begun c = λ first h o conducted. conducted.0.calm

pub returns-clause-cut : goal.returns-clause-cut
returns-clause-cut c = λ first h k conducted. conducted.0.calm

pub returns-clause-asked : goal.returns-clause-asked
returns-clause-asked c = none_asked

pub returns-clause-limited : goal.returns-clause-limited
returns-clause-limited c = limited_alarmed

pub returns-clause-slows : goal.returns-clause-slows
returns-clause-slows c = halts_between

pub returns-clause-starts : goal.returns-clause-starts
returns-clause-starts c = none_starts

pub returns-clause-obeys : goal.returns-clause-obeys
returns-clause-obeys c = obeys_late

pub returns-clause-halts : goal.returns-clause-halts
returns-clause-halts c = λ first h conducted.
    (conducted.0, halting_alarmed first h conducted, halted_once first h conducted)

pub returns-clause-told : goal.returns-clause-told
returns-clause-told c = λ first h r conducted one. told_halted first h r conducted.1 one conducted.0.next

pub returns-clause-calm : goal.returns-clause-calm
returns-clause-calm c = λ first h conducted none. (unhalted first h conducted none, calm_plan first h conducted none)
