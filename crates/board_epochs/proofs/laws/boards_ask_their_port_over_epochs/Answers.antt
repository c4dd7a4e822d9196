use Rattle.board_epochs.proofs.Asking.{publish_there, mark_there, room_for_mark}
use Rattle.board_epochs.proofs.Chaining.{stop_there, halt_there}
use Rattle.board_epochs.proofs.Telling.{answer_there, report_there}
use Rattle.board_epochs.proofs.laws.boards_ask_their_port_over_epochs.Goals as goal

pub returns-clause-publish : goal.returns-clause-publish
returns-clause-publish c = λ blocks state es h p epochs next. publish_there blocks state es h p (epochs.0, epochs.1.conducted, epochs.2) next

pub returns-clause-answer : goal.returns-clause-answer
returns-clause-answer c = λ blocks state es h r epochs next text. answer_there blocks state es h r (epochs.0, epochs.1.conducted, epochs.2) next text

pub returns-clause-report : goal.returns-clause-report
returns-clause-report c = λ blocks state es h r epochs text. report_there blocks state es h r (epochs.0, epochs.1.conducted, epochs.2) text

pub returns-clause-stop : goal.returns-clause-stop
returns-clause-stop c = λ blocks state es h w n epochs. stop_there blocks state es h w n epochs.0 epochs.1

pub returns-clause-halt : goal.returns-clause-halt
returns-clause-halt c = λ blocks state es h w n epochs. halt_there blocks state es h w n epochs.1

pub returns-clause-mark : goal.returns-clause-mark
returns-clause-mark c = mark_there

pub returns-clause-room : goal.returns-clause-room
returns-clause-room c = room_for_mark
