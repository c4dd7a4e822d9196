use Rattle.std.proofs.Common.{rules, ◌≡◌, ◌∷◌, refl, sym, ap}
use Rattle.run_rules.specs.Work.Task.{tell}
use Rattle.board_journal.specs.Steps.{port_log}
use Rattle.board_rules.specs.Turns.{tells_next}
use Rattle.board_journal.specs.Steps.Step.{at_port}
use Rattle.board_journal.specs.Ports.PortStep.{answered, no_reply_room}
use Rattle.board_turns.specs.Turning.MayHaveTold.{handed_back, was_told}
use Rattle.board_turns.proofs.Steps.{is_next, may_answer, hand_empty}
use Rattle.board_turns.proofs.PortSteps.{not_told}
use Rattle.line_interpreter.specs.declared.tasks.Todo.TheVariants as todos
use Rattle.board_turns.proofs.Known.{said_plain}
use Rattle.board_turns.proofs.Over.{a_reply_next}
use Rattle.board_turns.proofs.board.Board.tell_first.Goals as goal

pub answer-requires : goal.answer-requires
answer-requires g c =
    let r = c.requires.stands in let first = r.1 in
    let s = c.args.self.now in
    let reply = c.reply-reply.result in
    (r.0, first, r.2, r.3, may_answer first s r.2 reply r.4 (is_next first s r.2 (tell reply) r.4 c.reply-reply.ensures.next) c.reply-reply.ensures.valid)

pub returns-in_default-clause-goes_on : goal.returns-in_default-clause-goes_on
returns-in_default-clause-goes_on g c = λ rest first h stands keeps unowed once.
    let s = c.args.self.now in
    let next = is_next first s h (tell c.reply-reply.result) keeps c.reply-reply.ensures.next in
    let back = c.in_default.ensures.full rest first (port_log h) stands in
    (at_port no_reply_room ∷ h, back, not_told first s h keeps (ap tells_next next) once, handed_back refl)

pub returns-clause-goes_on : goal.returns-clause-goes_on
returns-clause-goes_on g c = λ rest first h stands keeps unowed once.
    let s = c.args.self.now in
    let r = c.reply-reply.result in
    let next = is_next first s h (tell r) keeps c.reply-reply.ensures.next in
    let now = c.told.ensures.told first h keeps next once c.reply-reply.ensures.plain unowed (λ bye. (hand_empty first) s h keeps (c.if-holds_back.ensures.no refl bye)) in
    let stood = c.in-Ok.ensures.ok rest first h stands (may_answer first s h r keeps next c.reply-reply.ensures.valid) in
    (at_port (answered r) ∷ h, rw (sym (said_plain r c.reply-reply.ensures.plain)) stood, now, was_told r refl)

pub reply-reply-requires : goal.reply-reply-requires
reply-reply-requires g c =
    let is : c.todo.result ≡ todos.Tell = search rules in
    record { some = a_reply_next c.todo.result c.args.self.now.lines.left c.todo.ensures is }
