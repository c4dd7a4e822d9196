use Rattle.std.proofs.Common.{rules, [], ◌∷◌, inl, refl, sym, ap, ◌∙◌, arith}
use Rattle.run_rules.specs.Work.Task.{tell}
use Rattle.board_journal.specs.Steps.{port_log, left_of}
use Rattle.board_rules.specs.Turns.{this_turn}
use Rattle.board_rules.proofs.Facts.{none_by_bye}
use Rattle.board_journal.specs.Steps.Step.{at_port}
use Rattle.board_journal.specs.Ports.PortStep.{answered, no_reply_room}
use Rattle.board_turns.specs.declared.board.Board.{Board}
use Rattle.board_turns.proofs.Steps.{is_next, may_answer, hand_empty, hand_left}
use Rattle.board_rules.proofs.Tries.{publishes_one, worked_behind}
use Rattle.board_rules.proofs.Polling.{none_told}
use Rattle.board_turns.specs.Boards.{IsFree}
use Rattle.board_turns.proofs.Known.{said_plain}
use Rattle.board_turns.proofs.Ends.{did_filled, may_run, takes_none, free_of, free_passed}
use Rattle.board_turns.proofs.Nexts.{few_told, told_later}
use Rattle.board_turns.proofs.board.Board.tell.Goals as goal

pub run-requires : goal.run-requires
run-requires g c = (
  omega arith,
  (
    let r = c.requires.stands in let first = r.1 in
        let s = c.args.self.now in
        let next = is_next first s r.2 (tell c.reply-reply.result) r.4 c.reply-reply.ensures.next in (
          r.0,
          first,
          r.2,
          r.3,
          r.4,
          may_run first r.2 r.5 (none_by_bye (left_of first r.2) c.reply-reply.result (c.holds_back.ensures.only_bye c.if-holds_back.true) next),
          inl (hand_left first s r.2 r.4 (c.holds_back.ensures.yes c.if-holds_back.true)),
        ),
    (
      search rules,
      search rules,
    ),
  ),
)

pub returns-then-holds_back-clause-goes_on : goal.returns-then-holds_back-clause-goes_on
returns-then-holds_back-clause-goes_on g c = λ rest first h stands keeps ready.
    let s = c.args.self.now in
    let next = is_next first s h (tell c.reply-reply.result) keeps c.reply-reply.ensures.next in
    c.run.ensures.goes_on rest first h stands keeps (may_run first h ready (none_by_bye (left_of first h) c.reply-reply.result (c.holds_back.ensures.only_bye c.if-holds_back.true) next))
    (inl (hand_left first s h keeps (c.holds_back.ensures.yes c.if-holds_back.true)))

pub answer-requires : goal.answer-requires
answer-requires g c =
    let r = c.requires.stands in let first = r.1 in
    let s = c.args.self.now in
    let reply = c.reply-reply.result in
    (r.0, first, r.2, r.3, may_answer first s r.2 reply r.4 (is_next first s r.2 (tell reply) r.4 c.reply-reply.ensures.next) c.reply-reply.ensures.valid)

pub returns-in_default-clause-goes_on : goal.returns-in_default-clause-goes_on
returns-in_default-clause-goes_on g c = λ rest first h stands keeps ready.
    let s = c.args.self.now in
    let reply = c.reply-reply.result in
    let back = c.in_default.ensures.full rest first (port_log h) stands in
    (at_port no_reply_room ∷ h, back, told_later first _ s h reply keeps ready (is_next first s h (tell reply) keeps c.reply-reply.ensures.next) c.requires.unpublished c.requires.flags)

pub fill-requires : goal.fill-requires
fill-requires g c = (
  omega arith,
  let r = c.requires.stands in let first = r.1 in
      let s = c.args.self.now in
      let reply = c.reply-reply.result in
      let next = is_next first s r.2 (tell reply) r.4 c.reply-reply.ensures.next in
      (first, at_port (answered reply) ∷ r.2, c.told.ensures.told first r.2 r.4 next (none_told (this_turn r.2) r.5.quiet.still r.5.quiet.untold) c.reply-reply.ensures.plain r.5.quiet.unowed (λ bye. (hand_empty first) s r.2 r.4 (c.if-holds_back.ensures.no refl bye))),
)

pub returns-clause-goes_on : goal.returns-clause-goes_on
returns-clause-goes_on g c = λ rest first h stands keeps ready.
    let s = c.args.self.now in
    let r = c.reply-reply.result in
    let next = is_next first s h (tell r) keeps c.reply-reply.ensures.next in
    let mid = at_port (answered r) ∷ h in
    let now = c.told.ensures.told first h keeps next (none_told (this_turn h) ready.quiet.still ready.quiet.untold) c.reply-reply.ensures.plain ready.quiet.unowed (λ bye. (hand_empty first) s h keeps (c.if-holds_back.ensures.no refl bye)) in
    let said_is = said_plain r c.reply-reply.ensures.plain in
    let stood = c.in-Ok.ensures.ok rest first h stands (may_answer first s h r keeps next c.reply-reply.ensures.valid) in
    let free = free_of h ready.quiet in
    let freed : IsFree mid = record { flags = free.flags; obeyed = free.obeyed; unowed = free.unowed } in
    let n = c.fill.ensures.filled first mid now in
    let few = few_told first h r r keeps.conducted ready next in
    let one = publishes_one (at_port (answered r)) (this_turn h) refl in
    let quiet = ready.quiet.quiet in
    let worked = worked_behind (at_port (answered r)) h mid refl (record { no_changes = refl; none_planned = refl }) refl refl ready.quiet.worked in
    let unpublished = ap (λ (b : Board _). b.published) c.fill.ensures.same ∙ ap (λ (b : Board _). b.published) c.told.ensures.same ∙ c.requires.unpublished in
    let none = ap (λ (b : Board _). b.flags) c.fill.ensures.same ∙ ap (λ (b : Board _). b.flags) c.told.ensures.same ∙ c.requires.flags in
    let taken = takes_none c.fill.new.self n.0 none (free_passed first mid n.0 n.2.alone.passes freed) in
    (n.0, rw (n.2.alone.port, sym said_is) stood, did_filled first _ _ h mid n.0 (at_port (answered r) ∷ []) refl refl n.1 unpublished taken n.2 worked (omega (arith, one, quiet)) ready.unpolled few (inl (n.2.alone.passes.moves refl)))
