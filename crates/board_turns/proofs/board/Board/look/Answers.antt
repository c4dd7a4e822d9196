use Rattle.std.proofs.Common.{arith, ◌∷◌, not, inr, sym, ap, ◌∙◌}
use Rattle.feed_hold.specs.declared.Motion.TheVariants as motions
use Rattle.feed_hold.specs.Motions.Call.{on_drained}
use Rattle.board_journal.specs.Ports.PortStep.{loaded}
use Rattle.board_journal.specs.Steps.{hand_of, given_of, plan_of, motion_of}
use Rattle.board_journal.specs.Steps.Step.{at_port, became}
use Rattle.board_rules.specs.Turns.{is_going}
use Rattle.board_turns.proofs.Standing.{going_begins, hand_none, hand_some, blocks_are, over, looked_over, looked_only, blocks_undrained}
use Rattle.board_turns.proofs.PortSteps.{looked}
use Rattle.board_turns.proofs.board.Board.look.Goals.{
  else-is_going-via-then-is_going+then-is_none+then-not-has_blocks+else-done-self,
  else-is_going-via-then-is_going+then-is_none+else-not-has_blocks,
  else-is_going-via-then-is_going+else-is_none,
  else-is_going-via-else-is_going,
}
use Rattle.board_turns.proofs.board.Board.look.Goals as goal

pub drain-requires : goal.drain-requires
drain-requires g c = (omega arith, inr (sym c.is_going.ensures ∙ c.if-is_going.true))

pub returns-then-done-self-clause-goes_on : goal.returns-then-done-self-clause-goes_on
returns-then-done-self-clause-goes_on g c = λ rest first h stands k going.
    let done = c.done-done.result in
    let goes = ap is_going (sym k.machine.motion_is) ∙ sym c.is_going.ensures ∙ c.if-is_going.true in
    let hand = hand_none first c.args.self.now h k (c.is_none.ensures ∙ ap not c.if-is_none.true) in
    let none = blocks_are first c.args.self.now h c.has_blocks.result k c.has_blocks.ensures ∙ c.if-not-has_blocks.true in (
      became on_drained motions.Idle ∷ at_port (loaded done) ∷ h,
      c.done-done.ensures.done rest first h stands k.conducted,
      over first c.args.self.now c.drain.new.self h done k (going_begins (motion_of first h) goes) (c.done-done.ensures.known rest first h stands k.conducted) hand none c.if-done-self.true
          (c.drain.ensures.runs (plan_of h) (motion_of first h) (hand_of h) (given_of h) k.machine),
      looked_over first h done none,
    )

pub returns-else-is_going-clause-goes_on : goal.returns-else-is_going-clause-goes_on
returns-else-is_going-clause-goes_on g c = λ rest first h stands k going.
    let done = c.done-done.result in
    let next = at_port (loaded done) ∷ h in (
      next,
      c.done-done.ensures.done rest first h stands k.conducted,
      looked first c.args.self.now done h k (c.done-done.ensures.known rest first h stands k.conducted),
      looked_only first h done going (λ d. elim c.else-is_going.branch [
        | else-is_going-via-then-is_going+then-is_none+then-not-has_blocks+else-done-self w ↦ absurd (w.if-done-self.false (d.done ∙ sym k.machine.given_is))
        | else-is_going-via-then-is_going+then-is_none+else-not-has_blocks w ↦ absurd (blocks_undrained next (blocks_are first c.args.self.now h w.has_blocks.result k w.has_blocks.ensures ∙ w.if-not-has_blocks.false) d)
        | else-is_going-via-then-is_going+else-is_none w ↦ absurd (hand_some first c.args.self.now h k (w.is_none.ensures ∙ ap not w.if-is_none.false) d.hand)
        | else-is_going-via-else-is_going w ↦ ap is_going (sym k.machine.motion_is) ∙ sym c.is_going.ensures ∙ w.if-is_going.false
      ]),
    )
