use Rattle.std.proofs.Common.{arith, rules, ◌∷◌, sym, refl, ◌∙◌}
use Rattle.feed_hold.specs.declared.Motion.TheVariants as motions
use Rattle.feed_hold.specs.Motions.Call.{on_drained}
use Rattle.board_journal.specs.Ports.PortStep.{loaded}
use Rattle.board_journal.specs.Steps.{hand_of, given_of, plan_of, motion_of}
use Rattle.board_journal.specs.Steps.Step.{at_port, became}
use Rattle.board_turns.proofs.Standing.{may_drain, hand_none, blocks_are, has_piece_by_hand, has_piece_by_blocks, over, over_passes, all_done, done_all, waits_for_motion}
use Rattle.board_turns.proofs.board.Board.await_motion.Goals.{then-is_some-via-then-is_some, then-is_some-via-else-is_some+then-has_blocks}
use Rattle.board_turns.proofs.board.Board.await_motion.Goals as goal

-- src/board.rt:269:25
pub run-requires : goal.run-requires
run-requires g c = (
  omega arith,
  (
    let r = c.requires.stands in let first = r.1 in
        let s = c.args.self.now in (
          r.0,
          first,
          r.2,
          r.3,
          r.4,
          r.5.run,
          elim c.then-is_some.branch [
            | then-is_some-via-then-is_some w ↦ has_piece_by_hand first s r.2 r.4 (sym c.is_some.ensures ∙ w.if-is_some.true)
            | then-is_some-via-else-is_some+then-has_blocks w ↦ has_piece_by_blocks first s r.2 r.4 r.5 (blocks_are first s r.2 w.has_blocks.result r.4 w.has_blocks.ensures ∙ w.if-has_blocks.true)
          ],
        ),
    (
      search rules,
      search rules,
    ),
  ),
)

-- src/board.rt:269:13
pub returns-then-is_some-clause-waits : goal.returns-then-is_some-clause-waits
returns-then-is_some-clause-waits g c = λ rest first h stands k may.
    let s = c.args.self.now in
    c.run.ensures.goes_on rest first h stands k may.run (elim c.then-is_some.branch [
      | then-is_some-via-then-is_some w ↦ has_piece_by_hand first s h k (sym c.is_some.ensures ∙ w.if-is_some.true)
      | then-is_some-via-else-is_some+then-has_blocks w ↦ has_piece_by_blocks first s h k may (blocks_are first s h w.has_blocks.result k w.has_blocks.ensures ∙ w.if-has_blocks.true)
    ])

-- src/board.rt:272:13
pub returns-then-done-self-clause-waits : goal.returns-then-done-self-clause-waits
returns-then-done-self-clause-waits g c = λ rest first h stands k may.
    let s = c.args.self.now in
    let done = c.done.result in
    let hand = hand_none first s h k (sym c.is_some.ensures ∙ c.if-is_some.false) in
    let none = blocks_are first s h c.has_blocks.result k c.has_blocks.ensures ∙ c.if-has_blocks.false in (
      at_port (loaded done) ∷ h,
      c.done.ensures.done rest first h stands k.conducted,
      waits_for_motion first s h done k may c.requires.unpublished c.requires.flags (c.done.ensures.known rest first h stands k.conducted) hand none c.if-done-self.true,
    )

-- src/board.rt:274:9
pub drain-requires : goal.drain-requires
drain-requires g c = (omega arith, let r = c.requires.stands in let first = r.1 in may_drain first c.args.self.now r.2 r.4 r.5.going)

-- src/board.rt:258:5
pub returns-clause-over : goal.returns-clause-over
returns-clause-over g c = λ rest first h stands k may.
    let s = c.args.self.now in
    let done = c.done.result in
    let known = c.done.ensures.known rest first h stands k.conducted in
    let hand = hand_none first s h k (sym c.is_some.ensures ∙ c.if-is_some.false) in
    let none = blocks_are first s h c.has_blocks.result k c.has_blocks.ensures ∙ c.if-has_blocks.false in
    let all = done_all first s h done k known c.if-done-self.false in
    let d = all_done first s h done k hand none all in (
      became on_drained motions.Idle ∷ at_port (loaded done) ∷ h,
      c.done.ensures.done rest first h stands k.conducted,
      over first s c.drain.new.self h done k may.going known hand none all (c.drain.ensures.runs (plan_of h) (motion_of first h) (hand_of h) (given_of h) k.machine),
      record { drained = record { plan = d.plan; hand = d.hand; done = d.done }; stands = refl },
      over_passes first h done,
      refl,
    )
