use Rattle.std.proofs.Common.{arith, ◌∷◌, ap, ◌∙◌}
use Rattle.board_journal.specs.Steps.{hand_of, given_of, plan_of, motion_of}
use Rattle.board_journal.specs.Steps.Step.{paused}
use Rattle.board_turns.specs.declared.board.Board.{Board}
use Rattle.board_turns.proofs.Steps.{held_for_pause}
use Rattle.board_turns.proofs.Pausing.{paused_filled}
use Rattle.board_turns.proofs.board.Board.pause.Goals as goal

pub fill-requires : goal.fill-requires
fill-requires g c = (
  omega arith,
  let r = c.requires.stands in let first = r.0 in
      let h = r.1 in
      let k = r.2 in
      let stopped = r.4 in
      (first, paused ∷ h, held_for_pause first c.args.self.now _ _ h k r.5 stopped.drained stopped.stands (c.pause.ensures (plan_of h) (motion_of first h) (hand_of h) (given_of h) k.machine) c.done.ensures),
)

pub returns-clause-goes_on : goal.returns-clause-goes_on
returns-clause-goes_on g c first h k ready stopped task =
    let s = c.args.self.now in
    let keeps = held_for_pause first s _ _ h k task stopped.drained stopped.stands (c.pause.ensures (plan_of h) (motion_of first h) (hand_of h) (given_of h) k.machine) c.done.ensures in
    let n = c.fill.ensures.filled first (paused ∷ h) keeps in (
      n.0,
      n.2.alone.port,
      paused_filled first _ s h n.0 k ready task n.2 n.1 (ap (λ (b : Board _). b.published) c.fill.ensures.same ∙ c.requires.unpublished) (ap (λ (b : Board _). b.flags) c.fill.ensures.same ∙ c.requires.flags),
    )
