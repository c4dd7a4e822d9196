use Rattle.std.proofs.Common.{◌∷◌, inl, inr, refl}
use Rattle.board_journal.specs.Ports.PortStep.{loaded}
use Rattle.board_journal.specs.Steps.Step.{at_port}
use Rattle.board_turns.proofs.Known.{in_hand}
use Rattle.board_turns.proofs.Flying.{room_learned}
use Rattle.board_turns.proofs.Settling.{looked_learned}
use Rattle.board_rules.proofs.CutMarks.{other_timely, timely_looked}
use Rattle.board_turns.proofs.board.Board.look_before.Goals as goal

pub returns-then-needs_look-clause-goes_on : goal.returns-then-needs_look-clause-goes_on
returns-then-needs_look-clause-goes_on g c = λ rest first h stands k obeyed.
    let s = c.args.self.now in
    let p = c.args.piece in
    let done = c.done-done.result in
    let may = c.done-done.ensures.known rest first h stands k.conducted in
    let keeps = looked_learned first s c.learn.new.self done h k may (c.learn.ensures.flies first.place) in (
      at_port (loaded done) ∷ h,
      c.done-done.ensures.done rest first h stands k.conducted,
      keeps,
      inr (done, refl),
      timely_looked first p done h (may, k.conducted) (in_hand first s h p k c.requires.hand) obeyed,
    )

pub returns-then-needs_look-clause-room : goal.returns-then-needs_look-clause-room
returns-then-needs_look-clause-room g c =
    let q = c.requires.stands in
    room_learned q.1 c.args.self.now c.learn.new.self q.2 c.done-done.result q.4 (c.done-done.ensures.known q.0 q.1 q.2 q.3 q.4.conducted) c.learn.ensures.room

pub returns-else-needs_look-clause-goes_on : goal.returns-else-needs_look-clause-goes_on
returns-else-needs_look-clause-goes_on g c = λ rest first h stands k obeyed. (h, stands, k, inl refl, other_timely c.args.piece h (c.needs_look.ensures c.if-needs_look.false).1 obeyed)
