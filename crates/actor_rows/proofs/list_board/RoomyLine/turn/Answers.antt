use Rattle.actor_rows.proofs.list_board.RoomyLine.turn.Goals as goal

pub invariant_of-self : goal.invariant_of-self
invariant_of-self g c = let i = c.self.invariant in let next = c.turn.ensures.goes_on tt i.0 i.1 i.2 i.3 in (next.0, next.1, next.2, next.3)
