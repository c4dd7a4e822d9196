use Rattle.std.proofs.Common.{sym}
use Rattle.board_epochs.specs.Epochs.{log_of}
use Rattle.actor_turns.proofs.Arms.{holds_on, turns_on, host_moves}
use Rattle.actor_turns.proofs.world.World.turn_host.Goals as goal

pub turn-requires : goal.turn-requires
turn-requires g c = let i = c.self.invariant in record { stands = ((log_of i.0.board, i.0.pulse), i.0.host, i.1.joined, i.1.host, i.1.host_between) }

pub invariant_of-self : goal.invariant_of-self
invariant_of-self g c = holds_on _ _ _ _ _ _ (host_moves _ _ _ _ _ _ _ _ (g.C.Sink.state c.args.console.now) c.turn.ensures.goes_on) c.self.invariant

pub returns-clause-goes_on : goal.returns-clause-goes_on
returns-clause-goes_on g c steps = let v = sym c.self.view_is in rw v (turns_on _ _ _ _ _ _ (host_moves _ _ _ _ _ _ _ _ steps c.turn.ensures.goes_on))
