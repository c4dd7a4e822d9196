use Rattle.actor_turns.proofs.world.World.turn.Goals as goal

pub returns-in-Host-clause-goes_on : goal.returns-in-Host-clause-goes_on
returns-in-Host-clause-goes_on g c = rw c.in-Host.is (c.turn_host.ensures.goes_on (g.S.Sink.state c.args.steps.now))

pub returns-in-Board-clause-goes_on : goal.returns-in-Board-clause-goes_on
returns-in-Board-clause-goes_on g c = rw c.in-Board.is (c.turn_board.ensures.goes_on _)

pub returns-in-Pulse-clause-goes_on : goal.returns-in-Pulse-clause-goes_on
returns-in-Pulse-clause-goes_on g c = rw c.in-Pulse.is (c.turn_pulse.ensures.goes_on _)

pub returns-in-Record-clause-goes_on : goal.returns-in-Record-clause-goes_on
returns-in-Record-clause-goes_on g c = rw c.in-Record.is (c.turn_recorder.ensures.goes_on _ _)
