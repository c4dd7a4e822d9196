use Rattle.host_journal.specs.Steps.{port_log}
use Rattle.stream_host.proofs.Hosting.{closed, is_open}
use Rattle.stream_host.proofs.host.Host.close.Goals as goal

pub returns-clause-closed : goal.returns-clause-closed
returns-clause-closed g c = λ rest h stands f.
    (c.close.ensures rest (port_log h) stands (is_open c.args.self.now h f c.requires.going), closed c.args.self.now _ h f (c.requires.may _ h f) c.polls_behind_end-self.ensures)
