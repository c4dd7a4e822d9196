use Rattle.std.proofs.Common.{sym, ◌∙◌}
use Rattle.list_ports.proofs.Fronts.{first_is, by_some}
use Rattle.list_ports.proofs.Steps.{reply_got, lines_answered}
use Rattle.list_ports.proofs.host_port.ListsHostPort.reply.Goals as goal

pub returns-clause-lines : goal.returns-clause-lines
returns-clause-lines g c = let v = sym c.self.view_is in
    by_some c.pop_front.result (λ r e far h joined. lines_answered _ _ _ _ (rw v at joined) r _ (first_is c.self.inside.replies.items r (sym e ∙ c.pop_front.ensures.value)))

pub returns-clause-some : goal.returns-clause-some
returns-clause-some g c = let v = sym c.self.view_is in
    by_some c.pop_front.result (λ r e far h joined. rw c.pop_front.ensures.items (reply_got _ _ _ _ (rw v at joined) r _ (first_is c.self.inside.replies.items r (sym e ∙ c.pop_front.ensures.value))))
