use Rattle.std.proofs.Common.{[], false}
use Rattle.link_ports.proofs.Hosting.{answers_lines, three_some}
use Rattle.link_ports.proofs.host.HostLinkHostPort.reply.Goals as goal

pub returns-clause-lines : goal.returns-clause-lines
returns-clause-lines g c = three_some c.reply.result c.reply.ensures.some c.reply.ensures.fewer c.reply.ensures.greeted
    (λ r is few banner rest h s. answers_lines _ [] _ [] _ false _ _ _ _ _ [] _ [] h s.2 r banner.0 banner.1 banner.2 is.0 few)
