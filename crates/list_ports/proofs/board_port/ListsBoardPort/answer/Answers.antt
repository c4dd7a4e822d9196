use Rattle.std.proofs.Common.{sym, ◌∙◌}
use Rattle.std.proofs.lemmas.Result.{on_ok_weaker}
use Rattle.status_report.specs.Replies.{IsReply}
use Rattle.list_ports.proofs.Fronts.{all_pushed}
use Rattle.list_ports.proofs.Steps.{reply_answered}
use Rattle.list_ports.proofs.board_port.ListsBoardPort.answer.Goals as goal

pub invariant_of-self : goal.invariant_of-self
invariant_of-self g c =
    let i = c.self.invariant in
    let p = all_pushed IsReply c.try_push_back.result c.args.r _ _ i.texts c.requires.3.text c.try_push_back.ensures.ok c.try_push_back.ensures.err in
    record { sized = i.sized; bytes_are = i.bytes_are; replies_are = p.0 ∙ i.replies_are; pieces_are = i.pieces_are; texts = p.1 }

pub returns-clause-ok : goal.returns-clause-ok
returns-clause-ok g c =
    let v = sym c.self.view_is in
    on_ok_weaker c.try_push_back.result (λ e far l joined may. rw e (reply_answered _ _ _ _ (rw v at joined) c.args.r may)) c.try_push_back.ensures.ok
