use Rattle.std.proofs.Common.{◌∷◌, arith}
use Rattle.host_journal.specs.Steps.PortStep.{got}
use Rattle.status_report.specs.declared.Reply.TheVariants.{Banner}
use Rattle.actor_rows.proofs.Telling.{greets, begins_anew, answers_lines}
use Rattle.actor_rows.proofs.list_board.BoardHostPort.reply.Goals as goal

pub returns-then-self-eq0-clause-some : goal.returns-then-self-eq0-clause-some
returns-then-self-eq0-clause-some g c = λ rest h t. greets _ _ _ _ h t c.if-self-eq0.true

pub returns-then-self-eq0-clause-lines : goal.returns-then-self-eq0-clause-lines
returns-then-self-eq0-clause-lines g c = λ rest h t. answers_lines _ _ _ _ (got Banner ∷ h) (greets _ _ _ _ h t c.if-self-eq0.true)

pub returns-then-self-4-clause-some : goal.returns-then-self-4-clause-some
returns-then-self-4-clause-some g c = λ rest h t.
    let same = c.note.ensures in rw same (begins_anew _ _ _ _ h t (let some = c.if-self-eq0.false in omega arith) c.if-self-4.true)

pub returns-then-self-4-clause-lines : goal.returns-then-self-4-clause-lines
returns-then-self-4-clause-lines g c = λ rest h t.
    answers_lines _ _ _ _ (got Banner ∷ h) (begins_anew _ _ _ _ h t (let some = c.if-self-eq0.false in omega arith) c.if-self-4.true)
