use Rattle.std.proofs.Common.{arith}
use Rattle.run_rules.specs.Work.Task.{tell}
use Rattle.line_interpreter.specs.declared.tasks.Body.TheVariants.{Items}
use Rattle.line_interpreter.proofs.Parts.{part_by, item_told, items_told}
use Rattle.line_interpreter.proofs.tasks.Line.items_reply.Goals as goal

pub returns-then-self-len-clause-next : goal.returns-then-self-len-clause-next
returns-then-self-len-clause-next c = λ s reply is.
    let l = c.args.self.now in
    item_told l.number s l.running.spindle l.running.flood l.items.items l.place l.stage reply (omega (arith, c.if-self-len.true, c.len.ensures.value)) (part_by l s Items (tell reply) c.requires.body is)

pub returns-else-self-len-clause-next : goal.returns-else-self-len-clause-next
returns-else-self-len-clause-next c = λ s reply is.
    let l = c.args.self.now in
    items_told l.number s l.running.spindle l.running.flood l.items.items l.place l.stage reply (omega (arith, c.if-self-len.false, c.len.ensures.value)) (part_by l s Items (tell reply) c.requires.body is)
