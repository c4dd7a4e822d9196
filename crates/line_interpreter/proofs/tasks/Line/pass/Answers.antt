use Rattle.std.proofs.Common.{refl, arith}
use Rattle.line_interpreter.proofs.Parts.{at_place}
use Rattle.line_interpreter.proofs.Judging.{passed_on}
use Rattle.line_interpreter.proofs.tasks.Line.pass.Goals as goal

pub returns-clause-left : goal.returns-clause-left
returns-clause-left c = λ s none.
    let l = c.args.self.now in
    let look = c.in-Some.ensures.lookup in
    let at = at_place l.items.items c.as_slice.result.now l.place c.in-Some.item.now c.as_slice.ensures.value look.3.0 look.1 in
    passed_on l.body l.number s l.running.spindle _ l.running.flood _ l.items.items l.place _ l.stage c.in-Some.item.now c.requires.body (omega arith) at c.after-self.ensures.spindle c.after-self.ensures.flood none

pub returns-clause-same : goal.returns-clause-same
returns-clause-same c = (refl, refl, refl)

pub returns-clause-on : goal.returns-clause-on
returns-clause-on c = refl
