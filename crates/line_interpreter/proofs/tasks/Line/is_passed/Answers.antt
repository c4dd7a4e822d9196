use Rattle.std.proofs.Common.{rules, arith, ◌≡◌, ◌<◌}
use Rattle.std.proofs.lemmas.Bool.Decides.{nat_tests}
use Rattle.line_interpreter.specs.declared.tasks.Body.TheVariants.{Items}
use Rattle.line_interpreter.proofs.Parts.{open_left, at_place}
use Rattle.line_interpreter.proofs.tasks.Line.is_passed.Goals as goal

pub returns-in-Some-clause-settled : goal.returns-in-Some-clause-settled
returns-in-Some-clause-settled c = λ not_all s none.
    let l = c.args.self.now in
    let look = c.in-Some.ensures.lookup in
    let body : l.body ≡ Items = search rules in
    let at = at_place l.items.items c.as_slice.result.now l.place c.in-Some.item.now c.as_slice.ensures.value look.3.0 look.1 in
    let few : l.stage < c.task_count.result = grind (arith, nat_tests, not_all) in
    absurd (open_left l s c.task_count.result c.in-Some.item.now body at (c.task_count.ensures.count l.number s.settings) few none)
