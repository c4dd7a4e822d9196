use Rattle.std.proofs.Common.{arith, [], ◌∷◌, refl, length, ◌≤◌}
use Rattle.std.proofs.lemmas.Bool.Decides.{nat_tests}
use Rattle.status_report.specs.declared.Reply.TheVariants as replies
use Rattle.line_interpreter.proofs.Parts.{todo_past}
use Rattle.line_interpreter.proofs.tasks.Line.items_todo.Goals as goal

pub returns-in-None : goal.returns-in-None
returns-in-None c = record {
  next = λ s.
      let l = c.args.self.now in
      let look = rw c.as_slice.ensures.value at c.in-None.ensures.lookup.0 in
      let past : length l.items.items ≤ l.place = grind (arith, nat_tests, look) in
      todo_past c.told_todo.result l s c.requires.body past (c.told_todo.ensures.next (replies.Ok ∷ []) refl);
}
