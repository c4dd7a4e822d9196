use Rattle.std.proofs.Common.{◌≡◌, ◌≢◌, [], drop, ap, sym, arith, ◌∙◌}
use Rattle.line_interpreter.specs.Interpreting.{Interpreting}
use Rattle.line_interpreter.specs.Lefts.{work_left}
use Rattle.line_interpreter.proofs.Parts.{part_is_left, few_stages, one_done}
use Rattle.line_interpreter.proofs.interpreter.Interpreter.done.Goals as goal

pub overflow_add-self : goal.overflow_add-self
overflow_add-self c =
    let d = c.self.inside.desk in
    let left = ap (λ (i : Interpreting). i.left) c.self.view_is in
    let few = few_stages d.line d.state (part_is_left d.line d.state c.self.invariant.1 (λ none. c.requires (sym left ∙ none))) in
    grind (arith, few)

pub returns : goal.returns
returns c =
    let d = c.self.inside.desk in
    let left = ap (λ (i : Interpreting). i.left) c.self.view_is in
    let one = c.settle.ensures.left _ ∙ one_done d.line d.state (part_is_left d.line d.state c.self.invariant.1 (λ none. c.requires (sym left ∙ none))) in
    ap (λ (i : Interpreting). record i { left = work_left c.settle.new.self d.state }) c.self.view_is
    ∙ ap (λ ts. record c.args.self.now { left = ts }) (one ∙ ap (drop 1) left)
