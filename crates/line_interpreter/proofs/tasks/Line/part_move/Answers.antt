use Rattle.std.proofs.Common.{arith, ◌≡◌, sym, ◌∙◌, subst}
use Rattle.std.proofs.lemmas.Bool.Decides.{nat_tests}
use Rattle.std.proofs.lemmas.Option.{slice_get_within}
use Rattle.run_rules.specs.Work.Task.{ask}
use Rattle.step_line.specs.Asking.Asked.{a_move}
use Rattle.step_line.specs.declared.planned_move.PlannedMove.{PlannedMove}
use Rattle.line_interpreter.specs.Lefts.{IsNextOf, part_left}
use Rattle.line_interpreter.proofs.Parts.{next_move, present_move, at_place}
use Rattle.line_interpreter.proofs.tasks.Line.part_move.Goals as goal

pub unreachable-requires : goal.unreachable-requires
unreachable-requires c =
    let l = c.args.self.now in
    let some = c.requires.some in
    let found = next_move l c.args.state.now some.0 some.1 in
    let within = slice_get_within l.items.items l.place _ found.item_is in
    let look = c.in-None.ensures.lookup in
    let value = c.as_slice.ensures.value in
    let none = rw value at look.0 in
    grind (arith, nat_tests, within, none)

pub item_move-requires-clause-some : goal.item_move-requires-clause-some
item_move-requires-clause-some c =
    let l = c.args.self.now in
    let some = c.requires.some in
    let look = c.in-Some.ensures.lookup in
    let at = at_place l.items.items c.as_slice.result.now l.place c.in-Some.item.now c.as_slice.ensures.value look.3.0 look.1 in
    let is = present_move l c.args.state.now some.0 c.in-Some.item.now some.1 at in
    (some.0, is.0, is.1)

pub returns-clause-next : goal.returns-clause-next
returns-clause-next c =
    let l = c.args.self.now in
    let some = c.requires.some in
    let look = c.in-Some.ensures.lookup in
    let at = at_place l.items.items c.as_slice.result.now l.place c.in-Some.item.now c.as_slice.ensures.value look.3.0 look.1 in
    let is = present_move l c.args.state.now some.0 c.in-Some.item.now some.1 at in
    let same : some.0 ≡ c.item_move.result = is.2 ∙ sym (c.item_move.ensures.is some.0.mv some.0.rate is.0) in
    subst (λ (m : PlannedMove). IsNextOf (ask (a_move m)) (part_left l c.args.state.now)) same some.1
