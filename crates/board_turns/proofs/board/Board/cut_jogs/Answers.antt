use Rattle.std.proofs.Common.{◌-◌, [], ap, ◌∙◌, sym, arith, subst}
use Rattle.flight.specs.Flights.{Flies}
use Rattle.modal_state.specs.Modes.{rebased}
use Rattle.board_journal.specs.Steps.{published_of, known_of, given_of, plan_of, motion_of}
use Rattle.board_turns.specs.declared.board.Board.{Board}
use Rattle.board_machine.specs.Machines.{Runs}
use Rattle.line_interpreter.specs.Interpreting.{Interpreting}
use Rattle.board_turns.proofs.Known.{few_ticks}
use Rattle.board_turns.proofs.Stopping.{cut_number, less_one, cut_behind}
use Rattle.board_turns.proofs.board.Board.cut_jogs.Goals as goal

pub drop_move-requires : goal.drop_move-requires
drop_move-requires g c = (omega arith, let r = c.requires in let first = r.0 in (first, r.1, r.2, r.3.cancelled))

pub overflow_sub-mark : goal.overflow_sub-mark
overflow_sub-mark g c =
    let r = c.requires in let first = r.0 in
    let number = c.number.ensures ∙ ap (λ (x : Board _). x.lines.number) c.drop_move.ensures.same ∙ cut_number first c.args.self.now r.1 r.2 in omega (arith, number)

pub cut-requires : goal.cut-requires
cut-requires g c =
    let r = c.requires in let first = r.0 in
    let few = few_ticks first c.args.self.now r.1 r.2 in
    let same = ap (λ (x : Board _). x.machine.given) c.drop_move.ensures.same in (
      omega arith,
      omega (arith, few, same),
    )

pub returns-clause-made : goal.returns-clause-made
returns-clause-made g c first h k uncut found =
    let s = c.args.self.now in
    let d = c.drop_move.new.self in
    let same = c.drop_move.ensures.same in
    let at = c.place.result in
    let i = c.rebase.new.self in
    let flies = subst (λ (x : Board _). Flies first.place x.flight (published_of h) (known_of h)) (sym same) found.flies in
    let place = c.place.ensures.place first.place (published_of h) (known_of h) flies in
    let machine = subst (λ (x : Board _). Runs x.machine (plan_of h) (motion_of first h) [] (given_of h)) (sym same)
    (subst (λ ps. Runs s.machine (plan_of h) (motion_of first h) ps (given_of h)) found.stopped.slowed.empty k.machine) in
    let lines = ap (λ (x : Board _). x.lines) same in
    let number = less_one c.number.result (c.number.ensures ∙ ap (λ (x : Interpreting). x.number) lines ∙ cut_number first s h k) in
    cut_behind first s d c.cut.new.self i (c.number.result - 1) at h k uncut found same number place
    (ap (λ (x : Interpreting). x.left) c.rebase.ensures ∙ c.drop_move.ensures.left first h k uncut.cancelled)
    (ap (λ (x : Interpreting). x.number) c.rebase.ensures ∙ ap (λ (x : Interpreting). x.number) lines)
    (ap (λ (x : Interpreting). x.state) c.rebase.ensures ∙ ap (λ (x : Interpreting). record x.state { parser = rebased x.state.parser at x.state.settings.limits.per_mm }) lines)
    (c.cut.ensures (plan_of h) (motion_of first h) (given_of h) machine)
