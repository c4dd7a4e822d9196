use Rattle.std.proofs.Common.{arith, rules, List, sym, ap, ◌∙◌, subst}
use Rattle.run_rules.specs.Work.{Task}
use Rattle.run_rules.specs.Work.Task.{ask, normal}
use Rattle.step_line.specs.Asking.Asked.{a_rest}
use Rattle.line_interpreter.specs.Lefts.{IsNextOf}
use Rattle.board_turns.specs.declared.board.Board.{Board}
use Rattle.board_turns.specs.Turning.{IsPassed}
use Rattle.board_rules.proofs.Tries.{alone_on}
use Rattle.board_turns.proofs.Resting.{no_rest, no_normal, none_passed}
use Rattle.board_turns.proofs.board.Board.pass.Goals as goal

pub pass_next-requires : goal.pass_next-requires
pass_next-requires g c = (
  omega arith,
  (
    let r = c.requires in let first = r.0 in let n = c.loop-self.invariant.passed first r.1 r.2 r.3 in (first, n.0, n.1, n.2),
    search rules,
  ),
)

pub loop-self-preserved : goal.loop-self-preserved
loop-self-preserved g c =
    let i = c.loop-self.invariant in
    let next : IsPassed c.loop-self.self.lines.left = search rules in
    record {
      passed = λ first h k stopped. let n = i.passed first h k stopped in let m = c.pass_next.ensures.passed first n.0 n.1 n.2 in (m.0, m.1, m.2, alone_on first h n.0 m.0 n.3 m.3);
      same = c.pass_next.ensures.same ∙ ap (λ (b : Board _). record b { machine = c.pass_next.new.self.machine; lines = c.pass_next.new.self.lines }) i.same;
      closing = λ first h k closing. absurd (none_passed first c.args.self.now h k closing (subst (λ (b : Board _). IsPassed b.lines.left) (i.closing first h k closing) next));
    }

pub returns : goal.returns
returns g c =
    let i = c.loop-self.invariant in
    record {
      passed = λ first h k stopped.
          let n = i.passed first h k stopped in (
            n.0,
            n.1,
            n.2,
            n.3,
            λ next. no_rest c.todo.result c.loop-self.self.lines.left c.todo.ensures c.in_default.not-Rest (subst (λ (ts : List Task). IsNextOf (ask a_rest) ts) (sym n.1.lines.left_is) next),
            λ next. no_normal c.todo.result c.loop-self.self.lines.left c.todo.ensures c.in_default.not-Normal (subst (λ (ts : List Task). IsNextOf normal ts) (sym n.1.lines.left_is) next),
          );
      same = i.same;
      closing = i.closing;
    }
