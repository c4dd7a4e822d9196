use Rattle.std.proofs.Common.{◌≡◌, ℕ, arith, refl, ap, ◌∙◌, subst}
use Rattle.run_rules.specs.declared.State.{State}
use Rattle.run_rules.specs.declared.machine.Machine.{Machine as AnyMachine}
use Rattle.run_rules.specs.Work.{Kind}
use Rattle.run_rules.specs.Outcomes.{Before, jogged_behind}
use Rattle.run_rules.specs.Finding.{Found}
use Rattle.line_interpreter.specs.Since.{Since, before_line}
use Rattle.line_interpreter.specs.Interpreting.{stands_before}
use Rattle.board_journal.specs.Steps.{open_of, before_of, motion_of}
use Rattle.board_rules.specs.Turns.{machine_in}
use Rattle.board_rules.proofs.Limits.{lines_in_bytes}
use Rattle.board_rules.proofs.Facts.{number_is}
use Rattle.board_turns.proofs.board.Board.judge_line.Goals as goal

pub judge-accepted-requires : goal.judge-accepted-requires
judge-accepted-requires g c =
    let first = c.requires.0 in
    let h = c.requires.1 in
    let k = c.requires.2 in
    let short = k.short in
    let l = k.lines.number_is in
    let n = number_is first h k.conducted in
    let few = lines_in_bytes first h k.conducted in
    record { few = omega (arith, l, n, few, short) }

pub returns-clause-judged : goal.returns-clause-judged
returns-clause-judged g c = λ first h k may.
    let b = before_of first h in
    let since : Since = record { moved = b.moved; jog_moved = b.jog_moved; jogged = b.jogged; alarmed = b.alarmed } in
    let j = c.judge-accepted.ensures.becomes since (open_of h) k.input.kept_is in
    let found_so : c.machine_in.result ≡ machine_in (motion_of first h) = c.machine_in.ensures ∙ ap machine_in k.machine.motion_is in
    let before : stands_before c.args.self.now.lines since ≡ b = ap (λ (s : State). before_line c.args.self.now.lines.number s since) k.lines.state_is ∙ ap (λ (n : ℕ). before_line n b.state since) k.lines.number_is in
    let found = subst (λ (x : Before). Found (machine_in (motion_of first h)) x (open_of h) j.0) before
    (subst (λ (m : AnyMachine). Found m (stands_before c.args.self.now.lines since) (open_of h) j.0) found_so j.1) in
    let jogs = c.jogs_behind-self.ensures ∙ ap (λ (x : Kind). jogged_behind x c.args.self.now.jogged) j.3 in
    (j.0, record { keeps = k; may = may; found = found; is = j.2; jogs = jogs; reads = c.clear.ensures; same = refl })
