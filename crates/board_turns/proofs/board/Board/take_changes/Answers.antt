use Rattle.std.proofs.Common.{arith, rules, ◌≡◌, true, false, sym, subst}
use Rattle.board_journal.specs.Ports.{has_changes}
use Rattle.board_journal.specs.Steps.{Journal, port_log, hand_of, given_of, plan_of, motion_of}
use Rattle.board_turns.specs.Boards.{Keeps}
use Rattle.board_turns.proofs.Steps.{in_range}
use Rattle.board_turns.proofs.Requests.{changes, takes_changes}
use Rattle.board_turns.proofs.Settling.{replanned_some, replanned_none}
use Rattle.board_turns.proofs.board.Board.take_changes.Goals as goal

pub change-requires : goal.change-requires
change-requires g c =
    let r = c.requires.stands in let first = r.1 in (
      omega arith,
      in_range first c.args.self.now r.2 r.4,
    )

pub returns-then-not-is_empty-clause-goes_on : goal.returns-then-not-is_empty-clause-goes_on
returns-then-not-is_empty-clause-goes_on g c rest first h stands k greeted =
    let word = c.take_override-word.result in
    let some : has_changes word ≡ true = search rules in
    let runs = c.change.ensures.runs (plan_of h) (motion_of first h) (hand_of h) (given_of h) k.machine in
    let e = sym (replanned_some word h some) in (
      word,
      subst (λ (j : Journal). g.P.EpochPort.stands c.take_override-word.new.self rest first (port_log j)) e (c.take_override-word.ensures rest first (port_log h) stands),
      subst (λ (j : Journal). Keeps first (record c.args.self.now { machine = c.change.new.self }) j) e (changes first c.args.self.now c.change.new.self word h k greeted some c.change.ensures.range runs),
    )

pub returns-else-not-is_empty-clause-goes_on : goal.returns-else-not-is_empty-clause-goes_on
returns-else-not-is_empty-clause-goes_on g c rest first h stands k greeted =
    let word = c.take_override-word.result in
    let none : has_changes word ≡ false = search rules in
    let e = sym (replanned_none word h none) in (
      word,
      subst (λ (j : Journal). g.P.EpochPort.stands c.take_override-word.new.self rest first (port_log j)) e (c.take_override-word.ensures rest first (port_log h) stands),
      subst (λ (j : Journal). Keeps first c.args.self.now j) e (takes_changes first c.args.self.now word h k greeted),
    )
