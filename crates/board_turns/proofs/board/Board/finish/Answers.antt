use Rattle.std.proofs.Common.{arith, rules, ◌∷◌, subst, inl}
use Rattle.step_line.specs.declared.Piece.TheVariants as pieces
use Rattle.board_journal.specs.Steps.{hand_of, plan_of, motion_of, given_of}
use Rattle.board_journal.specs.Steps.Step.{made_end}
use Rattle.board_machine.specs.Machines.{Runs}
use Rattle.board_turns.proofs.Steps.{ended}
use Rattle.board_rules.proofs.Lasts.{closes_at_end}
use Rattle.board_turns.proofs.Ends.{works_passed}
use Rattle.board_rules.proofs.Tries.{passes_end}
use Rattle.board_turns.proofs.Nexts.{may_run_ended, none_behind}
use Rattle.board_turns.proofs.board.Board.finish.Goals as goal

pub run-requires : goal.run-requires
run-requires g c = (
  omega arith,
  (
    let r = c.requires.stands in let first = r.1 in
        let s = c.args.self.now in
        let is = closes_at_end first r.2 r.4.conducted r.7 in
        let stopped = r.6 in
        let runs = c.put_end.ensures (plan_of r.2) (motion_of first r.2) (given_of r.2) (subst (λ hand. Runs s.machine (plan_of r.2) (motion_of first r.2) hand (given_of r.2)) stopped.drained.hand r.4.machine) in
        (r.0, first, made_end ∷ r.2, r.3, ended first s _ _ r.2 r.4 r.7 stopped.drained stopped.stands is.closes runs c.done.ensures, may_run_ended first r.2 r.5 stopped r.7 is, inl (none_behind (hand_of r.2) pieces.End)),
    (
      search rules,
      search rules,
    ),
  ),
)

pub returns-clause-goes_on : goal.returns-clause-goes_on
returns-clause-goes_on g c = λ rest first h stands keeps may stopped next.
    let s = c.args.self.now in
    let is = closes_at_end first h keeps.conducted next in
    let runs = c.put_end.ensures (plan_of h) (motion_of first h) (given_of h) (subst (λ hand. Runs s.machine (plan_of h) (motion_of first h) hand (given_of h)) stopped.drained.hand keeps.machine) in
    let now = ended first s _ _ h keeps next stopped.drained stopped.stands is.closes runs c.done.ensures in
    works_passed first (g.P.EpochPort.stands c.run.new.port rest first) c.run.result _ _ h (made_end ∷ h) (passes_end first h)
    (c.run.ensures.goes_on rest first (made_end ∷ h) stands now (may_run_ended first h may stopped next is) (inl (none_behind (hand_of h) pieces.End)))
