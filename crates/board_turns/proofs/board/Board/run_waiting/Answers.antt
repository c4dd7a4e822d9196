use Rattle.std.proofs.Common.{arith, rules, sym, ◌∙◌, inr}
use Rattle.board_journal.specs.Steps.{hand_of, plan_of, motion_of, given_of}
use Rattle.board_turns.specs.Turning.{starting}
use Rattle.board_turns.proofs.Steps.{started}
use Rattle.board_turns.proofs.Ends.{works_passed}
use Rattle.board_turns.proofs.Nexts.{may_start_polled, may_run_started, started_passes, started_due}
use Rattle.board_turns.proofs.board.Board.run_waiting.Goals as goal

pub run-requires : goal.run-requires
run-requires g c = (
  omega arith,
  (
    let r = c.requires.stands in let first = r.1 in
        let s = c.args.self.now in
        let may = may_start_polled first s r.2 r.4 r.5 c.requires.blocks in
        let idle = sym r.4.machine.motion_is ∙ c.requires.idle in
        let runs = c.start.ensures.runs (plan_of r.2) (motion_of first r.2) (hand_of r.2) (given_of r.2) r.4.machine in
        (r.0, first, starting s.jogged r.2, r.3, started first s _ s.jogged r.2 r.4 idle may runs, may_run_started first s.jogged r.2 r.5, inr (started_due first s.jogged r.2 may.blocks)),
    (
      search rules,
      search rules,
    ),
  ),
)

pub returns-clause-goes_on : goal.returns-clause-goes_on
returns-clause-goes_on g c = λ rest first h stands keeps polled.
    let s = c.args.self.now in
    let may = may_start_polled first s h keeps polled c.requires.blocks in
    let idle = sym keeps.machine.motion_is ∙ c.requires.idle in
    let runs = c.start.ensures.runs (plan_of h) (motion_of first h) (hand_of h) (given_of h) keeps.machine in
    let mid = starting s.jogged h in
    works_passed first (g.P.EpochPort.stands c.run.new.port rest first) c.run.result s.flags _ h mid (started_passes first s.jogged h)
    (c.run.ensures.goes_on rest first mid stands (started first s _ s.jogged h keeps idle may runs) (may_run_started first s.jogged h polled) (inr (started_due first s.jogged h may.blocks)))
