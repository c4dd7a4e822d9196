use Rattle.std.proofs.Common.{arith}
use Rattle.planner_runs.specs.Runs.{fresh_plan}
use Rattle.planner_runs.proofs.Runs.{few_blocks}
use Rattle.board_journal.specs.Steps.{actions_of, plan_of, planned_of}
use Rattle.board_rules.proofs.Keeping.{run_is, disturbed_is, overrides_are, held_by_word, cancelled_by_word, hand_is}
use Rattle.board_rules.proofs.Motions.{slows_for}
use Rattle.board_rules.proofs.Slowing.{slowed_is}
use Rattle.board_rules.proofs.Parting.{open_part}
use Rattle.board_rules.proofs.Ending.{turns_are, next_turns}
use Rattle.board_rules.proofs.Closing.{one_end}
use Rattle.board_rules.proofs.laws.boards_run_their_plan.Goals as goal

pub returns-clause-run : goal.returns-clause-run
returns-clause-run c = run_is

pub returns-clause-sized : goal.returns-clause-sized
returns-clause-sized c = λ first h conducted. few_blocks first.blocks fresh_plan (plan_of h) (actions_of h) (planned_of h) (omega arith) (run_is first h conducted)

pub returns-clause-part : goal.returns-clause-part
returns-clause-part c = λ first h conducted. let p = open_part first h conducted in (p.starts, p.run)

pub returns-clause-disturbed : goal.returns-clause-disturbed
returns-clause-disturbed c = slowed_is

pub returns-clause-parts : goal.returns-clause-parts
returns-clause-parts c = λ first h conducted. (disturbed_is first h conducted).1

pub returns-clause-overrides : goal.returns-clause-overrides
returns-clause-overrides c = overrides_are

pub returns-clause-held : goal.returns-clause-held
returns-clause-held c = held_by_word

pub returns-clause-cancelled : goal.returns-clause-cancelled
returns-clause-cancelled c = cancelled_by_word

pub returns-clause-going : goal.returns-clause-going
returns-clause-going c = λ first h ps conducted. conducted.0.0.goes

pub returns-clause-obeyed : goal.returns-clause-obeyed
returns-clause-obeyed c = λ first h ps conducted. conducted.0.0.obeyed

pub returns-clause-obeyed_first : goal.returns-clause-obeyed_first
returns-clause-obeyed_first c = λ first h s conducted. conducted.0.1

pub returns-clause-slowing : goal.returns-clause-slowing
returns-clause-slowing c = λ first h ps conducted. slows_for first h conducted.1 conducted.0.0.slows

pub returns-clause-hand : goal.returns-clause-hand
returns-clause-hand c = hand_is

pub returns-clause-end : goal.returns-clause-end
returns-clause-end c = one_end

pub returns-clause-turns : goal.returns-clause-turns
returns-clause-turns c = turns_are

pub returns-clause-next : goal.returns-clause-next
returns-clause-next c = next_turns
