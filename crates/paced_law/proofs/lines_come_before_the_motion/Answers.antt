use Rattle.std.proofs.Common.{◌∷◌, true, refl, ap}
use Rattle.outside.specs.declared.Actor.{Actor}
use Rattle.outside.specs.declared.Turn.TheVariants.{Did}
use Rattle.board_journal.specs.Steps.Step.{turned}
use Rattle.actor_turns.specs.Pacing.{after_turn}
use Rattle.paced_law.proofs.Causes.{did_not, five_stand}
use Rattle.paced_law.proofs.lines_come_before_the_motion.Goals as goal

pub returns-clause-behind : goal.returns-clause-behind
returns-clause-behind c = λ N schedule pace w w' hist next turns is first es t h at conducted.
    let idle = did_not next es t h (c.paced_motion_waits.ensures.waits N schedule pace w w' hist next turns is) at in (
      idle,
      record {
        planned = λ m. c.boards_keep_the_pulse_busy.ensures.adds first (turned t ∷ h) m conducted refl;
        five = five_stand first t h idle conducted;
      },
    )

pub returns-clause-piece_by_piece : goal.returns-clause-piece_by_piece
returns-clause-piece_by_piece c = λ pace is. ap (λ (a : Actor). (after_turn a Did true pace).next) is
