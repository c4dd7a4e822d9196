-- An epoch in which the Banner is told and a reset is asked for: its work may begin on the tests' port.
use Rattle.std.proofs.Common.{◌∷◌, [], refl, arith}
use Rattle.code_table.specs.Flags.{raised_by}
use Rattle.code_table.specs.declared.flags.Exec.{Exec}
use Rattle.outside.specs.declared.Turn.TheVariants.{Did}
use Rattle.planner_runs.specs.Runs.{most_blocks}
use Rattle.run_rules.specs.declared.State.{State}
use Rattle.status_report.specs.declared.Reply.TheVariants.{Banner}
use Rattle.board_rules.specs.Conduct.{Conducted}
use Rattle.board_journal.specs.Openings.{first_opening}
use Rattle.board_journal.specs.Ports.{reset_byte}
use Rattle.board_journal.specs.Ports.PortStep.{answered, took_exec}
use Rattle.board_journal.specs.Steps.{Journal}
use Rattle.board_journal.specs.Steps.Step.{at_port, turned}
use Rattle.board_rules.proofs.Example.{ends, opens, untrue}
use Rattle.board_epochs.specs.Epochs.{AreEpochs, log_of}
use Rattle.board_epochs.specs.Epochs.Epochs.{goes}
use Rattle.board_epochs.specs.Resets.{IsPrompt, MayReset}
use Rattle.reset_work.specs.declared.reset.ResetWork.{ResetWork}
use Rattle.reset_work.specs.Tapes.{IsWorkedOn}
use Rattle.reset_work.specs.Working.{IsWorking}
use Rattle.reset_work.proofs.Parting.{resets_begin}

abbrev asks : Exec
asks = record { 0 = raised_by reset_byte }

abbrev pub asked : Journal
asked = turned Did ∷ at_port (took_exec asks) ∷ turned Did ∷ at_port (answered Banner) ∷ []

conducted : (state : State) → Conducted (first_opening most_blocks state) asked
conducted state = (
  ends _ _ (λ w. untrue w.blocks) refl refl refl refl refl refl,
  (
    record { greeted = refl; obeyed = refl; few = λ report. absurd cc },
    (ends _ _ (λ w. untrue w.blocks) refl refl refl refl refl refl, (record { once = refl; next = refl; plain = refl; unowed = refl; empty = λ e. absurd cc; unlocked = refl }, opens state)),
  ),
)

prompt : (state : State) → IsPrompt (first_opening most_blocks state) asked
prompt state = (
  record { further = λ is. refl; waits = λ may. absurd (let b = may.between in cc) },
  (
    record { further = λ is. refl; waits = λ may. untrue may.asked },
    (record { further = λ is. refl; waits = λ may. untrue may.asked }, (record { further = λ is. refl; waits = λ may. untrue may.asked }, tt)),
  ),
)

pub may : (state : State) → MayReset (first_opening most_blocks state) asked
may state = record { asked = refl; between = refl; unowed = refl; told = refl }

pub epochs : (state : State) → AreEpochs most_blocks state (goes [] asked)
epochs state = (tt, record { conducted = conducted state; prompt = prompt state }, record { bytes = omega arith; reports = omega arith })

pub begins : (state : State) (it : ResetWork) → IsWorking it 0 (log_of (goes [] asked)) [] → IsWorkedOn 3 0 0 it
begins state it is =
    let start = resets_begin most_blocks state [] asked (epochs state) (may state) in (
      most_blocks,
      state,
      [],
      asked,
      [],
      record {
        port = record { bytes = omega arith; marks = λ n past. absurd past; ticks_are = refl; known = omega arith; below = omega arith; few = omega arith };
        epochs = start.0;
        working = record {
          stage_is = is.stage_is;
          words_are = is.words_are;
          waited = is.waited;
          number_is = is.number_is;
          mark_is = is.mark_is;
          left_are = is.left_are;
          taken_is = is.taken_is;
          dropped_is = is.dropped_is;
          halted_is = is.halted_is;
          made_are = is.made_are;
        };
        between = refl;
      },
    )
