use Rattle.status_report.specs.Answering.{receive_room}
use Rattle.planner_runs.specs.Runs.{most_blocks}
use Rattle.std.proofs.Common.{◌≡◌, ◌∙◌, ◌+◌, false, not, Ok, Err, List, ℕ, refl, subst}
use Rattle.std.specs.declared.result.Result.{Result}
use Rattle.std.specs.Result.{is_ok, is_err}
use Rattle.step_record.specs.declared.forms.Form.TheVariants.{One}
use Rattle.epoch_law.specs.Runs.{IsRun}
use Rattle.epoch_law.specs.Devices.{devices}
use Rattle.actor_turns.specs.Orders.{IsCountedRun}
use Rattle.run_status.specs.Demos.{generated, keeps_nothing}
use Rattle.run_status.proofs.Accepted.{runs_whole}
use Rattle.run_status.proofs.Demos.{well_ended}
use Rattle.run_status.proofs.Pins.{one, few, uncapped}
use Rattle.grbl_app.proofs.demo.run_demo.Goals as goal

errs : {A B : Type 0} (r : Result A B) → is_err r ≡ not (is_ok r)
errs (Ok x) = refl
errs (Err e) = refl

pub returns-clause-run : goal.returns-clause-run
returns-clause-run g c =
    let end = c.in_ok-counted.counted.end in
    let left = c.count_in_lockstep.new.job in
    let subticks = c.in_ok-counted.counted.pins in
    let goes = subst (λ (text : List ℕ). IsCountedRun false receive_room (most_blocks + 1) One c.args.stepping c.args.moves (devices (generated text) keeps_nothing (g.St.Sink.state c.args.steps.now))
    (devices (generated left) keeps_nothing (g.St.Sink.state c.count_in_lockstep.new.steps)) end subticks) c.new-job.ensures c.in_ok-counted.ensures.order in
    let run = goes.runs.run.run in
    let whole = runs_whole c.args.moves left _ _ end c.requires.moves.0 c.requires.moves.1 run in
    record {
      end = end;
      left = left;
      run = run;
      sent = whole.sent;
      accepted = whole.errors;
      uncut = whole.uncut;
      unchanged = whole.unchanged;
      asks = whole.asks;
      subticks = subticks;
      counted = goes.counted (one c.args.moves c.requires.moves.1 _ _ _ _ end run whole) ∙ uncapped c.args.stepping run.records (few c.args.moves c.requires.moves.1 _ _ _ _ end run whole);
      console_failed = c.is_err-console_failed.result;
      console = rw (c.is_err-console_failed.ensures.value, errs c.tell_run.result) (c.tell_run.ensures whole.answered whole.errors);
      status_is = c.status_of.ensures ∙ well_ended end c.is_err-console_failed.result whole.read whole.stop whole.errors;
    }

pub returns-clause-order : goal.returns-clause-order
returns-clause-order g c =
    let left = c.count_in_lockstep.new.job in
    let end = c.in_ok-counted.counted.end in
    let subticks = c.in_ok-counted.counted.pins in
    let run = subst (λ (text : List ℕ). IsRun false receive_room most_blocks One (generated text) (generated left)
    (record { console = keeps_nothing; steps = g.St.Sink.state c.args.steps.now })
    (record { console = keeps_nothing; steps = g.St.Sink.state c.count_in_lockstep.new.steps }) end) c.new-job.ensures c.in_ok-counted.ensures.run in
    let whole = runs_whole c.args.moves left _ _ end c.requires.moves.0 c.requires.moves.1 run in
    record {
      end = end;
      left = left;
      subticks = subticks;
      goes = subst (λ (text : List ℕ). IsCountedRun false receive_room (most_blocks + 1) One c.args.stepping c.args.moves (devices (generated text) keeps_nothing (g.St.Sink.state c.args.steps.now))
          (devices (generated left) keeps_nothing (g.St.Sink.state c.count_in_lockstep.new.steps)) end subticks) c.new-job.ensures c.in_ok-counted.ensures.order;
      console_failed = c.is_err-console_failed.result;
      console = rw (c.is_err-console_failed.ensures.value, errs c.tell_run.result) (c.tell_run.ensures whole.answered whole.errors);
      status_is = c.status_of.ensures;
    }
