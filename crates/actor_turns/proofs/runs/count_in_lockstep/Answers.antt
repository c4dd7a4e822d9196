use Rattle.std.proofs.Common.{◌≡◌, ◌-◌, Bool, subst}
use Rattle.motion_pulse.specs.declared.pulse.Stepping.{Stepping}
use Rattle.motion_pulse.specs.Pulses.{pins_by_heads}
use Rattle.actor_turns.specs.Worlds.{devices, no_history, HasRun, HasRunCounted}
use Rattle.actor_turns.proofs.Counted.{stepping_stays, attended_since}
use Rattle.actor_turns.proofs.runs.count_in_lockstep.Goals as goal

pub returns-clause-run : goal.returns-clause-run
returns-clause-run g c =
    let was = devices (g.So.Source.state c.args.job.now) (g.Co.Sink.state c.args.console.now) (g.St.Sink.state c.args.steps.now) in
    let now = devices (g.So.Source.state c.run_lockstep.new.job) (g.Co.Sink.state c.run_lockstep.new.console) (g.St.Sink.state c.run_lockstep.new.steps) in
    let on = c.run_lockstep.ensures.goes_on in
    let n = on.runs.on c.args.form was (no_history c.args.attended c.args.stepping) (c.in_ok-world.ensures.fresh was) in
    subst (λ (a : Bool). HasRun a g.row.RX (g.row.N - 1) c.args.form was now c.end_of.result.end) (attended_since c.args.attended c.args.stepping on.schedule _ _ n.0 n.2 n.1.holds)
    (c.end_of.ensures.whole c.args.form was now n.0 n.1 c.run_lockstep.ensures.done)

pub returns-clause-order : goal.returns-clause-order
returns-clause-order g c =
    let was = devices (g.So.Source.state c.args.job.now) (g.Co.Sink.state c.args.console.now) (g.St.Sink.state c.args.steps.now) in
    let now = devices (g.So.Source.state c.run_lockstep.new.job) (g.Co.Sink.state c.run_lockstep.new.console) (g.St.Sink.state c.run_lockstep.new.steps) in
    let on = c.run_lockstep.ensures.goes_on in
    let n = on.runs.on c.args.form was (no_history c.args.attended c.args.stepping) (c.in_ok-world.ensures.fresh was) in
    let all = subst (λ (a : Bool). HasRunCounted a g.row.RX (g.row.N - 1) c.args.form was now c.end_of.result.end n.0.stepping c.end_of.result.pins) (attended_since c.args.attended c.args.stepping on.schedule _ _ n.0 n.2 n.1.holds)
    (c.end_of.ensures.counted c.args.form was now n.0 n.1 c.run_lockstep.ensures.done) in
    let stays = stepping_stays on.schedule _ _ (no_history c.args.attended c.args.stepping) n.0 n.2 in
    record {
      runs = record {
        first = c.in_ok-world.world;
        last = _;
        roomy = c.in_ok-world.ensures.room;
        begins = c.in_ok-world.ensures.fresh;
        order = c.run_lockstep.ensures.order;
        done = c.run_lockstep.ensures.done;
        ends = c.end_of.ensures.tells;
        run = all.alone;
      };
      pins_are = c.end_of.ensures.pins;
      counted = λ one. subst (λ (kind : Stepping). c.end_of.result.pins ≡ pins_by_heads kind all.alone.run.records) stays (all.counted one);
    }
