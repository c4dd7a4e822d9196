use Rattle.std.proofs.Common.{◌-◌, Bool, subst}
use Rattle.actor_turns.specs.Worlds.{devices, no_history, HasRun, HasRunAlone}
use Rattle.actor_turns.specs.Pacing.{first_pace}
use Rattle.actor_turns.proofs.Counted.{paced_since}
use Rattle.actor_turns.proofs.runs.run_at_a_pace.Goals as goal

pub returns-clause-run : goal.returns-clause-run
returns-clause-run g c =
    let was = devices (g.So.Source.state c.args.job.now) (g.Co.Sink.state c.args.console.now) (g.St.Sink.state c.args.steps.now) in
    let now = devices (g.So.Source.state c.run_paced.new.job) (g.Co.Sink.state c.run_paced.new.console) (g.St.Sink.state c.run_paced.new.steps) in
    let paced = c.run_paced.ensures.paced in
    let n = paced.paced.on c.args.form was (no_history c.args.attended c.args.stepping) (c.in_ok-world.ensures.fresh was) in
    subst (λ (a : Bool). HasRun a g.row.RX (g.row.N - 1) c.args.form was now c.end_of.result.end) (paced_since c.args.attended c.args.stepping paced.paced.schedule first_pace paced.pace _ _ n.0 n.2 n.1.holds)
    (c.end_of.ensures.whole c.args.form was now n.0 n.1 c.run_paced.ensures.done)

pub returns-clause-order : goal.returns-clause-order
returns-clause-order g c = record {
  first = c.in_ok-world.world;
  last = _;
  roomy = c.in_ok-world.ensures.room;
  begins = c.in_ok-world.ensures.fresh;
  order = c.run_paced.ensures.paced;
  done = c.run_paced.ensures.done;
  ends = c.end_of.ensures.tells;
  run =
      let was = devices (g.So.Source.state c.args.job.now) (g.Co.Sink.state c.args.console.now) (g.St.Sink.state c.args.steps.now) in
      let now = devices (g.So.Source.state c.run_paced.new.job) (g.Co.Sink.state c.run_paced.new.console) (g.St.Sink.state c.run_paced.new.steps) in
      let paced = c.run_paced.ensures.paced in
      let n = paced.paced.on c.args.form was (no_history c.args.attended c.args.stepping) (c.in_ok-world.ensures.fresh was) in
      subst (λ (a : Bool). HasRunAlone a g.row.RX (g.row.N - 1) c.args.form was now c.end_of.result.end) (paced_since c.args.attended c.args.stepping paced.paced.schedule first_pace paced.pace _ _ n.0 n.2 n.1.holds)
      (c.end_of.ensures.alone c.args.form was now n.0 n.1 c.run_paced.ensures.done);
}
