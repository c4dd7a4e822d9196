use Rattle.std.proofs.Common.{◌≡◌, Err, ap, inl, inr, map, refl, subst, sym}
use Rattle.command_line.specs.Command.{Asks}
use Rattle.command_line.specs.declared.Task.TheVariants as tasks
use Rattle.epoch_law.specs.Devices.{devices}
use Rattle.run_status.specs.Demos.{IsDemo}
use Rattle.grbl_app.specs.Orders.{EndsInOrder, IsOrderedDemo}
use Rattle.grbl_app.specs.Sizes.{setup_of}
use Rattle.grbl_app.proofs.Tasks.{no_stream, same_demo, same_options}
use Rattle.run_status.specs.Ends.{EndsWith, JobWasRun}
use Rattle.run_status.specs.Statuses.{HasItsCause}
use Rattle.run_status.proofs.Demos.{demo_causes, has_begun}
use Rattle.run_status.proofs.Statuses.{one_cause, tells_faults, demo_tells_faults}
use Rattle.run_status.specs.declared.Status.TheVariants.{Usage, OutOfMemory}
use Rattle.grbl_app.proofs.run_grbl.Goals as goal

not_usage : {A : Type 0} → OutOfMemory ≡ Usage → A
not_usage e = absurd cc

pub returns-in-Ok-stream-clause-complete : goal.returns-in-Ok-stream-clause-complete
returns-in-Ok-stream-clause-complete g c = λ options asks words job source console steps. inl (c.in-Ok-stream.ensures.causes.complete job source console steps)

pub returns-in-Ok-stream-clause-no_other : goal.returns-in-Ok-stream-clause-no_other
returns-in-Ok-stream-clause-no_other g c = λ options bytes status asks run told can other.
    one_cause (setup_of options) _ _ _ _ bytes _ status told can
    (subst (λ o. HasItsCause (setup_of o) (g.So.Source.state c.args.job.now) (g.So.Source.state c.stream.new.job) (record { console = g.Co.Sink.state c.args.console.now; steps = g.St.Sink.state c.args.steps.now }) (record { console = g.Co.Sink.state c.stream.new.console; steps = g.St.Sink.state c.stream.new.steps }) c.in-Ok-stream.status) (same_options (map (λ w. w.now) c.args.words.now) c.in-Stream.options options (subst (λ task. Asks task (map (λ w. w.now) c.args.words.now)) c.in-Stream.is c.in-Ok.ensures.asked) asks) c.in-Ok-stream.ensures.its_cause) other

pub returns-in-Ok-stream-clause-first_fault : goal.returns-in-Ok-stream-clause-first_fault
returns-in-Ok-stream-clause-first_fault g c = λ run can. tells_faults (setup_of c.in-Stream.options) _ _ _ _ _ can c.in-Ok-stream.ensures.its_cause

pub returns-in-Ok-run_demo-clause-first_fault : goal.returns-in-Ok-run_demo-clause-first_fault
returns-in-Ok-run_demo-clause-first_fault g c = λ run can. demo_tells_faults _ _ _ _ _ _ can c.in-Ok-run_demo.ensures.run

pub returns-in-Ok-run_demo-clause-usage : goal.returns-in-Ok-run_demo-clause-usage
returns-in-Ok-run_demo-clause-usage g c = λ e. absurd (subst JobWasRun e (demo_causes _ _ _ _ _ _ _ c.in-Ok-run_demo.ensures.run).has_run)

pub returns-in-Ok-run_demo-clause-untouched : goal.returns-in-Ok-run_demo-clause-untouched
returns-in-Ok-run_demo-clause-untouched g c = λ none. has_begun c.in-Ok-run_demo.status (demo_causes _ _ _ _ _ _ _ c.in-Ok-run_demo.ensures.run).has_run none

pub returns-in-Ok-run_demo-clause-console_fault : goal.returns-in-Ok-run_demo-clause-console_fault
returns-in-Ok-run_demo-clause-console_fault g c = (demo_causes _ _ _ _ _ _ _ c.in-Ok-run_demo.ensures.run).console

pub returns-in-Ok-run_demo-clause-steps_fault : goal.returns-in-Ok-run_demo-clause-steps_fault
returns-in-Ok-run_demo-clause-steps_fault g c = (demo_causes _ _ _ _ _ _ _ c.in-Ok-run_demo.ensures.run).steps

pub returns-in-Ok-run_demo-clause-faultless : goal.returns-in-Ok-run_demo-clause-faultless
returns-in-Ok-run_demo-clause-faultless g c = λ whole. let all = (demo_causes _ _ _ _ _ _ _ c.in-Ok-run_demo.ensures.run).faultless whole in record { source = refl; console = all.0; steps = all.1 }

pub returns-in-Ok-run_demo-clause-demo : goal.returns-in-Ok-run_demo-clause-demo
returns-in-Ok-run_demo-clause-demo g c = λ n stepping asks run.
    let words = map (λ w. w.now) c.args.words.now in
    let its : Asks (tasks.Demo c.in-Demo.moves c.in-Demo.stepping) words = subst (λ task. Asks task words) c.in-Demo.is c.in-Ok.ensures.asked in
    let same = same_demo words c.in-Demo.moves n c.in-Demo.stepping stepping its asks in (
      subst (λ kind. IsDemo n kind (g.Co.Sink.state c.args.console.now) (g.Co.Sink.state c.run_demo.new.console) (g.St.Sink.state c.args.steps.now)
          (g.St.Sink.state c.run_demo.new.steps) c.in-Ok-run_demo.status) same.1
          (subst (λ moves. IsDemo moves c.in-Demo.stepping (g.Co.Sink.state c.args.console.now) (g.Co.Sink.state c.run_demo.new.console) (g.St.Sink.state c.args.steps.now)
          (g.St.Sink.state c.run_demo.new.steps) c.in-Ok-run_demo.status) same.0 c.in-Ok-run_demo.ensures.run),
      refl,
    )

pub returns-in-Err-Refused-clause-usage : goal.returns-in-Err-Refused-clause-usage
returns-in-Err-Refused-clause-usage g c = λ e. c.in-Err-Refused.ensures.refused (ap (λ f. Err f) c.in-Err-Refused.field-0-is)

pub returns-in-Err-Refused-clause-refused : goal.returns-in-Err-Refused-clause-refused
returns-in-Err-Refused-clause-refused g c = λ r. tt

pub returns-in-Err-Refused-clause-untouched : goal.returns-in-Err-Refused-clause-untouched
returns-in-Err-Refused-clause-untouched g c = λ none. (refl, refl, refl)

pub returns-in-Err-Refused-clause-console_fault : goal.returns-in-Err-Refused-clause-console_fault
returns-in-Err-Refused-clause-console_fault g c = λ e. absurd (subst JobWasRun (sym e) tt)

pub returns-in-Err-Refused-clause-steps_fault : goal.returns-in-Err-Refused-clause-steps_fault
returns-in-Err-Refused-clause-steps_fault g c = λ e. absurd (subst JobWasRun (sym e) tt)

pub returns-in-Err-Refused-clause-its_cause : goal.returns-in-Err-Refused-clause-its_cause
returns-in-Err-Refused-clause-its_cause g c = λ options asks run. absurd run

pub returns-in-Err-Refused-clause-run : goal.returns-in-Err-Refused-clause-run
returns-in-Err-Refused-clause-run g c = λ options asks run. absurd run

pub returns-in-Err-Refused-clause-no_other : goal.returns-in-Err-Refused-clause-no_other
returns-in-Err-Refused-clause-no_other g c = λ options bytes status asks run. absurd run

pub returns-in-Err-Refused-clause-first_fault : goal.returns-in-Err-Refused-clause-first_fault
returns-in-Err-Refused-clause-first_fault g c = λ run. absurd run

pub returns-in-Err-Refused-clause-faultless : goal.returns-in-Err-Refused-clause-faultless
returns-in-Err-Refused-clause-faultless g c = λ whole. absurd whole

pub returns-in-Err-Refused-clause-demo : goal.returns-in-Err-Refused-clause-demo
returns-in-Err-Refused-clause-demo g c = λ n stepping asks run. absurd run

pub returns-in-Err-OutOfMemory-clause-refused : goal.returns-in-Err-OutOfMemory-clause-refused
returns-in-Err-OutOfMemory-clause-refused g c = λ r. tt

pub returns-in-Err-OutOfMemory-clause-usage : goal.returns-in-Err-OutOfMemory-clause-usage
returns-in-Err-OutOfMemory-clause-usage g c = λ e. not_usage e

pub returns-in-Err-OutOfMemory-clause-complete : goal.returns-in-Err-OutOfMemory-clause-complete
returns-in-Err-OutOfMemory-clause-complete g c = λ options asks words job source console steps. inr refl

pub returns-in-Err-OutOfMemory-clause-untouched : goal.returns-in-Err-OutOfMemory-clause-untouched
returns-in-Err-OutOfMemory-clause-untouched g c = λ none. (refl, refl, refl)

pub returns-in-Err-OutOfMemory-clause-console_fault : goal.returns-in-Err-OutOfMemory-clause-console_fault
returns-in-Err-OutOfMemory-clause-console_fault g c = λ e. absurd (subst JobWasRun (sym e) tt)

pub returns-in-Err-OutOfMemory-clause-steps_fault : goal.returns-in-Err-OutOfMemory-clause-steps_fault
returns-in-Err-OutOfMemory-clause-steps_fault g c = λ e. absurd (subst JobWasRun (sym e) tt)

pub returns-in-Err-OutOfMemory-clause-its_cause : goal.returns-in-Err-OutOfMemory-clause-its_cause
returns-in-Err-OutOfMemory-clause-its_cause g c = λ options asks run. absurd run

pub returns-in-Err-OutOfMemory-clause-run : goal.returns-in-Err-OutOfMemory-clause-run
returns-in-Err-OutOfMemory-clause-run g c = λ options asks run. absurd run

pub returns-in-Err-OutOfMemory-clause-no_other : goal.returns-in-Err-OutOfMemory-clause-no_other
returns-in-Err-OutOfMemory-clause-no_other g c = λ options bytes status asks run. absurd run

pub returns-in-Err-OutOfMemory-clause-first_fault : goal.returns-in-Err-OutOfMemory-clause-first_fault
returns-in-Err-OutOfMemory-clause-first_fault g c = λ run. absurd run

pub returns-in-Err-OutOfMemory-clause-faultless : goal.returns-in-Err-OutOfMemory-clause-faultless
returns-in-Err-OutOfMemory-clause-faultless g c = λ whole. absurd whole

pub returns-in-Err-OutOfMemory-clause-demo : goal.returns-in-Err-OutOfMemory-clause-demo
returns-in-Err-OutOfMemory-clause-demo g c = λ n stepping asks run. absurd run

pub returns-in-Err-clause-refused : goal.returns-in-Err-clause-refused
returns-in-Err-clause-refused g c = λ r. tt

pub returns-in-Err-clause-usage : goal.returns-in-Err-clause-usage
returns-in-Err-clause-usage g c = λ e. not_usage e

pub returns-in-Err-clause-complete : goal.returns-in-Err-clause-complete
returns-in-Err-clause-complete g c = λ options asks words job source console steps. inr refl

pub returns-in-Err-clause-untouched : goal.returns-in-Err-clause-untouched
returns-in-Err-clause-untouched g c = λ none. let same = c.in-Err.ensures.untouched in (ap g.So.Source.state same.0, ap g.Co.Sink.state same.1, ap g.St.Sink.state same.2)

pub returns-in-Err-clause-console_fault : goal.returns-in-Err-clause-console_fault
returns-in-Err-clause-console_fault g c = λ e. absurd (subst JobWasRun (sym e) tt)

pub returns-in-Err-clause-steps_fault : goal.returns-in-Err-clause-steps_fault
returns-in-Err-clause-steps_fault g c = λ e. absurd (subst JobWasRun (sym e) tt)

pub returns-in-Err-clause-its_cause : goal.returns-in-Err-clause-its_cause
returns-in-Err-clause-its_cause g c = λ options asks run. absurd run

pub returns-in-Err-clause-run : goal.returns-in-Err-clause-run
returns-in-Err-clause-run g c = λ options asks run. absurd run

pub returns-in-Err-clause-no_other : goal.returns-in-Err-clause-no_other
returns-in-Err-clause-no_other g c = λ options bytes status asks run. absurd run

pub returns-in-Err-clause-first_fault : goal.returns-in-Err-clause-first_fault
returns-in-Err-clause-first_fault g c = λ run. absurd run

pub returns-in-Err-clause-faultless : goal.returns-in-Err-clause-faultless
returns-in-Err-clause-faultless g c = λ whole. absurd whole

pub returns-in-Err-clause-demo : goal.returns-in-Err-clause-demo
returns-in-Err-clause-demo g c = λ n stepping asks run. absurd run

pub returns-in-Err-run_demo-clause-refused : goal.returns-in-Err-run_demo-clause-refused
returns-in-Err-run_demo-clause-refused g c = λ r. tt

pub returns-in-Err-run_demo-clause-usage : goal.returns-in-Err-run_demo-clause-usage
returns-in-Err-run_demo-clause-usage g c = λ e. not_usage e

pub returns-in-Err-run_demo-clause-complete : goal.returns-in-Err-run_demo-clause-complete
returns-in-Err-run_demo-clause-complete g c = λ options asks words job source console steps. inr refl

pub returns-in-Err-run_demo-clause-untouched : goal.returns-in-Err-run_demo-clause-untouched
returns-in-Err-run_demo-clause-untouched g c = λ none. let same = c.in-Err-run_demo.ensures.untouched in (refl, ap g.Co.Sink.state same.0, ap g.St.Sink.state same.1)

pub returns-in-Err-run_demo-clause-console_fault : goal.returns-in-Err-run_demo-clause-console_fault
returns-in-Err-run_demo-clause-console_fault g c = λ e. absurd (subst JobWasRun (sym e) tt)

pub returns-in-Err-run_demo-clause-steps_fault : goal.returns-in-Err-run_demo-clause-steps_fault
returns-in-Err-run_demo-clause-steps_fault g c = λ e. absurd (subst JobWasRun (sym e) tt)

pub returns-in-Err-run_demo-clause-its_cause : goal.returns-in-Err-run_demo-clause-its_cause
returns-in-Err-run_demo-clause-its_cause g c = λ options asks run. absurd run

pub returns-in-Err-run_demo-clause-run : goal.returns-in-Err-run_demo-clause-run
returns-in-Err-run_demo-clause-run g c = λ options asks run. absurd run

pub returns-in-Err-run_demo-clause-no_other : goal.returns-in-Err-run_demo-clause-no_other
returns-in-Err-run_demo-clause-no_other g c = λ options bytes status asks run. absurd run

pub returns-in-Err-run_demo-clause-first_fault : goal.returns-in-Err-run_demo-clause-first_fault
returns-in-Err-run_demo-clause-first_fault g c = λ run. absurd run

pub returns-in-Err-run_demo-clause-faultless : goal.returns-in-Err-run_demo-clause-faultless
returns-in-Err-run_demo-clause-faultless g c = λ whole. absurd whole

pub returns-in-Err-run_demo-clause-demo : goal.returns-in-Err-run_demo-clause-demo
returns-in-Err-run_demo-clause-demo g c = λ n stepping asks run. absurd run

pub returns-in-Ok-stream-clause-refused : goal.returns-in-Ok-stream-clause-refused
returns-in-Ok-stream-clause-refused g c = λ r. absurd (c.in-Ok.ensures.accepted refl r)

pub returns-in-Ok-stream-clause-usage : goal.returns-in-Ok-stream-clause-usage
returns-in-Ok-stream-clause-usage g c = λ e. absurd (subst JobWasRun e c.in-Ok-stream.ensures.causes.has_run)

pub returns-in-Ok-stream-clause-untouched : goal.returns-in-Ok-stream-clause-untouched
returns-in-Ok-stream-clause-untouched g c = λ none. has_begun c.in-Ok-stream.status c.in-Ok-stream.ensures.causes.has_run none

pub returns-in-Ok-stream-clause-console_fault : goal.returns-in-Ok-stream-clause-console_fault
returns-in-Ok-stream-clause-console_fault g c = c.in-Ok-stream.ensures.causes.console

pub returns-in-Ok-stream-clause-steps_fault : goal.returns-in-Ok-stream-clause-steps_fault
returns-in-Ok-stream-clause-steps_fault g c = c.in-Ok-stream.ensures.causes.steps

pub returns-in-Ok-stream-clause-its_cause : goal.returns-in-Ok-stream-clause-its_cause
returns-in-Ok-stream-clause-its_cause g c = λ options asks run.
    subst (λ o. HasItsCause (setup_of o) (g.So.Source.state c.args.job.now) (g.So.Source.state c.stream.new.job) (record { console = g.Co.Sink.state c.args.console.now; steps = g.St.Sink.state c.args.steps.now }) (record { console = g.Co.Sink.state c.stream.new.console; steps = g.St.Sink.state c.stream.new.steps }) c.in-Ok-stream.status) (same_options (map (λ w. w.now) c.args.words.now) c.in-Stream.options options (subst (λ task. Asks task (map (λ w. w.now) c.args.words.now)) c.in-Stream.is c.in-Ok.ensures.asked) asks) c.in-Ok-stream.ensures.its_cause

pub returns-in-Ok-stream-clause-run : goal.returns-in-Ok-stream-clause-run
returns-in-Ok-stream-clause-run g c = λ options asks run.
    subst (λ o. EndsWith (setup_of o) (g.So.Source.state c.args.job.now) (g.So.Source.state c.stream.new.job) (record { console = g.Co.Sink.state c.args.console.now; steps = g.St.Sink.state c.args.steps.now }) (record { console = g.Co.Sink.state c.stream.new.console; steps = g.St.Sink.state c.stream.new.steps }) c.in-Ok-stream.status) (same_options (map (λ w. w.now) c.args.words.now) c.in-Stream.options options (subst (λ task. Asks task (map (λ w. w.now) c.args.words.now)) c.in-Stream.is c.in-Ok.ensures.asked) asks) c.in-Ok-stream.ensures.run

pub returns-in-Ok-stream-clause-faultless : goal.returns-in-Ok-stream-clause-faultless
returns-in-Ok-stream-clause-faultless g c = c.in-Ok-stream.ensures.causes.faultless

pub returns-in-Ok-stream-clause-demo : goal.returns-in-Ok-stream-clause-demo
returns-in-Ok-stream-clause-demo g c = λ n stepping asks run. absurd (no_stream (map (λ w. w.now) c.args.words.now) c.in-Stream.options n stepping asks (subst (λ task. Asks task (map (λ w. w.now) c.args.words.now)) c.in-Stream.is c.in-Ok.ensures.asked))

pub returns-in-Ok-run_demo-clause-refused : goal.returns-in-Ok-run_demo-clause-refused
returns-in-Ok-run_demo-clause-refused g c = λ r. absurd (c.in-Ok.ensures.accepted refl r)

pub returns-in-Ok-run_demo-clause-its_cause : goal.returns-in-Ok-run_demo-clause-its_cause
returns-in-Ok-run_demo-clause-its_cause g c = λ options asks. absurd (no_stream (map (λ w. w.now) c.args.words.now) options c.in-Demo.moves c.in-Demo.stepping (subst (λ task. Asks task (map (λ w. w.now) c.args.words.now)) c.in-Demo.is c.in-Ok.ensures.asked) asks)

pub returns-in-Ok-run_demo-clause-run : goal.returns-in-Ok-run_demo-clause-run
returns-in-Ok-run_demo-clause-run g c = λ options asks. absurd (no_stream (map (λ w. w.now) c.args.words.now) options c.in-Demo.moves c.in-Demo.stepping (subst (λ task. Asks task (map (λ w. w.now) c.args.words.now)) c.in-Demo.is c.in-Ok.ensures.asked) asks)

pub returns-in-Ok-run_demo-clause-complete : goal.returns-in-Ok-run_demo-clause-complete
returns-in-Ok-run_demo-clause-complete g c = λ options asks. absurd (no_stream (map (λ w. w.now) c.args.words.now) options c.in-Demo.moves c.in-Demo.stepping (subst (λ task. Asks task (map (λ w. w.now) c.args.words.now)) c.in-Demo.is c.in-Ok.ensures.asked) asks)

pub returns-in-Ok-run_demo-clause-no_other : goal.returns-in-Ok-run_demo-clause-no_other
returns-in-Ok-run_demo-clause-no_other g c = λ options bytes status asks. absurd (no_stream (map (λ w. w.now) c.args.words.now) options c.in-Demo.moves c.in-Demo.stepping (subst (λ task. Asks task (map (λ w. w.now) c.args.words.now)) c.in-Demo.is c.in-Ok.ensures.asked) asks)

pub returns-in-Err-Refused-clause-order : goal.returns-in-Err-Refused-clause-order
returns-in-Err-Refused-clause-order g c = λ options asks run. absurd run

pub returns-in-Err-Refused-clause-demo_order : goal.returns-in-Err-Refused-clause-demo_order
returns-in-Err-Refused-clause-demo_order g c = λ n stepping asks run. absurd run

pub returns-in-Err-OutOfMemory-clause-order : goal.returns-in-Err-OutOfMemory-clause-order
returns-in-Err-OutOfMemory-clause-order g c = λ options asks run. absurd run

pub returns-in-Err-OutOfMemory-clause-demo_order : goal.returns-in-Err-OutOfMemory-clause-demo_order
returns-in-Err-OutOfMemory-clause-demo_order g c = λ n stepping asks run. absurd run

pub returns-in-Err-clause-order : goal.returns-in-Err-clause-order
returns-in-Err-clause-order g c = λ options asks run. absurd run

pub returns-in-Err-clause-demo_order : goal.returns-in-Err-clause-demo_order
returns-in-Err-clause-demo_order g c = λ n stepping asks run. absurd run

pub returns-in-Err-run_demo-clause-order : goal.returns-in-Err-run_demo-clause-order
returns-in-Err-run_demo-clause-order g c = λ options asks run. absurd run

pub returns-in-Err-run_demo-clause-demo_order : goal.returns-in-Err-run_demo-clause-demo_order
returns-in-Err-run_demo-clause-demo_order g c = λ n stepping asks run. absurd run

pub returns-in-Err-Refused-clause-told : goal.returns-in-Err-Refused-clause-told
returns-in-Err-Refused-clause-told g c = λ unnamed. refl

pub returns-in-Err-OutOfMemory-clause-told : goal.returns-in-Err-OutOfMemory-clause-told
returns-in-Err-OutOfMemory-clause-told g c = λ unnamed. let none = c.in-Err-OutOfMemory.ensures.unnamed unnamed in let is = c.in-Err-OutOfMemory.field-0-is in absurd (cc)

pub returns-in-Err-clause-told : goal.returns-in-Err-clause-told
returns-in-Err-clause-told g c = λ unnamed. let none = c.in-Ok.ensures.unnamed unnamed in absurd (cc)

pub returns-in-Err-run_demo-clause-told : goal.returns-in-Err-run_demo-clause-told
returns-in-Err-run_demo-clause-told g c = λ unnamed. let none = c.in-Ok.ensures.unnamed unnamed in absurd (cc)

pub returns-in-Ok-stream-clause-told : goal.returns-in-Ok-stream-clause-told
returns-in-Ok-stream-clause-told g c = λ unnamed. let none = c.in-Ok.ensures.unnamed unnamed in absurd (cc)

pub returns-in-Ok-run_demo-clause-told : goal.returns-in-Ok-run_demo-clause-told
returns-in-Ok-run_demo-clause-told g c = λ unnamed. let none = c.in-Ok.ensures.unnamed unnamed in absurd (cc)

pub returns-in-Ok-stream-clause-order : goal.returns-in-Ok-stream-clause-order
returns-in-Ok-stream-clause-order g c = λ options asks run.
    let words = map (λ w. w.now) c.args.words.now in
    let its : Asks (tasks.Stream c.in-Stream.options) words = subst (λ task. Asks task words) c.in-Stream.is c.in-Ok.ensures.asked in
    let was = devices (g.So.Source.state c.args.job.now) (g.Co.Sink.state c.args.console.now) (g.St.Sink.state c.args.steps.now) in
    let now = devices (g.So.Source.state c.stream.new.job) (g.Co.Sink.state c.stream.new.console) (g.St.Sink.state c.stream.new.steps) in
    subst (λ o. EndsInOrder o was now c.in-Ok-stream.status) (same_options words c.in-Stream.options options its asks) c.in-Ok-stream.ensures.order

pub returns-in-Ok-run_demo-clause-order : goal.returns-in-Ok-run_demo-clause-order
returns-in-Ok-run_demo-clause-order g c = λ options asks. absurd (no_stream (map (λ w. w.now) c.args.words.now) options c.in-Demo.moves c.in-Demo.stepping (subst (λ task. Asks task (map (λ w. w.now) c.args.words.now)) c.in-Demo.is c.in-Ok.ensures.asked) asks)

pub returns-in-Ok-stream-clause-demo_order : goal.returns-in-Ok-stream-clause-demo_order
returns-in-Ok-stream-clause-demo_order g c = λ n stepping asks run. absurd (no_stream (map (λ w. w.now) c.args.words.now) c.in-Stream.options n stepping asks (subst (λ task. Asks task (map (λ w. w.now) c.args.words.now)) c.in-Stream.is c.in-Ok.ensures.asked))

pub returns-in-Ok-run_demo-clause-demo_order : goal.returns-in-Ok-run_demo-clause-demo_order
returns-in-Ok-run_demo-clause-demo_order g c = λ n stepping asks run.
    let words = map (λ w. w.now) c.args.words.now in
    let its : Asks (tasks.Demo c.in-Demo.moves c.in-Demo.stepping) words = subst (λ task. Asks task words) c.in-Demo.is c.in-Ok.ensures.asked in
    let same = same_demo words c.in-Demo.moves n c.in-Demo.stepping stepping its asks in
    subst (λ kind. IsOrderedDemo n kind (g.Co.Sink.state c.args.console.now) (g.Co.Sink.state c.run_demo.new.console) (g.St.Sink.state c.args.steps.now) (g.St.Sink.state c.run_demo.new.steps) c.in-Ok-run_demo.status) same.1
    (subst (λ moves. IsOrderedDemo moves c.in-Demo.stepping (g.Co.Sink.state c.args.console.now) (g.Co.Sink.state c.run_demo.new.console) (g.St.Sink.state c.args.steps.now) (g.St.Sink.state c.run_demo.new.steps) c.in-Ok-run_demo.status) same.0
    c.in-Ok-run_demo.ensures.order)
