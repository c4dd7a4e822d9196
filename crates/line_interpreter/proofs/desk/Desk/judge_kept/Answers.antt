use Rattle.std.proofs.Common.{rules, [], refl}
use Rattle.run_rules.specs.Outcomes.{told}
use Rattle.line_interpreter.specs.Desks.{standing}
use Rattle.line_interpreter.specs.declared.tasks.Body.TheVariants.{Accepted}
use Rattle.line_interpreter.proofs.Judging.{kept_empty, kept_dollar, kept_code, accepted_begun, begun_number, begun_ready, accepted_alone}
use Rattle.line_interpreter.proofs.desk.Desk.judge_kept.Goals as goal

pub returns-in-None-clause-begun : goal.returns-in-None-clause-begun
returns-in-None-clause-begun c = λ since.
    let d = c.args.self.now in
    (told d.state [], kept_empty c.args.machine (standing d since) c.args.kept.now (told d.state []) (search rules) refl, accepted_begun d _ d.state c.begin.ensures.same)

pub returns-in-Some-eq36-clause-begun : goal.returns-in-Some-eq36-clause-begun
returns-in-Some-eq36-clause-begun c = λ since.
    let is = c.judge_dollar.ensures.begun since in
    (is.0, kept_dollar c.args.machine (standing c.args.self.now since) c.args.kept.now is.0 (search rules) is.1, is.2)

pub returns-in-Some-clause-begun : goal.returns-in-Some-clause-begun
returns-in-Some-clause-begun c = λ since.
    let is = c.judge_code_found.ensures.begun since in
    (is.0, kept_code c.args.machine (standing c.args.self.now since) c.args.kept.now c.in-Some.field-0.now is.0 (search rules) (search rules) is.1, is.2)

pub begin-requires : goal.begin-requires
begin-requires c = record { body = accepted_alone }

pub returns-in-None-clause-number : goal.returns-in-None-clause-number
returns-in-None-clause-number c = begun_number c.args.self.now _ Accepted c.begin.ensures.same

pub returns-in-None-clause-ready : goal.returns-in-None-clause-ready
returns-in-None-clause-ready c = begun_ready c.args.self.now _ Accepted c.begin.ensures.same c.requires.ready

pub returns-in-Some-eq36-clause-number : goal.returns-in-Some-eq36-clause-number
returns-in-Some-eq36-clause-number c = c.judge_dollar.ensures.number

pub returns-in-Some-eq36-clause-ready : goal.returns-in-Some-eq36-clause-ready
returns-in-Some-eq36-clause-ready c = c.judge_dollar.ensures.ready

pub returns-in-Some-clause-number : goal.returns-in-Some-clause-number
returns-in-Some-clause-number c = c.judge_code_found.ensures.number

pub returns-in-Some-clause-ready : goal.returns-in-Some-clause-ready
returns-in-Some-clause-ready c = c.judge_code_found.ensures.ready
