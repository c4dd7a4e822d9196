use Rattle.std.proofs.Common.{[], Bool, arith, refl, subst, rules}
use Rattle.std.specs.declared.option.Option.{Option}
use Rattle.audit_texts.specs.SoFar.{Hears}
use Rattle.run_audit.specs.Finding.{LeadsOnIf}
use Rattle.run_audit.specs.UnderWay.{GoesOn}
use Rattle.run_audit.specs.declared.auditor.Finding.{Finding}
use Rattle.run_audit.proofs.Bounded.{few_on_way}
use Rattle.run_audit.proofs.FoundTop.{begins_bad, begins_on_way, leads_on}
use Rattle.run_audit.proofs.Under.{goes_on_by, not_begun, has_begun, can_read, has_banner}
use Rattle.run_audit.proofs.auditor.Auditor.run.Goals as goal

pub returns-in-Ok-false-clause-right : goal.returns-in-Ok-false-clause-right
returns-in-Ok-false-clause-right g c =
    let a = c.args.self.now in
    let job = g.J.Source.state c.args.job.now in
    let console = g.C.Source.state c.args.console.now in
    let steps = g.S.Source.state c.args.steps.now in
    goes_on_by c.read_all.result (λ now f jt ct st o. f jt ct st (not_begun a c.begins.new.self job console steps (g.C.Source.state c.begins.new.source) jt ct st o
    (subst (λ (y : Bool). Hears y c.begins.new.self (g.C.Source.state c.begins.new.source) ct []) c.in-Ok-false.field-0-test (c.in-Ok-false.ensures.begins ct o.console_opens))) (λ none. refl)) c.read_all.ensures.right

pub texts-init : goal.texts-init
texts-init g c = record {
  known = record { job_known = c.requires.known.job_known; console_known = c.in-Ok-true.ensures.known.0; steps_known = c.requires.known.steps_known };
  same = record { job_same = refl; console_same = c.in-Ok-true.ensures.known.1; steps_same = refl };
  under_way = λ jt ct st o.
      has_begun c.args.self.now c.begins.new.self (g.J.Source.state c.args.job.now) (g.C.Source.state c.args.console.now) (g.S.Source.state c.args.steps.now) (g.C.Source.state c.begins.new.source) jt ct st o
      (subst (λ (y : Bool). Hears y c.begins.new.self (g.C.Source.state c.begins.new.source) ct []) c.in-Ok-true.field-0-test (c.in-Ok-true.ensures.begins ct o.console_opens));
  on_way = λ jt ct st o short.
      begins_on_way c.args.self.now c.begins.new.self (g.J.Source.state c.args.job.now) (g.C.Source.state c.args.console.now) (g.S.Source.state c.args.steps.now) (g.C.Source.state c.begins.new.source) jt ct st o
      (subst (λ (y : Bool). Hears y c.begins.new.self (g.C.Source.state c.begins.new.source) ct []) c.in-Ok-true.field-0-test (c.in-Ok-true.ensures.begins ct o.console_opens));
}

pub texts-preserved : goal.texts-preserved
texts-preserved g c = record {
  known = search rules;
  same = search rules;
  under_way = λ jt ct st o. search (rules, c.texts.invariant.under_way jt ct st o);
  on_way = λ jt ct st o short.
      let i = c.texts.invariant.on_way jt ct st o short in
      leads_on c.step.new.self (g.J.Source.state c.step.new.job) (g.C.Source.state c.step.new.console) (g.S.Source.state c.step.new.steps) jt ct st c.texts.counter c.in_ok-found.field-0
      c.in_default.not-Some (c.in_ok-found.ensures.stands jt ct st short i.0 tt c.texts.counter i.1);
}

pub returns-in-Some-clause-right : goal.returns-in-Some-clause-right
returns-in-Some-clause-right g c =
    let a = c.texts.self in
    let job = g.J.Source.state c.texts.job in
    let console = g.C.Source.state c.texts.console in
    let steps = g.S.Source.state c.texts.steps in
    let found = subst (λ (o : Option Finding). GoesOn a c.step.new.self job console steps (g.J.Source.state c.step.new.job) (g.C.Source.state c.step.new.console) (g.S.Source.state c.step.new.steps) o) c.in-Some.is c.in_ok-found.ensures.goes_on in
    goes_on_by c.read_all-in-Some.result (λ now f jt ct st o. let r = found jt ct st (c.texts.invariant.under_way jt ct st o) in f jt ct st r.0 r.1) c.read_all-in-Some.ensures.right

pub returns-clause-right : goal.returns-clause-right
returns-clause-right g c =
    let a = c.texts.self in
    let job = g.J.Source.state c.texts.job in
    let console = g.C.Source.state c.texts.console in
    let steps = g.S.Source.state c.texts.steps in
    goes_on_by c.read_all-2.result (λ now f jt ct st o. let u = c.texts.invariant.under_way jt ct st o in f jt ct st (can_read a job console steps jt ct st u) (λ none. has_banner a job console steps jt ct st u none)) c.read_all-2.ensures.right

pub returns-in-Ok-false-clause-finds : goal.returns-in-Ok-false-clause-finds
returns-in-Ok-false-clause-finds g c =
    let a = c.args.self.now in
    let job = g.J.Source.state c.args.job.now in
    let console = g.C.Source.state c.args.console.now in
    let steps = g.S.Source.state c.args.steps.now in
    goes_on_by c.read_all.result (λ now f jt ct st o. f jt ct st (not_begun a c.begins.new.self job console steps (g.C.Source.state c.begins.new.source) jt ct st o
    (subst (λ (y : Bool). Hears y c.begins.new.self (g.C.Source.state c.begins.new.source) ct []) c.in-Ok-false.field-0-test (c.in-Ok-false.ensures.begins ct o.console_opens)))
    (λ short. begins_bad a c.begins.new.self job console steps jt ct st o (c.in-Ok-false.ensures.no c.in-Ok-false.field-0-test ct o.console_opens))) c.read_all.ensures.finds

pub returns-in-Some-clause-finds : goal.returns-in-Some-clause-finds
returns-in-Some-clause-finds g c =
    let a = c.texts.self in
    let b = c.step.new.self in
    let job = g.J.Source.state c.texts.job in
    let console = g.C.Source.state c.texts.console in
    let steps = g.S.Source.state c.texts.steps in
    let job_now = g.J.Source.state c.step.new.job in
    let console_now = g.C.Source.state c.step.new.console in
    let steps_now = g.S.Source.state c.step.new.steps in
    let right = subst (λ (o : Option Finding). GoesOn a b job console steps job_now console_now steps_now o) c.in-Some.is c.in_ok-found.ensures.goes_on in
    let stands = subst (λ (o : Option Finding). LeadsOnIf (λ jt ct st sent replies records. Unit {0}) a b job console steps job_now console_now steps_now o) c.in-Some.is c.in_ok-found.ensures.stands in
    goes_on_by c.read_all-in-Some.result (λ now e jt ct st o. e jt ct st (right jt ct st (c.texts.invariant.under_way jt ct st o)).0
    (λ short. let i = c.texts.invariant.on_way jt ct st o short in stands jt ct st short i.0 tt c.texts.counter i.1)) c.read_all-in-Some.ensures.finds

pub returns-clause-finds : goal.returns-clause-finds
returns-clause-finds g c =
    let a = c.texts.self in
    let job = g.J.Source.state c.texts.job in
    let console = g.C.Source.state c.texts.console in
    let steps = g.S.Source.state c.texts.steps in
    goes_on_by c.read_all-2.result (λ now e jt ct st o. e jt ct st (can_read a job console steps jt ct st (c.texts.invariant.under_way jt ct st o)) (λ short.
    let i = c.texts.invariant.on_way jt ct st o short in
    let few = few_on_way i.0 in
    let most = i.1 in
    let over = c.texts-test.false in
    absurd (omega (arith, few, most, over)))) c.read_all-2.ensures.finds
