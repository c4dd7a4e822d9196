use Rattle.std.proofs.Common.{◌∙◌, refl, subst}
use Rattle.audit_readers.specs.Steps.{StepsRead, ReadsNone}
use Rattle.audit_readers.proofs.Stepping.{none_stands}
use Rattle.audit_readers.proofs.steps.StepReader.next.Goals as goal

pub returns-in_default : goal.returns-in_default
returns-in_default g c =
    let old : StepsRead = record { window = c.self.inside.window; form = c.self.inside.form; last = c.self.inside.last; place = c.self.inside.place } in
    let now : StepsRead = record { window = c.fill_up.new.self; form = c.self.inside.form; last = c.self.inside.last; place = c.self.inside.place } in
    let n = none_stands old now (g.S.Source.state c.args.source.now) (g.S.Source.state c.fill_up.new.source) c.in_ok-fill_up.ensures.filled refl refl refl
    (λ line rest may e. c.in_default.not-Some _ (c.line_in_front-found.ensures.each line rest may.is may.follows (c.waiting.ensures ∙ e))) in
    subst (λ (s : StepsRead). ReadsNone s now (g.S.Source.state c.args.source.now) (g.S.Source.state c.fill_up.new.source)) c.self.view_is n
