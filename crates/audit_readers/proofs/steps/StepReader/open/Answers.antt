use Rattle.std.proofs.Common.{◌∙◌, ap}
use Rattle.audit_rules.specs.StepTexts.{form_of}
use Rattle.audit_readers.proofs.Stepping.{opened}
use Rattle.audit_readers.proofs.steps.StepReader.open.Goals as goal

pub returns : goal.returns
returns g c =
    opened c.new-window.result c.fill_up.new.self c.take.new.self (g.S.Source.state c.args.source.now) (g.S.Source.state c.fill_up.new.source) c.form_of-form.result c.heading_len-count.result
    c.new-window.ensures.waiting c.in_ok-fill_up.ensures.filled (c.form_of-form.ensures ∙ ap form_of c.waiting.ensures) c.heading_len-count.ensures c.take.ensures.waiting c.take.ensures.ended
