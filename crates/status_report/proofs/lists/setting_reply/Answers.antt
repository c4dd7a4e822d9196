use Rattle.std.proofs.Common.{Some, sym, ap, ◌∙◌}
use Rattle.std.proofs.lemmas.Option.{slice_get-map}
use Rattle.std.specs.Option.{option_map}
use Rattle.settings.specs.Numbers.{values}
use Rattle.status_report.specs.Lists.{setting_replies}
use Rattle.status_report.specs.declared.Reply.TheVariants.{Setting}
use Rattle.status_report.proofs.lists.setting_reply.Goals as goal

pub returns-clause-listed : goal.returns-clause-listed
unfolding setting_replies
returns-clause-listed c =
    slice_get-map (λ row. Setting row.0 row.1) (values c.args.settings.now) c.args.place ∙ ap (option_map (λ row. Setting row.0 row.1)) c.row-n.ensures
    ∙ ap (λ v. Some (Setting c.row-n.result.0 v)) (sym c.from.ensures)
