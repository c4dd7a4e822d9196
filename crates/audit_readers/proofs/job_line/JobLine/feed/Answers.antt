use Rattle.std.proofs.Common.{ℕ, List, [], ◌∷◌, ◌++◌, refl, sym, subst}
use Rattle.gcode_words.specs.Stripping.{Feeds}
use Rattle.gcode_words.specs.declared.stripping.Comment.{Comment}
use Rattle.audit_readers.specs.JobLines.{SeenLine, HasCome}
use Rattle.audit_readers.proofs.Bytes.{kept_comes, nothing_comes, realtime_comes}
use Rattle.audit_readers.proofs.job_line.JobLine.feed.Goals as goal

pub returns-in-Keep-clause-come : goal.returns-in-Keep-clause-come
returns-in-Keep-clause-come c =
    let old : SeenLine = record { comment = c.self.inside.stripper; kept = c.self.inside.kept.items; resets = c.self.inside.resets; cuts = c.self.inside.cuts } in
    let now : SeenLine = record { comment = c.feed.new.self; kept = c.push.new.self.items; resets = c.self.inside.resets; cuts = c.self.inside.cuts } in
    subst (λ (v : SeenLine). (line : List ℕ) → HasCome line v → HasCome (line ++ c.args.byte ∷ []) now) c.self.view_is
    (kept_comes old now c.args.byte c.in-Keep.kept c.feed.result c.in-Keep.is c.feed.ensures c.requires.inside c.push.ensures.items refl refl)

pub returns-in-Realtime-clause-come : goal.returns-in-Realtime-clause-come
returns-in-Realtime-clause-come c =
    let old : SeenLine = record { comment = c.self.inside.stripper; kept = c.self.inside.kept.items; resets = c.self.inside.resets; cuts = c.self.inside.cuts } in
    let feeds : Feeds old.comment c.args.byte c.feed.result c.take.new.self.comment = subst (λ (t : Comment). Feeds old.comment c.args.byte c.feed.result t) (sym c.take.ensures.comment) c.feed.ensures in
    subst (λ (v : SeenLine). (line : List ℕ) → HasCome line v → HasCome (line ++ c.args.byte ∷ []) c.take.new.self) c.self.view_is
    (realtime_comes old c.take.new.self c.args.byte c.in-Realtime.b c.feed.result c.in-Realtime.is feeds c.requires.inside c.take.ensures.kept c.take.ensures.resets c.take.ensures.cuts)

pub returns-in-Nothing-clause-come : goal.returns-in-Nothing-clause-come
returns-in-Nothing-clause-come c =
    let old : SeenLine = record { comment = c.self.inside.stripper; kept = c.self.inside.kept.items; resets = c.self.inside.resets; cuts = c.self.inside.cuts } in
    let now : SeenLine = record { comment = c.feed.new.self; kept = c.self.inside.kept.items; resets = c.self.inside.resets; cuts = c.self.inside.cuts } in
    subst (λ (v : SeenLine). (line : List ℕ) → HasCome line v → HasCome (line ++ c.args.byte ∷ []) now) c.self.view_is
    (nothing_comes old now c.args.byte c.feed.result c.in-Nothing.is c.feed.ensures c.requires.inside refl refl refl)
