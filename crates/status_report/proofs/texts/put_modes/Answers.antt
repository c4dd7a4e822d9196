use Rattle.std.proofs.Common.{[], ◌∷◌}
use Rattle.std.specs.Prelude.{codes}
use Rattle.std.specs.List.{join_with_byte}
use Rattle.status_report.specs.Replies.{mode_words}
use Rattle.status_report.proofs.Pieces.{grown}
use Rattle.status_report.proofs.texts.put_modes.Goals as goal

pub returns-clause-text : goal.returns-clause-text
returns-clause-text c =
    grown c.args.out.now.items (codes "[GC:") (join_with_byte 32 (mode_words c.args.modes.now) ∷ codes "]" ∷ [])
    c.append-2.new.out.items (_, c.append.ensures.text, (_, c.put_mode_words.ensures.text, c.append-2.ensures.text))
