use Rattle.std.proofs.Common.{◌≡◌, [], ◌∷◌, ◌++◌, ◌∙◌, sym, ap, decimal, codes, rules, lit<}
use Rattle.std.specs.List.{join_with_byte}
use Rattle.status_report.specs.Replies.{modal_words, number_words, feed_in_mm}
use Rattle.status_report.proofs.Pieces.{grown, join_with_byte-append}
use Rattle.status_report.proofs.texts.put_mode_words.Goals as goal

pub returns-clause-text : goal.returns-clause-text
returns-clause-text c =
    let m = c.args.modes.now in
    let feed : c.feed_in_mm.result ≡ feed_in_mm m.feed = search rules in
    grown c.args.out.now.items (join_with_byte 32 (modal_words m.modal))
    ((32 ∷ codes "T" ++ decimal m.tool) ∷ (32 ∷ codes "F" ++ decimal (feed_in_mm m.feed)) ∷ (32 ∷ codes "S" ++ decimal m.rpm) ∷ [])
    c.put_numbered-3.new.out.items (
      _,
      c.put_modal.ensures.text,
      (
        _,
        c.put_numbered.ensures.items ∙ ap (λ n. c.put_modal.new.out.items ++ 32 ∷ 84 ∷ decimal n) c.from.ensures,
        (
          _,
          c.put_numbered-2.ensures.items ∙ ap (λ n. c.put_numbered.new.out.items ++ 32 ∷ 70 ∷ decimal n) feed,
          c.put_numbered-3.ensures.items ∙ ap (λ n. c.put_numbered-2.new.out.items ++ 32 ∷ 83 ∷ decimal n) c.from-2.ensures,
        ),
      ),
    )
    ∙ ap (λ t. c.args.out.now.items ++ t) (sym (join_with_byte-append 32 (modal_words m.modal) (number_words m) (lit< tt) (lit< tt)))
