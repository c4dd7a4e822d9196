use Rattle.std.proofs.Common.{[], ◌∷◌, ◌+◌, ◌++◌, ◌∙◌, ap, decimal}
use Rattle.std.specs.Prelude.{if◌then◌else◌, codes}
use Rattle.status_report.specs.Replies.{motion_word, spindle_word}
use Rattle.status_report.proofs.Pieces.{grown}
use Rattle.status_report.proofs.texts.put_modal.Goals as goal

pub returns-clause-text : goal.returns-clause-text
returns-clause-text c =
    let m = c.args.modal.now in
    grown c.args.out.now.items (motion_word m.motion)
    ((32 ∷ 71 ∷ decimal (53 + m.system))
    ∷ (32 ∷ 71 ∷ decimal m.plane)
    ∷ (32 ∷ (if m.inch then codes "G20" else codes "G21"))
    ∷ (32 ∷ (if m.relative then codes "G91" else codes "G90"))
    ∷ (32 ∷ codes "G94")
    ∷ (32 ∷ spindle_word m.spindle)
    ∷ (32 ∷ (if m.flood then codes "M8" else codes "M9"))
    ∷ [])
    c.put_word-5.new.out.items (
      _,
      c.append.ensures.text ∙ ap (λ w. c.args.out.now.items ++ w) c.motion_word.ensures.text,
      (
        _,
        c.put_numbered.ensures.items ∙ ap (λ n. c.append.new.out.items ++ 32 ∷ 71 ∷ decimal n) c.from.ensures,
        (
          _,
          c.put_numbered-2.ensures.items ∙ ap (λ n. c.put_numbered.new.out.items ++ 32 ∷ 71 ∷ decimal n) c.from-2.ensures,
          (
            _,
            c.put_word.ensures.items ∙ ap (λ w. c.put_numbered-2.new.out.items ++ 32 ∷ w) c.either.ensures,
            (
              _,
              c.put_word-2.ensures.items ∙ ap (λ w. c.put_word.new.out.items ++ 32 ∷ w) c.either-2.ensures,
              (
                _,
                c.put_word-3.ensures.items,
                (
                  _,
                  c.put_word-4.ensures.items ∙ ap (λ w. c.put_word-3.new.out.items ++ 32 ∷ w) c.spindle_word.ensures.text,
                  c.put_word-5.ensures.items ∙ ap (λ w. c.put_word-4.new.out.items ++ 32 ∷ w) c.either-3.ensures,
                ),
              ),
            ),
          ),
        ),
      ),
    )
