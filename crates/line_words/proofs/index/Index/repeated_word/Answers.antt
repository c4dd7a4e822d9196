use Rattle.std.proofs.Common.{◌∙◌, ap}
use Rattle.line_words.specs.Slots.{is_filled}
use Rattle.line_words.proofs.Letters.{value_or_command}
use Rattle.line_words.proofs.index.Index.repeated_word.Goals as goal

pub returns-in-Some : goal.returns-in-Some
returns-in-Some c = λ all before passed.
    let letter = c.args.word.now.letter in
    let slot = rw c.in-Some.is at c.requires in
    let other = value_or_command letter slot.0 in
    rw other (c.is_filled.ensures ∙ ap (is_filled c.args.self.now.slots) slot.1 ∙ passed.slots.letters letter slot.0)
