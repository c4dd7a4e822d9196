use Rattle.std.proofs.Common.{◌∙◌, ap, sym, option_map}
use Rattle.gcode_words.specs.declared.Word.{Word}
use Rattle.line_words.proofs.Pushing.{pushed_value, value_takes_no_axis, value_has_letter}
use Rattle.line_words.proofs.index.Index.add_value.Goals as goal

pub returns-in-Some : goal.returns-in-Some
returns-in-Some c = λ all before at passed pass.
    let w = c.args.word.now in
    let slot = rw c.in-Some.is at c.requires.slot in
    record {
      slots = pushed_value c.args.self.now.slots c.fill.new.self all before w passed.slots pass slot.0 (sym c.requires.group) c.requires.small
          (rw (← slot.1) (record {
            filled = c.fill.ensures.filled;
            others_filled = c.fill.ensures.others_filled;
            value = c.fill.ensures.value all ∙ ap (option_map (λ (v : Word). v.value.micro)) at;
            others = c.fill.ensures.other_values all;
          }));
      axis_command = passed.axis_command ∙ sym (value_takes_no_axis before w slot.0);
    }

pub returns-in-None : goal.returns-in-None
returns-in-None c = λ all before at passed pass. absurd (value_has_letter before c.args.word.now (sym c.requires.group) (rw c.in-None.is at c.requires.slot) pass)
