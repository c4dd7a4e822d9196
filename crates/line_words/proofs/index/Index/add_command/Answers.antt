use Rattle.std.proofs.Common.{◌∙◌, ap, sym, option_map}
use Rattle.gcode_words.specs.declared.Word.{Word}
use Rattle.line_words.specs.WordRefusals.{is_axis_command}
use Rattle.line_words.proofs.Pushes.{any_push_or}
use Rattle.line_words.proofs.Pushing.{pushed_command}
use Rattle.line_words.proofs.index.Index.add_command.Goals as goal

pub returns : goal.returns
returns c = λ all before at passed pass.
    let w = c.args.word.now in
    record {
      slots = pushed_command c.args.self.now.slots c.fill.new.self all before w c.args.group passed.slots pass (sym c.requires.group) c.requires.small
          (rw (← c.group_slot.ensures) (record {
            filled = c.fill.ensures.filled;
            others_filled = c.fill.ensures.others_filled;
            value = c.fill.ensures.value all ∙ ap (option_map (λ (v : Word). v.value.micro)) at;
            others = c.fill.ensures.other_values all;
          }));
      axis_command = rw (passed.axis_command, c.is_axis_command.ensures) (sym (any_push_or is_axis_command before w));
    }
