use Rattle.std.proofs.Common.{refl}
use Rattle.line_words.specs.WordRefusals.{word_refusal}
use Rattle.line_words.proofs.index.Index.refusal.Goals as goal

pub returns-then-command_not_whole : goal.returns-then-command_not_whole
unfolding word_refusal
returns-then-command_not_whole c = λ all before passed. rw (← c.if-command_not_whole.ensures) refl

pub returns-then-unsupported_command : goal.returns-then-unsupported_command
unfolding word_refusal
returns-then-unsupported_command c = λ all before passed. rw (← c.if-command_not_whole.ensures, ← c.if-unsupported_command.ensures) refl

pub returns-then-second_axis_command : goal.returns-then-second_axis_command
unfolding word_refusal
returns-then-second_axis_command c = λ all before passed. rw (← c.if-command_not_whole.ensures, ← c.if-unsupported_command.ensures, ← c.if-second_axis_command.ensures all before passed) refl

pub returns-then-group_stands : goal.returns-then-group_stands
unfolding word_refusal
returns-then-group_stands c = λ all before passed. rw (← c.if-command_not_whole.ensures, ← c.if-unsupported_command.ensures, ← c.if-second_axis_command.ensures all before passed, ← c.requires.group, ← c.if-group_stands.ensures all before passed) refl

pub returns-then-tool_out_of_range : goal.returns-then-tool_out_of_range
unfolding word_refusal
returns-then-tool_out_of_range c = λ all before passed. rw (← c.if-command_not_whole.ensures, ← c.if-unsupported_command.ensures, ← c.if-second_axis_command.ensures all before passed, ← c.requires.group, ← c.if-group_stands.ensures all before passed, ← c.if-tool_out_of_range.ensures) refl

pub returns-then-repeated_word : goal.returns-then-repeated_word
unfolding word_refusal
returns-then-repeated_word c = λ all before passed. rw (← c.if-command_not_whole.ensures, ← c.if-unsupported_command.ensures, ← c.if-second_axis_command.ensures all before passed, ← c.requires.group, ← c.if-group_stands.ensures all before passed, ← c.if-tool_out_of_range.ensures, ← c.if-repeated_word.ensures all before passed) refl

pub returns-then-negative_value : goal.returns-then-negative_value
unfolding word_refusal
returns-then-negative_value c = λ all before passed. rw (← c.if-command_not_whole.ensures, ← c.if-unsupported_command.ensures, ← c.if-second_axis_command.ensures all before passed, ← c.requires.group, ← c.if-group_stands.ensures all before passed, ← c.if-tool_out_of_range.ensures, ← c.if-repeated_word.ensures all before passed, ← c.if-negative_value.ensures) refl

pub returns : goal.returns
unfolding word_refusal
returns c = λ all before passed. rw (← c.if-command_not_whole.ensures, ← c.if-unsupported_command.ensures, ← c.if-second_axis_command.ensures all before passed, ← c.requires.group, ← c.if-group_stands.ensures all before passed, ← c.if-tool_out_of_range.ensures, ← c.if-repeated_word.ensures all before passed, ← c.if-negative_value.ensures) refl
