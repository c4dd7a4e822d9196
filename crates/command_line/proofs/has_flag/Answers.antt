use Rattle.std.proofs.Common.{◌∙◌}
use Rattle.clap.specs.Matches.{found_of}
use Rattle.command_line.proofs.Numbers.{flag_read}
use Rattle.command_line.proofs.has_flag.Goals as goal

pub returns : goal.returns
returns c = c.is_of_words.ensures ∙ flag_read (found_of c.args.given.now) c.args.name.now c.value_source.result c.value_source.ensures
