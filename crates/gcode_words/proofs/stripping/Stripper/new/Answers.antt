use Rattle.std.proofs.Common.{refl}
use Rattle.gcode_words.specs.Comments.{cut_within}
use Rattle.gcode_words.proofs.stripping.Stripper.new.Goals as goal

pub returns : goal.returns
unfolding cut_within
returns c = refl
