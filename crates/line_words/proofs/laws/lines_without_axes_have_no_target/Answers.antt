use Rattle.line_words.proofs.Fixed.{no_targets}
use Rattle.line_words.proofs.laws.lines_without_axes_have_no_target.Goals as goal

pub returns : goal.returns
returns c = no_targets
