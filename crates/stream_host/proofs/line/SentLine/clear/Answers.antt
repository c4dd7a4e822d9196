use Rattle.std.proofs.Common.{refl}
use Rattle.gcode_words.specs.Comments.{cut_within}
use Rattle.stream_host.proofs.line.SentLine.clear.Goals as goal

pub returns-clause-fresh : goal.returns-clause-fresh
unfolding cut_within
returns-clause-fresh c = record { stripper = c.new-self.ensures; kept = c.clear.ensures; long = refl; begun = refl }
