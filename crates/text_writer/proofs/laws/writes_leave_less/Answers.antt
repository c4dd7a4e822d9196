use Rattle.text_writer.proofs.Shortening.{less_written}
use Rattle.text_writer.proofs.laws.writes_leave_less.Goals as goal

pub returns : goal.returns
returns c = less_written
