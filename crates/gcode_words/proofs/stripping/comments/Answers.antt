use Rattle.gcode_words.proofs.Cuts.{cut_none, cut_semicolon, cut_unclosed, cut_closed}
use Rattle.gcode_words.proofs.stripping.comments.Goals as goal

pub returns-clause-none : goal.returns-clause-none
returns-clause-none c = cut_none

pub returns-clause-semicolon : goal.returns-clause-semicolon
returns-clause-semicolon c = cut_semicolon

pub returns-clause-unclosed : goal.returns-clause-unclosed
returns-clause-unclosed c = cut_unclosed

pub returns-clause-closed : goal.returns-clause-closed
returns-clause-closed c = cut_closed
