use Rattle.std.proofs.Common.{sym}
use Rattle.gcode_words.proofs.Fed.{fed_line}
use Rattle.gcode_words.proofs.stripping.feeding.Goals as goal

pub returns-clause-kept : goal.returns-clause-kept
returns-clause-kept c = λ line answers later none all. sym (fed_line line answers later none all).0

pub returns-clause-taken : goal.returns-clause-taken
returns-clause-taken c = λ line answers later none all. sym (fed_line line answers later none all).1

pub returns-clause-comment : goal.returns-clause-comment
returns-clause-comment c = λ line answers later none all. (fed_line line answers later none all).2
