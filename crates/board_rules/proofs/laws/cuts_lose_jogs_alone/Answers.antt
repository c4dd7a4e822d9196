use Rattle.board_rules.proofs.Numbers.{parts_are, starts_are, joined_are, lines_are, actions_are, pieces_are, numbers_are}
use Rattle.board_rules.proofs.Cancels.{cancels_are, few_cuts}
use Rattle.board_rules.proofs.Parting.{last_part}
use Rattle.board_rules.proofs.Counting.{counts_are}
use Rattle.board_rules.proofs.laws.cuts_lose_jogs_alone.Goals as goal

pub returns-clause-parts : goal.returns-clause-parts
returns-clause-parts c = parts_are

pub returns-clause-starts : goal.returns-clause-starts
returns-clause-starts c = starts_are

pub returns-clause-joined : goal.returns-clause-joined
returns-clause-joined c = joined_are

pub returns-clause-lines : goal.returns-clause-lines
returns-clause-lines c = lines_are

pub returns-clause-actions : goal.returns-clause-actions
returns-clause-actions c = actions_are

pub returns-clause-pieces : goal.returns-clause-pieces
returns-clause-pieces c = pieces_are

pub returns-clause-numbers : goal.returns-clause-numbers
returns-clause-numbers c = numbers_are

pub returns-clause-cancels : goal.returns-clause-cancels
returns-clause-cancels c = cancels_are

pub returns-clause-words : goal.returns-clause-words
returns-clause-words c = few_cuts

pub returns-clause-last : goal.returns-clause-last
returns-clause-last c = last_part

pub returns-clause-counts : goal.returns-clause-counts
returns-clause-counts c = counts_are
