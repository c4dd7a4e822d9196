use Rattle.board_rules.proofs.Staying.{both_taken, stays_held}
use Rattle.board_rules.proofs.laws.boards_take_their_flags.Goals as goal

pub returns-clause-begun : goal.returns-clause-begun
returns-clause-begun c = λ first h o conducted. both_taken h conducted.0.flags

pub returns-clause-worked : goal.returns-clause-worked
returns-clause-worked c = λ first h o conducted. (conducted.0.obeyed, conducted.0.unowed)

pub returns-clause-waited : goal.returns-clause-waited
returns-clause-waited c = λ first h o conducted. let both = both_taken h conducted.0.flags in (both.0, (both.1, conducted.0.obeyed))

pub returns-clause-stays : goal.returns-clause-stays
returns-clause-stays c = stays_held

pub returns-clause-held : goal.returns-clause-held
returns-clause-held c = λ first h m conducted. conducted.0.1

pub returns-clause-reported : goal.returns-clause-reported
returns-clause-reported c = λ first h word queued m conducted. conducted.0.1.reported

pub returns-clause-looked : goal.returns-clause-looked
returns-clause-looked c = λ first h word queued m conducted. conducted.0.1.looked

pub returns-clause-stopped : goal.returns-clause-stopped
returns-clause-stopped c = λ first h word queued m conducted. conducted.0.1.stopped
