use Rattle.std.proofs.Common.{true, refl, sym, ap, arith}
use Rattle.run_rules.specs.Outcomes.{start}
use Rattle.run_rules.proofs.Locking.{free_follows}
use Rattle.board_journal.specs.Openings.{first_opening}
use Rattle.board_journal.specs.Steps.{before_of, lines_of}
use Rattle.board_rules.specs.Cuts.{passed_of}
use Rattle.board_rules.proofs.Lines.{lines_follow}
use Rattle.modal_state.specs.declared.Parser.{Parser}
use Rattle.board_rules.proofs.laws.runs_begin_from_an_opening.Goals as goal

pub returns-clause-opens : goal.returns-clause-opens
returns-clause-opens c blocks state sized = record { stands = refl; greets = (record { answers = refl; reports = refl; parts = refl }, tt); banner = refl; few = omega arith; sized = sized }

pub returns-clause-before : goal.returns-clause-before
returns-clause-before c = λ blocks state. refl

pub returns-clause-placed : goal.returns-clause-placed
returns-clause-placed c = λ blocks state opening. sym (ap (λ (p : Parser). p.pos_steps) opening.parser)

pub returns-clause-machine : goal.returns-clause-machine
returns-clause-machine c = λ blocks state ps done. refl

pub returns-clause-free : goal.returns-clause-free
returns-clause-free c = λ blocks state h locked. absurd (let e = locked.0 in cc)

pub returns-clause-told : goal.returns-clause-told
returns-clause-told c = λ blocks state outcomes. refl

pub returns-clause-unlocked : goal.returns-clause-unlocked
returns-clause-unlocked c = λ blocks state h. refl

pub returns-clause-follow : goal.returns-clause-follow
returns-clause-follow c = λ blocks state h conducted.
    free_follows true (start state) (before_of (first_opening blocks state) h) (lines_of h) (passed_of (first_opening blocks state) h) (lines_follow (first_opening blocks state) h conducted)
