use Rattle.run_audit.proofs.LineWaits.{none_next}
use Rattle.run_audit.proofs.Under.{broken_by}
use Rattle.std.proofs.Common.{Some, refl}
use Rattle.run_audit.proofs.auditor.Auditor.begin_unanswered.Goals as goal

pub returns-in-Line-clause-so_far : goal.returns-in-Line-clause-so_far
returns-in-Line-clause-so_far c = c.break_line.ensures.so_far

pub returns-in-Stop-clause-so_far : goal.returns-in-Stop-clause-so_far
returns-in-Stop-clause-so_far c = λ job console steps.
    broken_by c.args.self.now c.break_off.new.self job console steps c.break_off.ensures.sending c.break_off.ensures.listening c.break_off.ensures.recorded c.break_off.ensures.broken

pub returns-in-Line-clause-stands : goal.returns-in-Line-clause-stands
returns-in-Line-clause-stands c = λ next later may calm resets over. c.break_line.ensures.stands (Some next) later may (λ e. absurd cc) calm resets

pub returns-in-Stop-clause-stands : goal.returns-in-Stop-clause-stands
returns-in-Stop-clause-stands c = λ next later may calm resets over job console steps jt ct st short u looks n done.
    let e = c.break_off.ensures in
    none_next u c.args.self.now.course refl c.break_off.new.self
    (record { sending = e.sending; listening = e.listening; recorded = e.recorded; course = e.others.0; answered = e.others.1; broken = e.at })
    n done next later looks.0 may c.args.item c.requires.item c.in-Stop.is over
