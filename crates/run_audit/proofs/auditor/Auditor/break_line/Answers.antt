use Rattle.std.proofs.Common.{◌<◌, ◌+◌, ◌^◌, arith}
use Rattle.run_audit.proofs.Bounded.{line_on_way}
use Rattle.run_audit.proofs.Under.{line_told, broken_by}
use Rattle.run_audit.proofs.LineWaits.{refused_on, waits_before, waits_on}
use Rattle.run_audit.proofs.auditor.Auditor.break_line.Goals as goal

pub returns-then-begin_unanswered-clause-so_far : goal.returns-then-begin_unanswered-clause-so_far
returns-then-begin_unanswered-clause-so_far c = λ job console steps.
    let a = c.args.self.now in
    let kept = a.sending.reader.line.kept in
    line_told a _ kept job console steps (λ t told h. h) (λ t told h. h) (λ t told h. c.take_line.ensures.told c.requires.line.0 c.requires.line.1 job t told h)
    (λ none. (none, c.begin_unanswered.ensures.yes c.if-begin_unanswered.true kept c.kept-line.ensures))

pub returns-clause-so_far : goal.returns-clause-so_far
returns-clause-so_far c = λ job console steps.
    broken_by c.args.self.now c.break_off.new.self job console steps c.break_off.ensures.sending c.break_off.ensures.listening c.break_off.ensures.recorded c.break_off.ensures.broken

pub returns-then-begin_unanswered-clause-stands : goal.returns-then-begin_unanswered-clause-stands
returns-then-begin_unanswered-clause-stands c = λ next later may none calm resets job console steps jt ct st short u looks n done.
    let kept = c.args.self.now.sending.reader.line.kept in
    let yes = c.if-begin_unanswered.true in
    waits_on u c.begin_unanswered.new.self c.take_line.new.self kept (c.begin_unanswered.ensures.heard yes kept c.kept-line.ensures) (c.begin_unanswered.ensures.yes yes kept c.kept-line.ensures)
    (c.begin_unanswered.ensures.unanswered yes) (c.begin_unanswered.ensures.lost yes) (c.begin_unanswered.ensures.number yes) next later may looks.0
    short calm c.args.self.now.listening.known resets looks.1 (c.take_line.ensures.told c.requires.line.0 c.requires.line.1 job jt u.sent u.are_read.job_so_far) c.take_line.ensures.last
    (c.begin_unanswered.ensures.short yes kept c.kept-line.ensures) n done

pub returns-clause-stands : goal.returns-clause-stands
returns-clause-stands c = λ next later may none calm resets job console steps jt ct st short u looks n done.
    let j = c.args.self.now.course in
    let no = c.if-begin_unanswered.false in
    let fits = line_on_way u c.requires.line in
    let few : j.work.number + 1 < 2 ^ 32 = omega (arith, fits) in
    let e = c.break_off.ensures in
    refused_on u c.begin_unanswered.new.self (c.begin_unanswered.ensures.same no) c.break_off.new.self
    (record { sending = e.sending; listening = e.listening; recorded = e.recorded; course = e.others.0; answered = e.others.1; broken = e.at })
    n done next later may looks.0 none (waits_before j.unanswered j.line.halts (c.begin_unanswered.ensures.halted no later.done few) calm)
