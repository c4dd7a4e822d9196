use Rattle.std.proofs.Common.{nat_lt, ◌≡◌, true, false, length, arith}
use Rattle.std.proofs.lemmas.Bool.Decides.{nat_tests}
use Rattle.run_rules.specs.Outcomes.{refused}
use Rattle.line_interpreter.specs.Desks.{standing}
use Rattle.line_interpreter.proofs.Judging.{found_too_long, found_kept}
use Rattle.line_interpreter.proofs.desk.Desk.judge_line.Goals as goal

pub returns-in-Some-clause-begun : goal.returns-in-Some-clause-begun
returns-in-Some-clause-begun c = λ since kept is.
    let all = c.in-Some.ensures.short kept is in
    let short : nat_lt 79 (length kept) ≡ false = let few = all.1 in grind (arith, nat_tests, few) in
    let begun = rw all.0 at (c.judge_kept.ensures.begun since) in
    (begun.0, found_kept c.args.machine (standing c.args.self.now since) kept begun.0 short begun.1, begun.2)

pub returns-in-None-clause-begun : goal.returns-in-None-clause-begun
returns-in-None-clause-begun c = λ since kept is.
    let many = c.bytes.ensures.long c.in-None.is kept is in
    let long : nat_lt 79 (length kept) ≡ true = grind (arith, nat_tests, many) in
    (refused (standing c.args.self.now since) 11, found_too_long c.args.machine (standing c.args.self.now since) kept long, c.refuse.ensures.begun since)

pub returns-in-Some-clause-number : goal.returns-in-Some-clause-number
returns-in-Some-clause-number c = c.judge_kept.ensures.number

pub returns-in-Some-clause-ready : goal.returns-in-Some-clause-ready
returns-in-Some-clause-ready c = c.judge_kept.ensures.ready

pub returns-in-None-clause-number : goal.returns-in-None-clause-number
returns-in-None-clause-number c = c.refuse.ensures.number

pub returns-in-None-clause-ready : goal.returns-in-None-clause-ready
returns-in-None-clause-ready c = c.refuse.ensures.ready
