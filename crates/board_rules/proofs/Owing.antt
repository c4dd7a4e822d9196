-- The reports that were answered, and the one that is owed, are no more than the words that asked for one.
use Rattle.std.proofs.Common.{◌≡◌, ℕ, ◌+◌, ◌^◌, ◌≤◌, ◌<◌, [], ◌∷◌, Bool, true, false, ◌||◌, cond, refl, ap, arith}
use Rattle.status_report.specs.declared.Reply.{Reply}
use Rattle.status_report.specs.declared.Reply.TheVariants as replies
use Rattle.status_report.specs.declared.reports.Report.{Report}
use Rattle.status_report.specs.Answering.{is_report, reports_among}
use Rattle.board_journal.specs.Openings.{Opening}
use Rattle.board_journal.specs.Ports.{asks_report, reports_in}
use Rattle.board_journal.specs.Ports.PortStep.{answered, reported, took_exec}
use Rattle.board_journal.specs.Steps.{Journal, port_log, answered_of}
use Rattle.board_journal.specs.Steps.Step.{at_port}
use Rattle.board_rules.specs.Turns.{owes_report}
use Rattle.board_rules.specs.Conduct.{Conducted}
use Rattle.board_rules.proofs.Plain.{reports_on}

-- as many as those of which each answers a word
abbrev Owes : Journal → Type 0
Owes h = reports_among (answered_of h) + cond (owes_report h) 1 0 ≤ reports_in (port_log h)

on_answer : (h : Journal) (r : Reply) → is_report r ≡ false → Owes h → Owes (at_port (answered r) ∷ h)
on_answer h r none owes =
    let e = reports_on (answered_of h) (r ∷ []) in
    let n = ap (λ (b : Bool). cond {A = ℕ} b 1 0) none in
    omega arith

on_report : (h : Journal) (r : Report) → owes_report h ≡ true → Owes h → Owes (at_port (reported r) ∷ h)
on_report h r owed owes =
    let e = reports_on (answered_of h) (replies.Report r ∷ []) in
    let n = ap (λ (b : Bool). cond {A = ℕ} b 1 0) owed in
    omega arith

-- one more where the word asks for it, whether one is owed or not
asked_more : (asks owes : Bool) (told n : ℕ) → told + cond owes 1 0 ≤ n → told + cond (asks || owes) 1 0 ≤ cond asks (n + 1) n
asked_more true true told n few = omega arith
asked_more true false told n few = omega arith
asked_more false owes told n few = few

pub owes_few : (first : Opening) (h : Journal) → Conducted first h → Owes h
owes_few first [] c = omega arith
owes_few first (at_port (answered r) ∷ h) c = on_answer h r c.0.plain (owes_few first h c.1)
owes_few first (at_port (reported r) ∷ h) c = on_report h r c.0.owed (owes_few first h c.1)
owes_few first (at_port (took_exec word) ∷ h) c = asked_more (asks_report word) (owes_report h) (reports_among (answered_of h)) (reports_in (port_log h)) (owes_few first h c.1)
owes_few first (_ ∷ h) c = owes_few first h c.1

-- as many words that ask for a report as a port may give
one_asked : (asks : Bool) (n : ℕ) → (asks ≡ true → n < 2 ^ 31) → n ≤ 2 ^ 31 → cond asks (n + 1) n ≤ 2 ^ 31
one_asked true n few was = let f = few refl in omega arith
one_asked false n few was = was

pub few_asked : (first : Opening) (h : Journal) → Conducted first h → reports_in (port_log h) ≤ 2 ^ 31
few_asked first [] c = omega arith
few_asked first (at_port (took_exec word) ∷ h) c = one_asked (asks_report word) (reports_in (port_log h)) c.0.few (few_asked first h c.1)
few_asked first (_ ∷ h) c = few_asked first h c.1
