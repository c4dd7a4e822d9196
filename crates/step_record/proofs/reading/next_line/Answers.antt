use Rattle.std.proofs.Common.{ℕ, ◌-◌, length, Some, Ok, refl, sym, ap, ◌∙◌, arith, rules}
use Rattle.std.proofs.lemmas.List.{length-drop}
use Rattle.step_record.specs.declared.forms.Line.{Line}
use Rattle.step_record.proofs.Placed.{stands_from, place_behind_line, same_line_at, no_line_at, no_line_at_end}
use Rattle.step_record.proofs.reading.next_line.Goals as goal

pub returns-then-at-text-clause-each : goal.returns-then-at-text-clause-each
returns-then-at-text-clause-each c = λ r rest is line. absurd (no_line_at_end c.args.text.now rest c.args.at r (omega (arith, length-drop c.args.at c.args.text.now)) is line)

pub overflow_sub-result : goal.overflow_sub-result
overflow_sub-result c = (place_behind_line c.args.text.now c.in-Some.rest.now c.args.at c.in-Some.line c.requires (sym c.in-Some.ensures)).0

pub returns-in-Some-clause-found : goal.returns-in-Some-clause-found
returns-in-Some-clause-found c = stands_from c.args.text.now c.in-Some.rest.now c.args.at c.in-Some.line c.requires (sym c.in-Some.ensures)

pub returns-in-Some-clause-place : goal.returns-in-Some-clause-place
returns-in-Some-clause-place c =
    let behind = place_behind_line c.args.text.now c.in-Some.rest.now c.args.at c.in-Some.line c.requires (sym c.in-Some.ensures) in
    (behind.1, behind.2)

pub returns-in-Some-clause-each : goal.returns-in-Some-clause-each
returns-in-Some-clause-each c = λ r rest is line.
    let same = same_line_at c.args.text.now c.in-Some.rest.now rest c.args.at c.in-Some.line r c.requires (sym c.in-Some.ensures) is line in
    ap (λ (s : Line). Ok (Some (s, length c.args.text.now - length c.in-Some.rest.now))) same.0 ∙ ap (λ (k : ℕ). Ok (Some (r, k))) same.1

pub returns-in-Some-clause-bad : goal.returns-in-Some-clause-bad
returns-in-Some-clause-bad c =
    let found = stands_from c.args.text.now c.in-Some.rest.now c.args.at c.in-Some.line c.requires (sym c.in-Some.ensures) in
    (λ e. absurd cc, λ none. absurd (none.1 c.in-Some.line _ found.is found.line))

pub returns-in-None-clause-each : goal.returns-in-None-clause-each
returns-in-None-clause-each c = λ r rest is line. absurd (no_line_at c.args.text.now rest c.args.at r (sym c.in-None.ensures) is line)

pub returns-in-None-clause-bad : goal.returns-in-None-clause-bad
returns-in-None-clause-bad c =
    (λ e. (search rules, λ r rest is line. no_line_at c.args.text.now rest c.args.at r (sym c.in-None.ensures) is line), λ none. refl)
