-- What contracts see of an interpreter.
use Rattle.std.proofs.Common.{◌≡◌, ℕ, ◌+◌, Bool, List, ap, ◌∙◌, subst}
use Rattle.run_rules.specs.declared.State.{State}
use Rattle.run_rules.specs.Work.{Task, Outcome}
use Rattle.run_rules.specs.declared.machine.Machine.{Machine}
use Rattle.run_rules.specs.Finding.{Found}
use Rattle.line_interpreter.specs.Since.{Since}
use Rattle.line_interpreter.specs.declared.desk.Desk.{Desk}
use Rattle.line_interpreter.specs.declared.desk.Accepted.{Accepted}
use Rattle.line_interpreter.specs.Desks.{standing, kind_told, settles_of, Begun}
use Rattle.line_interpreter.specs.Interpreting.{Interpreting, interpreting, stands_before}

same_view : (a b : Interpreting) → a.state ≡ b.state → a.number ≡ b.number → a.left ≡ b.left → a ≡ b
same_view a b state number left =
    ap (λ (s : State). record a { state = s }) state
    ∙ ap (λ (n : ℕ). record a { state = b.state; number = n }) number
    ∙ ap (λ (ts : List Task). record b { left = ts }) left

-- what a line becomes, of which so much is left, from what is seen before
abbrev pub JudgedFrom : Machine → List ℕ → Since → Accepted → Interpreting → Interpreting → Type 0
JudgedFrom m kept since accepted new i =
    (o : Outcome) × Found m (stands_before i since) kept o × (new ≡ record { state = o.next; number = i.number + 1; left = o.work }) × (kind_told accepted ≡ o.kind)

pub judged : (d new : Desk) (i : Interpreting) (m : Machine) (kept : List ℕ) (since : Since) (accepted : Accepted) → interpreting d ≡ i → new.number ≡ d.number + 1
    → ((o : Outcome) × Found m (standing d since) kept o × Begun new o accepted) → JudgedFrom m kept since accepted (interpreting new) i
judged d new i m kept since accepted e number x =
    subst (JudgedFrom m kept since accepted (interpreting new)) e
    (x.0, x.1, same_view (interpreting new) (record { state = x.0.next; number = d.number + 1; left = x.0.work }) x.2.state number x.2.left, x.2.answer)

-- and whether the machine stands behind it
abbrev pub SettledFrom : Machine → List ℕ → Since → Accepted → Bool → Interpreting → Interpreting → Type 0
SettledFrom m kept since accepted settles new i =
    (o : Outcome) × Found m (stands_before i since) kept o × (new ≡ record { state = o.next; number = i.number + 1; left = o.work }) × (kind_told accepted ≡ o.kind) × (settles ≡ o.settles)

pub judged_settling : (d new : Desk) (i : Interpreting) (m : Machine) (kept : List ℕ) (since : Since) (accepted : Accepted) (settles : Bool) → interpreting d ≡ i → new.number ≡ d.number + 1 → settles ≡ settles_of new.line
    → ((o : Outcome) × Found m (standing d since) kept o × Begun new o accepted) → SettledFrom m kept since accepted settles (interpreting new) i
judged_settling d new i m kept since accepted settles e number told x =
    subst (SettledFrom m kept since accepted settles (interpreting new)) e
    (x.0, x.1, same_view (interpreting new) (record { state = x.0.next; number = d.number + 1; left = x.0.work }) x.2.state number x.2.left, x.2.answer, told ∙ x.2.settles)
