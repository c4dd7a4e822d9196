use Rattle.std.proofs.Common.{◌≡◌, ℕ, ◌++◌, ◌∷◌, [], List, length, take, arith, subst, sym, length-take-le}
use Rattle.std.proofs.lemmas.List.{take_more_set}
use Rattle.line_interpreter.specs.Keeping.{Keeping, IsKept}
use Rattle.line_interpreter.proofs.Keeping.{pushed, passed_over}
use Rattle.line_interpreter.proofs.kept.KeptLine.push.Goals as goal

pub returns-then-self-lt-MOST : goal.returns-then-self-lt-MOST
returns-then-self-lt-MOST c = λ kept is.
    let i = c.self.inside in
    let room = c.if-self-lt-MOST.true in
    let was = subst (λ (k : Keeping). IsKept k kept) (sym c.self.view_is) is in
    let size : length (take i.count i.bytes) ≡ i.count = length-take-le i.count i.bytes (omega (arith, c.self.invariant.0, c.self.invariant.1)) in
    subst (λ (bytes : List ℕ). IsKept (record { bytes = bytes; over = i.over }) (kept ++ c.args.byte ∷ [])) (sym (take_more_set i.bytes i.count c.args.byte (omega (arith, c.self.invariant.0, room))))
    (pushed (record { bytes = take i.count i.bytes; over = i.over }) kept c.args.byte was (omega (arith, size, room)))

pub returns-else-self-lt-MOST : goal.returns-else-self-lt-MOST
returns-else-self-lt-MOST c = λ kept is.
    let i = c.self.inside in
    let full = c.if-self-lt-MOST.false in
    let was = subst (λ (k : Keeping). IsKept k kept) (sym c.self.view_is) is in
    let size : length (take i.count i.bytes) ≡ i.count = length-take-le i.count i.bytes (omega (arith, c.self.invariant.0, c.self.invariant.1)) in
    passed_over (record { bytes = take i.count i.bytes; over = i.over }) kept c.args.byte was (omega (arith, size, full))
