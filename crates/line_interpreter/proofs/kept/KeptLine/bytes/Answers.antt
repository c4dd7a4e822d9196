use Rattle.std.proofs.Common.{take, subst, sym}
use Rattle.line_interpreter.specs.Keeping.{Keeping, IsKept}
use Rattle.line_interpreter.proofs.Keeping.{whole_line}
use Rattle.line_interpreter.proofs.kept.KeptLine.bytes.Goals as goal

pub returns-clause-short : goal.returns-clause-short
returns-clause-short c = λ kept is.
    let i = c.self.inside in
    let was = subst (λ (k : Keeping). IsKept k kept) (sym c.self.view_is) is in
    whole_line (record { bytes = take i.count i.bytes; over = i.over }) kept was c.if-self.false
