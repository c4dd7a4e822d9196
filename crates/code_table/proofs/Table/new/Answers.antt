use Rattle.std.proofs.Common.{sym, ◌∙◌, arith}
use Rattle.std.specs.Prelude.{nat_eq}
use Rattle.std.specs.List.{IsDistinct}
use Rattle.code_table.proofs.Sorting.{once_from_rises, rises_from_once, answers_from_rises}
use Rattle.code_table.proofs.Table.new.Goals as goal

pub returns-then-rises-clause-repeated : goal.returns-then-rises-clause-repeated
returns-then-rises-clause-repeated g c =
    let once : IsDistinct nat_eq c.args.keys = once_from_rises _ _ _ _ _ (omega arith) c.rows_of.ensures c.in_order-keys.ensures (sym c.rises.ensures ∙ c.if-rises.true) in
    ((λ none. cc), (λ repeated. absurd (repeated once)))

pub returns-then-rises-clause-distinct : goal.returns-then-rises-clause-distinct
returns-then-rises-clause-distinct g c some =
    once_from_rises _ _ _ _ _ (omega arith) c.rows_of.ensures c.in_order-keys.ensures (sym c.rises.ensures ∙ c.if-rises.true)

pub returns-then-rises-clause-rows : goal.returns-then-rises-clause-rows
returns-then-rises-clause-rows g c =
    answers_from_rises _ _ _ _ _ (omega arith) c.rows_of.ensures c.in_order-keys.ensures (sym c.rises.ensures ∙ c.if-rises.true)

pub returns-else-rises-clause-repeated : goal.returns-else-rises-clause-repeated
returns-else-rises-clause-repeated g c =
    ((λ none once. let up = rises_from_once _ _ _ _ _ (omega arith) c.rows_of.ensures c.in_order-keys.ensures once in cc), (λ repeated. cc))
