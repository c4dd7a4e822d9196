use Rattle.std.proofs.Common.{rules}
use Rattle.std.proofs.lemmas.List.Sorted.{IsNonDecreasingBy-from_sort, answers_always}
use Rattle.code_table.specs.Tables.{Row}
use Rattle.code_table.proofs.Sorting.{reordered}
use Rattle.code_table.proofs.in_order.Goals as goal

pub returns : goal.returns
returns g c =
    let key : Row → _ = λ row. row.0 in
    reordered _ _ _ _ c.sort_unstable_by_key.ensures.permutation
    (IsNonDecreasingBy-from_sort key _ (c.sort_unstable_by_key.ensures.sorted key (answers_always _ _ _ (λ f a r g h. search rules))))
    c.columns.ensures.keys c.columns.ensures.values
