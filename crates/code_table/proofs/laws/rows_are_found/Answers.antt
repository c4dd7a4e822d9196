use Rattle.std.proofs.Common.{ℕ, Option, Some, None, refl}
use Rattle.std.specs.Prelude.{IsSome, IsNone}
use Rattle.std.proofs.lemmas.Cmp.{nat_eq_equiv}
use Rattle.std.proofs.lemmas.Map.Views.{lookup-from_Contains, Contains-from_lookup, Contains-keys_from_lookup, IsSome-lookup_from_Contains, exact_unsigned_eq}
use Rattle.code_table.specs.Tables.{value_of}
use Rattle.code_table.proofs.laws.rows_are_found.Goals as goal

not_both : (o : Option ℕ) → IsNone o → IsSome o → ⊥
not_both None none some = cc
not_both (Some v) none some = cc

none_unless : (o : Option ℕ) → (IsSome o → ⊥) → IsNone o
none_unless None wrong = refl
none_unless (Some v) wrong = absurd (wrong refl)

pub returns-clause-row : goal.returns-clause-row
returns-clause-row c rows key value once =
    (Contains-from_lookup exact_unsigned_eq key value rows, lookup-from_Contains nat_eq_equiv key value rows once)

pub returns-clause-none : goal.returns-clause-none
returns-clause-none c rows key = (
  (λ none there. not_both (value_of key rows) none (IsSome-lookup_from_Contains nat_eq_equiv key rows there)),
  (λ absent. none_unless (value_of key rows) (λ some. absent (Contains-keys_from_lookup exact_unsigned_eq key rows some))),
)
