-- A reader or a writer of std, and how many of its calls have failed.
use Rattle.std.specs.Prelude.{ℕ, refl, is_ok, if◌then◌else◌}
use Rattle.std.specs.declared.result.Result.{Result}
use Rattle.std.specs.Coded.{Coded, code_by, coded×, coded_ℕ}
use Rattle.outside.specs.Causes.{one_more}

pub record Counted (T : Type 0) : Type 0 where
  pub inner : T
  pub faults : ℕ

abbrev pub counted_code : {T : Type 0} → Coded T → Coded (Counted T)
counted_code {T} code =
    code_by (T × ℕ) (coded× code coded_ℕ) (λ c. (c.inner, c.faults)) (λ p. record { inner = p.0; faults = p.1 }) (λ _. refl)

-- the count after a call: as before, or one more if the call failed
abbrev pub faults_after : {T E : Type 0} → ℕ → Result T E → ℕ
faults_after before result = if is_ok result then before else one_more before
