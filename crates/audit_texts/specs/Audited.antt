-- Lines of a job that are audited, and those that are not.
use Rattle.std.specs.Prelude.{◌≡◌, ℕ, ◌+◌, true, false, List, [], ◌∷◌, ◌++◌, length}
use Rattle.run_texts.specs.Sent.{Sent, kept_of}
use Rattle.run_texts.specs.Sent.Sent.{a_text, a_stop}
use Rattle.audit_rules.specs.Findings.{is_foreign, foreign_in}

-- Among these lines the first that is not audited has this number.
pub record IsFirstForeign (lines : List (List ℕ)) (line : ℕ) : Type 0 where
  pub before : List (List ℕ)
  pub here : List ℕ
  pub behind : List (List ℕ)
  pub split : lines ≡ before ++ here ∷ behind
  pub number : line ≡ length before + 1
  pub first : foreign_in before ≡ false
  pub is : is_foreign (kept_of here) ≡ true

-- each of these lines is audited
abbrev pub AllAudited : List Sent → Type 0
AllAudited [] = Unit {0}
AllAudited (a_text kept ∷ more) = (is_foreign kept ≡ false) × AllAudited more
AllAudited (a_stop ∷ more) = AllAudited more
