-- Reports fit a run, and a run so far.
use Rattle.std.proofs.Common.{◌≡◌, ℕ, ◌+◌, true, cond, List, [], ◌∷◌, refl, sym, ap, ◌∙◌, arith}
use Rattle.std.specs.List.{list_any}
use Rattle.std.proofs.lemmas.List.Elements.{filter-append}
use Rattle.std.proofs.lemmas.List.Sums.{sum_by-cons}
use Rattle.status_report.specs.declared.Reply.{Reply}
use Rattle.status_report.specs.declared.Reply.TheVariants as replies
use Rattle.status_report.specs.Answering.{is_bye, is_plain, without_reports}
use Rattle.run_rules.specs.Told.{errors_among, is_error}
use Rattle.run_law.specs.Fronts.{BeginsWith}

pub plain_front : (all front : List Reply) → BeginsWith all front → BeginsWith (without_reports all) (without_reports front)
plain_front all front begins = record { rest = without_reports begins.rest; is = ap without_reports begins.is ∙ filter-append is_plain front begins.rest }

first_error : (r : Reply) (rs : List Reply) → errors_among (r ∷ rs) ≡ cond (is_error r) 1 0 + errors_among rs
first_error r rs = sum_by-cons (λ s. cond {A = ℕ} (is_error s) 1 0) r rs

-- a report is no error, and no Bye
pub errors_without : (rs : List Reply) → errors_among (without_reports rs) ≡ errors_among rs
errors_without [] = refl
errors_without (replies.Report r ∷ rs) = let e = errors_without rs in let f = first_error (replies.Report r) rs in omega (arith, e, f)
errors_without (r ∷ rs) = first_error r (without_reports rs) ∙ ap (λ n. cond {A = ℕ} (is_error r) 1 0 + n) (errors_without rs) ∙ sym (first_error r rs)

pub bye_without : (rs : List Reply) → list_any is_bye rs ≡ true → list_any is_bye (without_reports rs) ≡ true
bye_without [] e = absurd cc
bye_without (replies.Bye ∷ rs) e = refl
bye_without (replies.Report r ∷ rs) e = bye_without rs e
bye_without (r ∷ rs) e = bye_without rs e
