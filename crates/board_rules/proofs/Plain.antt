-- Replies, with the reports left out.
use Rattle.std.proofs.Common.{◌≡◌, ◌+◌, List, [], ◌∷◌, ◌++◌, Bool, false, not, cond, length, refl, ap, ◌∙◌, append-nil, arith}
use Rattle.std.proofs.lemmas.List.Elements.{filter-append}
use Rattle.std.proofs.lemmas.List.Filters.{length-filter_both}
use Rattle.std.proofs.lemmas.List.Sums.{sum_by-append, length-filter}
use Rattle.status_report.specs.declared.Reply.{Reply}
use Rattle.status_report.specs.declared.Reply.TheVariants as replies
use Rattle.status_report.specs.declared.reports.Report.{Report}
use Rattle.status_report.specs.Answering.{answers_in, is_report, is_plain, without_reports, reports_among}
use Rattle.status_report.proofs.Answered.{answers_first}

-- a reply that is no report comes behind the others, and a report leaves them
pub plain_push : (rs : List Reply) (r : Reply) → is_report r ≡ false → without_reports (rs ++ r ∷ []) ≡ without_reports rs ++ r ∷ []
plain_push rs r none =
    filter-append is_plain rs (r ∷ []) ∙ ap (λ (b : Bool). without_reports rs ++ cond (not b) (r ∷ []) []) none

pub report_push : (rs : List Reply) (r : Report) → without_reports (rs ++ replies.Report r ∷ []) ≡ without_reports rs
report_push rs r = filter-append is_plain rs (replies.Report r ∷ []) ∙ append-nil (without_reports rs)

pub reports_on : (rs ss : List Reply) → reports_among (rs ++ ss) ≡ reports_among rs + reports_among ss
reports_on rs ss = sum_by-append (λ s. cond (is_report s) 1 0) rs ss

-- the reports, and the others, are all
pub length_apart : (rs : List Reply) → length rs ≡ length (without_reports rs) + reports_among rs
length_apart rs =
    let both = length-filter_both is_report is_plain (λ r. refl) rs in
    let some = length-filter is_report rs in
    omega (arith, both, some)

-- a report is no answer
pub answers_without : (rs : List Reply) → answers_in (without_reports rs) ≡ answers_in rs
answers_without [] = refl
answers_without (replies.Report r ∷ rs) = let m = answers_without rs in let a = answers_first (replies.Report r) rs in omega arith
answers_without (r ∷ rs) =
    let m = answers_without rs in let a = answers_first r rs in let b = answers_first r (without_reports rs) in omega arith
