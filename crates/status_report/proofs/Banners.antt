-- How many Banners are among replies.
use Rattle.std.proofs.Common.{◌≡◌, ◌+◌, true, false, cond, List, [], ◌∷◌, ◌++◌, refl, arith}
use Rattle.std.proofs.lemmas.List.Sums.{sum_by-append, sum_by-cons}
use Rattle.status_report.specs.declared.Reply.{Reply}
use Rattle.status_report.specs.declared.Reply.TheVariants as replies
use Rattle.status_report.specs.Answering.{is_answer, is_banner, banners_in, without_reports}

pub banners_first : (r : Reply) (rs : List Reply) → banners_in (r ∷ rs) ≡ cond (is_banner r) 1 0 + banners_in rs
banners_first r rs = sum_by-cons (λ s. cond (is_banner s) 1 0) r rs

pub banners_on : (rs ss : List Reply) → banners_in (rs ++ ss) ≡ banners_in rs + banners_in ss
banners_on rs ss = sum_by-append (λ s. cond (is_banner s) 1 0) rs ss

pub banners_last : (rs : List Reply) (r : Reply) → banners_in (rs ++ r ∷ []) ≡ banners_in rs + cond (is_banner r) 1 0
banners_last rs r = let e = banners_on rs (r ∷ []) in let f = banners_first r [] in omega arith

-- a report is no Banner
pub banners_without : (rs : List Reply) → banners_in (without_reports rs) ≡ banners_in rs
banners_without [] = refl
banners_without (replies.Report r ∷ rs) = let m = banners_without rs in let a = banners_first (replies.Report r) rs in omega arith
banners_without (r ∷ rs) = let m = banners_without rs in let a = banners_first r rs in let b = banners_first r (without_reports rs) in omega arith

-- a Banner answers no line
pub no_answer : (r : Reply) → is_banner r ≡ true → is_answer r ≡ false
no_answer replies.Banner e = refl
no_answer _ e = absurd cc
