-- Which reports may stand among the replies to lines with `?`, on small examples.
use Rattle.std.proofs.Common.{◌≡◌, ℕ, suc, zero, ◌<◌, false, nat_eq, List, [], ◌∷◌, arith}
use Rattle.std.proofs.lemmas.Bool.Decides.{nat_tests}
use Rattle.gcode_words.specs.Comments.{cut_within}
use Rattle.status_report.specs.declared.Reply.{Reply}
use Rattle.status_report.specs.declared.Reply.TheVariants as replies
use Rattle.status_report.specs.declared.reports.Report.{Report}
use Rattle.line_reports.specs.PerLine.{ReportsPerLine}

-- `??`, `G`, and `(?)`
abbrev twice : List ℕ
twice = 63 ∷ 63 ∷ []

abbrev plain : List ℕ
plain = 71 ∷ []

abbrev in_comment : List ℕ
in_comment = 40 ∷ 63 ∷ 41 ∷ []

-- a reset, and `?`, a reset, and `?`
abbrev reset : List ℕ
reset = 24 ∷ []

abbrev around : List ℕ
around = 63 ∷ 24 ∷ 63 ∷ []

apart : (m n : ℕ) → m < n → nat_eq m n ≡ false
apart m n less = grind (arith, nat_tests)

module _ (r : Report) where
  abbrev report : Reply
  report = replies.Report r

  -- a line of two `?` may have two reports, or one
  has_two : ReportsPerLine (twice ∷ []) (replies.Banner ∷ report ∷ report ∷ replies.Ok ∷ [])
  unfolding cut_within
  has_two zero zero = omega arith
  has_two zero (suc k) = rw (apart 0 (suc k) (omega arith)) (omega arith)
  has_two (suc e) k = rw (apart 0 (suc e) (omega arith)) (omega arith)

  -- and has not three
  has_three : ReportsPerLine (twice ∷ []) (report ∷ report ∷ report ∷ replies.Ok ∷ []) → ⊥
  unfolding cut_within
  has_three are = let few = are 0 0 in omega arith

  -- none stands behind its answer, but for the line that follows
  late : ReportsPerLine (twice ∷ []) (replies.Ok ∷ report ∷ []) → ⊥
  unfolding cut_within
  late are = let few = are 0 1 in omega arith

  of_next : ReportsPerLine (plain ∷ twice ∷ []) (replies.Ok ∷ report ∷ [])
  unfolding cut_within
  of_next zero zero = omega arith
  of_next zero (suc zero) = omega arith
  of_next zero (suc (suc k)) = rw (apart 1 (suc (suc k)) (omega arith)) (omega arith)
  of_next (suc e) k = rw (apart 0 (suc e) (omega arith)) (omega arith)

  -- a line without has none, nor has one with a `?` in a comment
  without : ReportsPerLine (plain ∷ []) (report ∷ replies.Ok ∷ []) → ⊥
  unfolding cut_within
  without are = let few = are 0 0 in omega arith

  within : ReportsPerLine (in_comment ∷ []) (report ∷ replies.Ok ∷ []) → ⊥
  unfolding cut_within
  within are = let few = are 0 0 in omega arith

  -- ---- over a reset

  -- of a line with a `?` before its reset and one behind it, a report in each epoch
  one_each : ReportsPerLine (around ∷ []) (replies.Banner ∷ report ∷ replies.Banner ∷ report ∷ replies.Ok ∷ [])
  unfolding cut_within
  one_each zero zero = omega arith
  one_each zero (suc k) = rw (apart 0 (suc k) (omega arith)) (omega arith)
  one_each (suc zero) zero = omega arith
  one_each (suc zero) (suc k) = rw (apart 0 (suc k) (omega arith)) (omega arith)
  one_each (suc (suc e)) k = rw (apart 0 (suc (suc e)) (omega arith)) (rw (apart 1 (suc (suc e)) (omega arith)) (omega arith))

  -- and none is kept over the Banner, nor comes before its `?` is raised
  kept_over : ReportsPerLine (around ∷ []) (replies.Banner ∷ replies.Banner ∷ report ∷ report ∷ replies.Ok ∷ []) → ⊥
  unfolding cut_within
  kept_over are = let few = are 1 0 in omega arith

  early : ReportsPerLine (around ∷ []) (replies.Banner ∷ report ∷ report ∷ replies.Banner ∷ replies.Ok ∷ []) → ⊥
  unfolding cut_within
  early are = let few = are 0 0 in omega arith

  -- a line that the reset has dropped has its report before the Banner, and none behind it
  dropped_first : ReportsPerLine (plain ∷ twice ∷ reset ∷ []) (replies.Banner ∷ replies.Ok ∷ report ∷ replies.Banner ∷ replies.Ok ∷ [])
  unfolding cut_within
  dropped_first zero zero = omega arith
  dropped_first zero (suc zero) = omega arith
  dropped_first zero (suc (suc k)) = rw (apart 1 (suc (suc k)) (omega arith)) (omega arith)
  dropped_first (suc e) k = rw (apart 0 (suc e) (omega arith)) (omega arith)

  dropped_late : ReportsPerLine (plain ∷ twice ∷ reset ∷ []) (replies.Banner ∷ replies.Ok ∷ replies.Banner ∷ report ∷ replies.Ok ∷ []) → ⊥
  unfolding cut_within
  dropped_late are = let few = are 1 0 in omega arith
