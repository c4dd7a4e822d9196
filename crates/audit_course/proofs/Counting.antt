-- What is counted of lines and records, one by one.
use Rattle.std.proofs.Common.{◌≡◌, ℕ, ◌+◌, false, cond, List, [], ◌∷◌, ◌++◌, length, map, refl, arith}
use Rattle.std.proofs.lemmas.List.Sums.{sum_by-append}
use Rattle.step_line.specs.declared.Mark.TheVariants as marks
use Rattle.step_line.specs.declared.Record.{Record}
use Rattle.step_line.specs.declared.Record.TheVariants as kinds
use Rattle.run_texts.specs.Parts.{is_ending}
use Rattle.run_texts.specs.Sent.{Sent}
use Rattle.run_texts.specs.Sent.Sent.{a_text, a_stop}
use Rattle.audit_course.specs.SoFar.{cuts_among, is_cut_mark, texts_among}

-- ---- lines

pub texts_on : (xs ys : List Sent) → texts_among (xs ++ ys) ≡ texts_among xs + texts_among ys
texts_on [] ys = omega arith
texts_on (a_text line ∷ xs) ys = let rest = texts_on xs ys in omega (arith, rest)
texts_on (a_stop ∷ xs) ys = texts_on xs ys

pub lines_sent : (lines : List (List ℕ)) → texts_among (map a_text lines ++ a_stop ∷ []) ≡ length lines
lines_sent [] = refl
lines_sent (line ∷ lines) = let rest = lines_sent lines in omega (arith, rest)

-- ---- cuts

pub cuts_on : (xs ys : List Record) → cuts_among (xs ++ ys) ≡ cuts_among xs + cuts_among ys
cuts_on xs ys = sum_by-append (λ (r : Record). cond (is_cut_mark r) 1 0) xs ys

pub no_cut : (r : Record) → is_ending r ≡ false → cuts_among (r ∷ []) ≡ 0
no_cut (kinds.Head h) e = refl
no_cut (kinds.Event b) e = refl
no_cut (kinds.Mark (marks.Dwell ms)) e = refl
no_cut (kinds.Mark (marks.Spindle code speed)) e = refl
no_cut (kinds.Mark (marks.Coolant on)) e = refl
no_cut (kinds.Mark (marks.Cut k)) e = absurd cc
no_cut (kinds.Mark (marks.Reset k)) e = absurd cc
no_cut kinds.End e = refl

pub cuts_behind : (records : List Record) (r : Record) → is_ending r ≡ false → cuts_among (records ++ r ∷ []) ≡ cuts_among records
cuts_behind records r inside = let both = cuts_on records (r ∷ []) in let none = no_cut r inside in omega (arith, both, none)

pub cuts_at_cut : (records : List Record) (k : ℕ) → cuts_among (records ++ kinds.Mark (marks.Cut k) ∷ []) ≡ cuts_among records + 1
cuts_at_cut records k = cuts_on records (kinds.Mark (marks.Cut k) ∷ [])

pub cuts_at_reset : (records : List Record) (k : ℕ) → cuts_among (records ++ kinds.Mark (marks.Reset k) ∷ []) ≡ cuts_among records
cuts_at_reset records k = let both : cuts_among (records ++ kinds.Mark (marks.Reset k) ∷ []) ≡ cuts_among records + 0 = cuts_on records (kinds.Mark (marks.Reset k) ∷ []) in omega (arith, both)
