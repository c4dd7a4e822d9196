-- What was read and scanned of a job that its source tells, and why no more of it was sent, is one.
use Rattle.std.proofs.Common.{◌≡◌, ℕ, ◌+◌, ◌-◌, ◌≤◌, ◌<◌, Bool, true, false, List, [], ◌∷◌, ◌++◌, length, take, drop, nat_lt, Some, None, refl, sym, ap, ◌∙◌, subst, arith}
use Rattle.std.specs.declared.option.Option.{Option}
use Rattle.std.specs.List.{AllByRecursion, list_any}
use Rattle.std.specs.Io.KnownBytes.{Consumes}
use Rattle.std.proofs.lemmas.Bool.Decides.{nat_tests}
use Rattle.std.proofs.lemmas.List.{append_cancel_right, length-append, take-append-drop, take-append-le, length-take-le}
use Rattle.std.proofs.Math.Seq.{take-append_seam}
use Rattle.outside.specs.Causes.{SourceState}
use Rattle.run_rules.specs.Lines.{lines_of}
use Rattle.host_journal.specs.declared.Stop.{Stop}
use Rattle.host_journal.specs.declared.Reading.TheVariants.{Ended}
use Rattle.host_journal.specs.Jobs.{ScansFront, but_last, ends_sending, ends_in, stop_by}
use Rattle.stream_host.proofs.Pieces.{neither}
use Rattle.run_status.proofs.Completing.{none_ends_in}
use Rattle.run_status.specs.Statuses.{SendsUpTo}

-- a told source has lost one front
pub one_read : (was is : Option (List ℕ)) (bytes read other : List ℕ) → was ≡ Some bytes → Consumes was is read → Consumes was is other → read ≡ other
one_read None is bytes read other told taken taken_too = absurd cc
one_read (Some xs) None bytes read other told taken taken_too = absurd taken
one_read (Some xs) (Some ys) bytes read other told taken taken_too = append_cancel_right read other ys (sym taken ∙ taken_too)

-- ---- what was scanned

none_of : (lines : List (List ℕ)) → list_any ends_sending lines ≡ false → AllByRecursion (λ l. ends_sending l ≡ false) lines
none_of [] none = tt
none_of (l ∷ ls) none = let first = neither (ends_sending l) (list_any ends_sending ls) none in (first.0, none_of ls first.1)

-- where the sending ends nowhere in a text, it does in no front of it
none_in_front : (text : List ℕ) (n : ℕ) → ends_in text ≡ false → ends_in (take n text) ≡ false
none_in_front text n none = none_ends_in text (take n text) (drop n text) (sym (take-append-drop n text)) (none_of (lines_of text) none)

front_is : (read text left : List ℕ) → read ≡ text ++ left → take (length text) read ≡ text
front_is read text left is = ap (take (length text)) is ∙ take-append_seam text left

-- the shorter of two fronts is one of the longer without its last byte
front_of : (read text other left rest : List ℕ) → read ≡ text ++ left → read ≡ other ++ rest → length text < length other → text ≡ take (length text) (but_last other)
front_of read text other left rest is is_too short =
    let n = length text in
    let m = length other - 1 in
    let fits : n ≤ length (but_last other) = (let e = length-take-le m other (omega (arith, short)) in omega (arith, e, short)) in
    let within : n ≤ length other = omega (arith, short) in
    sym (front_is read text left is) ∙ ap (take n) is_too ∙ take-append-le n other rest within
    ∙ ap (take n) (sym (take-append-drop m other)) ∙ take-append-le n (but_last other) (drop m other) fits

-- so no two texts may be scanned of which one is shorter
not_shorter : {A : Type 0} (read text other : List ℕ) → ScansFront read text → ScansFront read other → (ends_in text ≡ false → read ≡ text) → length text < length other → A
not_shorter read text other scans also whole short =
    let front : text ≡ take (length text) (but_last other) = front_of read text other scans.left also.left scans.front also.front short in
    let none : ends_in text ≡ false = ap ends_in front ∙ none_in_front (but_last other) (length text) also.early in
    let all : length read ≡ length text = ap length (whole none) in
    let long : length read ≡ length other + length also.left = ap length also.front ∙ length-append other also.left in
    absurd (omega (arith, all, long, short))

longer : (a b : ℕ) → nat_lt a b ≡ true → a < b
longer a b e = grind (arith, nat_tests)

neither_longer : (a b : ℕ) → nat_lt a b ≡ false → nat_lt b a ≡ false → a ≡ b
neither_longer a b e f = grind (arith, nat_tests)

one_scanned : (read text other : List ℕ) → ScansFront read text → ScansFront read other → (ends_in text ≡ false → read ≡ text) → (ends_in other ≡ false → read ≡ other) → text ≡ other
one_scanned read text other scans also whole whole_too = by_test (nat_lt (length text) (length other)) (nat_lt (length other) (length text)) refl refl
  where
    by_test : (t u : Bool) → nat_lt (length text) (length other) ≡ t → nat_lt (length other) (length text) ≡ u → text ≡ other
    by_test true u e f = not_shorter read text other scans also whole (longer _ _ e)
    by_test false true e f = not_shorter read other text also scans whole_too (longer _ _ f)
    by_test false false e f =
        let same : length text ≡ length other = neither_longer _ _ e f in
        sym (front_is read text scans.left scans.front) ∙ ap (λ n. take n read) same ∙ front_is read other also.left also.front

-- why no more was sent
pub one_stop : (job_was job_is : SourceState) (bytes : List ℕ) (a b : Stop) → job_was.left ≡ Some bytes → SendsUpTo job_was job_is a → SendsUpTo job_was job_is b → a ≡ b
one_stop job_was job_is bytes a b told one other =
    let read : one.read ≡ other.read = one_read job_was.left job_is.left bytes one.read other.read told one.taken other.taken in
    let also : ScansFront one.read other.scanned = subst (λ (r : List ℕ). ScansFront r other.scanned) (sym read) other.scans in
    let scanned : one.scanned ≡ other.scanned =
    one_scanned one.read one.scanned other.scanned one.scans also (λ none. (one.whole none).0) (λ none. read ∙ (other.whole none).0) in
    one.cause ∙ ap (stop_by Ended) scanned ∙ sym other.cause
