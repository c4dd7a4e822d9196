-- The rest that a run has scanned is the one that an audit scans, where the sending ended in a line.
use Rattle.std.proofs.Common.{◌≡◌, ℕ, ◌-◌, Bool, true, false, cond, List, [], ◌∷◌, ◌++◌, length, take, drop, nat_eq, refl, sym, ap, subst, ◌∙◌, append_assoc, append-nil, arith}
use Rattle.std.specs.List.{AllByRecursion}
use Rattle.std.proofs.lemmas.List.{length-append}
use Rattle.std.proofs.Math.Seq.{take-append_seam, drop-append_seam}
use Rattle.host_journal.specs.Jobs.{but_last, ends_in, ends_sending}
use Rattle.host_journal.specs.declared.Reading.TheVariants.{Ended, Large}
use Rattle.run_rules.specs.Lines.{CutsInto, HasNoLf, ended, lines_of, onto_first, whole_lines}
use Rattle.stream_host.proofs.Pieces.{IsSendable, Starts, any_is, ends_on, none_ends, read_on, read_starts}
use Rattle.stream_host.proofs.Pieces.Starts.{no_line, a_line}
use Rattle.audit_rules.specs.Scanned as audits
use Rattle.audited_runs.proofs.Rest.{long_at, up_open, up_rest}

-- bytes before a last one
record HasLast (xs : List ℕ) : Type 0 where
  pub front : List ℕ
  pub byte : ℕ
  pub is : xs ≡ front ++ byte ∷ []

last_on : (c : ℕ) (cs : List ℕ) → HasLast cs → HasLast (c ∷ cs)
last_on c cs last = record { front = c ∷ last.front; byte = last.byte; is = ap (λ (xs : List ℕ). c ∷ xs) last.is }

has_last : (c : ℕ) (cs : List ℕ) → HasLast (c ∷ cs)
has_last c [] = record { front = []; byte = c; is = refl }
has_last c (d ∷ ds) = last_on c (d ∷ ds) (has_last d ds)

long_has_last : (rest : List ℕ) → ends_sending rest ≡ true → HasLast rest
long_has_last [] long = let none = none_ends in let both : true ≡ false = sym long ∙ none in absurd cc
long_has_last (c ∷ cs) long = has_last c cs

front_no_lf : (xs ys : List ℕ) → HasNoLf (xs ++ ys) → HasNoLf xs
front_no_lf [] ys none = tt
front_no_lf (x ∷ xs) ys none = (none.0, front_no_lf xs ys none.1)

has_line : {A : Type 0} (c : ℕ) (cs : List ℕ) → lines_of (c ∷ cs) ≡ [] → A
has_line c cs none = by_lf (nat_eq c 10) (lines_of cs) none where
  by_lf : {A : Type 0} (t : Bool) (ls : List (List ℕ)) → cond t ([] ∷ ls) (onto_first c ls) ≡ [] → A
  by_lf true ls same = absurd cc
  by_lf false [] same = absurd cc
  by_lf false (l ∷ ls) same = absurd cc

module _ (text left : List ℕ) (lines : List (List ℕ)) (rest : List ℕ) (cut : CutsInto text lines rest) (sendable : AllByRecursion IsSendable lines) (long : ends_sending rest ≡ true) (early : ends_in (but_last text) ≡ false) where
  last : HasLast rest
  last = long_has_last rest long

  split : text ≡ (ended lines ++ last.front) ++ last.byte ∷ []
  split = cut.whole ∙ ap (λ (xs : List ℕ). ended lines ++ xs) last.is ∙ sym (append_assoc (ended lines) last.front (last.byte ∷ []))

  before : but_last text ≡ ended lines ++ last.front
  before =
      let bytes : length text - 1 ≡ length (ended lines ++ last.front) =
      (let l = ap length split ∙ length-append (ended lines ++ last.front) (last.byte ∷ []) in omega (arith, l)) in
      ap (λ (n : ℕ). take n text) bytes ∙ ap (take (length (ended lines ++ last.front))) split ∙ take-append_seam (ended lines ++ last.front) (last.byte ∷ [])

  short : ends_sending last.front ≡ false
  short =
      let cut_before : CutsInto (ended lines ++ last.front) lines last.front =
      record { whole = refl; each = cut.each; partial = front_no_lf last.front (last.byte ∷ []) (subst HasNoLf last.is cut.partial) } in
      sym (any_is ends_sending none_ends (ended lines ++ last.front) lines last.front cut_before sendable) ∙ ap ends_in (sym before) ∙ early

  pub scanned_there : (more : List ℕ) → audits.scanned_of (rest ++ more) ≡ rest
  scanned_there more =
      ap (λ (xs : List ℕ). audits.scanned_of (xs ++ more)) last.is ∙ long_at last.front last.byte more short (subst (λ (xs : List ℕ). ends_sending xs ≡ true) last.is long) ∙ sym last.is

  whole : text ++ left ≡ ended lines ++ (rest ++ left)
  whole = ap (λ (xs : List ℕ). xs ++ left) cut.whole ∙ append_assoc (ended lines) rest left

  small_by : Starts rest (lines_of (rest ++ left)) → (audits.up_to_long (lines ++ lines_of (rest ++ left)) []).rest ≡ rest
  small_by (no_line none) = has_some rest long none where
    has_some : {A : Type 0} (xs : List ℕ) → ends_sending xs ≡ true → lines_of (xs ++ left) ≡ [] → A
    has_some [] e n = let both : true ≡ false = sym e ∙ none_ends in absurd cc
    has_some (c ∷ cs) e n = has_line c (cs ++ left) n
  small_by (a_line more later is) =
      ap (λ (ls : List (List ℕ)). (audits.up_to_long (lines ++ ls) []).rest) is ∙ up_rest lines (rest ++ more) later [] sendable (ends_on rest more long) ∙ scanned_there more

  pub rest_small : (audits.up_to_long (lines_of (text ++ left)) []).rest ≡ rest
  rest_small =
      ap (λ (ls : List (List ℕ)). (audits.up_to_long ls []).rest) (ap lines_of whole ∙ read_on Ended lines (rest ++ left) cut.each) ∙ small_by (read_starts Ended rest left cut.partial)

  large_by : (opened : List ℕ) → Starts rest (whole_lines (rest ++ left)) → (whole_lines (rest ++ left) ≡ [] → opened ≡ rest ++ left) → (audits.up_to_long (lines ++ whole_lines (rest ++ left)) opened).rest ≡ rest
  large_by opened (no_line none) behind =
      ap (λ (ls : List (List ℕ)). (audits.up_to_long (lines ++ ls) opened).rest) none ∙ ap (λ (ls : List (List ℕ)). (audits.up_to_long ls opened).rest) (append-nil lines)
      ∙ up_open lines opened sendable ∙ ap audits.scanned_of (behind none) ∙ scanned_there left
  large_by opened (a_line more later is) behind =
      ap (λ (ls : List (List ℕ)). (audits.up_to_long (lines ++ ls) opened).rest) is ∙ up_rest lines (rest ++ more) later opened sendable (ends_on rest more long) ∙ scanned_there more

  pub rest_large : (audits.up_to_long (whole_lines (text ++ left)) (audits.open_line (text ++ left))).rest ≡ rest
  rest_large =
      let wholes : whole_lines (text ++ left) ≡ lines ++ whole_lines (rest ++ left) = ap whole_lines whole ∙ read_on Large lines (rest ++ left) cut.each in
      let behind : whole_lines (rest ++ left) ≡ [] → audits.open_line (text ++ left) ≡ rest ++ left = (λ none.
      let are : whole_lines (text ++ left) ≡ lines = wholes ∙ ap (λ (ls : List (List ℕ)). lines ++ ls) none ∙ append-nil lines in
      ap (λ (ls : List (List ℕ)). drop (length (ended ls)) (text ++ left)) are ∙ ap (drop (length (ended lines))) whole ∙ drop-append_seam (ended lines) (rest ++ left)) in
      ap (λ (ls : List (List ℕ)). (audits.up_to_long ls (audits.open_line (text ++ left))).rest) wholes ∙ large_by (audits.open_line (text ++ left)) (read_starts Large rest left cut.partial) behind
