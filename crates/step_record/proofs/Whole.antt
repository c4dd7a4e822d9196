-- A text is that of at most one list of records.
use Rattle.std.proofs.Common.{◌≡◌, ℕ, ◌+◌, ◌-◌, ◌<◌, ◌≤◌, List, [], ◌∷◌, ◌++◌, length, drop, All, Some, None, refl, sym, ap, ◌∙◌, arith, inl, inr}
use Rattle.std.specs.List.{flat_map, AllByRecursion}
use Rattle.std.proofs.lemmas.Bool.{cases_lt}
use Rattle.std.proofs.lemmas.List.{nil_from_length, append-nil, length-append, length-drop, drop-drop, drop_at}
use Rattle.std.proofs.lemmas.List.Elements.{recursion_from_All}
use Rattle.std.proofs.lemmas.List.Concat.{flat_map-cons}
use Rattle.std.proofs.lemmas.Option.{some_pair_parts, none-some}
use Rattle.step_line.specs.declared.Record.{Record}
use Rattle.step_line.specs.Records.{IsRecord}
use Rattle.step_record.specs.Texts.{IsLineOf, record_text}
use Rattle.step_record.specs.Reading.{record_at, event_at, axis_at, head_at, mark_at, dwell_at, turn_at, plain_at, cut_at, reset_at}
use Rattle.step_record.proofs.Lines.{record_takes, record_again}

none_at_end : record_at [] ≡ None
unfolding record_at event_at axis_at head_at mark_at dwell_at turn_at plain_at cut_at reset_at
none_at_end = refl

pub one_line : (r s : Record) (x y : List ℕ) → IsRecord r → IsRecord s → record_text r ++ x ≡ record_text s ++ y → (r ≡ s) × (x ≡ y)
one_line r s x y r-is s-is e = some_pair_parts r s x y (sym (record_again r x r-is) ∙ ap record_at e ∙ record_again s y s-is)

no_line : (r : Record) (x : List ℕ) → IsRecord r → record_text r ++ x ≡ [] → ⊥
no_line r x is e = none-some (r, x) (sym none_at_end ∙ ap record_at (sym e) ∙ record_again r x is)

pub has_line : (r : Record) → IsRecord r → 0 < length (record_text r)
has_line r is =
    elim (cases_lt 0 (length (record_text r))) [
      | inl some ↦ some
      | inr none ↦ absurd (no_line r [] is (append-nil (record_text r) ∙ nil_from_length (record_text r) (omega arith)))
    ]

texts_one : (rs ss : List Record) → AllByRecursion IsRecord rs → AllByRecursion IsRecord ss → flat_map record_text rs ≡ flat_map record_text ss → rs ≡ ss
texts_one [] [] r-is s-is e = refl
texts_one [] (s ∷ ss) r-is s-is e = absurd (no_line s (flat_map record_text ss) s-is.0 (sym (e ∙ flat_map-cons record_text s ss)))
texts_one (r ∷ rs) [] r-is s-is e = absurd (no_line r (flat_map record_text rs) r-is.0 (sym (flat_map-cons record_text r rs) ∙ e))
texts_one (r ∷ rs) (s ∷ ss) r-is s-is e =
    let parts = one_line r s (flat_map record_text rs) (flat_map record_text ss) r-is.0 s-is.0 (sym (flat_map-cons record_text r rs) ∙ e ∙ flat_map-cons record_text s ss) in
    let others = texts_one rs ss r-is.1 s-is.1 parts.1 in
    ap (λ (x : Record). x ∷ rs) parts.0 ∙ ap (λ (xs : List Record). s ∷ xs) others

pub one_text : (rs ss : List Record) → All IsRecord rs → All IsRecord ss → flat_map record_text rs ≡ flat_map record_text ss → rs ≡ ss
one_text rs ss r-is s-is = texts_one rs ss (recursion_from_All IsRecord rs r-is) (recursion_from_All IsRecord ss s-is)

-- ---- lines that begin at a place of a text

line_len : (text rest : List ℕ) (at : ℕ) (r : Record) → at ≤ length text → drop at text ≡ record_text r ++ rest → at + length (record_text r) + length rest ≡ length text
line_len text rest at r within line = omega (arith, length-drop at text, simp length-append at (ap length line))

-- a record that is read stands from its place to the place behind its line
pub found_line : (text rest : List ℕ) (at : ℕ) (r : Record) → at ≤ length text → record_at (drop at text) ≡ Some (r, rest) → IsLineOf r text at (length text - length rest)
found_line text rest at r within e =
    let takes = record_takes (drop at text) r rest e in
    let len = line_len text rest at r within takes.0 in
    let place : length text - length rest ≡ at + length (record_text r) = omega arith in
    let behind : drop (length text - length rest) text ≡ rest =
    ap (λ (k : ℕ). drop k text) place ∙ sym (drop-drop (length (record_text r)) at text)
    ∙ ap (drop (length (record_text r))) takes.0 ∙ drop_at (record_text r) rest (length (record_text r)) refl in
    record { is = takes.1; line = takes.0 ∙ ap (λ (t : List ℕ). record_text r ++ t) (sym behind); place = place }

pub place_behind : (text rest : List ℕ) (at : ℕ) (r : Record) → at ≤ length text → record_at (drop at text) ≡ Some (r, rest)
    → (length rest ≤ length text) × (at < length text - length rest) × (length text - length rest ≤ length text)
place_behind text rest at r within e =
    let takes = record_takes (drop at text) r rest e in
    let len = line_len text rest at r within takes.0 in
    let some = has_line r takes.1 in
    (omega arith, omega arith, omega arith)

-- each record whose line begins there is the one that is read
pub same_line : (text rest t : List ℕ) (at : ℕ) (r s : Record) → at ≤ length text → record_at (drop at text) ≡ Some (r, rest) → IsRecord s → drop at text ≡ record_text s ++ t
    → (r ≡ s) × (length text - length rest ≡ at + length (record_text s))
same_line text rest t at r s within e is line =
    let same = some_pair_parts r s rest t (sym e ∙ ap record_at line ∙ record_again s t is) in
    let len = line_len text t at s within line in
    (same.0, omega (arith, ap length same.1))

-- and none is where none is read
pub no_record : (text t : List ℕ) (at : ℕ) (s : Record) → record_at (drop at text) ≡ None → IsRecord s → drop at text ≡ record_text s ++ t → ⊥
no_record text t at s e is line = none-some (s, t) (sym e ∙ ap record_at line ∙ record_again s t is)

pub no_record_at_end : (text t : List ℕ) (at : ℕ) (s : Record) → length (drop at text) ≡ 0 → IsRecord s → drop at text ≡ record_text s ++ t → ⊥
no_record_at_end text t at s empty is line = no_line s t is (sym line ∙ nil_from_length (drop at text) empty)
