-- Two readings of one step text agree on the record that comes next.
use Rattle.std.proofs.Common.{◌≡◌, ◌⊎◌, inl, inr, ℕ, List, [], ◌∷◌, ◌++◌, append_assoc, sym, ap, ◌∙◌}
use Rattle.std.proofs.lemmas.List.{append_cancel_left}
use Rattle.std.proofs.lemmas.List.Concat.{flat_map-append}
use Rattle.step_line.specs.declared.Record.{Record}
use Rattle.step_record.specs.Forms.{records_of as records_by}
use Rattle.step_record.specs.declared.forms.Line.{Line}
use Rattle.audit_rules.specs.StepTexts.{form_of, records_of}
use Rattle.audit_rules.proofs.Lines.{GoesFurther, one_goes_further}
use Rattle.audit_texts.specs.SoFar.{StandsIn}
use Rattle.run_audit.specs.OnWay.{ReadsAs}

-- ---- records of lines

-- lines that go further have the records of the first ones, and more
records_further : (records others : List Record) (ls ms more : List Line) → records ≡ records_of ls → ms ≡ ls ++ more → others ≡ records_of ms → others ≡ records ++ records_of more
records_further records others ls ms more is further of = of ∙ ap records_of further ∙ flat_map-append records_by ls more ∙ ap (λ (rs : List Record). rs ++ records_of more) (sym is)

-- one list of records that goes on behind some goes on otherwise with the same one
same_next : (records xs ys zs : List Record) (a b : Record) → records ++ b ∷ ys ≡ (records ++ a ∷ xs) ++ zs → a ≡ b
same_next records xs ys zs a b e =
    let behind : b ∷ ys ≡ a ∷ (xs ++ zs) = append_cancel_left records (b ∷ ys) (a ∷ (xs ++ zs)) (e ∙ append_assoc records (a ∷ xs) zs) in
    let same : b ≡ a = cc in
    sym same

-- ---- readings

-- the record that stands next is read
pub reads_in : {st : List ℕ} {records : List Record} {at : ℕ} {r : Record} → StandsIn st records at r → ReadsAs st (records ++ r ∷ [])
reads_in {st} {records} {at} {r} s = record {
  lines = s.before ++ s.last ∷ [];
  rest = s.rest;
  body = s.body;
  are = s.are;
  left = s.later;
  records_are =
      append_assoc records (r ∷ []) s.later ∙ ap (λ (rs : List Record). rs ++ r ∷ s.later) s.told_are ∙ append_assoc (records_of s.before) s.part (r ∷ s.later)
      ∙ ap (λ (rs : List Record). records_of s.before ++ rs) (sym s.of_last) ∙ sym (flat_map-append records_by s.before (s.last ∷ []));
}

-- so is a front of what is read
pub reads_front : {st : List ℕ} (records more : List Record) → ReadsAs st (records ++ more) → ReadsAs st records
reads_front records more s = record { lines = s.lines; rest = s.rest; body = s.body; are = s.are; left = more ++ s.left; records_are = sym (append_assoc records more s.left) ∙ s.records_are }

-- one record is read behind the same ones
pub one_reading : {st : List ℕ} (records xs ys : List Record) (a b : Record) → ReadsAs st (records ++ a ∷ xs) → ReadsAs st (records ++ b ∷ ys) → a ≡ b
one_reading {st} records xs ys a b s t = by (one_goes_further (form_of st) s.lines t.lines s.rest t.rest s.are.each t.are.each (sym s.body ∙ t.body)) where
  by : GoesFurther s.lines t.lines s.rest t.rest ⊎ GoesFurther t.lines s.lines t.rest s.rest → a ≡ b
  by (inl g) =
      same_next records (xs ++ s.left) (ys ++ t.left) (records_of g.more) a b
      (sym (append_assoc records (b ∷ ys) t.left) ∙ records_further (records ++ a ∷ (xs ++ s.left)) ((records ++ b ∷ ys) ++ t.left) s.lines t.lines g.more (sym (append_assoc records (a ∷ xs) s.left) ∙ s.records_are) g.lines t.records_are)
  by (inr g) =
      sym (same_next records (ys ++ t.left) (xs ++ s.left) (records_of g.more) b a
      (sym (append_assoc records (a ∷ xs) s.left) ∙ records_further (records ++ b ∷ (ys ++ t.left)) ((records ++ a ∷ xs) ++ s.left) t.lines s.lines g.more (sym (append_assoc records (b ∷ ys) t.left) ∙ t.records_are) g.lines s.records_are))

-- it is the one that stands next
pub one_next : {st : List ℕ} {records : List Record} {at : ℕ} {r : Record} (a : Record) (xs : List Record) → ReadsAs st (records ++ a ∷ xs) → StandsIn st records at r → a ≡ r
one_next {st} {records} {at} {r} a xs s t = one_reading records xs [] a r s (reads_in t)
