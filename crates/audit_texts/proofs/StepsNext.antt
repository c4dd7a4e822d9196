-- Where in its steps a record stands, or no line, whatever follows.
use Rattle.std.proofs.Common.{◌≡◌, ◌≤◌, ◌-◌, ℕ, List, [], ◌∷◌, ◌++◌, append_assoc, append-nil, replicate, Some, None, IfSome, sym, refl, ap, ◌∙◌, subst, arith}
use Rattle.std.specs.declared.option.Option.{Option}
use Rattle.std.proofs.lemmas.List.{append_cancel_right}
use Rattle.std.proofs.lemmas.List.Concat.{flat_map-append}
use Rattle.outside.specs.Causes.{SourceState}
use Rattle.step_line.specs.declared.Record.{Record}
use Rattle.step_record.specs.Forms.{records_of as records_by}
use Rattle.step_record.specs.declared.forms.Form.{Form}
use Rattle.step_record.specs.declared.forms.Line.{Line}
use Rattle.audit_rules.specs.StepTexts.{AreLinesOf, IsLineOf, form_of, lines_text, records_of}
use Rattle.audit_readers.specs.Steps.{Reads}
use Rattle.audit_readers.specs.Windows.{too_long}
use Rattle.audit_texts.specs.SoFar.{StepsSoFar, AreBehind, StandsIn, RecordStands, StandsNow, KeepsLine, records_left}
use Rattle.audit_texts.specs.declared.recorded.Recorded.{Recorded}
use Rattle.audit_texts.proofs.ConsoleRead.{is_long}
use Rattle.audit_texts.proofs.StepsRead.{read_by, read_to, none_here, kept_some}

-- ---- a record that is known

pub stands_in : (c : Recorded) (s : SourceState) (text : List ℕ) (told : List Record) (x : Record) → c.next ≡ Some x → StepsSoFar c s text told → StandsIn text told c.at x
stands_in c s text told x next h =
    let l = h.line x next in
    let left = records_left c.next c.count in
    let later = replicate (c.count - 1) x in
    let whole : told ++ left ≡ (records_of l.before ++ l.part) ++ left =
    h.told_are ∙ ap records_of l.split ∙ flat_map-append records_by l.before (l.last ∷ []) ∙ ap (λ (rs : List Record). records_of l.before ++ rs) l.are ∙ sym (append_assoc (records_of l.before) l.part left) in
    record {
      before = l.before;
      last = l.last;
      rest = h.rest;
      body = h.body ∙ ap (λ (ls : List Line). lines_text ls ++ h.rest) l.split;
      are = subst (AreLinesOf (form_of text)) l.split h.are;
      place = l.place;
      part = l.part;
      later = later;
      told_are = append_cancel_right told (records_of l.before ++ l.part) left whole;
      of_last = l.are ∙ ap (λ (o : Option Record). l.part ++ records_left o c.count) next;
    }

pub known_stands_in : (c : Recorded) (s : SourceState) → (c.next ≡ None → ⊥) → StandsNow c.next c c s
known_stands_in c s some = λ text told h short. by_next text told h c.next refl where
  by_next : (text : List ℕ) (told : List Record) → StepsSoFar c s text told → (o : Option Record) → c.next ≡ o → RecordStands c.next text told c.at
  by_next text told h None e = absurd (some e)
  by_next text told h (Some x) e = subst (λ (o : Option Record). RecordStands o text told c.at) (sym e) (stands_in c s text told x e h)

-- ---- the place behind what was told

abbrev pub behind_told : (c : Recorded) (s : SourceState) (text : List ℕ) (told : List Record) (at : ℕ) → at ≡ c.reader.place → c.next ≡ None → StepsSoFar c s text told → AreBehind text told at
behind_told c s text told at is none h = record {
  lines = h.lines;
  rest = h.rest;
  body = h.body;
  are = h.are;
  told_are = sym (append-nil told) ∙ ap (λ (o : Option Record). told ++ records_left o c.count) (sym none) ∙ h.told_are;
  place = is ∙ h.place;
}

-- ---- the line that comes next

pub line_stands : (found : Option Line) (old mid now : Recorded) (s t : SourceState) → old.next ≡ None → Reads old.reader mid.reader s t found → mid.next ≡ old.next → mid.count ≡ old.count
    → now.reader ≡ mid.reader → now.at ≡ old.reader.place → IfSome found (λ l. KeepsLine now l) → (found ≡ None → now ≡ mid) → StandsNow now.next old now s
line_stands None old mid now s t none read next count same starts keeps stays = λ text told c short.
    let nothing : now.next ≡ None = ap (λ (r : Recorded). r.next) (stays refl) ∙ next ∙ none in
    subst (λ (o : Option Record). RecordStands o text told now.at) (sym nothing)
    (record { behind = behind_told old s text told now.at starts none c; none = none_here old.reader mid.reader s t (form_of text) c.lines c.rest c.form c.last c.follows read })
line_stands (Some line) old mid now s t none read next count same starts keeps stays = λ text told c short.
    let may : IsLineOf (form_of text) line = subst (λ (f : Form). IsLineOf f line) c.form read.may.is in
    let x = kept_some (form_of text) now line may keeps in
    subst (λ (o : Option Record). RecordStands o text told now.at) (sym x.1)
    (stands_in now t text told x.0 x.1 (read_by (Some line) old mid now s t none read next count same starts keeps stays text told c))

-- no text that is not too long was read so far
pub long_stands : (found : Option Record) (old now : Recorded) (s : SourceState) → too_long ≤ old.reader.place → StandsNow found old now s
long_stands found old now s long = λ text told c short.
    let within = is_long old.reader.window s old.reader.place text (read_to old s text told c) in
    absurd (short (omega (arith, long, within)))
