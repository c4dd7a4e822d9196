-- The steps, as far as they were read.
use Rattle.std.proofs.Common.{◌≡◌, ◌≤◌, ◌-◌, ◌⊎◌, inl, inr, ℕ, suc, Bool, true, false, cond, List, [], ◌∷◌, ◌++◌, append_assoc, append-nil, length, length-append, drop, take, replicate, Some, None, IfSome, sym, refl, ap, ◌∙◌, subst, arith}
use Rattle.std.specs.declared.option.Option.{Option}
use Rattle.std.specs.Io.KnownBytes.{Consumes, Keeps}
use Rattle.std.specs.List.{AllByRecursion}
use Rattle.std.specs.Str.{bytes_eq}
use Rattle.std.proofs.lemmas.List.{append_cancel_left}
use Rattle.std.proofs.lemmas.List.Concat.{flat_map-append}
use Rattle.outside.specs.Causes.{SourceState}
use Rattle.step_line.specs.declared.Bits.{Bits}
use Rattle.step_line.specs.declared.Record.{Record}
use Rattle.step_line.specs.declared.Record.TheVariants as kinds
use Rattle.step_record.specs.Forms.{line_text, records_of as records_by}
use Rattle.step_record.specs.declared.forms.Form.{Form}
use Rattle.step_record.specs.declared.forms.Form.TheVariants.{One, Two}
use Rattle.step_record.specs.declared.forms.Line.{Line}
use Rattle.step_record.specs.declared.forms.Line.TheVariants as line_kinds
use Rattle.audit_rules.specs.StepTexts.{AreLinesOf, IsLineOf, IsStepText, FollowsLast, form_of, body_of, heading, last_of, lines_text, records_of}
use Rattle.audit_rules.proofs.Lines.{GoesFurther, go_on, lines_first, line_is_some, one_goes_further, one_line_here}
use Rattle.audit_rules.proofs.Replies.{all_second}
use Rattle.audit_rules.proofs.Written.{begins_version}
use Rattle.audit_readers.specs.Steps.{StepsRead, Opens, Reads, ReadsLine, ReadsNone, IsWhereItWas}
use Rattle.audit_readers.specs.Windows.{Window, ahead, too_long}
use Rattle.audit_texts.specs.SoFar.{StepsSoFar, StaysRecorded, EndsSteps, AreRecords, RecordsAll, FindsRecord, StepsGoOn, IsReadTo, records_left, next_of, KeepsLine}
use Rattle.audit_texts.proofs.ConsoleRead.{is_long}
use Rattle.audit_texts.specs.declared.recorded.Recorded.{Recorded}

-- ---- what follows

pub record Followed (w : Window) (s : SourceState) (before bytes : List ℕ) : Type 0 where
  pub rest : List ℕ
  pub split : before ≡ bytes ++ rest
  pub follows : ahead w s ≡ Some rest

follows_on : (w v : Window) (s t : SourceState) (before bytes : List ℕ) → ahead w s ≡ Some before → Consumes (ahead w s) (ahead v t) bytes → Followed v t before bytes
follows_on w v s t before bytes e taken = by_ahead (ahead v t) refl (subst (λ (o : Option (List ℕ)). Consumes o (ahead v t) bytes) e taken) where
  by_ahead : (o : Option (List ℕ)) → ahead v t ≡ o → Consumes (Some before) o bytes → Followed v t before bytes
  by_ahead None f c = absurd c
  by_ahead (Some rest) f c = record { rest = rest; split = c; follows = f }

pub still_follows : (w v : Window) (s t : SourceState) (before : List ℕ) → ahead w s ≡ Some before → Keeps (ahead w s) (ahead v t) → ahead v t ≡ Some before
still_follows w v s t before e kept = by_ahead (ahead v t) refl (subst (λ (o : Option (List ℕ)). Keeps o (ahead v t)) e kept) where
  by_ahead : (o : Option (List ℕ)) → ahead v t ≡ o → Keeps (Some before) o → ahead v t ≡ Some before
  by_ahead None f k = absurd k
  by_ahead (Some rest) f k = f ∙ ap Some k

-- ---- opening

pub steps_open : (r : StepsRead) (at : ℕ) (before after : SourceState) (text : List ℕ) → before.left ≡ Some text → Opens r before after → StepsSoFar (record { reader = r; next = None; count = 0; at = at }) after text []
steps_open r at before after text known o =
    let place : r.place ≡ length (heading (form_of text)) = o.place ∙ ap (λ (f : Form). length (heading f)) (o.form text known) in
    record {
      lines = [];
      rest = body_of text;
      body = refl;
      follows = o.text text known;
      are = record { each = tt; apart = tt };
      form = o.form text known;
      last = o.last;
      place = omega (arith, place);
      told_are = refl;
      line = λ x e. absurd (let f : None ≡ Some x = e in cc);
    }

-- ---- a line

last_behind : (ls : List Line) (l : Line) → last_of (ls ++ l ∷ []) ≡ Some l
last_behind [] l = refl
last_behind (x ∷ []) l = refl
last_behind (x ∷ y ∷ more) l = last_behind (y ∷ more) l

text_more : (ls : List Line) (l : Line) → lines_text (ls ++ l ∷ []) ≡ lines_text ls ++ line_text l
text_more ls l = flat_map-append line_text ls (l ∷ []) ∙ ap (λ (b : List ℕ). lines_text ls ++ b) (append-nil (line_text l))

run_left : (form : Form) (n : ℕ) (b : Bits) → IsLineOf form (line_kinds.Run n b) → kinds.Event b ∷ replicate (n - 1) (kinds.Event b) ≡ replicate n (kinds.Event b)
run_left One n b is = absurd is
run_left Two n b is =
    let some = is.0 in
    let e : n ≡ suc (n - 1) = omega (arith, some) in
    sym (ap (λ (k : ℕ). replicate k (kinds.Event b)) e)

-- what is left of a line that was read is all its records
left_of : (form : Form) (r : Recorded) (l : Line) → IsLineOf form l → KeepsLine r l → records_left r.next r.count ≡ records_by l
left_of form r (line_kinds.One x) is k = rw (k.0, k.1) refl
left_of form r (line_kinds.Run n b) is k = rw (k.0, k.1) (run_left form n b is)
left_of form r line_kinds.Version is k = absurd is

pub line_kept : (old mid now : Recorded) (s t : SourceState) (text : List ℕ) (told : List Record) (line : Line) → old.next ≡ None → StepsSoFar old s text told → ReadsLine old.reader mid.reader s t line
    → now.reader ≡ mid.reader → now.at ≡ old.reader.place → KeepsLine now line → StepsSoFar now t text told
line_kept old mid now s t text told line none c read same starts keeps =
    let f = follows_on old.reader.window mid.reader.window s t c.rest (line_text line) c.follows read.text in
    let may : IsLineOf (form_of text) line = subst (λ (f : Form). IsLineOf f line) c.form read.may.is in
    let behind : FollowsLast (form_of text) (last_of c.lines) line =
    subst (λ (f : Form). FollowsLast f (last_of c.lines) line) c.form (subst (λ (o : Option Line). FollowsLast old.reader.form o line) c.last read.may.follows) in
    let place = c.place in
    let long = length-append (lines_text c.lines) (line_text line) in
    let all : length (lines_text (c.lines ++ line ∷ [])) ≡ length (lines_text c.lines ++ line_text line) = ap length (text_more c.lines line) in
    let here = read.place in
    let at : now.reader.place ≡ mid.reader.place = ap (λ (r : StepsRead). r.place) same in
    let before : told ≡ records_of c.lines = sym (append-nil told) ∙ ap (λ (o : Option Record). told ++ records_left o old.count) (sym none) ∙ c.told_are in
    record {
      lines = c.lines ++ line ∷ [];
      rest = f.rest;
      body = c.body ∙ ap (λ (b : List ℕ). lines_text c.lines ++ b) f.split ∙ sym (append_assoc (lines_text c.lines) (line_text line) f.rest) ∙ ap (λ (b : List ℕ). b ++ f.rest) (sym (text_more c.lines line));
      follows = ap (λ (r : StepsRead). ahead r.window t) same ∙ f.follows;
      are = (go_on (form_of text) c.lines line).1 (c.are, may, behind);
      form = ap (λ (r : StepsRead). r.form) same ∙ read.form ∙ c.form;
      last = ap (λ (r : StepsRead). r.last) same ∙ read.last ∙ sym (last_behind c.lines line);
      place = omega (arith, place, long, all, here, at);
      told_are =
          ap (λ (rs : List Record). told ++ rs) (left_of (form_of text) now line may keeps)
          ∙ ap (λ (rs : List Record). rs ++ records_by line) before
          ∙ ap (λ (rs : List Record). records_of c.lines ++ rs) (sym (append-nil (records_by line)))
          ∙ sym (flat_map-append records_by c.lines (line ∷ []));
      line = λ x e. record { before = c.lines; last = line; split = refl; place = starts ∙ c.place; part = []; are = append-nil (records_by line) ∙ sym (left_of (form_of text) now line may keeps) };
    }

-- no line was read
pub none_kept : (old now : Recorded) (s t : SourceState) (text : List ℕ) (told : List Record) → IsWhereItWas old.reader now.reader s t → now.next ≡ old.next → now.count ≡ old.count
    → ((x : Record) → old.next ≡ Some x → now.at ≡ old.at) → StepsSoFar old s text told → StepsSoFar now t text told
none_kept old now s t text told is next count starts c = record {
  lines = c.lines;
  rest = c.rest;
  body = c.body;
  follows = still_follows old.reader.window now.reader.window s t c.rest c.follows is.stays.kept;
  are = c.are;
  form = is.form ∙ c.form;
  last = is.last ∙ c.last;
  place = is.place ∙ c.place;
  told_are = rw (next, count) c.told_are;
  line = λ x e.
      let here : old.next ≡ Some x = sym next ∙ e in
      let l = c.line x here in
      record {
        before = l.before;
        last = l.last;
        split = l.split;
        place = starts x here ∙ l.place;
        part = l.part;
        are = l.are ∙ ap (λ (o : Option Record). l.part ++ records_left o old.count) (sym next) ∙ ap (λ (n : ℕ). l.part ++ records_left now.next n) (sym count);
      };
}

-- ---- a record is told

one_less : (n : ℕ) (r : Record) → (n - 1 ≡ 0 → ⊥) → replicate (n - 1) r ≡ r ∷ replicate (n - 1 - 1) r
one_less n r some = let e : n - 1 ≡ suc (n - 1 - 1) = omega (arith, some) in ap (λ (k : ℕ). replicate k r) e

pub one_told : (c : Recorded) (s : SourceState) (text : List ℕ) (told : List Record) (r : Record) → c.next ≡ Some r → (c.count - 1 ≡ 0 → ⊥) → StepsSoFar c s text told
    → StepsSoFar (record c { count = c.count - 1 }) s text (told ++ r ∷ [])
one_told c s text told r next some h = record {
  lines = h.lines;
  rest = h.rest;
  body = h.body;
  follows = h.follows;
  are = h.are;
  form = h.form;
  last = h.last;
  place = h.place;
  told_are =
      ap (λ (o : Option Record). (told ++ r ∷ []) ++ records_left o (c.count - 1)) next
      ∙ append_assoc told (r ∷ []) (r ∷ replicate (c.count - 1 - 1) r)
      ∙ ap (λ (rs : List Record). told ++ r ∷ rs) (sym (one_less c.count r some))
      ∙ ap (λ (o : Option Record). told ++ records_left o c.count) (sym next)
      ∙ h.told_are;
  line = λ x e.
      let l = h.line r next in
      record {
        before = l.before;
        last = l.last;
        split = l.split;
        place = l.place;
        part = l.part ++ r ∷ [];
        are =
            l.are
            ∙ ap (λ (o : Option Record). l.part ++ records_left o c.count) next
            ∙ ap (λ (rs : List Record). l.part ++ r ∷ rs) (one_less c.count r some)
            ∙ sym (append_assoc l.part (r ∷ []) (r ∷ replicate (c.count - 1 - 1) r))
            ∙ ap (λ (o : Option Record). (l.part ++ r ∷ []) ++ records_left o (c.count - 1)) (sym next);
      };
}

-- ---- the end

-- the text is these lines, and all their records are told
pub all_told : (c : Recorded) (s : SourceState) (text : List ℕ) (told : List Record) → c.next ≡ None → ahead c.reader.window s ≡ Some [] → (h : StepsSoFar c s text told) → IsStepText text h.lines × (records_of h.lines ≡ told)
all_told c s text told none over h =
    let same : Some h.rest ≡ Some [] = sym h.follows ∙ over in
    let rest : h.rest ≡ [] = cc in (
      record { are = h.are; body = h.body ∙ ap (λ (b : List ℕ). lines_text h.lines ++ b) rest ∙ append-nil (lines_text h.lines) },
      sym h.told_are ∙ ap (λ (o : Option Record). told ++ records_left o c.count) none ∙ append-nil told,
    )

-- ---- the place

heading_first : (text : List ℕ) → text ≡ heading (form_of text) ++ body_of text
heading_first text = by_form (bytes_eq (take (length (heading Two)) text) (heading Two)) refl where
  by_form : (b : Bool) → bytes_eq (take (length (heading Two)) text) (heading Two) ≡ b → text ≡ heading (cond b Two One) ++ drop (length (heading (cond b Two One))) text
  by_form true e = begins_version text e
  by_form false e = refl

-- the text was read up to the reader's place
pub read_to : (c : Recorded) (s : SourceState) (text : List ℕ) (told : List Record) → StepsSoFar c s text told → IsReadTo c.reader.window s c.reader.place text
read_to c s text told h =
    let place = h.place in
    let long = length-append (heading (form_of text)) (lines_text h.lines) in (
      heading (form_of text) ++ lines_text h.lines,
      record {
        rest = h.rest;
        whole = heading_first text ∙ ap (λ (b : List ℕ). heading (form_of text) ++ b) h.body ∙ sym (append_assoc (heading (form_of text)) (lines_text h.lines) h.rest);
        follows = h.follows;
        count = omega (arith, place, long);
      },
    )

-- ---- what the reader does

pub read_by : (found : Option Line) (old mid now : Recorded) (s t : SourceState) → old.next ≡ None → Reads old.reader mid.reader s t found → mid.next ≡ old.next → mid.count ≡ old.count
    → now.reader ≡ mid.reader → now.at ≡ old.reader.place → IfSome found (λ l. KeepsLine now l) → (found ≡ None → now ≡ mid) → StaysRecorded old now s t
read_by None old mid now s t none read next count same starts keeps stays = λ text told c.
    subst (λ (r : Recorded). StepsSoFar r t text told) (sym (stays refl))
    (none_kept old mid s t text told read.where_it_was next count (λ x e. absurd (let f : None ≡ Some x = sym none ∙ e in cc)) c)
read_by (Some line) old mid now s t none read next count same starts keeps stays = λ text told c. line_kept old mid now s t text told line none c read same starts keeps

pub ends_by : (b over : Bool) (old now : Recorded) (s t : SourceState) → IsWhereItWas old.reader now.reader s t → now.next ≡ old.next → now.count ≡ old.count
    → ((text : List ℕ) → ahead now.reader.window t ≡ Some text → (over ≡ true) → text ≡ []) → (b ≡ true → (over ≡ true) × (now.next ≡ None)) → EndsSteps b old now s t
ends_by b over old now s t is next count whole all = λ text told c.
    let still : Recorded = record now { at = old.at } in
    let d = none_kept old still s t text told is next count (λ x e. refl) c in
    record {
      read = read_to still t text told d;
      all = λ yes.
          let rest : d.rest ≡ [] = whole d.rest d.follows (all yes).0 in
          let e = all_told still t text told (all yes).1 (d.follows ∙ ap Some rest) d in
          record { lines = d.lines; are_lines = e.0; are = e.1 };
    }

-- ---- what whole steps have next

-- lines behind those that were read, and their records behind those that were told
pub record GoFurther (left : List Record) (form : Form) (lines : List Line) (rest : List ℕ) (more : List Record) : Type 0 where
  pub later : List Line
  pub are : AreLinesOf form (lines ++ later)
  pub text : rest ≡ lines_text later
  pub records : more ≡ left ++ records_of later

go_further : (c : Recorded) (s : SourceState) (text : List ℕ) (told more : List Record) → (h : StepsSoFar c s text told) → AreRecords text (told ++ more) → GoFurther (records_left c.next c.count) (form_of text) h.lines h.rest more
go_further c s text told more h w =
    by_further (one_goes_further (form_of text) h.lines w.lines h.rest [] h.are.each w.are_lines.are.each (sym h.body ∙ w.are_lines.body ∙ sym (append-nil (lines_text w.lines)))) where
      told_more : (later : List Line) → w.lines ≡ h.lines ++ later → more ≡ records_left c.next c.count ++ records_of later
      told_more later e =
          append_cancel_left told more (records_left c.next c.count ++ records_of later)
          (sym w.are ∙ ap records_of e ∙ flat_map-append records_by h.lines later ∙ ap (λ (rs : List Record). rs ++ records_of later) (sym h.told_are)
          ∙ append_assoc told (records_left c.next c.count) (records_of later))

      on : (later : List Line) → w.lines ≡ h.lines ++ later → h.rest ≡ lines_text later → GoFurther (records_left c.next c.count) (form_of text) h.lines h.rest more
      on later e text_is = record { later = later; are = subst (AreLinesOf (form_of text)) e w.are_lines.are; text = text_is; records = told_more later e }

      by_more : (ms : List Line) → h.lines ≡ w.lines ++ ms → [] ≡ lines_text ms ++ h.rest → GoFurther (records_left c.next c.count) (form_of text) h.lines h.rest more
      by_more [] e none = on [] (sym e' ∙ sym (append-nil h.lines)) (sym none) where
        e' : h.lines ≡ w.lines
        e' = e ∙ append-nil w.lines
      by_more (l ∷ ms) e none =
          line_is_some (form_of text) l (lines_text ms ++ h.rest) (all_second (IsLineOf (form_of text)) w.lines (l ∷ ms) (subst (AllByRecursion (IsLineOf (form_of text))) e h.are.each)).0
          (none ∙ append_assoc (line_text l) (lines_text ms) h.rest)

      by_further : GoesFurther h.lines w.lines h.rest [] ⊎ GoesFurther w.lines h.lines [] h.rest → GoFurther (records_left c.next c.count) (form_of text) h.lines h.rest more
      by_further (inl g) = on g.more g.lines (g.text ∙ append-nil (lines_text g.more))
      by_further (inr g) = by_more g.more g.lines g.text

-- the record that was read and is not told comes next
pub record_next : (c : Recorded) (s : SourceState) (text : List ℕ) (told more : List Record) (x : Record) → StepsSoFar c s text told → AreRecords text (told ++ more) → c.next ≡ Some x → (rest : List Record) × (more ≡ x ∷ rest)
record_next c s text told more x h w next =
    let g = go_further c s text told more h w in
    (replicate (c.count - 1) x ++ records_of g.later, g.records ∙ ap (λ (o : Option Record). records_left o c.count ++ records_of g.later) next)

pub some_recorded : (c : Recorded) (s : SourceState) → (c.next ≡ None → ⊥) → FindsRecord c.next c s
some_recorded c s some = λ text told more h all. by_next text told more h all c.next refl where
  by_next : (text : List ℕ) (told more : List Record) → StepsSoFar c s text told → RecordsAll text (told ++ more) → (o : Option Record) → c.next ≡ o → c.next ≡ next_of more
  by_next text told more h all None e = absurd (some e)
  by_next text told more h all (Some x) e = e ∙ sym (ap next_of (record_next c s text told more x h all.are e).1)

-- ---- the line that comes next

-- the first line behind those that were read may stand there
may_stand : (form : Form) (lines : List Line) (l : Line) (later : List Line) → AreLinesOf form (lines ++ l ∷ later) → IsLineOf form l × FollowsLast form (last_of lines) l
may_stand form lines l later are =
    let g = (go_on form lines l).0 (lines_first form (lines ++ l ∷ []) later (subst (AreLinesOf form) (sym (append_assoc lines (l ∷ []) later)) are)) in
    (g.1, g.2)

pub kept_some : (form : Form) (r : Recorded) (l : Line) → IsLineOf form l → KeepsLine r l → (x : Record) × (r.next ≡ Some x)
kept_some form r (line_kinds.One x) is k = (x, k.0)
kept_some form r (line_kinds.Run n b) is k = (kinds.Event b, k.0)
kept_some form r line_kinds.Version is k = absurd is

-- of a line that was read the first record comes next
kept_next : (form : Form) (r : Recorded) (l : Line) (rest : List Record) → IsLineOf form l → KeepsLine r l → r.next ≡ next_of (records_by l ++ rest)
kept_next form r l rest is k =
    let x = kept_some form r l is k in
    x.1 ∙ sym (ap (λ (o : Option Record). next_of (records_left o r.count ++ rest)) x.1) ∙ ap (λ (rs : List Record). next_of (rs ++ rest)) (left_of form r l is k)

-- no line that may stands behind those that were read
pub none_here : (old now : StepsRead) (s t : SourceState) (form : Form) (lines : List Line) (rest : List ℕ) → old.form ≡ form → old.last ≡ last_of lines → ahead old.window s ≡ Some rest → ReadsNone old now s t
    → (l : Line) (more : List ℕ) → rest ≡ line_text l ++ more → AreLinesOf form (lines ++ l ∷ []) → ⊥
none_here old now s t form lines rest form_is last_is follows read l more text are =
    let may = may_stand form lines l [] are in
    let here : now.form ≡ form = read.where_it_was.form ∙ form_is in
    let last : now.last ≡ last_of lines = read.where_it_was.last ∙ last_is in
    let behind : FollowsLast now.form now.last l = subst (λ (f : Form). FollowsLast f now.last l) (sym here) (subst (λ (o : Option Line). FollowsLast form o l) (sym last) may.1) in
    read.none rest more l (still_follows old.window now.window s t rest follows read.where_it_was.stays.kept) (record { is = subst (λ (f : Form). IsLineOf f l) (sym here) may.0; follows = behind }) text

none_read : (old now : StepsRead) (s t : SourceState) (form : Form) (lines later : List Line) (rest : List ℕ) → old.form ≡ form → old.last ≡ last_of lines → ahead old.window s ≡ Some rest
    → ReadsNone old now s t → AreLinesOf form (lines ++ later) → rest ≡ lines_text later → later ≡ []
none_read old now s t form lines [] rest form_is last_is follows read are text = refl
none_read old now s t form lines (l ∷ later) rest form_is last_is follows read are text =
    absurd (none_here old now s t form lines rest form_is last_is follows read l (lines_text later) text
    (lines_first form (lines ++ l ∷ []) later (subst (AreLinesOf form) (sym (append_assoc lines (l ∷ []) later)) are)))

line_read : (old now : StepsRead) (s t : SourceState) (form : Form) (lines later : List Line) (rest : List ℕ) (line : Line) → old.form ≡ form → ahead old.window s ≡ Some rest
    → ReadsLine old now s t line → AreLinesOf form (lines ++ later) → rest ≡ lines_text later → (more : List Line) × (later ≡ line ∷ more) × IsLineOf form line
line_read old now s t form lines later rest line form_is follows read are text =
    let f = follows_on old.window now.window s t rest (line_text line) follows read.text in
    let is : IsLineOf form line = subst (λ (f : Form). IsLineOf f line) form_is read.may.is in
    by_later later f.rest are (sym text ∙ f.split) is where
      by_later : (ls : List Line) (behind : List ℕ) → AreLinesOf form (lines ++ ls) → lines_text ls ≡ line_text line ++ behind → IsLineOf form line → (more : List Line) × (ls ≡ line ∷ more) × IsLineOf form line
      by_later [] behind are e is = line_is_some form line behind is e
      by_later (l ∷ ls) behind are e is =
          let same = one_line_here form line l behind (lines_text ls) is (may_stand form lines l ls are).0 (sym e) in
          (ls, ap (λ k. k ∷ ls) (sym same.line), is)

pub line_found : (found : Option Line) (old mid now : Recorded) (s t : SourceState) → old.next ≡ None → Reads old.reader mid.reader s t found → mid.next ≡ old.next → IfSome found (λ l. KeepsLine now l) → (found ≡ None → now ≡ mid)
    → FindsRecord now.next old s
line_found None old mid now s t none read next keeps stays = λ text told more h all.
    let g = go_further old s text told more h all.are in
    let no_later : g.later ≡ [] = none_read old.reader mid.reader s t (form_of text) h.lines g.later h.rest h.form h.last h.follows read g.are g.text in
    let all_told : more ≡ [] = g.records ∙ ap (λ (o : Option Record). records_left o old.count ++ records_of g.later) none ∙ ap records_of no_later in
    ap (λ (r : Recorded). r.next) (stays refl) ∙ next ∙ none ∙ sym (ap next_of all_told)
line_found (Some line) old mid now s t none read next keeps stays = λ text told more h all.
    let g = go_further old s text told more h all.are in
    let f = line_read old.reader mid.reader s t (form_of text) h.lines g.later h.rest line h.form h.follows read g.are g.text in
    let is : more ≡ records_by line ++ records_of f.0 = g.records ∙ ap (λ (o : Option Record). records_left o old.count ++ records_of g.later) none ∙ ap records_of f.1 in
    kept_next (form_of text) now line (records_of f.0) f.2 keeps ∙ sym (ap next_of is)

-- no text that is not too long was read so far
pub long_not_found : (c : Recorded) (s : SourceState) (found : Option Record) → too_long ≤ c.reader.place → FindsRecord found c s
long_not_found c s found long = λ text told more h all.
    let within = is_long c.reader.window s c.reader.place text (read_to c s text told h) in
    absurd (all.short (omega (arith, long, within)))

-- ---- what follows the end

some_records : {A : Type 0} (form : Form) (l : Line) (rest : List Record) → IsLineOf form l → records_by l ++ rest ≡ [] → A
some_records form (line_kinds.One x) rest is e = absurd cc
some_records form (line_kinds.Run n b) rest is e = absurd (let f : kinds.Event b ∷ (replicate (n - 1) (kinds.Event b) ++ rest) ≡ [] = ap (λ (rs : List Record). rs ++ rest) (run_left form n b is) ∙ e in cc)
some_records form line_kinds.Version rest is e = absurd is

no_lines : (form : Form) (lines later : List Line) → AreLinesOf form (lines ++ later) → records_of later ≡ [] → later ≡ []
no_lines form lines [] are none = refl
no_lines form lines (l ∷ later) are none = some_records form l (records_of later) (may_stand form lines l later are).0 none

nothing_left : (o : Option Record) (n : ℕ) (rs : List Record) → [] ≡ records_left o n ++ rs → (o ≡ None) × (rs ≡ [])
nothing_left None n rs e = (refl, sym e)
nothing_left (Some x) n rs e = absurd cc

pub goes_on_by : (b over : Bool) (old now : Recorded) (s t : SourceState) → IsWhereItWas old.reader now.reader s t → ((text : List ℕ) → ahead now.reader.window t ≡ Some text → text ≡ [] → over ≡ true)
    → (over ≡ true → old.next ≡ None → b ≡ true) → StepsGoOn b old s
goes_on_by b over old now s t is whole all_said = λ other text told h all.
    let g = go_further old s text told [] h (subst (AreRecords text) (sym (append-nil told)) all) in
    let left = nothing_left old.next old.count (records_of g.later) g.records in
    let rest : h.rest ≡ [] = g.text ∙ ap lines_text (no_lines (form_of text) h.lines g.later g.are left.1) in
    let here = still_follows old.reader.window now.reader.window s t h.rest h.follows is.stays.kept in
    let e : true ≡ false = sym (all_said (whole h.rest here rest) left.0) ∙ other in
    cc
