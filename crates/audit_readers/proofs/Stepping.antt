-- Lines of a step text, looked at through a window.
use Rattle.std.proofs.Common.{◌≡◌, ◌≤◌, ◌+◌, ◌⊎◌, inl, inr, ℕ, Bool, true, false, cond, List, [], ◌∷◌, ◌++◌, length, take, drop, append-nil, length-append, Some, None, refl, sym, ap, ◌∙◌, subst, arith, codes, ◌↔◌}
use Rattle.std.specs.Str.{bytes_eq}
use Rattle.std.specs.declared.option.Option.{Option}
use Rattle.std.specs.Io.KnownBytes.{Keeps, IsAtEnd, prepend_known}
use Rattle.outside.specs.Causes.{SourceState}
use Rattle.step_record.specs.Forms.{line_text, run_text, full_run}
use Rattle.step_record.specs.declared.forms.Form.{Form}
use Rattle.step_record.specs.declared.forms.Form.TheVariants.{One, Two}
use Rattle.step_record.specs.declared.forms.Line.{Line}
use Rattle.step_record.specs.declared.forms.Line.TheVariants as line_kinds
use Rattle.step_record.proofs.Appended.{short32}
use Rattle.step_record.proofs.Longest.{line_within, event_within}
use Rattle.audit_rules.specs.StepTexts.{IsLineOf, heading, form_of, body_of}
use Rattle.audit_rules.proofs.Written.{begins_version}
use Rattle.audit_readers.specs.Steps.{StepsRead, Opens, MayStand, ReadsNone}
use Rattle.audit_readers.specs.Windows.{Window, FillsUp, ahead, look_ahead}

-- ---- a window shows enough

-- a front of a text that is no longer than what is shown
pub front_shown : (xs ys front rest : List ℕ) → xs ++ ys ≡ front ++ rest → length front ≤ length xs → xs ≡ front ++ drop (length front) xs
front_shown xs ys [] rest e short = refl
front_shown [] ys (c ∷ front) rest e short = absurd (omega (arith, short))
front_shown (x ∷ xs) ys (c ∷ front) rest e short =
    let same : x ≡ c = cc in
    let tails : xs ++ ys ≡ front ++ rest = cc in
    let less : length front ≤ length xs = omega (arith, short) in
    ap (λ (t : List ℕ). x ∷ t) (front_shown xs ys front rest tails less) ∙ ap (λ (k : ℕ). k ∷ (front ++ drop (length front) xs)) same

-- what follows, seen through a window: what waits, and something behind that, unless the end was read
pub record Seen (w : Window) (text : List ℕ) : Type 0 where
  pub behind : List ℕ
  pub is : text ≡ w.waiting ++ behind
  pub enough : (look_ahead ≤ length w.waiting) ⊎ (behind ≡ [])

pub seen_by : (w : Window) (left : Option (List ℕ)) (text : List ℕ) → (look_ahead ≤ length w.waiting) ⊎ IsAtEnd left → prepend_known w.waiting left ≡ Some text → Seen w text
seen_by w None text enough e = absurd cc
seen_by w (Some ys) text (inl many) e = record { behind = ys; is = let f : w.waiting ++ ys ≡ text = cc in sym f; enough = inl many }
seen_by w (Some ys) text (inr over) e = record { behind = ys; is = let f : w.waiting ++ ys ≡ text = cc in sym f; enough = inr over }

pub seen : (v w : Window) (s t : SourceState) (text : List ℕ) → FillsUp v w s t → ahead w t ≡ Some text → Seen w text
seen v w s t text f e = seen_by w t.left text (by f.enough) e where
  by : (look_ahead ≤ length w.waiting) ⊎ (w.ended ≡ true) → (look_ahead ≤ length w.waiting) ⊎ IsAtEnd t.left
  by (inl many) = inl many
  by (inr over) = inr (f.stays.known over)

-- a short front of the text is one of what waits
pub front_waits : (w : Window) (text front rest : List ℕ) → Seen w text → length front ≤ look_ahead → text ≡ front ++ rest → w.waiting ≡ front ++ drop (length front) w.waiting
front_waits w text front rest s short e = by s.enough where
  by : (look_ahead ≤ length w.waiting) ⊎ (s.behind ≡ []) → w.waiting ≡ front ++ drop (length front) w.waiting
  by (inl many) = front_shown w.waiting s.behind front rest (sym s.is ∙ e) (omega (arith, many, short))
  by (inr none) =
      let whole : w.waiting ++ [] ≡ front ++ rest = ap (λ (t : List ℕ). w.waiting ++ t) (sym none) ∙ sym s.is ∙ e in
      let len : length w.waiting ≡ length front + length rest = ap length (sym (append-nil w.waiting) ∙ whole) ∙ length-append front rest in
      front_shown w.waiting [] front rest whole (omega (arith, len))

-- ---- lines

run_within : (n : ℕ) → n ≤ full_run → (t : List ℕ) → length t ≤ 7 → length (codes "R " ++ codes "" ++ t) ≤ look_ahead
run_within n few t short = simp length-append (omega (arith, short))

pub line_short : (form : Form) (line : Line) → IsLineOf form line → length (line_text line) ≤ look_ahead
unfolding run_text
line_short form (line_kinds.One r) is = let within = line_within r is in omega (arith, within)
line_short One (line_kinds.Run n b) is = absurd is
line_short Two (line_kinds.Run n b) is = simp length-append (omega (arith, short32 n (omega (arith, is.1)), event_within b is.2))
line_short form line_kinds.Version is = absurd is

pub none_stands : (old now : StepsRead) (s t : SourceState) → FillsUp old.window now.window s t → now.form ≡ old.form → now.last ≡ old.last → now.place ≡ old.place
    → ((line : Line) (rest : List ℕ) → MayStand now line → now.window.waiting ≡ line_text line ++ rest → ⊥) → ReadsNone old now s t
none_stands old now s t f form last place none = record {
  where_it_was = record { stays = f.stays; place = place; last = last; form = form };
  none = λ text rest line e may is. none line (drop (length (line_text line)) now.window.waiting) may (front_waits now.window text (line_text line) rest (seen old.window now.window s t text f e) (line_short now.form line may.is) is);
  same = f.same;
}

-- ---- the end

pub none_waits : (v w : Window) (s t : SourceState) (text : List ℕ) → FillsUp v w s t → ahead w t ≡ Some text → (w.waiting ≡ []) ↔ (text ≡ [])
none_waits v w s t text f e = by (seen v w s t text f e) where
  by : Seen w text → (w.waiting ≡ []) ↔ (text ≡ [])
  by x = (to x.enough, λ none. from w.waiting (sym x.is ∙ none)) where
    from : (xs : List ℕ) → xs ++ x.behind ≡ [] → xs ≡ []
    from [] e = refl
    from (y ∷ ys) e = absurd cc

    to : (look_ahead ≤ length w.waiting) ⊎ (x.behind ≡ []) → w.waiting ≡ [] → text ≡ []
    to (inl many) none = absurd (let len : length w.waiting ≡ 0 = ap length none in omega (arith, many, len))
    to (inr over) none = x.is ∙ ap (λ (t : List ℕ). w.waiting ++ t) over ∙ append-nil w.waiting ∙ none

-- ---- the heading

same_form : (w : Window) (text : List ℕ) → Seen w text → form_of text ≡ form_of w.waiting
same_form w text s = by (bytes_eq (take 4 w.waiting) (codes "V 2\n")) (bytes_eq (take 4 text) (codes "V 2\n")) refl refl where
  by : (a b : Bool) → bytes_eq (take 4 w.waiting) (codes "V 2\n") ≡ a → bytes_eq (take 4 text) (codes "V 2\n") ≡ b → cond b Two One ≡ cond a Two One
  by true true e f = refl
  by false false e f = refl
  by true false e f =
      let begins = begins_version w.waiting e in
      let whole : text ≡ codes "V 2\n" ++ (drop 4 w.waiting ++ s.behind) = s.is ∙ ap (λ (t : List ℕ). t ++ s.behind) begins in
      let is : bytes_eq (take 4 text) (codes "V 2\n") ≡ true = ap (λ (t : List ℕ). bytes_eq (take 4 t) (codes "V 2\n")) whole in
      absurd (let g : true ≡ false = sym is ∙ f in cc)
  by false true e f =
      let begins = front_waits w text (codes "V 2\n") (drop 4 text) s (omega arith) (begins_version text f) in
      let is : bytes_eq (take 4 w.waiting) (codes "V 2\n") ≡ true = ap (λ (t : List ℕ). bytes_eq (take 4 t) (codes "V 2\n")) begins in
      absurd (let g : true ≡ false = sym is ∙ e in cc)

heading_goes : (w x : Window) (form : Form) (ys : List ℕ) → form_of w.waiting ≡ form → x.waiting ≡ drop (length (heading form)) w.waiting
    → x.waiting ++ ys ≡ drop (length (heading form)) (w.waiting ++ ys)
heading_goes w x One ys form taken = ap (λ (t : List ℕ). t ++ ys) taken
heading_goes w x Two ys form taken =
    let begins = begins_version w.waiting (is_two (bytes_eq (take 4 w.waiting) (codes "V 2\n")) form) in
    ap (λ (t : List ℕ). t ++ ys) taken ∙ sym (ap (λ (t : List ℕ). drop 4 (t ++ ys)) begins)
  where
    is_two : (t : Bool) → cond t Two One ≡ Two → t ≡ true
    is_two true e = refl
    is_two false e = absurd cc

still_ahead : (o : Option (List ℕ)) (text : List ℕ) → Keeps (Some text) o → o ≡ Some text
still_ahead None text k = absurd k
still_ahead (Some ys) text k = ap (λ (t : List ℕ). Some t) k

some_left : (w x : Window) (form : Form) (left : Option (List ℕ)) (text : List ℕ) → prepend_known w.waiting left ≡ Some text → form_of w.waiting ≡ form
    → x.waiting ≡ drop (length (heading form)) w.waiting → form_of text ≡ form → prepend_known x.waiting left ≡ Some (body_of text)
some_left w x form None text e is taken same = absurd cc
some_left w x form (Some ys) text e is taken same =
    let f : w.waiting ++ ys ≡ text = cc in
    ap (λ (t : List ℕ). Some t) (heading_goes w x form ys is taken ∙ ap (λ (t : List ℕ). drop (length (heading form)) t) f ∙ ap (λ (g : Form). drop (length (heading g)) text) (sym same))

pub opened : (v w x : Window) (s t : SourceState) (form : Form) (count : ℕ) → v.waiting ≡ [] → FillsUp v w s t → form ≡ form_of w.waiting → count ≡ length (heading form)
    → x.waiting ≡ drop count w.waiting → x.ended ≡ w.ended → Opens (record { window = x; form = form; last = None; place = count }) s t
opened v w x s t form count none f is long taken ended = record {
  form = λ text e. is ∙ sym (same_form w text (seen v w s t text f (now text e)));
  text = λ text e. some_left w x form t.left text (now text e) (sym is) (taken ∙ ap (λ (n : ℕ). drop n w.waiting) long) (same_form w text (seen v w s t text f (now text e)) ∙ sym is);
  place = long;
  last = refl;
  known = λ e. f.stays.known (sym ended ∙ e);
  same = f.same;
} where
  now : (text : List ℕ) → s.left ≡ Some text → ahead w t ≡ Some text
  now text e =
      let before : ahead v s ≡ Some text = ap (λ (l : List ℕ). prepend_known l s.left) none ∙ ap (λ (o : Option (List ℕ)). prepend_known [] o) e in
      still_ahead (ahead w t) text (subst (λ (o : Option (List ℕ)). Keeps o (ahead w t)) before f.stays.kept)
