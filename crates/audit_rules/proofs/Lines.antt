-- A text is the lines of one list at most.
use Rattle.std.proofs.Common.{◌≡◌, ◌↔◌, ℕ, ◌⊎◌, inl, inr, List, [], ◌∷◌, ◌++◌, append_assoc, append-nil, length, length-append, sym, refl, ap, ◌∙◌, subst, arith}
use Rattle.std.specs.List.{AllByRecursion}
use Rattle.step_record.specs.Forms.{IsLine, line_text}
use Rattle.step_record.specs.declared.forms.Form.{Form}
use Rattle.step_record.specs.declared.forms.Form.TheVariants.{One, Two}
use Rattle.step_record.specs.declared.forms.Line.{Line}
use Rattle.step_record.specs.declared.forms.Line.TheVariants as line_kinds
use Rattle.step_record.proofs.Placed.{first_line, line_some}
use Rattle.audit_rules.specs.StepTexts.{IsLineOf, AreApart, FollowsLast, AreLinesOf, IsStepText, last_of, form_of, lines_text}
use Rattle.audit_rules.proofs.Replies.{all_first, all_second, all_joined}

-- ---- one line

pub record Same (l m : Line) (x y : List ℕ) : Type 0 where
  pub line : l ≡ m
  pub rest : x ≡ y

-- such a line is one that stands behind the beginning of a text
pub is_line : (form : Form) (l : Line) → IsLineOf form l → IsLine l 1
is_line form (line_kinds.One r) is = is
is_line One (line_kinds.Run n b) is = absurd is
is_line Two (line_kinds.Run n b) is = is
is_line form line_kinds.Version is = absurd is

pub one_line_here : (form : Form) (l m : Line) (x y : List ℕ) → IsLineOf form l → IsLineOf form m → line_text l ++ x ≡ line_text m ++ y → Same l m x y
one_line_here form l m x y is_l is_m e =
    let same = first_line l m 1 x y (is_line form l is_l) (is_line form m is_m) e in
    record { line = same.0; rest = same.1 }

-- ---- lines

-- one list goes on where the other ends
pub record GoesFurther (ls ms : List Line) (x y : List ℕ) : Type 0 where
  pub more : List Line
  pub lines : ms ≡ ls ++ more
  pub text : x ≡ lines_text more ++ y

pub one_goes_further : (form : Form) (ls ms : List Line) (x y : List ℕ) → AllByRecursion (IsLineOf form) ls → AllByRecursion (IsLineOf form) ms → lines_text ls ++ x ≡ lines_text ms ++ y
    → GoesFurther ls ms x y ⊎ GoesFurther ms ls y x
one_goes_further form [] ms x y each_l each_m e = inl (record { more = ms; lines = refl; text = e })
one_goes_further form (l ∷ ls) [] x y each_l each_m e = inr (record { more = l ∷ ls; lines = refl; text = sym e })
one_goes_further form (l ∷ ls) (m ∷ ms) x y each_l each_m e =
    let f : line_text l ++ (lines_text ls ++ x) ≡ line_text m ++ (lines_text ms ++ y) =
    sym (append_assoc (line_text l) (lines_text ls) x) ∙ e ∙ append_assoc (line_text m) (lines_text ms) y in
    let same = one_line_here form l m (lines_text ls ++ x) (lines_text ms ++ y) each_l.0 each_m.0 f in
    onto same.line (one_goes_further form ls ms x y each_l.1 each_m.1 same.rest) where
      onto : l ≡ m → GoesFurther ls ms x y ⊎ GoesFurther ms ls y x → GoesFurther (l ∷ ls) (m ∷ ms) x y ⊎ GoesFurther (m ∷ ms) (l ∷ ls) y x
      onto same (inl g) = inl (record { more = g.more; lines = ap (λ k. k ∷ ms) (sym same) ∙ ap (λ (ks : List Line). l ∷ ks) g.lines; text = g.text })
      onto same (inr g) = inr (record { more = g.more; lines = ap (λ k. k ∷ ls) same ∙ ap (λ (ks : List Line). m ∷ ks) g.lines; text = g.text })

-- ---- fronts of lines

apart_first : (form : Form) (xs ys : List Line) → AreApart form (xs ++ ys) → AreApart form xs
apart_first form [] ys a = tt
apart_first form (x ∷ []) ys a = tt
apart_first form (x ∷ z ∷ xs) ys a = (a.0, apart_first form (z ∷ xs) ys a.1)

pub lines_first : (form : Form) (xs ys : List Line) → AreLinesOf form (xs ++ ys) → AreLinesOf form xs
lines_first form xs ys a = record { each = all_first (IsLineOf form) xs ys a.each; apart = apart_first form xs ys a.apart }

last_may : (form : Form) (done : List Line) (line : Line) → AreApart form (done ++ line ∷ []) → FollowsLast form (last_of done) line
last_may form [] line a = tt
last_may form (x ∷ []) line a = a.0
last_may form (x ∷ y ∷ more) line a = last_may form (y ∷ more) line a.1

apart_more : (form : Form) (done : List Line) (line : Line) → AreApart form done → FollowsLast form (last_of done) line → AreApart form (done ++ line ∷ [])
apart_more form [] line a may = tt
apart_more form (x ∷ []) line a may = (may, tt)
apart_more form (x ∷ y ∷ more) line a may = (a.0, apart_more form (y ∷ more) line a.1 may)

pub go_on : (form : Form) (done : List Line) (line : Line) → AreLinesOf form (done ++ line ∷ []) ↔ (AreLinesOf form done × IsLineOf form line × FollowsLast form (last_of done) line)
go_on form done line = (
  λ a. (lines_first form done (line ∷ []) a, (all_second (IsLineOf form) done (line ∷ []) a.each).0, last_may form done line a.apart),
  λ p. record { each = all_joined (IsLineOf form) done (line ∷ []) p.0.each (p.1, tt); apart = apart_more form done line p.0.apart p.2 },
)

-- ---- a whole text

-- a line is not empty
pub line_is_some : {A : Type 0} (form : Form) (l : Line) (x : List ℕ) → IsLineOf form l → ◌≡◌ {A = List ℕ} [] (line_text l ++ x) → A
line_is_some form l x is e =
    let some = line_some l 1 (is_line form l is) in
    let count : 0 ≡ length (line_text l ++ x) = ap length e in
    let sum = length-append (line_text l) x in
    absurd (omega (arith, some, count, sum))

same_lines : (form : Form) (xs ys more : List Line) → AllByRecursion (IsLineOf form) ys → ys ≡ xs ++ more → ◌≡◌ {A = List ℕ} [] (lines_text more ++ []) → xs ≡ ys
same_lines form xs ys [] each lines text = sym (lines ∙ append-nil xs)
same_lines form xs ys (l ∷ more) each lines text =
    line_is_some form l (lines_text more ++ []) (all_second (IsLineOf form) xs (l ∷ more) (subst (λ (ls : List Line). AllByRecursion (IsLineOf form) ls) lines each)).0
    (text ∙ append_assoc (line_text l) (lines_text more) [])

pub one_list : (text : List ℕ) (xs ys : List Line) → IsStepText text xs → IsStepText text ys → xs ≡ ys
one_list text xs ys a b = by_further (one_goes_further (form_of text) xs ys [] [] a.are.each b.are.each (ap (λ (t : List ℕ). t ++ []) (sym a.body ∙ b.body))) where
  by_further : GoesFurther xs ys [] [] ⊎ GoesFurther ys xs [] [] → xs ≡ ys
  by_further (inl g) = same_lines (form_of text) xs ys g.more b.are.each g.lines g.text
  by_further (inr g) = sym (same_lines (form_of text) ys xs g.more a.are.each g.lines g.text)
