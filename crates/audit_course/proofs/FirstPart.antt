-- What is made of lines, and the first part of what goes on.
use Rattle.std.proofs.Common.{◌≡◌, Bool, true, false, List, [], ◌∷◌, ◌++◌, append-nil, append_assoc, refl, sym, ap, ◌∙◌, subst}
use Rattle.std.specs.List.{AllByRecursion}
use Rattle.units.specs.declared.Steps3.{Steps3}
use Rattle.step_line.specs.declared.Record.{Record}
use Rattle.run_rules.specs.Work.{Outcome}
use Rattle.run_texts.specs.Courses.{Passed, Follows}
use Rattle.run_texts.specs.Courses.Passed.{a_line, a_broken, a_cut, a_reset}
use Rattle.run_texts.specs.Left.{behind_lines}
use Rattle.run_texts.specs.Making.{Making, IsMade, with_line}
use Rattle.run_texts.specs.Parts.{Ending, Part, parts_of, onto_first, begun_first, ends_here, begun_counted, ending_record, is_ending, lines_counted}
use Rattle.run_texts.specs.Parts.Ending.{by_cut, by_reset, by_end}
use Rattle.run_texts.specs.Points.{Point}
use Rattle.run_texts.specs.Recorded.{IsRecorded, AreRecorded}
use Rattle.run_texts.specs.Sent.{Sent}
use Rattle.run_texts.specs.Sent.Sent.{a_text, a_stop}
use Rattle.run_texts.proofs.Making.{line_made, before_record}

-- ---- what is made of lines

-- of these lines this is made, with something left
abbrev pub IsMadeOf : List Outcome → List Record → Type 0
IsMadeOf lines made = (m : Making) × IsMade lines made m

-- then its front is made of them
pub front_made : (lines : List Outcome) (made more : List Record) → IsMadeOf lines (made ++ more) → IsMadeOf lines made
front_made lines made [] is = subst (IsMadeOf lines) (append-nil made) is
front_made lines made (r ∷ more) is =
    let on : IsMadeOf lines (made ++ r ∷ []) = front_made lines (made ++ r ∷ []) more (subst (IsMadeOf lines) (sym (append_assoc made (r ∷ []) more)) is) in
    let b = before_record lines made r on.0 on.1 in
    (b.before, b.is)

-- and it is made of these lines and others behind them
pub more_made : (lines more : List Outcome) (made : List Record) → IsMadeOf lines made → IsMadeOf (lines ++ more) made
more_made lines [] made is = subst (λ (os : List Outcome). IsMadeOf os made) (sym (append-nil lines)) is
more_made lines (o ∷ more) made is =
    subst (λ (os : List Outcome). IsMadeOf os made) (append_assoc lines (o ∷ []) more)
    (more_made (lines ++ o ∷ []) more made (with_line o is.0, line_made lines made is.0 o is.1))

-- ---- the first part of what goes on

-- where a part goes on behind these records by one that ends none, its records do
pub record HoldsFront (made mine : List Record) (r : Record) : Type 0 where
  pub more : List Record
  pub are : mine ≡ made ++ r ∷ more

no_ending : {A : Type 0} (r e : Record) → is_ending r ≡ false → is_ending e ≡ true → r ≡ e → A
no_ending r e inside ends same = absurd (let f : false ≡ true = sym inside ∙ ap is_ending same ∙ ends in cc)

first_of : {A : Type 0} {x y : A} {xs ys : List A} → ◌≡◌ {A = List A} (x ∷ xs) (y ∷ ys) → x ≡ y
first_of e = cc

rest_of : {A : Type 0} {x y : A} {xs ys : List A} → ◌≡◌ {A = List A} (x ∷ xs) (y ∷ ys) → xs ≡ ys
rest_of e = cc

pub holds_front : (made mine rest behind : List Record) (r e : Record) → AllByRecursion (λ x. is_ending x ≡ false) made → is_ending r ≡ false → is_ending e ≡ true
    → made ++ r ∷ rest ≡ mine ++ e ∷ behind → HoldsFront made mine r
holds_front [] [] rest behind r e inside one ends same = no_ending r e one ends (first_of same)
holds_front [] (x ∷ mine) rest behind r e inside one ends same = record { more = mine; are = ap (λ (y : Record). y ∷ mine) (sym (first_of same)) }
holds_front (x ∷ made) [] rest behind r e inside one ends same = no_ending x e inside.0 ends (first_of same)
holds_front (x ∷ made) (y ∷ mine) rest behind r e inside one ends same =
    let h = holds_front made mine rest behind r e inside.1 one ends (rest_of same) in
    record { more = h.more; are = ap (λ (z : Record). z ∷ mine) (sym (first_of same)) ∙ ap (λ (rs : List Record). x ∷ rs) h.are }

pub ending_ends : (e : Ending) → is_ending (ending_record e) ≡ true
ending_ends (by_cut k at) = refl
ending_ends (by_reset r) = refl
ending_ends by_end = refl

-- the lines of the first part of a course, behind those that were passed
pub record FirstPart (place : Steps3) (since begun : List Outcome) (ps : List Passed) (records : List Record) : Type 0 where
  pub part : Part
  pub mine : List Record
  pub behind : List Record
  pub split : records ≡ mine ++ ending_record part.ending ∷ behind
  pub is : IsRecorded place (record { lines = since ++ part.lines; begun = begun ++ part.begun; ending = part.ending }) mine
  pub later : List Part
  pub parts : parts_of ps ≡ part ∷ later

some_part : (ps : List Passed) → (part : Part) × (later : List Part) × (parts_of ps ≡ part ∷ later)
some_part [] = (ends_here by_end, [], refl)
some_part (a_cut k at ∷ ps) = (ends_here (by_cut k at), parts_of ps, refl)
some_part (a_reset r ∷ ps) = (ends_here (by_reset r), parts_of ps, refl)
some_part (a_line o ∷ ps) = let s = some_part ps in (record s.0 { lines = o ∷ s.0.lines }, s.1, ap (onto_first o) s.2)
some_part (a_broken o ∷ ps) = let s = some_part ps in (record s.0 { begun = o ∷ s.0.begun }, s.1, ap (begun_first o) s.2)

pub first_part : (place : Steps3) (since begun : List Outcome) (ps : List Passed) (records : List Record) → AreRecorded place (behind_lines since begun (parts_of ps)) records → FirstPart place since begun ps records
first_part place since begun ps records are =
    let s = some_part ps in
    let a : AreRecorded place (behind_lines since begun (s.0 ∷ s.1)) records = subst (λ (qs : List Part). AreRecorded place (behind_lines since begun qs) records) s.2 are in
    record { part = s.0; mine = a.0; behind = a.1; split = a.2; is = a.3; later = s.1; parts = s.2 }

abbrev first_lines : List Part → List Outcome
first_lines [] = []
first_lines (p ∷ ps) = p.lines

-- behind a line that is not answered no line is begun in its part
none_answered : (p last : Point) (sent : List Sent) (ps : List Passed) (part : Part) (later : List Part) → Follows p sent ps last → p.unanswered ≡ true → parts_of ps ≡ part ∷ later → part.lines ≡ []
none_answered p last sent [] part later f begun e = sym (ap first_lines e)
none_answered p last sent (a_cut k at ∷ ps) part later f begun e = sym (ap first_lines e)
none_answered p last sent (a_reset r ∷ ps) part later f begun e = sym (ap first_lines e)
none_answered p last [] (a_line o ∷ ps) part later f begun e = absurd f
none_answered p last (a_stop ∷ sent) (a_line o ∷ ps) part later f begun e = absurd f
none_answered p last (a_text line ∷ sent) (a_line o ∷ ps) part later f begun e = absurd (let g : false ≡ true = sym f.0.answered ∙ begun in cc)
none_answered p last [] (a_broken o ∷ ps) part later f begun e = absurd f
none_answered p last (a_stop ∷ sent) (a_broken o ∷ ps) part later f begun e = absurd f
none_answered p last (a_text line ∷ sent) (a_broken o ∷ ps) part later f begun e = absurd (let g : false ≡ true = sym f.0.answered ∙ begun in cc)

-- So what is made of the part's lines is made of those that were passed and others behind them.
pub record MadeBehind (since begun : List Outcome) (made : List Record) : Type 0 where
  pub more : List Outcome
  pub is : IsMadeOf ((since ++ begun) ++ more) made

behind_none : (since begun : List Outcome) (part : Part) (made : List Record) → begun ≡ [] → IsMadeOf (lines_counted (record { lines = since ++ part.lines; begun = begun ++ part.begun; ending = part.ending })) made → MadeBehind since begun made
behind_none since begun part made none is =
    let counted = begun_counted part.ending (begun ++ part.begun) in
    record {
      more = part.lines ++ counted;
      is = subst (λ (os : List Outcome). IsMadeOf (os ++ (part.lines ++ counted)) made) (sym (ap (λ (os : List Outcome). since ++ os) none ∙ append-nil since))
          (subst (λ (os : List Outcome). IsMadeOf os made) (append_assoc since part.lines counted) is);
    }

behind_begun : (since begun lines others : List Outcome) (ending : Ending) (made : List Record) → lines ≡ [] → IsMadeOf ((since ++ lines) ++ begun_counted ending (begun ++ others)) made → MadeBehind since begun made
behind_begun since begun lines others (by_cut k at) made none is = record {
  more = [];
  is = more_made (since ++ begun) [] made (more_made since begun made
      (subst (λ (os : List Outcome). IsMadeOf os made) (append-nil (since ++ lines) ∙ ap (λ (os : List Outcome). since ++ os) none ∙ append-nil since) is));
}
behind_begun since begun lines others (by_reset r) made none is = record {
  more = others;
  is = subst (λ (os : List Outcome). IsMadeOf os made)
      (ap (λ (os : List Outcome). (since ++ os) ++ (begun ++ others)) none ∙ ap (λ (os : List Outcome). os ++ (begun ++ others)) (append-nil since) ∙ sym (append_assoc since begun others)) is;
}
behind_begun since begun lines others by_end made none is = record {
  more = others;
  is = subst (λ (os : List Outcome). IsMadeOf os made)
      (ap (λ (os : List Outcome). (since ++ os) ++ (begun ++ others)) none ∙ ap (λ (os : List Outcome). os ++ (begun ++ others)) (append-nil since) ∙ sym (append_assoc since begun others)) is;
}

pub made_behind : (p last : Point) (sent : List Sent) (ps : List Passed) (since begun : List Outcome) (part : Part) (later : List Part) (made : List Record) (u : Bool)
    → Follows p sent ps last → parts_of ps ≡ part ∷ later → p.unanswered ≡ u → (u ≡ false → begun ≡ [])
    → IsMadeOf (lines_counted (record { lines = since ++ part.lines; begun = begun ++ part.begun; ending = part.ending })) made → MadeBehind since begun made
made_behind p last sent ps since begun part later made true f parts u none is = behind_begun since begun part.lines part.begun part.ending made (none_answered p last sent ps part later f u parts) is
made_behind p last sent ps since begun part later made false f parts u none is = behind_none since begun part made (none refl) is
