-- Texts that fit stand.
use Rattle.std.proofs.Common.{◌≡◌, ℕ, zero, suc, List, [], ◌∷◌, ◌++◌, append_assoc, append-nil, replicate, true, false, Bool, sym, refl, ap, ◌∙◌, subst, arith}
use Rattle.std.specs.List.{AllByRecursion}
use Rattle.std.proofs.lemmas.List.{same_from_push}
use Rattle.std.proofs.lemmas.List.Concat.{flat_map-append}
use Rattle.units.specs.declared.Steps3.{Steps3}
use Rattle.flight.specs.Places.{moved_by, origin}
use Rattle.step_line.specs.declared.Record.{Record}
use Rattle.step_line.specs.declared.Record.TheVariants as kinds
use Rattle.run_rules.specs.Outcomes.{either}
use Rattle.run_rules.specs.Work.{Outcome}
use Rattle.run_texts.specs.Courses.{Passed, Follows, IsLeft, behind_cut, behind_the_reset}
use Rattle.run_texts.specs.Courses.Passed.{a_line, a_broken, a_cut, a_reset}
use Rattle.run_texts.specs.Left.{behind_lines}
use Rattle.run_texts.specs.Parts.{Ending, Part, parts_of, ending_record, is_ending}
use Rattle.run_texts.specs.Parts.Ending.{by_cut, by_reset}
use Rattle.run_texts.specs.Points.{Point, behind_line, behind_broken}
use Rattle.run_texts.specs.Recorded.{AreRecorded}
use Rattle.run_texts.specs.Sent.{Sent, behind_reset}
use Rattle.run_texts.specs.Sent.Sent.{a_text, a_stop}
use Rattle.run_texts.specs.SoFar.{LeadsTo, AreMadeSoFar}
use Rattle.run_texts.proofs.Leading.{onto_none, onto_more, onto_begun}
use Rattle.run_texts.proofs.OneMaking.{split_last}
use Rattle.run_texts.proofs.SoFar.{EndAtEnd}
use Rattle.run_texts.proofs.Going.{behind_on, reset_on}
use Rattle.audit_rules.specs.Standing.{Stand}
use Rattle.audit_rules.specs.StepTexts.{IsLineOf, records_of}
use Rattle.step_record.specs.declared.forms.Form.{Form}
use Rattle.step_record.specs.declared.forms.Form.TheVariants.{One, Two}
use Rattle.step_record.specs.declared.forms.Line.{Line}
use Rattle.step_record.specs.Forms.{records_of as records_by}
use Rattle.step_record.specs.declared.forms.Line.TheVariants as line_kinds
use Rattle.audit_rules.proofs.Fronts.{closed, some_part}
use Rattle.audit_rules.proofs.Replies.{all_second}

-- ---- the end is no record of a part

no_ending : {A : Type 0} (records : List Record) → AllByRecursion (λ r. is_ending r ≡ false) (records ++ kinds.End ∷ []) → A
no_ending records all = absurd (let e = (all_second (λ r. is_ending r ≡ false) records (kinds.End ∷ []) all).0 in cc)

not_last : {A : Type 0} (ending : Ending) (mine records rest : List Record) → (ending_record ending ≡ kinds.End → A) → ((front : List Record) → rest ≡ front ++ kinds.End ∷ [] → A)
    → records ++ kinds.End ∷ [] ≡ mine ++ ending_record ending ∷ rest → A
not_last ending mine records [] other again split = other (sym (same_from_push records mine kinds.End (ending_record ending) split).1)
not_last ending mine records (x ∷ xs) other again split =
    let l = split_last (x ∷ xs) (omega arith) in
    let whole : records ++ kinds.End ∷ [] ≡ (mine ++ ending_record ending ∷ l.front) ++ l.last ∷ [] =
    split ∙ ap (λ (rest : List Record). mine ++ ending_record ending ∷ rest) l.is ∙ sym (append_assoc mine (ending_record ending ∷ l.front) (l.last ∷ [])) in
    let same = same_from_push records (mine ++ ending_record ending ∷ l.front) kinds.End l.last whole in
    again l.front (l.is ∙ ap (λ r. l.front ++ r ∷ []) (sym same.1))

no_end_made : (course : List Passed) (since begun : List Outcome) (place : Steps3) (records : List Record) → AreMadeSoFar place (behind_lines since begun (parts_of course)) (records ++ kinds.End ∷ []) → ⊥
no_end_made [] since begun place records all = no_ending records all.1.inside
no_end_made (a_line o ∷ ps) since begun place records all =
    no_end_made ps (since ++ o ∷ []) begun place records (subst (λ (qs : List Part). AreMadeSoFar place qs (records ++ kinds.End ∷ [])) (onto_more since begun o (parts_of ps)) all)
no_end_made (a_broken o ∷ ps) since begun place records all =
    no_end_made ps since (begun ++ o ∷ []) place records (subst (λ (qs : List Part). AreMadeSoFar place qs (records ++ kinds.End ∷ [])) (onto_begun since begun o (parts_of ps)) all)
no_end_made (a_cut k at ∷ ps) since begun place records all =
    let c = closed place (record { lines = since ++ []; begun = begun ++ []; ending = by_cut k at }) (parts_of ps) (records ++ kinds.End ∷ []) (some_part ps) all in
    not_last (by_cut k at) c.mine records c.rest (λ e. absurd cc)
    (λ front is. no_end_made ps [] [] (moved_by place c.mine) front
    (subst (λ (rs : List Record). AreMadeSoFar (moved_by place c.mine) (behind_lines [] [] (parts_of ps)) rs) is
    (subst (λ (qs : List Part). AreMadeSoFar (moved_by place c.mine) qs c.rest) (sym (onto_none (parts_of ps))) c.on)))
    c.split
no_end_made (a_reset r ∷ ps) since begun place records all =
    let c = closed place (record { lines = since ++ []; begun = begun ++ []; ending = by_reset r }) (parts_of ps) (records ++ kinds.End ∷ []) (some_part ps) all in
    not_last (by_reset r) c.mine records c.rest (λ e. absurd cc)
    (λ front is. no_end_made ps [] [] (moved_by place c.mine) front
    (subst (λ (rs : List Record). AreMadeSoFar (moved_by place c.mine) (behind_lines [] [] (parts_of ps)) rs) is
    (subst (λ (qs : List Part). AreMadeSoFar (moved_by place c.mine) qs c.rest) (sym (onto_none (parts_of ps))) c.on)))
    c.split

pub no_end : (sent : List Sent) (console : List ℕ) (records : List Record) → Stand sent console (records ++ kinds.End ∷ []) → ⊥
no_end sent console records s = no_end_made s.course [] [] origin records (subst (λ (qs : List Part). AreMadeSoFar origin qs (records ++ kinds.End ∷ [])) (sym (onto_none (parts_of s.course))) s.made)

-- ---- records that are ended

pub record EndsRecords (records : List Record) : Type 0 where
  pub front : List Record
  pub is : records ≡ front ++ kinds.End ∷ []

pub ends_records : (ps : List Part) (place : Steps3) (records : List Record) → EndAtEnd ps → AreRecorded place ps records → EndsRecords records
ends_records [] place records ends all = absurd ends
ends_records (p ∷ []) place records ends all =
    record { front = all.0; is = all.2 ∙ ap (λ (rest : List Record). all.0 ++ ending_record p.ending ∷ rest) all.4 ∙ ap (λ (e : Ending). all.0 ++ ending_record e ∷ []) ends }
ends_records (p ∷ q ∷ ps) place records ends all =
    let e = ends_records (q ∷ ps) (moved_by place all.0) all.1 ends all.4 in
    record { front = all.0 ++ ending_record p.ending ∷ e.front; is = all.2 ∙ ap (λ (rest : List Record). all.0 ++ ending_record p.ending ∷ rest) e.is ∙ sym (append_assoc all.0 (ending_record p.ending ∷ e.front) (kinds.End ∷ [])) }

-- ---- lines that are ended

pub record EndsLines (lines : List Line) (front : List Record) : Type 0 where
  pub done : List Line
  pub is : lines ≡ done ++ line_kinds.One kinds.End ∷ []
  pub records : records_of done ≡ front

record LastLine (lines : List Line) : Type 0 where
  pub front : List Line
  pub last : Line
  pub is : lines ≡ front ++ last ∷ []

last_line : (l : Line) (ls : List Line) → LastLine (l ∷ ls)
last_line l [] = record { front = []; last = l; is = refl }
last_line l (m ∷ ms) = let r = last_line m ms in record { front = l ∷ r.front; last = r.last; is = ap (λ (ks : List Line). l ∷ ks) r.is }

replicate_push : (n : ℕ) (r : Record) → replicate (suc n) r ≡ replicate n r ++ r ∷ []
replicate_push zero r = refl
replicate_push (suc n) r = ap (λ (rs : List Record). r ∷ rs) (replicate_push n r)

by_last : (form : Form) (ls : List Line) (l : Line) (front : List Record) → IsLineOf form l → records_of ls ++ records_by l ≡ front ++ kinds.End ∷ [] → EndsLines (ls ++ l ∷ []) front
by_last form ls (line_kinds.One r) front is e =
    let same = same_from_push (records_of ls) front r kinds.End e in
    record { done = ls; is = ap (λ (s : Record). ls ++ line_kinds.One s ∷ []) same.1; records = same.0 }
by_last One ls (line_kinds.Run n b) front is e = absurd is
by_last Two ls (line_kinds.Run zero b) front is e = absurd (omega (arith, is.0))
by_last Two ls (line_kinds.Run (suc n) b) front is e =
    let f : (records_of ls ++ replicate n (kinds.Event b)) ++ kinds.Event b ∷ [] ≡ front ++ kinds.End ∷ [] =
    append_assoc (records_of ls) (replicate n (kinds.Event b)) (kinds.Event b ∷ []) ∙ ap (λ (rs : List Record). records_of ls ++ rs) (sym (replicate_push n (kinds.Event b))) ∙ e in
    let same = same_from_push (records_of ls ++ replicate n (kinds.Event b)) front (kinds.Event b) kinds.End f in
    absurd (let g = same.1 in cc)
by_last form ls line_kinds.Version front is e = absurd is

pub ends_lines : (form : Form) (lines : List Line) (front : List Record) → AllByRecursion (IsLineOf form) lines → records_of lines ≡ front ++ kinds.End ∷ [] → EndsLines lines front
ends_lines form [] [] each e = absurd cc
ends_lines form [] (r ∷ front) each e = absurd cc
ends_lines form (l ∷ ls) front each e =
    let r = last_line l ls in
    let is_last = all_second (IsLineOf form) r.front (r.last ∷ []) (subst (λ (ks : List Line). AllByRecursion (IsLineOf form) ks) r.is each) in
    let records : records_of r.front ++ records_by r.last ≡ front ++ kinds.End ∷ [] =
    ap (λ (rs : List Record). records_of r.front ++ rs) (sym (append-nil (records_by r.last))) ∙ sym (flat_map-append records_by r.front (r.last ∷ [])) ∙ sym (ap records_of r.is) ∙ e in
    subst (λ (ks : List Line). EndsLines ks front) (sym r.is) (by_last form r.front r.last front is_last.0 records)

-- ---- a longer job

-- a course over the first of what was sent leads to what is left of all of it
pub record LeadsOn (p last : Point) (sent more : List Sent) (course : List Passed) : Type 0 where
  pub left : List Sent
  pub leads : LeadsTo p (sent ++ more) course last (left ++ more)
  pub is : IsLeft last left

pub leads_on : (p last : Point) (sent more : List Sent) (course : List Passed) → Follows p sent course last → LeadsOn p last sent more course
leads_on p last sent more [] f = record { left = sent; leads = (f.0, refl); is = subst (λ (x : Point). IsLeft x sent) (sym f.0) f.1 }
leads_on p last sent more (a_cut k at ∷ ps) f = let l = leads_on (behind_cut at p) last sent more ps f.1 in record { left = l.left; leads = (f.0, l.leads); is = l.is }
leads_on p last sent more (a_reset r ∷ ps) f =
    let l = leads_on (behind_the_reset r p) last (behind_reset sent) more ps f.1 in
    let leads = subst (λ (ss : List Sent). LeadsTo (behind_the_reset r p) ss ps last (l.left ++ more)) (sym (behind_on sent more f.0.comes)) l.leads in
    record { left = l.left; leads = (reset_on p sent more r f.0, leads); is = l.is }
leads_on p last [] more (a_line o ∷ ps) f = absurd f
leads_on p last (a_stop ∷ sent) more (a_line o ∷ ps) f = absurd f
leads_on p last (a_text line ∷ sent) more (a_line o ∷ ps) f = let l = leads_on (behind_line p line o) last sent more ps f.1 in record { left = l.left; leads = (f.0, l.leads); is = l.is }
leads_on p last [] more (a_broken o ∷ ps) f = absurd f
leads_on p last (a_stop ∷ sent) more (a_broken o ∷ ps) f = absurd f
leads_on p last (a_text line ∷ sent) more (a_broken o ∷ ps) f = let l = leads_on (behind_broken p o) last sent more ps f.1 in record { left = l.left; leads = (f.0, l.leads); is = l.is }

pub both : {A : Type 0} → true ≡ false → A
both e = absurd cc

pub over_by : (alarmed : Bool) (left later : List Sent) → either alarmed (behind_reset left ≡ []) (left ≡ []) → either alarmed (Unit {0}) (later ≡ []) → either alarmed (Unit {0}) (left ++ later ≡ [])
over_by true left later a b = tt
over_by false left later a b = ap (λ (ss : List Sent). ss ++ later) a ∙ b
