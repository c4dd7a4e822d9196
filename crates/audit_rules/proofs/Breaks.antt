-- Where steps break a rule, and a console stands whole.
use Rattle.std.proofs.Common.{◌≡◌, ℕ, ◌+◌, List, [], ◌∷◌, ◌++◌, append_assoc, append-nil, length, length-append, Some, None, refl, sym, ap, ◌∙◌, arith}
use Rattle.std.specs.declared.option.Option.{Option}
use Rattle.std.proofs.lemmas.List.{append_cancel_left}
use Rattle.step_line.specs.declared.Record.{Record}
use Rattle.step_line.specs.declared.Record.TheVariants as kinds
use Rattle.run_texts.specs.Courses.{Passed}
use Rattle.run_texts.specs.Points.{Point}
use Rattle.run_texts.specs.Sent.{Sent}
use Rattle.step_record.specs.Forms.{line_text}
use Rattle.step_record.specs.Forms.{records_of as records_by}
use Rattle.step_record.specs.declared.forms.Form.{Form}
use Rattle.step_record.specs.declared.forms.Form.TheVariants.{One, Two}
use Rattle.step_record.specs.declared.forms.Line.{Line}
use Rattle.step_record.specs.declared.forms.Line.TheVariants as line_kinds
use Rattle.audit_rules.specs.Faults.{ComesUpTo}
use Rattle.audit_rules.specs.Findings.{BreaksAt}
use Rattle.audit_rules.specs.Findings.BreaksAt.{at_line}
use Rattle.audit_rules.specs.Scanned.{sent_in}
use Rattle.audit_rules.specs.Standing.{AreUpTo, StandTo, place_behind}
use Rattle.audit_rules.specs.StepTexts.{AreLinesOf, FollowsLast, IsLineOf, form_of, last_of, records_of}
use Rattle.audit_rules.specs.Telling.{ConsoleStands, IsOver}
use Rattle.audit_rules.proofs.Lines.{go_on, one_line_here}

-- ---- the line that holds the next record

-- a part of a line is shorter than the line
shorter : {A : Type 0} (line : Line) (part tail mine more : List Record) (r : Record) → records_of (line ∷ []) ≡ part ++ r ∷ tail → part ≡ (records_by line ++ more) ++ mine → A
shorter line part tail mine more r is all =
    let a : length (records_by line ++ []) ≡ length part + length (r ∷ tail) = ap length is ∙ length-append part (r ∷ tail) in
    let b = length-append (records_by line) [] in
    let c = ap length all ∙ length-append (records_by line ++ more) mine in
    let d = length-append (records_by line) more in
    absurd (omega (arith, a, b, c, d))

same_done : (done before : List Line) (line last : Line) (more : List Line) (part tail mine : List Record) (r : Record) → done ++ line ∷ more ≡ before ++ last ∷ [] → records_of done ++ part ≡ records_of before ++ mine
    → records_of (line ∷ []) ≡ part ++ r ∷ tail → done ≡ before
same_done [] [] line last more part tail mine r lines records is = refl
same_done [] (b ∷ before) line last more part tail mine r lines records is =
    let same : line ≡ b = cc in
    shorter line part tail mine (records_of before) r is (records ∙ ap (λ (l : Line). (records_by l ++ records_of before) ++ mine) (sym same))
same_done (d ∷ []) [] line last more part tail mine r lines records is = absurd cc
same_done (d ∷ e ∷ done) [] line last more part tail mine r lines records is = absurd cc
same_done (d ∷ done) (b ∷ before) line last more part tail mine r lines records is =
    let same : d ≡ b = cc in
    let behind : done ++ line ∷ more ≡ before ++ last ∷ [] = cc in
    let both : records_by d ++ (records_of done ++ part) ≡ records_by d ++ (records_of before ++ mine) =
    sym (append_assoc (records_by d) (records_of done) part)
    ∙ records
    ∙ append_assoc (records_by b) (records_of before) mine
    ∙ ap (λ (l : Line). records_by l ++ (records_of before ++ mine)) (sym same) in
    ap (λ (l : Line). l ∷ done) same ∙ ap (λ (ls : List Line). b ∷ ls) (same_done done before line last more part tail mine r behind (append_cancel_left (records_by d) (records_of done ++ part) (records_of before ++ mine) both) is)

pub done_before : (done before : List Line) (last : Line) (records part others : List Record) (r : Record) → AreUpTo done (before ++ last ∷ []) records (r ∷ others) → records ≡ records_of before ++ part → done ≡ before
done_before done before last records part others r a are =
    let s = a.some r others refl in
    same_done done before s.0 last s.1 a.part s.2 part r (sym (a.lines_are ∙ ap (λ (ls : List Line). done ++ ls) s.3)) (sym a.records_are ∙ are) s.4

pub done_all : (done lines : List Line) (records : List Record) → AreUpTo done lines records [] → done ≡ lines
done_all done lines records a = sym (append-nil done) ∙ ap (λ (ls : List Line). done ++ ls) (sym (a.none refl).0) ∙ sym a.lines_are

-- ---- the break

module _ (job console steps : List ℕ) (z : StandTo (sent_in job) console steps) where
  -- another line stands there than the end
  pub other_line : (line : Line) (more : List ℕ) → z.rest ≡ line_text line ++ more → IsLineOf (form_of steps) line → (line ≡ line_kinds.One kinds.End → ⊥) → BreaksAt job console steps (place_behind steps z.done)
  other_line line more is of no_end =
      at_line z (λ later ends may. no_end (one_line_here (form_of steps) line (line_kinds.One kinds.End) more later of tt (sym is ∙ ends)).line) refl

  end_follows : (form : Form) (last : Option Line) → FollowsLast form last (line_kinds.One kinds.End)
  end_follows form None = tt
  end_follows One (Some line) = tt
  end_follows Two (Some line) = λ b e none. absurd cc

  -- no line stands there
  pub no_line : ((line : Line) (more : List ℕ) → z.rest ≡ line_text line ++ more → AreLinesOf (form_of steps) (z.done ++ line ∷ []) → ⊥) → BreaksAt job console steps (place_behind steps z.done)
  no_line none =
      let form = form_of steps in
      let end = line_kinds.One kinds.End in
      at_line z (λ later ends may. none end later ends ((go_on form z.done end).1 (z.are, tt, end_follows form (last_of z.done)))) refl

-- ---- the console

pub stands_whole : (sent : List Sent) (console steps : List ℕ) (lines : List Line) (records left : List Record) (q : Point) (gone : List Sent) (course : List Passed) → ComesUpTo sent console steps lines records left q gone [] course → IsOver q gone
    → ConsoleStands sent console steps
stands_whole sent console steps lines records left q gone course u over = record { steps_stand = u.steps_stand; point = q; left = gone; stands = u.stands; over = over }
