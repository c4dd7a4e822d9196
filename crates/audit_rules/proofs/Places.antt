-- The first record that breaks a rule stands at one place.
use Rattle.std.proofs.Common.{◌≡◌, ℕ, ◌⊎◌, inl, inr, List, [], ◌∷◌, ◌++◌, append_assoc, append-nil, sym, ap, ◌∙◌, subst}
use Rattle.std.proofs.lemmas.List.Concat.{flat_map-append}
use Rattle.step_line.specs.declared.Record.{Record}
use Rattle.run_texts.specs.Sent.{Sent}
use Rattle.audit_rules.specs.Standing.{Stand, StandTo}
use Rattle.audit_rules.specs.StepTexts.{AreLinesOf, lines_text, records_of, form_of}
use Rattle.step_record.specs.declared.forms.Line.{Line}
use Rattle.step_record.specs.Forms.{line_text}
use Rattle.step_record.specs.Forms.{records_of as records_by}
use Rattle.audit_rules.proofs.Lines.{GoesFurther, one_goes_further, lines_first}
use Rattle.audit_rules.proofs.Stands.{stand_front}

pub record SamePlace (sent : List Sent) (console steps : List ℕ) (x y : StandTo sent console steps) : Type 0 where
  pub done : x.done ≡ y.done
  pub rest : x.rest ≡ y.rest

no_further : (sent : List Sent) (console steps : List ℕ) (x y : StandTo sent console steps) (more : List Line) → y.done ≡ x.done ++ more → x.rest ≡ lines_text more ++ y.rest → SamePlace sent console steps x y
no_further sent console steps x y [] lines text = record { done = sym (lines ∙ append-nil x.done); rest = text }
no_further sent console steps x y (l ∷ ms) lines text =
    let whole : y.done ≡ (x.done ++ l ∷ []) ++ ms = lines ∙ sym (append_assoc x.done (l ∷ []) ms) in
    let records : records_of y.done ≡ records_of (x.done ++ l ∷ []) ++ records_of ms = ap records_of whole ∙ flat_map-append records_by (x.done ++ l ∷ []) ms in
    absurd (x.furthest l (lines_text ms ++ y.rest) (text ∙ append_assoc (line_text l) (lines_text ms) y.rest)
    (lines_first (form_of steps) (x.done ++ l ∷ []) ms (subst (λ (ls : List Line). AreLinesOf (form_of steps) ls) whole y.are))
    (stand_front sent console (records_of (x.done ++ l ∷ [])) (records_of ms) (subst (λ (rs : List Record). Stand sent console rs) records y.stand)))

pub one_place : (sent : List Sent) (console steps : List ℕ) (x y : StandTo sent console steps) → SamePlace sent console steps x y
one_place sent console steps x y = by_further (one_goes_further (form_of steps) x.done y.done x.rest y.rest x.are.each y.are.each (sym x.text ∙ y.text)) where
  by_further : GoesFurther x.done y.done x.rest y.rest ⊎ GoesFurther y.done x.done y.rest x.rest → SamePlace sent console steps x y
  by_further (inl g) = no_further sent console steps x y g.more g.lines g.text
  by_further (inr g) = let s = no_further sent console steps y x g.more g.lines g.text in record { done = sym s.done; rest = sym s.rest }
