-- The first error of a line.
use Rattle.std.proofs.Common.{◌≡◌, ℕ, Bool, true, false, cond, List, [], ◌∷◌, ◌++◌, refl, ◌∙◌, ap, Option, Some, None}
use Rattle.code_table.specs.declared.Code.{Code}
use Rattle.code_table.specs.Refusals.{first_refusal, or_else}
use Rattle.gcode_words.specs.declared.Word.{Word}
use Rattle.modal_state.specs.declared.Parser.{Parser}
use Rattle.line_words.specs.Given.{line_number_out_of_range}
use Rattle.gcode_check.specs.Conditions.{line_refusal, command_rows, value_rows}

else_or : (b : Bool) (code : Code) (first rest all : Option Code) → all ≡ or_else first rest → cond b (Some code) all ≡ or_else (cond b (Some code) first) rest
else_or true code first rest all e = refl
else_or false code first rest all e = e

-- the first of two lists of errors
pub first_of : (rows others : List (ℕ × Bool)) → first_refusal (rows ++ others) ≡ or_else (first_refusal rows) (first_refusal others)
first_of [] others = refl
first_of (row ∷ rows) others = else_or row.1 (record { 0 = row.0 }) (first_refusal rows) (first_refusal others) (first_refusal (rows ++ others)) (first_of rows others)

-- the error of N, or else the first of the others
pub line_refusal_is : (p : Parser) (ws : List Word) → line_refusal p ws
    ≡ cond (line_number_out_of_range ws) (Some (record { 0 = 27 })) (or_else (first_refusal (command_rows p ws)) (first_refusal (value_rows p ws)))
unfolding line_refusal
line_refusal_is p ws = ap (cond (line_number_out_of_range ws) (Some (record { 0 = 27 }))) (first_of (command_rows p ws) (value_rows p ws))

when_true : (b : Bool) (x y : Option Code) → b ≡ true → cond b x y ≡ x
when_true true x y e = refl
when_true false x y e = absurd cc

when_false : (b : Bool) (x y : Option Code) → b ≡ false → cond b x y ≡ y
when_false true x y e = absurd cc
when_false false x y e = refl

pub number_refuses : (p : Parser) (ws : List Word) → line_number_out_of_range ws ≡ true → line_refusal p ws ≡ Some (record { 0 = 27 })
number_refuses p ws e = line_refusal_is p ws ∙ when_true (line_number_out_of_range ws) _ _ e

else_is : (p : Parser) (ws : List Word) (r : Option Code) → line_number_out_of_range ws ≡ false → first_refusal (command_rows p ws) ≡ r
    → line_refusal p ws ≡ or_else r (first_refusal (value_rows p ws))
else_is p ws r e first = line_refusal_is p ws ∙ when_false (line_number_out_of_range ws) _ _ e ∙ ap (λ o. or_else o (first_refusal (value_rows p ws))) first

pub command_refuses : (p : Parser) (ws : List Word) (code : Code) → line_number_out_of_range ws ≡ false → first_refusal (command_rows p ws) ≡ Some code
    → line_refusal p ws ≡ Some code
command_refuses p ws code e first = else_is p ws (Some code) e first

pub value_refuses : (p : Parser) (ws : List Word) → line_number_out_of_range ws ≡ false → first_refusal (command_rows p ws) ≡ None
    → line_refusal p ws ≡ first_refusal (value_rows p ws)
value_refuses p ws e first = else_is p ws None e first
