-- Letters of values and of commands.
use Rattle.std.proofs.Common.{◌≡◌, ℕ, ◌<◌, ◌≤◌, Bool, true, false, ◌||◌, ◌==◌, List, [], ◌∷◌, refl, arith, Some, Option, is_some, option_map, cond, find}
use Rattle.std.proofs.lemmas.Bool.Decides.{nat_tests}
use Rattle.gcode_words.specs.declared.Word.{Word}
use Rattle.line_words.specs.Codes.{is_command_letter}
use Rattle.line_words.specs.Given.{is_value_letter, stands, given}

pub value_letter_range : (letter : ℕ) → is_value_letter letter ≡ true → (65 ≤ letter) × (letter < 91)
value_letter_range letter h = grind (arith, nat_tests)

pub value_or_command : (letter : ℕ) → is_value_letter letter ≡ true → is_command_letter letter ≡ false
value_or_command letter h = grind (arith, nat_tests)

one_more : (b : Bool) (rest : Bool) (w : Word) (o : Option Word) → rest ≡ is_some (option_map (λ (v : Word). v.value) o)
    → (b || rest) ≡ is_some (option_map (λ (v : Word). v.value) (cond b (Some w) o))
one_more true rest w o e = refl
one_more false rest w o e = e

pub stands_given : (letter : ℕ) (ws : List Word) → stands letter ws ≡ is_some (given letter ws)
stands_given letter [] = refl
stands_given letter (w ∷ ws) = one_more (w.letter == letter) (stands letter ws) w (find (λ v. v.letter == letter) ws) (stands_given letter ws)
