-- The feed that a jog says.
use Rattle.std.proofs.Common.{◌≡◌, true, false, List, refl, sym, ◌∙◌, Option, Some, None, is_some, option_map, ℤ, pos}
use Rattle.std.specs.Prelude.{unwrap_or}
use Rattle.units.specs.declared.Decimal.{Decimal}
use Rattle.gcode_words.specs.declared.Word.{Word}
use Rattle.modal_state.specs.declared.Parser.{Parser}
use Rattle.line_words.specs.Letters.{F}
use Rattle.line_words.specs.Given.{stands, given}
use Rattle.line_words.specs.LineModes.{inch_of, length_in, feed_of}
use Rattle.line_words.proofs.Letters.{stands_given}
use Rattle.jog.specs.Jogs.{feed_said}

either_way : (f : Decimal → ℤ) (o : Option Decimal) (a b : ℤ) → is_some o ≡ true → unwrap_or (option_map f o) a ≡ unwrap_or (option_map f o) b
either_way f None a b e = absurd cc
either_way f (Some v) a b e = refl

nothing : (f : Decimal → ℤ) (o : Option Decimal) (a : ℤ) → is_some o ≡ false → unwrap_or (option_map f o) a ≡ a
nothing f None a e = refl
nothing f (Some v) a e = absurd cc

-- where F stands, the feed of the line is the one that is said
pub said : (p : Parser) (ws : List Word) → stands F ws ≡ true → feed_of p ws ≡ feed_said p ws
said p ws e = either_way (length_in (inch_of p ws)) (given F ws) p.feed (pos 0) (sym (stands_given F ws) ∙ e)

pub unsaid : (p : Parser) (ws : List Word) → stands F ws ≡ false → feed_said p ws ≡ pos 0
unsaid p ws e = nothing (length_in (inch_of p ws)) (given F ws) (pos 0) (sym (stands_given F ws) ∙ e)
