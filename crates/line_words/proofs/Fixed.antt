-- Targets, and the position.
use Rattle.std.proofs.Common.{◌≡◌, Bool, true, false, cond, not, ◌||◌, ◌&&◌, List, [], ◌∷◌, refl, sym, ◌∙◌, ap, Option, Some, None, is_some, option_map, ℤ, ◌+ℤ◌}
use Rattle.std.specs.Prelude.{unwrap_or}
use Rattle.units.specs.declared.Nm3.{Nm3}
use Rattle.units.specs.declared.Decimal.{Decimal}
use Rattle.gcode_words.specs.declared.Word.{Word}
use Rattle.code_table.specs.Tables.{code}
use Rattle.modal_state.specs.declared.Parser.{Parser}
use Rattle.modal_state.specs.Modes.{plus, origin_nm}
use Rattle.line_words.specs.Letters.{X, Y, Z}
use Rattle.line_words.specs.Codes.{has_g}
use Rattle.line_words.specs.Given.{stands, given, names_axis}
use Rattle.line_words.specs.LineModes.{inch_of, relative_of, length_in}
use Rattle.line_words.specs.Targets.{target, targets, datum, line_offset, moves, targets_home, targets_motion}
use Rattle.line_words.specs.Laws.{is_absolute, at}
use Rattle.line_words.proofs.Letters.{stands_given}

chosen : (machine relative : Bool) (a b c d : Nm3) → (machine || not relative) ≡ true → cond machine a (cond relative b d) ≡ cond machine a (cond relative c d)
chosen true relative a b c d e = refl
chosen false true a b c d e = absurd cc
chosen false false a b c d e = refl

pub same_datum : (p : Parser) (point : Nm3) (ws : List Word) → is_absolute p ws ≡ true → datum (at p point) ws ≡ datum p ws
same_datum p point ws e = chosen (has_g (code 53 0) ws) (relative_of p ws) origin_nm point p.pos_nm (plus (line_offset p ws) p.offsets.g92) e

-- a coordinate of the target: the value from the datum, or else the position
abbrev coordinate : Bool → Option Decimal → ℤ → ℤ → ℤ
coordinate inch v from here = unwrap_or (option_map (λ n. n +ℤ from) (option_map (length_in inch) v)) here

pub from_value : (inch : Bool) (v : Option Decimal) (a b from here there : ℤ) → is_some v ≡ true → a ≡ from → b ≡ from → coordinate inch v a here ≡ coordinate inch v b there
from_value inch None a b from here there some e f = absurd cc
from_value inch (Some v) a b from here there some e f = rw (e, f) refl

pub from_nothing : (inch : Bool) (v : Option Decimal) (from here : ℤ) → is_some v ≡ false → coordinate inch v from here ≡ here
from_nothing inch None from here none = refl
from_nothing inch (Some v) from here none = absurd cc

pub x_fixed : (p : Parser) (point : Nm3) (ws : List Word) → is_absolute p ws ≡ true → stands X ws ≡ true → (target (at p point) ws).x ≡ (target p ws).x
unfolding target
x_fixed p point ws e some = from_value (inch_of p ws) (given X ws) (datum (at p point) ws).x (datum p ws).x (datum p ws).x point.x p.pos_nm.x
    (sym (stands_given X ws) ∙ some) (ap (λ (v : Nm3). v.x) (same_datum p point ws e)) refl

pub y_fixed : (p : Parser) (point : Nm3) (ws : List Word) → is_absolute p ws ≡ true → stands Y ws ≡ true → (target (at p point) ws).y ≡ (target p ws).y
unfolding target
y_fixed p point ws e some = from_value (inch_of p ws) (given Y ws) (datum (at p point) ws).y (datum p ws).y (datum p ws).y point.y p.pos_nm.y
    (sym (stands_given Y ws) ∙ some) (ap (λ (v : Nm3). v.y) (same_datum p point ws e)) refl

pub z_fixed : (p : Parser) (point : Nm3) (ws : List Word) → is_absolute p ws ≡ true → stands Z ws ≡ true → (target (at p point) ws).z ≡ (target p ws).z
unfolding target
z_fixed p point ws e some = from_value (inch_of p ws) (given Z ws) (datum (at p point) ws).z (datum p ws).z (datum p ws).z point.z p.pos_nm.z
    (sym (stands_given Z ws) ∙ some) (ap (λ (v : Nm3). v.z) (same_datum p point ws e)) refl

pub x_stays : (p : Parser) (ws : List Word) → stands X ws ≡ false → (target p ws).x ≡ p.pos_nm.x
unfolding target
x_stays p ws none = from_nothing (inch_of p ws) (given X ws) (datum p ws).x p.pos_nm.x (sym (stands_given X ws) ∙ none)

pub y_stays : (p : Parser) (ws : List Word) → stands Y ws ≡ false → (target p ws).y ≡ p.pos_nm.y
unfolding target
y_stays p ws none = from_nothing (inch_of p ws) (given Y ws) (datum p ws).y p.pos_nm.y (sym (stands_given Y ws) ∙ none)

pub z_stays : (p : Parser) (ws : List Word) → stands Z ws ≡ false → (target p ws).z ≡ p.pos_nm.z
unfolding target
z_stays p ws none = from_nothing (inch_of p ws) (given Z ws) (datum p ws).z p.pos_nm.z (sym (stands_given Z ws) ∙ none)

nowhere : (motion axes : Bool) (point : Nm3) → axes ≡ false → cond (motion && axes) (point ∷ []) [] ≡ []
nowhere true true point e = absurd cc
nowhere true false point e = refl
nowhere false axes point e = refl

neither : (first second : Bool) (a b rest : List Nm3) → first ≡ false → second ≡ false → cond first a (cond second b rest) ≡ rest
neither true second a b rest e f = absurd cc
neither false true a b rest e f = absurd cc
neither false false a b rest e f = refl

pub no_targets : (p : Parser) (ws : List Word) → names_axis ws ≡ false → has_g (code 28 0) ws ≡ false → has_g (code 30 0) ws ≡ false → targets p ws ≡ []
unfolding targets
no_targets p ws none no28 no30 =
    neither (has_g (code 28 0) ws) (has_g (code 30 0) ws) (targets_home p ws p.offsets.home28) (targets_home p ws p.offsets.home30) (targets_motion p ws) no28 no30
    ∙ nowhere (moves ws) (names_axis ws) (target p ws) none
