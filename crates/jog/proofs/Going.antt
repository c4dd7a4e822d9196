-- Where the words of a jog go in a line.
use Rattle.std.proofs.Common.{◌≡◌, ℕ, Bool, true, false, cond, not, ◌&&◌, ◌||◌, ◌==◌, List, [], ◌∷◌, refl, ◌∙◌, ap, arith, Option, Some, None}
use Rattle.std.specs.List.{list_any}
use Rattle.units.specs.declared.Nm3.{Nm3}
use Rattle.gcode_words.specs.declared.Word.{Word}
use Rattle.code_table.specs.Tables.{code}
use Rattle.modal_state.specs.declared.Parser.{Parser}
use Rattle.settings.specs.declared.Settings.{Settings}
use Rattle.line_words.specs.Letters.{G}
use Rattle.line_words.specs.Codes.{has_g, key_of, is_key, group_of, is_code, code_in}
use Rattle.line_words.specs.Given.{names_axis}
use Rattle.line_words.specs.Targets.{target, targets, targets_home}
use Rattle.line_words.proofs.Tests.{and_true, is_same, row_passes}
use Rattle.jog.specs.Jogs.{jog_rows, jog_error, is_other_code, g1}

keyed : (key : ℕ) (o : Option ℕ) → is_key key o ≡ true → o ≡ Some key
keyed key None e = absurd cc
keyed key (Some other) e = ap Some (is_same other key e)

-- the keys of the codes that a jog may have
abbrev is_jog_key : ℕ → Bool
is_jog_key key = (key == code 20 0) || (key == code 21 0) || (key == code 53 0) || (key == code 90 0) || (key == code 91 0)

-- any other G code is refused
other_is : (w : Word) (key : ℕ) → is_jog_key key ≡ false → is_code G key w ≡ true → is_other_code w ≡ true
other_is w key other e =
    let both = and_true (w.letter == G) (is_key key (key_of w.value)) e in
    rw (both.0, keyed key (key_of w.value) both.1, other) refl

or_true : (b : Bool) → (b || true) ≡ true
or_true true = refl
or_true false = refl

stands_other : (ws : List Word) (key : ℕ) → is_jog_key key ≡ false → has_g key ws ≡ true → list_any is_other_code ws ≡ true
stands_other [] key other e = absurd cc
stands_other (w ∷ ws) key other e = by_test (is_code G key w) refl e (stands_other ws key other)
  where
    by_test : (b : Bool) → is_code G key w ≡ b → (b || has_g key ws) ≡ true → (has_g key ws ≡ true → list_any is_other_code ws ≡ true)
        → (is_other_code w || list_any is_other_code ws) ≡ true
    by_test true f h rest = rw (other_is w key other f) refl
    by_test false f h rest = rw (rest h) (or_true (is_other_code w))

pub not_there : (ws : List Word) (key : ℕ) → is_jog_key key ≡ false → list_any is_other_code ws ≡ false → has_g key ws ≡ false
not_there ws key other none = by_test (has_g key ws) refl
  where
    by_test : (b : Bool) → has_g key ws ≡ b → b ≡ false
    by_test false e = refl
    by_test true e = let some = stands_other ws key other e in absurd cc

-- what an accepted jog has
pub record IsJogLine (ws : List Word) : Type 0 where
  pub axis : names_axis ws ≡ true
  pub codes : list_any is_other_code ws ≡ false

not_false : (b : Bool) → not b ≡ false → b ≡ true
not_false true e = refl
not_false false e = absurd cc

pub jog_line : (s : Settings) (ws : List Word) (at : Nm3) → jog_error s ws at ≡ None → IsJogLine ws
unfolding jog_error
jog_line s ws at e = record {
  axis = not_false (names_axis ws) (row_passes (jog_rows s ws at) 2 (0, false) e (omega arith));
  codes = row_passes (jog_rows s ws at) 4 (0, false) e (omega arith);
}

went : (first second taken some names : Bool) (a b : List Nm3) (point : Nm3) → first ≡ false → second ≡ false → taken ≡ false → some ≡ true → names ≡ true
    → cond first a (cond second b (cond ((not taken && some) && names) (point ∷ []) [])) ≡ point ∷ []
went first second taken some names a b point e f g h k = rw (e, f, g, h, k) refl

or_middle : (a b c : Bool) → b ≡ true → (a || b || c) ≡ true
or_middle true b c e = refl
or_middle false true c e = refl
or_middle false false c e = absurd cc

none_of : (a b c d : Bool) → a ≡ false → b ≡ false → c ≡ false → d ≡ false → (a || b || c || d) ≡ false
none_of a b c d e f g h = rw (e, f, g, h) refl

-- a G1 before them changes no target
same_target : (p : Parser) (ws : List Word) → target p (g1 ∷ ws) ≡ target p ws
unfolding target code_in group_of
same_target p ws = refl

pub goes : (p : Parser) (ws : List Word) → IsJogLine ws → targets p (g1 ∷ ws) ≡ target p ws ∷ []
unfolding targets
goes p ws line =
    let no10 = not_there ws (code 10 0) refl line.codes in
    let no28 = not_there ws (code 28 0) refl line.codes in
    let no30 = not_there ws (code 30 0) refl line.codes in
    let no92 = not_there ws (code 92 0) refl line.codes in
    went (has_g (code 28 0) (g1 ∷ ws)) (has_g (code 30 0) (g1 ∷ ws))
    (has_g (code 10 0) (g1 ∷ ws) || has_g (code 28 0) (g1 ∷ ws) || has_g (code 30 0) (g1 ∷ ws) || has_g (code 92 0) (g1 ∷ ws))
    (has_g (code 0 0) (g1 ∷ ws) || has_g (code 1 0) (g1 ∷ ws) || names_axis (g1 ∷ ws)) (names_axis (g1 ∷ ws))
    (targets_home p (g1 ∷ ws) p.offsets.home28) (targets_home p (g1 ∷ ws) p.offsets.home30) (target p (g1 ∷ ws))
    no28 no30 (none_of (has_g (code 10 0) ws) (has_g (code 28 0) ws) (has_g (code 30 0) ws) (has_g (code 92 0) ws) no10 no28 no30 no92)
    (or_middle (has_g (code 0 0) (g1 ∷ ws)) (has_g (code 1 0) (g1 ∷ ws)) (names_axis (g1 ∷ ws)) refl) line.axis
    ∙ ap (λ (at : Nm3). at ∷ []) (same_target p ws)
