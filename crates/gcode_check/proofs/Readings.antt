-- The offsets behind a line, and what the position reads.
use Rattle.std.proofs.Common.{◌≡◌, ◌≢◌, ℕ, zero, suc, ◌≤◌, Bool, true, false, cond, not, ◌&&◌, ◌||◌, ◌==◌, List, [], ◌∷◌, if◌then◌else◌, refl, ◌∙◌, ap, arith, Option, Some, None, option_map, option_and_then, IfSome, ℤ, ◌-ℤ◌}
use Rattle.std.specs.Prelude.{unwrap_or, nat_eq}
use Rattle.std.specs.Map.{lookup}
use Rattle.std.proofs.lemmas.Bool.Decides.{nat_tests}
use Rattle.std.proofs.lemmas.Int.{ints}
use Rattle.units.specs.declared.Decimal.{Decimal}
use Rattle.units.specs.declared.Nm3.{Nm3}
use Rattle.units.specs.declared.Steps3.{Steps3}
use Rattle.gcode_words.specs.declared.Word.{Word}
use Rattle.code_table.specs.Tables.{value_of, code, no_mode_group, system_group}
use Rattle.code_table.specs.declared.Code.{Code}
use Rattle.code_table.specs.Refusals.{or_else}
use Rattle.modal_state.specs.declared.Offsets.{Offsets}
use Rattle.modal_state.specs.declared.Parser.{Parser}
use Rattle.modal_state.specs.Modes.{IsParser, offset_of, program_ended}
use Rattle.settings.specs.declared.Settings.{Settings}
use Rattle.line_words.specs.Letters.{G, L, P}
use Rattle.line_words.specs.Codes.{rows_of, has_g, code_in}
use Rattle.line_words.specs.Given.{given, whole_given, exceeds, names_axis}
use Rattle.line_words.specs.LineModes.{system_of, coordinates}
use Rattle.line_words.specs.Targets.{targets, targets_home, targets_motion, named, line_offset, target}
use Rattle.line_words.specs.WordRefusals.{words_refusal}
use Rattle.line_words.proofs.Alone.{alone}
use Rattle.line_words.proofs.Tests.{row_passes}
use Rattle.gcode_check.specs.Conditions.{line_refusal, line_rows, system_out_of_range}
use Rattle.gcode_check.specs.Effects.{stops, last_of, ends_program, parser_moved, parser_after, offsets_after, with_offset}
use Rattle.gcode_check.specs.Laws.{reading, IsAsSaid}
use Rattle.gcode_check.specs.NewOffsets.{is_exactly, has_l, set_system, new_system_offset, new_g92}
use Rattle.gcode_check.specs.Verdicts.{refusal_of}
use Rattle.gcode_check.proofs.Moves.{after_nm}

-- a code that is not modal stands alone among these
pub apart : (ws : List Word) (key other : ℕ) → words_refusal ws ≡ None → value_of key (rows_of G) ≡ Some no_mode_group → value_of other (rows_of G) ≡ Some no_mode_group
    → key ≢ other → has_g key ws ≡ true → has_g other ws ≡ false
apart ws key other pass row other_row differ e = alone ws G key G other no_mode_group (record { row = row; other_row = other_row; differ = differ }) pass e

pub words_pass : (p : Parser) (ws : List Word) → refusal_of p ws ≡ None → (words_refusal ws ≡ None) × (line_refusal p ws ≡ None)
words_pass p ws e = both (words_refusal ws) (line_refusal p ws) e
  where
    both : (first second : Option Code) → or_else first second ≡ None → (first ≡ None) × (second ≡ None)
    both (Some code) second e = absurd cc
    both None second e = (refl, e)

no_motion : (taken some names : Bool) (points : List Nm3) → taken ≡ true → cond ((not taken && some) && names) points [] ≡ []
no_motion true some names points e = refl
no_motion false some names points e = absurd cc

or_first : (a b c d : Bool) → a ≡ true → (a || b || c || d) ≡ true
or_first true b c d e = refl
or_first false b c d e = absurd cc

or_last : (a b c d : Bool) → d ≡ true → (a || b || c || d) ≡ true
or_last true b c d e = refl
or_last false true c d e = refl
or_last false false true d e = refl
or_last false false false d e = e

neither : (first second : Bool) (a b rest : List Nm3) → first ≡ false → second ≡ false → cond first a (cond second b rest) ≡ rest
neither true second a b rest e f = absurd cc
neither false true a b rest e f = absurd cc
neither false false a b rest e f = refl

-- a line whose axis words G10 or G92 takes moves nowhere
nowhere : (p : Parser) (ws : List Word) → (has_g (code 10 0) ws || has_g (code 28 0) ws || has_g (code 30 0) ws || has_g (code 92 0) ws) ≡ true
    → has_g (code 28 0) ws ≡ false → has_g (code 30 0) ws ≡ false → targets p ws ≡ []
unfolding targets
nowhere p ws taken no28 no30 =
    neither (has_g (code 28 0) ws) (has_g (code 30 0) ws) (targets_home p ws p.offsets.home28) (targets_home p ws p.offsets.home30) (targets_motion p ws) no28 no30
    ∙ no_motion (has_g (code 10 0) ws || has_g (code 28 0) ws || has_g (code 30 0) ws || has_g (code 92 0) ws)
    (has_g (code 0 0) ws || has_g (code 1 0) ws || names_axis ws) (names_axis ws) (target p ws ∷ []) taken

pub with_system_offset_nowhere : (p : Parser) (ws : List Word) → words_refusal ws ≡ None → has_g (code 10 0) ws ≡ true → targets p ws ≡ []
with_system_offset_nowhere p ws pass e =
    nowhere p ws (or_first (has_g (code 10 0) ws) (has_g (code 28 0) ws) (has_g (code 30 0) ws) (has_g (code 92 0) ws) e)
    (apart ws (code 10 0) (code 28 0) pass refl refl (λ same. omega arith) e) (apart ws (code 10 0) (code 30 0) pass refl refl (λ same. omega arith) e)

pub with_shift_nowhere : (p : Parser) (ws : List Word) → words_refusal ws ≡ None → has_g (code 92 0) ws ≡ true → targets p ws ≡ []
with_shift_nowhere p ws pass e =
    nowhere p ws (or_last (has_g (code 10 0) ws) (has_g (code 28 0) ws) (has_g (code 30 0) ws) (has_g (code 92 0) ws) e)
    (apart ws (code 92 0) (code 28 0) pass refl refl (λ same. omega arith) e) (apart ws (code 92 0) (code 30 0) pass refl refl (λ same. omega arith) e)

-- the offsets behind a line
after_offsets : (p : Parser) (ws : List Word) (points : List Nm3) (places : List Steps3) → (parser_after p ws points places).offsets ≡ offsets_after p ws
unfolding parser_after parser_moved
after_offsets p ws points places = either (ends_program ws)
  where
    either : (b : Bool) → (cond b (program_ended (parser_moved p ws points places)) (parser_moved p ws points places)).offsets ≡ offsets_after p ws
    either true = refl
    either false = refl

-- the state behind a line that goes nowhere: its position and its offsets
pub record StaysWith (p : Parser) (offsets : Offsets) (next : Parser) : Type 0 where
  pub place : next.pos_nm ≡ p.pos_nm
  pub offsets_are : next.offsets ≡ offsets

pub stays_with : (p : Parser) (s : Settings) (ws : List Word) → targets p ws ≡ [] → StaysWith p (offsets_after p ws) (parser_after p ws (targets p ws) (stops p s ws))
stays_with p s ws none = record {
  place = after_nm p ws (targets p ws) (stops p s ws) ∙ ap (last_of p.pos_nm) none;
  offsets_are = after_offsets p ws (targets p ws) (stops p s ws);
}

-- ---- one axis

-- where a G92 sets the rest of the position
shift_reads : (here offset old : ℤ) (said : Option ℤ) → IfSome said (λ v. ((here -ℤ offset) -ℤ unwrap_or (option_map (λ n. (here -ℤ offset) -ℤ n) said) old) ≡ v)
shift_reads here offset old None = tt
shift_reads here offset old (Some v) = omega (arith, ints)

-- where a G10 L20 does
here_reads : (here g92 old : ℤ) (said : Option ℤ) → IfSome said (λ v. ((here -ℤ unwrap_or (option_map (λ n. (here -ℤ g92) -ℤ n) said) old) -ℤ g92) ≡ v)
here_reads here g92 old None = tt
here_reads here g92 old (Some v) = omega (arith, ints)

there_reads : (old : ℤ) (said : Option ℤ) → IfSome said (λ v. unwrap_or said old ≡ v)
there_reads old None = tt
there_reads old (Some v) = refl

-- ---- systems

pub record IsServed (n : ℕ) : Type 0 where
  pub low : 1 ≤ n
  pub high : n ≤ 6

set_at : (offsets : Offsets) (n : ℕ) (at : Nm3) → IsServed n → offset_of (with_offset offsets n at) n ≡ at
set_at offsets zero at served = absurd (omega arith)
set_at offsets (suc zero) at served = refl
set_at offsets (suc (suc zero)) at served = refl
set_at offsets (suc (suc (suc zero))) at served = refl
set_at offsets (suc (suc (suc (suc zero)))) at served = refl
set_at offsets (suc (suc (suc (suc (suc zero))))) at served = refl
set_at offsets (suc (suc (suc (suc (suc (suc zero)))))) at served = refl
set_at offsets (suc (suc (suc (suc (suc (suc (suc n))))))) at served = absurd (omega arith)

either_g92 : (b : Bool) (x y : Offsets) (g92 : Nm3) → x.g92 ≡ g92 → y.g92 ≡ g92 → (cond b x y).g92 ≡ g92
either_g92 true x y g92 e f = e
either_g92 false x y g92 e f = f

same_g92 : (offsets : Offsets) (n : ℕ) (at : Nm3) → (with_offset offsets n at).g92 ≡ offsets.g92
same_g92 offsets n at =
    either_g92 (n == 1) _ _ offsets.g92 refl (either_g92 (n == 2) _ _ offsets.g92 refl (either_g92 (n == 3) _ _ offsets.g92 refl
    (either_g92 (n == 4) _ _ offsets.g92 refl (either_g92 (n == 5) _ _ offsets.g92 refl refl))))

-- the line's system is one of the six
key_in : (o : Option ℕ) (before : ℕ) → IsServed before → IsServed (unwrap_or (option_and_then (λ key. lookup (nat_eq key) coordinates) o) before)
key_in None before served = served
key_in (Some key) before served = grind (arith, nat_tests)

line_system : (p : Parser) (ws : List Word) → IsParser p → IsServed (system_of p ws)
line_system p ws valid = key_in (code_in system_group ws) p.modal.system (record { low = valid.modal.system.0; high = valid.modal.system.1 })

no_row : (p : Parser) (ws : List Word) → line_refusal p ws ≡ None → system_out_of_range ws ≡ false
unfolding line_refusal
no_row p ws e = row_passes (line_rows p ws) 4 (0, false) e (omega arith)

number_in : (o : Option ℕ) (line : ℕ) → exceeds 6 o ≡ false → IsServed line → IsServed (let n = unwrap_or o 0 in if n == 0 then line else n)
number_in None line small served = served
number_in (Some n) line small served = by_test (n == 0) refl
  where
    by_test : (b : Bool) → (n == 0) ≡ b → IsServed (cond b line n)
    by_test true e = served
    by_test false e = record { low = grind (arith, nat_tests); high = grind (arith, nat_tests) }

when : (b c : Bool) → b ≡ true → (b && c) ≡ false → c ≡ false
when true c e f = f
when false c e f = absurd cc

set_served : (p : Parser) (ws : List Word) → IsParser p → has_g (code 10 0) ws ≡ true → line_refusal p ws ≡ None → IsServed (set_system p ws)
set_served p ws valid e none =
    number_in (whole_given P ws) (system_of p ws) (when (has_g (code 10 0) ws) (exceeds 6 (whole_given P ws)) e (no_row p ws none)) (line_system p ws valid)

-- ---- the offsets that a line sets

shifted_offsets : (p : Parser) (ws : List Word) → has_g (code 10 0) ws ≡ false → has_g (code 92 0) ws ≡ true → offsets_after p ws ≡ record p.offsets { g92 = new_g92 p ws }
unfolding offsets_after
shifted_offsets p ws no10 e = rw (no10, e) refl

system_offsets : (p : Parser) (ws : List Word) → has_g (code 10 0) ws ≡ true → offsets_after p ws ≡ with_offset p.offsets (set_system p ws) (new_system_offset p ws)
unfolding offsets_after
system_offsets p ws e = rw e refl

-- behind a G92
pub after_shift : (p : Parser) (s : Settings) (ws : List Word) (next : Parser) → has_g (code 92 0) ws ≡ true → words_refusal ws ≡ None
    → StaysWith p (offsets_after p ws) next → IsAsSaid (named p ws) (reading next (system_of p ws))
unfolding new_g92
after_shift p s ws next e pass stays =
    let offsets = stays.offsets_are ∙ shifted_offsets p ws (apart ws (code 92 0) (code 10 0) pass refl refl (λ same. omega arith) e) e in
    rw (stays.place, offsets) (record {
      x = shift_reads p.pos_nm.x (line_offset p ws).x p.offsets.g92.x (named p ws).x;
      y = shift_reads p.pos_nm.y (line_offset p ws).y p.offsets.g92.y (named p ws).y;
      z = shift_reads p.pos_nm.z (line_offset p ws).z p.offsets.g92.z (named p ws).z;
    })

-- behind a G10: what is set
pub record IsSet (p : Parser) (ws : List Word) (next : Parser) : Type 0 where
  pub place : next.pos_nm ≡ p.pos_nm
  pub g92 : next.offsets.g92 ≡ p.offsets.g92
  pub offset : offset_of next.offsets (set_system p ws) ≡ new_system_offset p ws

pub after_setting : (p : Parser) (ws : List Word) (next : Parser) → IsParser p → has_g (code 10 0) ws ≡ true → line_refusal p ws ≡ None
    → StaysWith p (offsets_after p ws) next → IsSet p ws next
after_setting p ws next valid e none stays =
    let offsets = stays.offsets_are ∙ system_offsets p ws e in
    record {
      place = stays.place;
      g92 = ap (λ (o : Offsets). o.g92) offsets ∙ same_g92 p.offsets (set_system p ws) (new_system_offset p ws);
      offset = ap (λ o. offset_of o (set_system p ws)) offsets ∙ set_at p.offsets (set_system p ws) (new_system_offset p ws) (set_served p ws valid e none);
    }

-- with L2 the offset has the values
pub there : (p : Parser) (ws : List Word) (next : Parser) → has_l 2 ws ≡ true → IsSet p ws next → IsAsSaid (named p ws) (offset_of next.offsets (set_system p ws))
unfolding new_system_offset
there p ws next e set =
    let old = offset_of p.offsets (set_system p ws) in
    rw (set.offset, e) (record {
      x = there_reads old.x (named p ws).x;
      y = there_reads old.y (named p ws).y;
      z = there_reads old.z (named p ws).z;
    })

-- L20 is not L2
not_two : (p : Parser) (ws : List Word) → has_l 20 ws ≡ true → has_l 2 ws ≡ false
not_two p ws e = exactly (given L ws) e
  where
    exactly : (o : Option Decimal) → is_exactly 20 o ≡ true → is_exactly 2 o ≡ false
    exactly None e = absurd cc
    exactly (Some v) e = grind (arith, nat_tests)

-- with L20 the position has the values
pub here : (p : Parser) (ws : List Word) (next : Parser) → has_l 20 ws ≡ true → IsSet p ws next → IsAsSaid (named p ws) (reading next (set_system p ws))
unfolding new_system_offset
here p ws next e set =
    let old = offset_of p.offsets (set_system p ws) in
    rw (set.place, set.g92, set.offset, not_two p ws e) (record {
      x = here_reads p.pos_nm.x p.offsets.g92.x old.x (named p ws).x;
      y = here_reads p.pos_nm.y p.offsets.g92.y old.y (named p ws).y;
      z = here_reads p.pos_nm.z p.offsets.g92.z old.z (named p ws).z;
    })
