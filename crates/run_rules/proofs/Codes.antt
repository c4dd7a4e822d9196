-- What refuses a line by itself does so with other codes than 8 and 9, which come of the motion alone.
use Rattle.std.proofs.Common.{◌≡◌, ℕ, zero, suc, Bool, true, false, not, ◌||◌, cond, List, [], ◌∷◌, length, take, nat_eq, refl, sym, ◌∙◌, subst, Err, Some, None}
use Rattle.std.specs.Prelude.{slice_get, is_ok, is_some, option_and_then, int_lt, pos, ◌==◌}
use Rattle.std.specs.Option.{option_map_or}
use Rattle.std.specs.List.{AllByRecursion}
use Rattle.std.specs.declared.option.Option.{Option}
use Rattle.std.specs.declared.result.Result.{Result}
use Rattle.units.specs.declared.Decimal.{Decimal}
use Rattle.units.specs.declared.Nm3.{Nm3}
use Rattle.code_table.specs.Refusals.{first_refusal, or_else, first_below}
use Rattle.code_table.specs.declared.Code.{Code}
use Rattle.gcode_check.specs.Conditions.{line_rows, line_refusal}
use Rattle.gcode_check.specs.Verdicts.{verdict}
use Rattle.gcode_check.specs.declared.Verdict.TheVariants.{Refuse}
use Rattle.gcode_check.proofs.Causes.{is_refused as is_refusal}
use Rattle.gcode_words.specs.declared.Word.{Word}
use Rattle.gcode_words.specs.declared.WordFault.{WordFault}
use Rattle.gcode_words.specs.declared.WordFault.TheVariants.{Letter, Number}
use Rattle.jog.specs.Jogs.{jog_of, jog_error, jog_rows}
use Rattle.jog.proofs.Causes.{is_refused as is_jog_refusal}
use Rattle.line_words.specs.Targets.{target}
use Rattle.line_words.specs.WordRefusals.{word_rows, word_refusal, refusal_at, words_refusal}
use Rattle.modal_state.specs.declared.Parser.{Parser}
use Rattle.settings.specs.declared.Settings.{Settings}
use Rattle.settings.specs.Numbers.{set_refusal, row_of, takes}
use Rattle.system_lines.specs.Commands.{kind_of, command_of, command_by_kind, setting_refusal, n_of, v_of, equals_place, read_or_zero, stands_at, is_setting_number, asked, unless}
use Rattle.system_lines.specs.declared.Kind.{Kind as DollarKind}
use Rattle.system_lines.specs.declared.Kind.TheVariants as kinds
use Rattle.system_lines.specs.declared.Command.{Command}
use Rattle.run_rules.specs.Outcomes.{fault_number}

abbrev pub is_for_motion : ℕ → Bool
is_for_motion n = nat_eq n 8 || nat_eq n 9

-- another code
abbrev pub IsOther : Code → Type 0
IsOther code = is_for_motion code.0 ≡ false

-- what refuses does so with another code
abbrev pub Others : Option Code → Type 0
Others o = (code : Code) → o ≡ Some code → IsOther code

none_others : Others None
none_others code e = absurd cc

one_other : (n : ℕ) (o : Option Code) (t : Bool) → is_for_motion n ≡ false → Others o → Others (cond t (Some (record { 0 = n })) o)
one_other n o true other rest code e = let same : n ≡ code.0 = cc in subst (λ (k : ℕ). is_for_motion k ≡ false) same other
one_other n o false other rest code e = rest code e

rows_others : (rows : List (ℕ × Bool)) → AllByRecursion (λ row. is_for_motion row.0 ≡ false) rows → Others (first_refusal rows)
rows_others [] all = none_others
rows_others (row ∷ rows) all = one_other row.0 (first_refusal rows) row.1 all.0 (rows_others rows all.1)

or_others : (o p : Option Code) → Others o → Others p → Others (or_else o p)
or_others (Some code) p a b = a
or_others None p a b = b

below_others : (n : ℕ) (refusal : ℕ → Option Code) → ((k : ℕ) → Others (refusal k)) → Others (first_below n refusal)
below_others zero refusal each = none_others
below_others (suc n) refusal each = or_others (first_below n refusal) (refusal n) (below_others n refusal each) (each n)

-- ---- the words

word_others : (before : List Word) (w : Word) → Others (word_refusal before w)
unfolding word_refusal
word_others before w = rows_others (word_rows before w) (refl, (refl, (refl, (refl, (refl, (refl, (refl, tt)))))))

place_others : (before : List Word) (o : Option Word) → Others (option_and_then (word_refusal before) o)
place_others before None = none_others
place_others before (Some w) = word_others before w

at_others : (ws : List Word) (place : ℕ) → Others (refusal_at ws place)
unfolding refusal_at
at_others ws place = place_others (take place ws) (slice_get ws place)

words_others : (ws : List Word) → Others (words_refusal ws)
unfolding words_refusal
words_others ws = below_others (length ws) (refusal_at ws) (at_others ws)

line_others : (p : Parser) (ws : List Word) → Others (line_refusal p ws)
unfolding line_refusal
line_others p ws = rows_others (line_rows p ws) (refl, (refl, (refl, (refl, (refl, (refl, (refl, (refl, (refl, (refl, (refl, (refl, tt))))))))))))

jog_others : (s : Settings) (ws : List Word) (at : Nm3) → Others (jog_error s ws at)
unfolding jog_error
jog_others s ws at = rows_others (jog_rows s ws at) (refl, (refl, (refl, (refl, (refl, (refl, (refl, tt)))))))

-- words that can't be read, and those of a line of G-code and of a jog
pub fault_other : (fault : WordFault) → is_for_motion (fault_number fault) ≡ false
fault_other Letter = refl
fault_other Number = refl

pub verdict_other : (p : Parser) (s : Settings) (ws : List Word) (code : Code) → verdict p s ws ≡ Refuse code → IsOther code
verdict_other p s ws code e = or_others (words_refusal ws) (line_refusal p ws) (words_others ws) (line_others p ws) code (is_refusal p s ws code e)

pub jog_other : (p : Parser) (s : Settings) (ws : List Word) (code : Code) → jog_of p s ws ≡ Err code → IsOther code
jog_other p s ws code e = or_others (words_refusal ws) (jog_error s ws (target p ws)) (words_others ws) (jog_others s ws (target p ws)) code (is_jog_refusal p s ws code e)

-- ---- lines that begin with `$`

pub settings_others : (n : ℕ) (value : Decimal) → Others (set_refusal n value)
settings_others n value = rows_others ((4, int_lt value.micro (pos 0)) ∷ (3, not (is_some (row_of n))) ∷ (3, not (option_map_or (λ row. takes row value) (row_of n) false)) ∷ []) (refl, (refl, (refl, tt)))

unless_others : (r : Option Code) (command : Command) → Others r → (code : Code) → unless r command ≡ Err code → IsOther code
unless_others (Some refusal) command others code e = let same : refusal ≡ code = cc in subst IsOther same (others refusal refl)
unless_others None command others code e = absurd cc

three : (code : Code) {r : Result Command Code} → r ≡ Err (record { 0 = 3 }) → r ≡ Err code → IsOther code
three code is e =
    let both = sym is ∙ e in
    let same : ◌≡◌ {A = Code} (record { 0 = 3 }) code = cc in subst IsOther same refl

line_setting_others : (line : List ℕ) → Others (setting_refusal line)
line_setting_others line = rows_others (
    (2, not (is_ok (n_of line)))
    ∷ (3, not (stands_at 61 line (equals_place line)))
    ∷ (2, not (is_ok (v_of line)))
    ∷ (3, not ((read_or_zero (v_of line)).1 == length line))
    ∷ (3, not (is_setting_number (read_or_zero (n_of line)).0))
    ∷ []) (refl, (refl, (refl, (refl, (refl, tt)))))

kind_others : (kind : DollarKind) (line : List ℕ) (code : Code) → command_by_kind kind line ≡ Err code → IsOther code
kind_others kinds.Setting line code e = unless_others (setting_refusal line) (asked line) (line_setting_others line) code e
kind_others kinds.Jog line code e = three code refl e
kind_others kinds.BareJog line code e = three code refl e
kind_others kinds.Other line code e = three code refl e
kind_others _ line code e = absurd cc

pub line_command_others : (line : List ℕ) (code : Code) → command_of line ≡ Err code → IsOther code
unfolding command_of
line_command_others line code e = kind_others (kind_of line) line code e
