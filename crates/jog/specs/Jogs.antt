-- Jogs: what the words after `$J=` do.
use Rattle.std.specs.Prelude.{ℕ, Bool, true, not, ◌&&◌, ◌||◌, ◌==◌, List, [], ◌∷◌, ℤ, pos, nat_abs, unwrap_or, option_map, Some, None, Ok, Err}
use Rattle.std.specs.List.{list_any}
use Rattle.std.specs.Option.{option_map_or}
use Rattle.std.specs.declared.option.Option.{Option}
use Rattle.std.specs.declared.result.Result.{Result}
use Rattle.units.specs.declared.Nm3.{Nm3}
use Rattle.units.specs.declared.Rate.TheVariants.{Jog}
use Rattle.units.specs.Lengths.{IsMove}
use Rattle.units.specs.Limits.{IsRate}
use Rattle.gcode_words.specs.declared.Word.{Word}
use Rattle.code_table.specs.Tables.{code}
use Rattle.code_table.specs.Refusals.{first_refusal, or_else}
use Rattle.code_table.specs.declared.Code.{Code}
use Rattle.modal_state.specs.declared.Parser.{Parser}
use Rattle.settings.specs.declared.Settings.{Settings}
use Rattle.line_words.specs.Letters.{F, G, I, J, K, L, P, R, S, T}
use Rattle.line_words.specs.Codes.{is_code}
use Rattle.line_words.specs.Given.{stands, given, line_number_out_of_range, names_axis}
use Rattle.line_words.specs.LineModes.{inch_of, length_in}
use Rattle.line_words.specs.Targets.{target}
use Rattle.line_words.specs.WordRefusals.{is_command, words_refusal}
use Rattle.travel_limits.specs.Reach.{IsNear, is_far, leave_travel, steps3}
use Rattle.jog.specs.declared.JogMove.{JogMove}

-- ---- what refuses a jog

-- there is no F word, or F is 0
abbrev pub has_no_feed : List Word → Bool
has_no_feed ws = option_map_or (λ v. nat_abs v.micro == 0) (given F ws) true

-- words that no jog takes
abbrev pub unused_in_jog : List Word → Bool
unused_in_jog ws =
    stands I ws || stands J ws || stands K ws || stands L ws || stands P ws || stands R ws || stands S ws || stands T ws

-- the codes that a jog may have: inches or millimetres, machine coordinates, absolute or relative
abbrev pub is_jog_code : Word → Bool
is_jog_code w =
    is_code G (code 20 0) w || is_code G (code 21 0) w || is_code G (code 53 0) w || is_code G (code 90 0) w || is_code G (code 91 0) w

-- an M word, or another G word
abbrev pub is_other_code : Word → Bool
is_other_code w = is_command w && not (is_jog_code w)

-- the errors of a jog whose words pass, which goes to this target, in their order
abbrev pub jog_rows : Settings → List Word → Nm3 → List (ℕ × Bool)
jog_rows s ws at =
    (27, line_number_out_of_range ws)
    ∷ (22, has_no_feed ws)
    ∷ (26, not (names_axis ws))
    ∷ (36, unused_in_jog ws)
    ∷ (16, list_any is_other_code ws)
    ∷ (33, is_far at)
    ∷ (15, leave_travel s (at ∷ []))
    ∷ []

unfoldable pub jog_error : Settings → List Word → Nm3 → Option Code
jog_error s ws at = first_refusal (jog_rows s ws at)

-- the first refusal of a jog: that of its words, as in any line, else that of the jog
abbrev pub jog_refusal : Parser → Settings → List Word → Option Code
jog_refusal p s ws = or_else (words_refusal ws) (jog_error s ws (target p ws))

-- ---- what a jog does

-- its own feed, in nm per minute
abbrev pub feed_said : Parser → List Word → ℤ
feed_said p ws = unwrap_or (option_map (length_in (inch_of p ws)) (given F ws)) (pos 0)

-- it goes from the position to its target, which is that of any line with these words, at its own feed
abbrev pub jog_move : Parser → Settings → List Word → JogMove
jog_move p s ws = record {
  mv = record { from = p.pos_steps; to = steps3 s.limits.per_mm (target p ws) };
  rate = Jog (feed_said p ws);
  target = target p ws;
}

abbrev pub jog_by : Option Code → JogMove → Result JogMove Code
jog_by (Some code) jog = Err code
jog_by None jog = Ok jog

unfoldable pub jog_of : Parser → Settings → List Word → Result JogMove Code
jog_of p s ws = jog_by (jog_refusal p s ws) (jog_move p s ws)

-- after a jog the position is its target, and all else is as before
abbrev pub jogged : Parser → JogMove → Parser
jogged p jog = record p { pos_nm = jog.target; pos_steps = jog.mv.to }

-- a jog in range
pub record IsJog (jog : JogMove) : Type 0 where
  pub way : IsMove jog.mv
  pub rate_is : IsRate jog.rate
  pub near : IsNear jog.target

-- ---- the same words in a line

-- the word G1
abbrev pub g1 : Word
g1 = record { letter = G; value = record { micro = pos 1000000 } }
