-- Each jog and its cause.
use Rattle.std.proofs.Common.{◌≡◌, false, List, refl, sym, ◌∙◌, ap, arith, Option, Some, None, Ok, Err, IfNone}
use Rattle.gcode_words.specs.declared.Word.{Word}
use Rattle.units.specs.declared.Nm3.{Nm3}
use Rattle.code_table.specs.declared.Code.{Code}
use Rattle.code_table.specs.Refusals.{or_else}
use Rattle.modal_state.specs.declared.Parser.{Parser}
use Rattle.settings.specs.declared.Settings.{Settings}
use Rattle.line_words.specs.Targets.{target}
use Rattle.line_words.specs.WordRefusals.{words_refusal}
use Rattle.line_words.proofs.Tests.{row_passes}
use Rattle.travel_limits.specs.Reach.{IsNear, is_far}
use Rattle.travel_limits.proofs.Nearness.{near_is}
use Rattle.jog.specs.Jogs.{jog_rows, jog_error, jog_refusal, jog_move, jog_by, jog_of}
use Rattle.jog.specs.declared.JogMove.{JogMove}

refused_by : (o : Option Code) (jog : JogMove) (error : Code) → jog_by o jog ≡ Err error → o ≡ Some error
refused_by (Some code) jog error e = cc
refused_by None jog error e = absurd cc

moved_by : (o : Option Code) (jog other : JogMove) → jog_by o jog ≡ Ok other → (o ≡ None) × (jog ≡ other)
moved_by (Some code) jog other e = absurd cc
moved_by None jog other e = (refl, cc)

pub is_refused : (p : Parser) (s : Settings) (ws : List Word) (error : Code) → jog_of p s ws ≡ Err error → jog_refusal p s ws ≡ Some error
unfolding jog_of
is_refused p s ws error e = refused_by (jog_refusal p s ws) (jog_move p s ws) error e

pub refuses : (p : Parser) (s : Settings) (ws : List Word) (error : Code) → jog_refusal p s ws ≡ Some error → jog_of p s ws ≡ Err error
unfolding jog_of
refuses p s ws error e = ap (λ o. jog_by o (jog_move p s ws)) e

pub is_accepted : (p : Parser) (s : Settings) (ws : List Word) (jog : JogMove) → jog_of p s ws ≡ Ok jog → (jog_refusal p s ws ≡ None) × (jog_move p s ws ≡ jog)
unfolding jog_of
is_accepted p s ws jog e = moved_by (jog_refusal p s ws) (jog_move p s ws) jog e

pub accepts : (p : Parser) (s : Settings) (ws : List Word) (jog : JogMove) → (jog_refusal p s ws ≡ None) × (jog_move p s ws ≡ jog) → jog_of p s ws ≡ Ok jog
unfolding jog_of
accepts p s ws jog e = ap (λ o. jog_by o (jog_move p s ws)) e.0 ∙ ap Ok e.1

neither : (first second : Option Code) → or_else first second ≡ None → (first ≡ None) × (second ≡ None)
neither (Some code) second e = absurd cc
neither None second e = (refl, e)

-- where nothing refuses a jog, its words pass and no error holds
pub passes : (p : Parser) (s : Settings) (ws : List Word) → jog_refusal p s ws ≡ None → jog_error s ws (target p ws) ≡ None
passes p s ws e = (neither (words_refusal ws) (jog_error s ws (target p ws)) e).1

goes_near : (s : Settings) (ws : List Word) (at : Nm3) → jog_error s ws at ≡ None → is_far at ≡ false
unfolding jog_error
goes_near s ws at e = row_passes (jog_rows s ws at) 5 (0, false) e (omega arith)

-- what nothing refuses stays near
pub stays_near : (s : Settings) (ws : List Word) (at : Nm3) (r : Option Code) → r ≡ jog_error s ws at → IfNone r (IsNear at)
stays_near s ws at (Some code) e = tt
stays_near s ws at None e = near_is at (goes_near s ws at (sym e))
