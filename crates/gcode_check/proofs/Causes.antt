-- Each verdict and its cause.
use Rattle.std.proofs.Common.{◌≡◌, Bool, true, false, cond, List, refl, sym, ◌∙◌, ap, Option, Some, None}
use Rattle.gcode_words.specs.declared.Word.{Word}
use Rattle.code_table.specs.declared.Code.{Code}
use Rattle.modal_state.specs.declared.Parser.{Parser}
use Rattle.settings.specs.declared.Settings.{Settings}
use Rattle.gcode_check.specs.Conditions.{leaves_travel}
use Rattle.gcode_check.specs.Verdicts.{verdict, verdict_by, refusal_of, accepted}
use Rattle.gcode_check.specs.declared.Accept.{Accept as Accepted}
use Rattle.gcode_check.specs.declared.Verdict.{Verdict}
use Rattle.gcode_check.specs.declared.Verdict.TheVariants.{Accept, Refuse, Limit}

-- a verdict by the refusal, by whether travel is left, and by what is done else
abbrev by : Option Code → Bool → Accepted → Verdict
by (Some code) outside a = Refuse code
by None outside a = cond outside Limit (Accept a)

refused : (o : Option Code) (outside : Bool) (a : Accepted) (error : Code) → by o outside a ≡ Refuse error → o ≡ Some error
refused (Some code) outside a error e = cc
refused None true a error e = absurd cc
refused None false a error e = absurd cc

limited : (o : Option Code) (outside : Bool) (a : Accepted) → by o outside a ≡ Limit → (o ≡ None) × (outside ≡ true)
limited (Some code) outside a e = absurd cc
limited None true a e = (refl, refl)
limited None false a e = absurd cc

carried : (o : Option Code) (outside : Bool) (a b : Accepted) → by o outside a ≡ Accept b → (o ≡ None) × (outside ≡ false) × (a ≡ b)
carried (Some code) outside a b e = absurd cc
carried None true a b e = absurd cc
carried None false a b e = (refl, refl, cc)

verdict_is : (p : Parser) (s : Settings) (ws : List Word) → verdict p s ws ≡ by (refusal_of p ws) (leaves_travel p s ws) (accepted p s ws)
unfolding verdict
verdict_is p s ws = same (refusal_of p ws)
  where
    same : (o : Option Code) → verdict_by o p s ws ≡ by o (leaves_travel p s ws) (accepted p s ws)
    same (Some code) = refl
    same None = refl

pub is_refused : (p : Parser) (s : Settings) (ws : List Word) (error : Code) → verdict p s ws ≡ Refuse error → refusal_of p ws ≡ Some error
is_refused p s ws error e = refused (refusal_of p ws) (leaves_travel p s ws) (accepted p s ws) error (sym (verdict_is p s ws) ∙ e)

pub refuses : (p : Parser) (s : Settings) (ws : List Word) (error : Code) → refusal_of p ws ≡ Some error → verdict p s ws ≡ Refuse error
refuses p s ws error e = verdict_is p s ws ∙ rw e refl

pub is_limited : (p : Parser) (s : Settings) (ws : List Word) → verdict p s ws ≡ Limit → (refusal_of p ws ≡ None) × (leaves_travel p s ws ≡ true)
is_limited p s ws e = limited (refusal_of p ws) (leaves_travel p s ws) (accepted p s ws) (sym (verdict_is p s ws) ∙ e)

pub limits : (p : Parser) (s : Settings) (ws : List Word) → (refusal_of p ws ≡ None) × (leaves_travel p s ws ≡ true) → verdict p s ws ≡ Limit
limits p s ws e = verdict_is p s ws ∙ rw (e.0, e.1) refl

pub is_accepted : (p : Parser) (s : Settings) (ws : List Word) (a : Accepted) → verdict p s ws ≡ Accept a → (refusal_of p ws ≡ None) × (leaves_travel p s ws ≡ false) × (accepted p s ws ≡ a)
is_accepted p s ws a e = carried (refusal_of p ws) (leaves_travel p s ws) (accepted p s ws) a (sym (verdict_is p s ws) ∙ e)

pub accepts : (p : Parser) (s : Settings) (ws : List Word) (a : Accepted) → (refusal_of p ws ≡ None) × (leaves_travel p s ws ≡ false) × (accepted p s ws ≡ a) → verdict p s ws ≡ Accept a
accepts p s ws a e = verdict_is p s ws ∙ rw (e.0, e.1) (ap Accept e.2)
