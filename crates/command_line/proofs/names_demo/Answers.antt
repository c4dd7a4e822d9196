use Rattle.std.proofs.Common.{◌≡◌, ◌∙◌, true, false, sym, ap, codes}
use Rattle.std.specs.Str.{bytes_eq}
use Rattle.std.specs.Cmp.Lexicographic.{same_text}
use Rattle.clap.specs.Walk.{Text}
use Rattle.motion_pulse.specs.declared.pulse.Stepping.{Stepping}
use Rattle.motion_pulse.specs.declared.pulse.Stepping.TheVariants.{Events, Subticks}
use Rattle.command_line.specs.Command.{demo_name}
use Rattle.command_line.proofs.names_demo.Goals as goal

other_name : (name : Text) (stepping : Stepping) → bytes_eq name (codes "demo") ≡ false → name ≡ demo_name stepping → bytes_eq name (codes "pins") ≡ true
other_name name Events other is = absurd (let one : bytes_eq name (codes "demo") ≡ true = ap (λ (t : Text). bytes_eq t (codes "demo")) is in let both : false ≡ true = sym other ∙ one in cc)
other_name name Subticks other is = ap (λ (t : Text). bytes_eq t (codes "pins")) is

pub returns-then-eq : goal.returns-then-eq
returns-then-eq c = (λ is. (Events, same_text c.args.word.now (codes "demo") (sym (sym c.eq.ensures ∙ c.if-eq.true))), λ named. c.if-eq.true)

pub returns-else-eq : goal.returns-else-eq
returns-else-eq c = (
  λ is. (Subticks, same_text c.args.word.now (codes "pins") (sym (sym c.eq-else-eq.ensures ∙ is))),
  λ named. c.eq-else-eq.ensures ∙ other_name c.args.word.now named.0 (sym c.eq.ensures ∙ c.if-eq.false) named.1,
)
