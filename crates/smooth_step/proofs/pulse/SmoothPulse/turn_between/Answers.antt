use Rattle.std.proofs.Common.{◌∷◌, ◌∙◌, inl, refl, sym, ap, subst}
use Rattle.pulse_engine.specs.Logs.PieceEvent.{got}
use Rattle.smooth_step.specs.Counts.{IsHeldAt}
use Rattle.smooth_step.specs.Pulses.{pulse_of}
use Rattle.smooth_step.proofs.Pulsed.{level_got, none_lost_between, none_lost_seen}
use Rattle.pulse_engine.specs.Logs.{got_since}
use Rattle.pulse_engine.proofs.Moves.{seen, hand_is_empty, gone_none, may_get, fits_got}
use Rattle.smooth_step.proofs.pulse.SmoothPulse.turn_between.Goals as goal

pub returns-clause-logs : goal.returns-clause-logs
returns-clause-logs g c rest h k stands fits =
    let i = c.self.inside in
    let p = pulse_of c.args.self.now in
    let x = c.in-Some.piece in
    let was = seen i.hand i.tracer i.left i.owes i.over p (ap pulse_of c.self.view_is) in
    let waits = c.requires.between.0 in
    let owes = c.requires.between.1 in
    let over = c.requires.between.2 in
    let empty = hand_is_empty i.hand i.tracer i.left (sym was.0 ∙ waits) in
    let now = c.begin.ensures in (
      got x ∷ h,
      c.in-Some.ensures.some rest h stands (may_get p h k waits owes fits.pulse),
      record {
        pulse = fits_got p _ i.tracer h k x waits owes over (was.3 ∙ gone_none i.tracer i.left empty.1)
            now.waiting (sym was.1 ∙ owes) (sym was.2 ∙ over) now.reached (c.in-Some.ensures.next rest h stands (may_get p h k waits owes fits.pulse)) fits.pulse;
        level = level_got x (got_since h) i.level _ c.follow.ensures.level;
        left = subst (λ level. IsHeldAt c.begin.result level k) (sym c.follow.ensures.level) (c.begin.ensures.held i.level k);
        whole = λ unhalted. none_lost_between c.begin.result k now.kind (none_lost_seen _ _ _ k c.self.view_is empty.0 (fits.whole unhalted));
      },
      inl (x, refl, refl),
    )
