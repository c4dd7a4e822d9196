use Rattle.std.proofs.Common.{◌≡◌, true, false, ◌∷◌, ◌∙◌, inl, inr, refl, sym, ap, subst}
use Rattle.outside.specs.declared.Turn.TheVariants.{Did, Done}
use Rattle.pulse_engine.specs.Logs.PieceEvent.{asked, ticked, halted}
use Rattle.pulse_engine.specs.Turns.{PulseTurned}
use Rattle.smooth_step.specs.Pulses.{SmoothPulsing, pulse_of, HasLevel, handed}
use Rattle.smooth_step.proofs.Pulsed.{smooth_asked, left_seen, none_handed, none_made, none_lost_seen}
use Rattle.pulse_engine.specs.Logs.{got_since}
use Rattle.pulse_engine.proofs.Moves.{seen, by_answer, worked, has_tick, fits_asked, fits_ticked, all_counted}
use Rattle.smooth_step.proofs.pulse.SmoothPulse.turn.Goals as goal

pub tick_done-requires : goal.tick_done-requires
tick_done-requires g c =
    let i = c.self.inside in
    let r = c.requires in
    let b = c.stopped-stopped.result in
    let told = c.stopped-stopped.ensures in
    let was = seen i.hand i.tracer i.left i.owes i.over (pulse_of c.args.self.now) (ap pulse_of c.self.view_is) in (
      r.0,
      asked b ∷ r.2,
      by_answer b (λ b. g.P.PulsePort.stands c.stopped-stopped.new.self r.0 (asked b ∷ r.2)) (λ e. told.waits e r.0 r.2 r.4) (λ e. told.none e r.0 r.2 r.4),
      has_tick (pulse_of c.args.self.now) (asked b ∷ r.2) r.3 (was.1 ∙ c.if-self-2.true) (fits_asked (pulse_of c.args.self.now) b r.2 r.3 r.6.pulse),
    )

pub returns-then-self-2-clause-logs : goal.returns-then-self-2-clause-logs
returns-then-self-2-clause-logs g c rest back h k stands out fits =
    let i = c.self.inside in
    let p = pulse_of c.args.self.now in
    let b = c.stopped-stopped.result in
    let told = c.stopped-stopped.ensures in
    let was = seen i.hand i.tracer i.left i.owes i.over p (ap pulse_of c.self.view_is) in
    let owes = was.1 ∙ c.if-self-2.true in
    let fits' = fits_asked p b h k fits.pulse in
    let asks = by_answer b (λ b. g.P.PulsePort.stands c.stopped-stopped.new.self rest (asked b ∷ h)) (λ e. told.waits e rest h stands) (λ e. told.none e rest h stands) in (
      ticked ∷ (asked b ∷ h),
      k,
      c.tick_done.ensures rest (asked b ∷ h) asks (has_tick p (asked b ∷ h) k owes fits'),
      out,
      record { pulse = fits_ticked p _ (asked b ∷ h) k owes (sym was.0) refl (sym was.2) (sym was.3) fits'; level = subst (HasLevel (got_since h)) (sym (ap (λ (s : SmoothPulsing). s.level) c.self.view_is)) fits.level; left = left_seen _ _ k c.self.view_is fits.left; whole = λ unhalted. none_lost_seen _ _ i.hand k c.self.view_is refl (fits.whole unhalted) },
      inr (inl (b, refl, refl)),
      none_made c.args.self.now.level c.args.self.now.traced i.tracer k k (ap (λ (s : SmoothPulsing). s.traced.done) c.self.view_is) refl,
    )

pub halt-requires-clause-stands : goal.halt-requires-clause-stands
halt-requires-clause-stands g c =
    let r = c.requires in
    (r.0, asked true ∷ r.2, r.3, c.stopped-stopped.ensures.waits c.if-stopped.true r.0 r.2 r.4, smooth_asked c.args.self.now true r.2 r.3 r.6, refl)

pub halt-requires-clause-between : goal.halt-requires-clause-between
halt-requires-clause-between g c =
    let i = c.self.inside in
    let was = seen i.hand i.tracer i.left i.owes i.over (pulse_of c.args.self.now) (ap pulse_of c.self.view_is) in
    (was.1 ∙ c.if-self-2.false, was.2 ∙ c.if-self.false)

pub returns-then-stopped-clause-logs : goal.returns-then-stopped-clause-logs
returns-then-stopped-clause-logs g c rest back h k stands out fits =
    let i = c.self.inside in
    let p = pulse_of c.args.self.now in
    let was = seen i.hand i.tracer i.left i.owes i.over p (ap pulse_of c.self.view_is) in
    let t = c.halt.ensures.logs rest (asked true ∷ h) k (c.stopped-stopped.ensures.waits c.if-stopped.true rest h stands) (smooth_asked c.args.self.now true h k fits) refl in (
      halted t.0 ∷ (asked true ∷ h),
      k,
      t.1,
      out,
      t.2,
      subst (λ a. PulseTurned a h k (halted t.0 ∷ (asked true ∷ h)) k) (sym c.halt.ensures.did) (inr (inr (t.0, refl, refl, all_counted p h k (was.1 ∙ c.if-self-2.false) fits.pulse))),
      none_handed k (handed c.args.self.now c.halt.new.self) c.halt.ensures.quiet,
    )

pub returns-then-stopped-clause-done : goal.returns-then-stopped-clause-done
returns-then-stopped-clause-done g c =
    let i = c.self.inside in
    let was = seen i.hand i.tracer i.left i.owes i.over (pulse_of c.args.self.now) (ap pulse_of c.self.view_is) in
    (λ e. absurd (let x : Did ≡ Done = sym c.halt.ensures.did ∙ e in cc), λ o. absurd (let x : true ≡ false = sym o ∙ (was.2 ∙ c.if-self.false) in cc))

pub work-requires-clause-stands : goal.work-requires-clause-stands
work-requires-clause-stands g c =
    let r = c.requires in
    (r.0, r.1, asked false ∷ r.2, r.3, c.stopped-stopped.ensures.none c.if-stopped.false r.0 r.2 r.4, r.5, smooth_asked c.args.self.now false r.2 r.3 r.6)

pub work-requires-clause-counted : goal.work-requires-clause-counted
work-requires-clause-counted g c =
    let i = c.self.inside in
    let was = seen i.hand i.tracer i.left i.owes i.over (pulse_of c.args.self.now) (ap pulse_of c.self.view_is) in
    (was.1 ∙ c.if-self-2.false, was.2 ∙ c.if-self.false)

pub returns-clause-logs : goal.returns-clause-logs
returns-clause-logs g c rest back h k stands out fits =
    let p = pulse_of c.args.self.now in
    let t = c.work.ensures.logs rest back (asked false ∷ h) k (c.stopped-stopped.ensures.none c.if-stopped.false rest h stands) out (smooth_asked c.args.self.now false h k fits) in
    (t.0, t.1, t.2, t.3, t.4, worked c.work.result h t.0 k t.1 c.work.ensures.going t.5, t.6)

pub returns-clause-done : goal.returns-clause-done
returns-clause-done g c =
    let i = c.self.inside in
    let was = seen i.hand i.tracer i.left i.owes i.over (pulse_of c.args.self.now) (ap pulse_of c.self.view_is) in
    (λ e. absurd (c.work.ensures.going e), λ o. absurd (let x : true ≡ false = sym o ∙ (was.2 ∙ c.if-self.false) in cc))
