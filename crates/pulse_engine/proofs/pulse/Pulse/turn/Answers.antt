use Rattle.std.proofs.Common.{◌≡◌, true, false, ◌∷◌, ◌∙◌, inl, inr, refl, sym, subst}
use Rattle.outside.specs.declared.Turn.TheVariants.{Did, Done}
use Rattle.pulse_engine.specs.Logs.PieceEvent.{asked, ticked, halted}
use Rattle.pulse_engine.specs.Turns.{PulseTurned}
use Rattle.pulse_engine.proofs.Moves.{seen, by_answer, worked, has_tick, fits_asked, fits_ticked, all_counted}
use Rattle.pulse_engine.proofs.pulse.Pulse.turn.Goals as goal

pub tick_done-requires : goal.tick_done-requires
tick_done-requires g c =
    let i = c.self.inside in
    let r = c.requires in
    let b = c.stopped-stopped.result in
    let told = c.stopped-stopped.ensures in
    let was = seen i.hand i.tracer i.left i.owes i.over c.args.self.now c.self.view_is in (
      r.0,
      asked b ∷ r.2,
      by_answer b (λ b. g.P.PulsePort.stands c.stopped-stopped.new.self r.0 (asked b ∷ r.2)) (λ e. told.waits e r.0 r.2 r.4) (λ e. told.none e r.0 r.2 r.4),
      has_tick c.args.self.now (asked b ∷ r.2) r.3 (was.1 ∙ c.if-self-2.true) (fits_asked c.args.self.now b r.2 r.3 r.6),
    )

pub returns-then-self-2-clause-logs : goal.returns-then-self-2-clause-logs
returns-then-self-2-clause-logs g c rest back h k stands out fits =
    let i = c.self.inside in
    let p = c.args.self.now in
    let b = c.stopped-stopped.result in
    let told = c.stopped-stopped.ensures in
    let was = seen i.hand i.tracer i.left i.owes i.over p c.self.view_is in
    let owes = was.1 ∙ c.if-self-2.true in
    let fits' = fits_asked p b h k fits in
    let asks = by_answer b (λ b. g.P.PulsePort.stands c.stopped-stopped.new.self rest (asked b ∷ h)) (λ e. told.waits e rest h stands) (λ e. told.none e rest h stands) in (
      ticked ∷ (asked b ∷ h),
      k,
      c.tick_done.ensures rest (asked b ∷ h) asks (has_tick p (asked b ∷ h) k owes fits'),
      out,
      fits_ticked p _ (asked b ∷ h) k owes (sym was.0) refl (sym was.2) (sym was.3) fits',
      inr (inl (b, refl, refl)),
    )

pub halt-requires-clause-stands : goal.halt-requires-clause-stands
halt-requires-clause-stands g c =
    let r = c.requires in
    (r.0, asked true ∷ r.2, r.3, c.stopped-stopped.ensures.waits c.if-stopped.true r.0 r.2 r.4, fits_asked c.args.self.now true r.2 r.3 r.6, refl)

pub halt-requires-clause-between : goal.halt-requires-clause-between
halt-requires-clause-between g c =
    let i = c.self.inside in
    let was = seen i.hand i.tracer i.left i.owes i.over c.args.self.now c.self.view_is in
    (was.1 ∙ c.if-self-2.false, was.2 ∙ c.if-self.false)

pub returns-then-stopped-clause-logs : goal.returns-then-stopped-clause-logs
returns-then-stopped-clause-logs g c rest back h k stands out fits =
    let i = c.self.inside in
    let p = c.args.self.now in
    let was = seen i.hand i.tracer i.left i.owes i.over p c.self.view_is in
    let t = c.halt.ensures.logs rest (asked true ∷ h) k (c.stopped-stopped.ensures.waits c.if-stopped.true rest h stands) (fits_asked p true h k fits) refl in (
      halted t.0 ∷ (asked true ∷ h),
      k,
      t.1,
      out,
      t.2,
      subst (λ a. PulseTurned a h k (halted t.0 ∷ (asked true ∷ h)) k) (sym c.halt.ensures.did) (inr (inr (t.0, refl, refl, all_counted p h k (was.1 ∙ c.if-self-2.false) fits))),
    )

pub returns-then-stopped-clause-done : goal.returns-then-stopped-clause-done
returns-then-stopped-clause-done g c =
    let i = c.self.inside in
    let was = seen i.hand i.tracer i.left i.owes i.over c.args.self.now c.self.view_is in
    (λ e. absurd (let x : Did ≡ Done = sym c.halt.ensures.did ∙ e in cc), λ o. absurd (let x : true ≡ false = sym o ∙ (was.2 ∙ c.if-self.false) in cc))

pub work-requires-clause-stands : goal.work-requires-clause-stands
work-requires-clause-stands g c =
    let r = c.requires in
    (r.0, r.1, asked false ∷ r.2, r.3, c.stopped-stopped.ensures.none c.if-stopped.false r.0 r.2 r.4, r.5, fits_asked c.args.self.now false r.2 r.3 r.6)

pub work-requires-clause-counted : goal.work-requires-clause-counted
work-requires-clause-counted g c =
    let i = c.self.inside in
    let was = seen i.hand i.tracer i.left i.owes i.over c.args.self.now c.self.view_is in
    (was.1 ∙ c.if-self-2.false, was.2 ∙ c.if-self.false)

pub returns-clause-logs : goal.returns-clause-logs
returns-clause-logs g c rest back h k stands out fits =
    let p = c.args.self.now in
    let t = c.work.ensures.logs rest back (asked false ∷ h) k (c.stopped-stopped.ensures.none c.if-stopped.false rest h stands) out (fits_asked p false h k fits) in
    (t.0, t.1, t.2, t.3, t.4, worked c.work.result h t.0 k t.1 c.work.ensures.going t.5)

pub returns-clause-done : goal.returns-clause-done
returns-clause-done g c =
    let i = c.self.inside in
    let was = seen i.hand i.tracer i.left i.owes i.over c.args.self.now c.self.view_is in
    (λ e. absurd (c.work.ensures.going e), λ o. absurd (let x : true ≡ false = sym o ∙ (was.2 ∙ c.if-self.false) in cc))
