use Rattle.std.proofs.Common.{◌∷◌, ◌++◌, ◌∙◌, inr, refl, sym, ap}
use Rattle.std.specs.Option.{option_to_list}
use Rattle.step_line.specs.declared.Record.TheVariants.{Event}
use Rattle.pulse_engine.specs.Logs.RecordEvent.{put}
use Rattle.pulse_engine.specs.Steps.{IsFirst, coming, gone}
use Rattle.pulse_engine.proofs.Moves.{seen, nothing_waits, none_after, not_over, fits_put}
use Rattle.pulse_engine.proofs.pulse.Pulse.work.Goals as goal

pub returns-in-Some-clause-logs : goal.returns-in-Some-clause-logs
returns-in-Some-clause-logs g c rest back h k stands out fits =
    let i = c.self.inside in
    let p = c.args.self.now in
    let r = c.in-Some.record in
    let was = seen i.hand i.tracer i.left i.owes i.over p c.self.view_is in
    let first : IsFirst r i.left = (rw c.in-Some.is at c.self.invariant.first) in (
      h,
      put r ∷ k,
      stands,
      c.in-Ok.ensures.ok back k out,
      fits_put p _ (gone i.tracer i.left) h k r (coming i.tracer i.left) (was.0 ∙ ap (λ o. option_to_list o ++ coming i.tracer i.left) c.in-Some.is) (c.requires.counted.0) was.3
          refl c.is_tick-self-inside.ensures c.is_end-self-inside.ensures refl (none_after r i.tracer i.left first) fits,
      inr (r, refl, refl),
    )

pub turn_between-requires-clause-between : goal.turn_between-requires-clause-between
turn_between-requires-clause-between g c =
    let i = c.self.inside in
    let was = seen i.hand i.tracer i.left i.owes i.over c.args.self.now c.self.view_is in (
      was.0 ∙ nothing_waits i.hand i.tracer i.left c.in_default.is c.if-self-eq0.true,
      c.requires.counted.0,
      c.requires.counted.1,
    )

pub returns-then-self-eq0-clause-logs : goal.returns-then-self-eq0-clause-logs
returns-then-self-eq0-clause-logs g c rest back h k stands out fits =
    let t = c.turn_between.ensures.logs rest h k stands fits in
    (t.0, k, t.1, out, t.2, t.3)

pub returns-in-Ok-put-clause-logs : goal.returns-in-Ok-put-clause-logs
returns-in-Ok-put-clause-logs g c rest back h k stands out fits =
    let i = c.self.inside in
    let p = c.args.self.now in
    let r = Event c.next_event-event.result in
    let was = seen i.hand i.tracer i.left i.owes i.over p c.self.view_is in
    let empty = ap (λ o. option_to_list o ++ coming i.tracer i.left) c.in_default.is in
    let t = c.next_event-event.new.tracer in
    let n = c.next_event-event.new.left in
    let now = c.next_event-event.ensures in (
      h,
      put r ∷ k,
      stands,
      c.in-Ok-put.ensures.ok back k out,
      fits_put p _ (gone i.tracer i.left) h k r (coming t n) (was.0 ∙ empty ∙ sym now.waiting) (c.requires.counted.0) was.3
          (ap (λ o. option_to_list o ++ coming t n) c.in_default.is) refl (not_over i.over c.self.invariant.last c.if-self-eq0.false) now.reached (λ e. absurd cc) fits,
      inr (r, refl, refl),
    )
