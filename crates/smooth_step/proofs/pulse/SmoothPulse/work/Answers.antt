use Rattle.std.proofs.Common.{◌≡◌, ◌+◌, false, Some, ◌∷◌, ◌++◌, ◌∙◌, inr, refl, sym, ap, subst, arith}
use Rattle.std.specs.Option.{option_to_list}
use Rattle.step_line.specs.declared.Record.TheVariants.{Event}
use Rattle.step_line.specs.Tracing.{Trace}
use Rattle.pulse_engine.specs.Logs.RecordEvent.{put, full}
use Rattle.pulse_engine.specs.Steps.{IsFirst, coming, gone}
use Rattle.smooth_step.specs.Counts.{IsHeldAt, AreLeftAt, LosesNone, is_held, level_in}
use Rattle.smooth_step.specs.Pulses.{SmoothPulsing, pulse_of, HasLevel, handed}
use Rattle.smooth_step.proofs.Pulsed.{left_seen, left_behind, held_back, none_made, none_handed, tried_again, one_made, same_pulse, fits_full, none_lost, none_lost_again, made_put, made_held, none_lost_seen}
use Rattle.pulse_engine.specs.Logs.{got_since}
use Rattle.pulse_engine.proofs.Moves.{seen, nothing_waits, none_after, not_over, fits_put}
use Rattle.smooth_step.proofs.pulse.SmoothPulse.work.Goals as goal

pub returns-in-Some-clause-logs : goal.returns-in-Some-clause-logs
returns-in-Some-clause-logs g c rest back h k stands out fits =
    let i = c.self.inside in
    let p = pulse_of c.args.self.now in
    let r = c.in-Some.record in
    let was = seen i.hand i.tracer i.left i.owes i.over p (ap pulse_of c.self.view_is) in
    let first : IsFirst r i.left = (rw c.in-Some.is at c.self.invariant.0.first) in
    let held : IsHeldAt r i.level k = subst (λ o. AreLeftAt o i.left i.level k) c.in-Some.is (left_seen _ _ k c.self.view_is fits.left) in (
      h,
      put r ∷ k,
      stands,
      c.in-Ok.ensures.ok back k out,
      record {
        pulse = fits_put p _ (gone i.tracer i.left) h k r (coming i.tracer i.left) (was.0 ∙ ap (λ o. option_to_list o ++ coming i.tracer i.left) c.in-Some.is) (c.requires.counted.0) was.3
            refl c.is_tick-self-inside.ensures c.is_end-self-inside.ensures refl (none_after r i.tracer i.left first) fits.pulse;
        level = subst (HasLevel (got_since h)) (sym (ap (λ (s : SmoothPulsing). s.level) c.self.view_is)) fits.level;
        left = left_behind r i.left i.level k first held;
        whole = λ unhalted. none_lost r i.level k held (none_lost_seen _ _ _ k c.self.view_is c.in-Some.is (fits.whole unhalted));
      },
      inr (r, refl, refl),
      none_made c.args.self.now.level c.args.self.now.traced i.tracer k (put r ∷ k) (ap (λ (s : SmoothPulsing). s.traced.done) c.self.view_is) (tried_again r i.level k held),
    )

pub turn_between-requires-clause-between : goal.turn_between-requires-clause-between
turn_between-requires-clause-between g c =
    let i = c.self.inside in
    let was = seen i.hand i.tracer i.left i.owes i.over (pulse_of c.args.self.now) (ap pulse_of c.self.view_is) in (
      was.0 ∙ nothing_waits i.hand i.tracer i.left c.in_default.is c.if-self-eq0.true,
      c.requires.counted.0,
      c.requires.counted.1,
    )

pub returns-then-self-eq0-clause-logs : goal.returns-then-self-eq0-clause-logs
returns-then-self-eq0-clause-logs g c rest back h k stands out fits =
    let t = c.turn_between.ensures.logs rest h k stands fits in
    (t.0, k, t.1, out, t.2, t.3, none_handed k (handed c.args.self.now c.turn_between.new.self) c.turn_between.ensures.quiet)

pub returns-in-Ok-put-clause-logs : goal.returns-in-Ok-put-clause-logs
returns-in-Ok-put-clause-logs g c rest back h k stands out fits =
    let i = c.self.inside in
    let p = pulse_of c.args.self.now in
    let r = Event c.next_event-event.result in
    let was = seen i.hand i.tracer i.left i.owes i.over p (ap pulse_of c.self.view_is) in
    let empty = ap (λ o. option_to_list o ++ coming i.tracer i.left) c.in_default.is in
    let t = c.next_event-event.new.tracer in
    let n = c.next_event-event.new.left in
    let now = c.next_event-event.ensures in
    let new : (is_held k ≡ false) × (level_in k ≡ i.level) = subst (λ o. AreLeftAt o i.left i.level k) c.in_default.is (left_seen _ _ k c.self.view_is fits.left) (omega arith) in (
      h,
      put r ∷ k,
      stands,
      c.in-Ok-put.ensures.ok back k out,
      record {
        pulse = fits_put p _ (gone i.tracer i.left) h k r (coming t n) (was.0 ∙ empty ∙ sym now.waiting) (c.requires.counted.0) was.3
            (ap (λ o. option_to_list o ++ coming t n) c.in_default.is) refl (not_over i.over c.self.invariant.0.last c.if-self-eq0.false) now.reached (λ e. absurd cc) fits.pulse;
        level = subst (HasLevel (got_since h)) (sym (ap (λ (s : SmoothPulsing). s.level) c.self.view_is)) fits.level;
        left = subst (λ o. AreLeftAt o n i.level (put r ∷ k)) (sym c.in_default.is) (λ some. (refl, new.1));
        whole = λ unhalted. subst (λ o. LosesNone o (put r ∷ k)) (sym c.in_default.is) (made_put c.next_event-event.result k (none_lost_seen _ _ _ k c.self.view_is c.in_default.is (fits.whole unhalted)));
      },
      inr (r, refl, refl),
      one_made c.args.self.now.level c.args.self.now.traced t k c.next_event-event.result (ap (λ (t : Trace). t.done) now.one_more ∙ ap (λ (s : SmoothPulsing). s.traced.done + 1) c.self.view_is) (new.0, new.1 ∙ ap (λ (s : SmoothPulsing). s.level) c.self.view_is),
    )

pub returns-in_default-put-clause-logs : goal.returns-in_default-put-clause-logs
returns-in_default-put-clause-logs g c rest back h k stands out fits =
    let p = c.args.self.now in
    let r = c.in-Some.record in
    let is : p.hand ≡ Some r = sym (ap (λ (s : SmoothPulsing). s.hand) c.self.view_is) ∙ c.in-Some.is in
    let held : IsHeldAt r p.level k = subst (λ o. AreLeftAt o p.left p.level k) is fits.left in (
      h,
      full r ∷ k,
      stands,
      c.in_default-put.ensures.full back k out,
      record {
        pulse = fits_full (pulse_of p) (pulse_of p) h k r refl fits.pulse;
        level = fits.level;
        left = subst (λ o. AreLeftAt o p.left p.level (full r ∷ k)) (sym is) (held_back r p.level k held);
        whole = λ unhalted. subst (λ o. LosesNone o (full r ∷ k)) (sym is) (none_lost_again r p.level k held (subst (λ o. LosesNone o k) is (fits.whole unhalted)));
      },
      (r, refl, refl),
      none_made p.level p.traced p.traced k (full r ∷ k) refl (tried_again r p.level k held),
    )

pub returns-in-Err-clause-logs : goal.returns-in-Err-clause-logs
returns-in-Err-clause-logs g c rest back h k stands out fits =
    let i = c.self.inside in
    let r = Event c.next_event-event.result in
    let t = c.next_event-event.new.tracer in
    let n = c.next_event-event.new.left in
    let now = c.next_event-event.ensures in
    let empty = ap (λ o. option_to_list o ++ coming i.tracer i.left) c.in_default.is in
    let new : (is_held k ≡ false) × (level_in k ≡ i.level) = subst (λ o. AreLeftAt o i.left i.level k) c.in_default.is (left_seen _ _ k c.self.view_is fits.left) (omega arith) in (
      h,
      full r ∷ k,
      stands,
      c.in-Err.ensures.full back k out,
      record {
        pulse = fits_full (pulse_of c.args.self.now) _ h k r (same_pulse i.hand (Some c.in-Err.record) i.tracer t i.left n i.owes i.over (ap (λ r. r ∷ coming t n) c.in-Err.ensures.back ∙ now.waiting ∙ sym empty) now.reached ∙ ap pulse_of c.self.view_is) fits.pulse;
        level = subst (HasLevel (got_since h)) (sym (ap (λ (s : SmoothPulsing). s.level) c.self.view_is)) fits.level;
        left = subst (λ r. IsHeldAt r i.level (full (Event c.next_event-event.result) ∷ k)) (sym c.in-Err.ensures.back) (refl, new.1);
        whole = λ unhalted. subst (λ r. LosesNone (Some r) (full (Event c.next_event-event.result) ∷ k)) (sym c.in-Err.ensures.back)
            (made_held c.next_event-event.result k (none_lost_seen _ _ _ k c.self.view_is c.in_default.is (fits.whole unhalted)));
      },
      (r, refl, refl),
      one_made c.args.self.now.level c.args.self.now.traced t k c.next_event-event.result (ap (λ (t : Trace). t.done) now.one_more ∙ ap (λ (s : SmoothPulsing). s.traced.done + 1) c.self.view_is) (new.0, new.1 ∙ ap (λ (s : SmoothPulsing). s.level) c.self.view_is),
    )
