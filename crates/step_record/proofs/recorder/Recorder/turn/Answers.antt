use Rattle.std.proofs.Common.{◌≡◌, true, false, ◌∷◌, refl, sym, ◌∙◌, inl, inr}
use Rattle.step_line.specs.declared.Record.TheVariants.{Event}
use Rattle.text_writer.specs.Writers.{Writes, is_due}
use Rattle.step_record.specs.Taking.Event.{took, none}
use Rattle.step_record.specs.Recording.{Recording, Takes}
use Rattle.step_record.proofs.Turns.{OnlyWriter, fits_written, fits_taken, fits_none, fits_same, did_on, waits_on, not_both, due_not_rests, takes_not_rests, rests_now}
use Rattle.step_record.proofs.recorder.Recorder.turn.Goals as goal

pub returns-then-is_due-clause-goes_on : goal.returns-then-is_due-clause-goes_on
returns-then-is_due-clause-goes_on g c rest log stands =
    let due : Writes c.args.self.now.writer = rw (← c.self.view_is) (sym c.is_due.ensures.due ∙ c.if-is_due.true) in
    let next : Recording = record { form = c.self.inside.form; hand = c.self.inside.hand; writer = c.write.new.self } in
    let only : OnlyWriter c.args.self.now next = rw (← c.self.view_is) (record { form = refl; hand = refl }) in
    let on = fits_written c.args.self.now next log _ _ only due (rw (← c.self.view_is) c.write.ensures.wrote) in
    (log, stands, on, inl (due, refl))

pub returns-in-Some-clause-goes_on : goal.returns-in-Some-clause-goes_on
returns-in-Some-clause-goes_on g c rest log stands =
    let r = c.in-Some.record in
    let takes : Takes c.args.self.now = rw (← c.self.view_is) (sym c.is_due.ensures.due ∙ c.if-is_due.false, sym c.is_asked.ensures ∙ c.if-is_asked.false) in
    (took r ∷ log, c.in-Some.ensures.some rest log stands, rw c.hold.ensures.held (fits_taken _ log _ r takes (c.in-Some.ensures.line rest log stands)), inr (takes, (r, c.hold.ensures.held, refl)))

pub returns-in-Some-Event-clause-goes_on : goal.returns-in-Some-Event-clause-goes_on
returns-in-Some-Event-clause-goes_on g c rest log stands =
    let r = Event c.in-Some-Event.bits in
    let takes : Takes c.args.self.now = rw (← c.self.view_is) (sym c.is_due.ensures.due ∙ c.if-is_due.false, sym c.is_asked.ensures ∙ c.if-is_asked.false) in
    let found = c.in-Some-Event.ensures in
    let after = rw c.in-Some-Event.field-0-is at found.some rest log stands in
    let line = rw c.in-Some-Event.field-0-is at found.line rest log stands in
    (took r ∷ log, after, rw c.hold_event.ensures.held (fits_taken _ log _ r takes line), inr (takes, (r, c.hold_event.ensures.held, refl)))

pub returns-then-is_due-clause-wrote : goal.returns-then-is_due-clause-wrote
returns-then-is_due-clause-wrote g c = λ due. rw (← c.self.view_is) c.write.ensures.wrote

pub returns-then-is_due-clause-sink : goal.returns-then-is_due-clause-sink
returns-then-is_due-clause-sink g c = λ stays. absurd (let due : Writes c.args.self.now.writer = rw (← c.self.view_is) (sym c.is_due.ensures.due ∙ c.if-is_due.true) in stays due)

pub returns-then-is_due-clause-port : goal.returns-then-is_due-clause-port
returns-then-is_due-clause-port g c = λ stays. refl

pub returns-then-is_due-clause-done : goal.returns-then-is_due-clause-done
returns-then-is_due-clause-done g c = (λ e. absurd (did_on e), λ rests. absurd (let due : Writes c.args.self.now.writer = rw (← c.self.view_is) (sym c.is_due.ensures.due ∙ c.if-is_due.true) in due_not_rests c.args.self.now due rests))

pub returns-then-is_due-clause-still : goal.returns-then-is_due-clause-still
returns-then-is_due-clause-still g c = λ other. absurd (other refl)

pub returns-then-is_due-clause-few : goal.returns-then-is_due-clause-few
returns-then-is_due-clause-few g c = c.write.ensures.few

pub returns-then-is_asked-clause-goes_on : goal.returns-then-is_asked-clause-goes_on
returns-then-is_asked-clause-goes_on g c = λ rest log stands. let idle : is_due c.args.self.now.writer ≡ false = rw (← c.self.view_is) (sym c.is_due.ensures.due ∙ c.if-is_due.false) in let asked : c.args.self.now.writer.asked ≡ true = rw (← c.self.view_is) (sym c.is_asked.ensures ∙ c.if-is_asked.true) in let rests = rests_now c.args.self.now idle asked in (log, stands, fits_same c.args.self.now log _, (rests, refl))

pub returns-then-is_asked-clause-wrote : goal.returns-then-is_asked-clause-wrote
returns-then-is_asked-clause-wrote g c = λ due. absurd (let none_due : is_due c.args.self.now.writer ≡ false = rw (← c.self.view_is) (sym c.is_due.ensures.due ∙ c.if-is_due.false) in not_both (is_due c.args.self.now.writer) none_due due)

pub returns-then-is_asked-clause-sink : goal.returns-then-is_asked-clause-sink
returns-then-is_asked-clause-sink g c = λ stays. refl

pub returns-then-is_asked-clause-port : goal.returns-then-is_asked-clause-port
returns-then-is_asked-clause-port g c = λ stays. refl

pub returns-then-is_asked-clause-done : goal.returns-then-is_asked-clause-done
returns-then-is_asked-clause-done g c = let idle : is_due c.args.self.now.writer ≡ false = rw (← c.self.view_is) (sym c.is_due.ensures.due ∙ c.if-is_due.false) in let asked : c.args.self.now.writer.asked ≡ true = rw (← c.self.view_is) (sym c.is_asked.ensures ∙ c.if-is_asked.true) in let rests = rests_now c.args.self.now idle asked in (λ e. rests, λ e. refl)

pub returns-then-is_asked-clause-still : goal.returns-then-is_asked-clause-still
returns-then-is_asked-clause-still g c = λ other. refl

pub returns-then-is_asked-clause-few : goal.returns-then-is_asked-clause-few
returns-then-is_asked-clause-few g c = let few = c.is_due.ensures.few in rw (← c.self.view_is) few

pub returns-in-None-clause-goes_on : goal.returns-in-None-clause-goes_on
returns-in-None-clause-goes_on g c = λ rest log stands. let takes : Takes c.args.self.now = rw (← c.self.view_is) (sym c.is_due.ensures.due ∙ c.if-is_due.false, sym c.is_asked.ensures ∙ c.if-is_asked.false) in (none ∷ log, c.in-None.ensures.none rest log stands, fits_none c.args.self.now log _, (refl, takes, refl))

pub returns-in-None-clause-wrote : goal.returns-in-None-clause-wrote
returns-in-None-clause-wrote g c = λ due. absurd (let none_due : is_due c.args.self.now.writer ≡ false = rw (← c.self.view_is) (sym c.is_due.ensures.due ∙ c.if-is_due.false) in not_both (is_due c.args.self.now.writer) none_due due)

pub returns-in-None-clause-sink : goal.returns-in-None-clause-sink
returns-in-None-clause-sink g c = λ stays. refl

pub returns-in-None-clause-port : goal.returns-in-None-clause-port
returns-in-None-clause-port g c = λ stays. absurd (let takes : Takes c.args.self.now = rw (← c.self.view_is) (sym c.is_due.ensures.due ∙ c.if-is_due.false, sym c.is_asked.ensures ∙ c.if-is_asked.false) in stays takes)

pub returns-in-None-clause-done : goal.returns-in-None-clause-done
returns-in-None-clause-done g c = (λ e. absurd (waits_on e), λ rests. absurd (let takes : Takes c.args.self.now = rw (← c.self.view_is) (sym c.is_due.ensures.due ∙ c.if-is_due.false, sym c.is_asked.ensures ∙ c.if-is_asked.false) in takes_not_rests c.args.self.now takes rests))

pub returns-in-None-clause-still : goal.returns-in-None-clause-still
returns-in-None-clause-still g c = λ other. refl

pub returns-in-None-clause-few : goal.returns-in-None-clause-few
returns-in-None-clause-few g c = let few = c.is_due.ensures.few in rw (← c.self.view_is) few

pub returns-in-Some-Event-clause-wrote : goal.returns-in-Some-Event-clause-wrote
returns-in-Some-Event-clause-wrote g c = λ due. absurd (let none_due : is_due c.args.self.now.writer ≡ false = rw (← c.self.view_is) (sym c.is_due.ensures.due ∙ c.if-is_due.false) in not_both (is_due c.args.self.now.writer) none_due due)

pub returns-in-Some-Event-clause-sink : goal.returns-in-Some-Event-clause-sink
returns-in-Some-Event-clause-sink g c = λ stays. refl

pub returns-in-Some-Event-clause-port : goal.returns-in-Some-Event-clause-port
returns-in-Some-Event-clause-port g c = λ stays. absurd (let takes : Takes c.args.self.now = rw (← c.self.view_is) (sym c.is_due.ensures.due ∙ c.if-is_due.false, sym c.is_asked.ensures ∙ c.if-is_asked.false) in stays takes)

pub returns-in-Some-Event-clause-done : goal.returns-in-Some-Event-clause-done
returns-in-Some-Event-clause-done g c = (λ e. absurd (did_on e), λ rests. absurd (let takes : Takes c.args.self.now = rw (← c.self.view_is) (sym c.is_due.ensures.due ∙ c.if-is_due.false, sym c.is_asked.ensures ∙ c.if-is_asked.false) in takes_not_rests c.args.self.now takes rests))

pub returns-in-Some-Event-clause-still : goal.returns-in-Some-Event-clause-still
returns-in-Some-Event-clause-still g c = λ other. absurd (other refl)

pub returns-in-Some-Event-clause-few : goal.returns-in-Some-Event-clause-few
returns-in-Some-Event-clause-few g c = c.hold_event.ensures.few

pub returns-in-Some-clause-wrote : goal.returns-in-Some-clause-wrote
returns-in-Some-clause-wrote g c = λ due. absurd (let none_due : is_due c.args.self.now.writer ≡ false = rw (← c.self.view_is) (sym c.is_due.ensures.due ∙ c.if-is_due.false) in not_both (is_due c.args.self.now.writer) none_due due)

pub returns-in-Some-clause-sink : goal.returns-in-Some-clause-sink
returns-in-Some-clause-sink g c = λ stays. refl

pub returns-in-Some-clause-port : goal.returns-in-Some-clause-port
returns-in-Some-clause-port g c = λ stays. absurd (let takes : Takes c.args.self.now = rw (← c.self.view_is) (sym c.is_due.ensures.due ∙ c.if-is_due.false, sym c.is_asked.ensures ∙ c.if-is_asked.false) in stays takes)

pub returns-in-Some-clause-done : goal.returns-in-Some-clause-done
returns-in-Some-clause-done g c = (λ e. absurd (did_on e), λ rests. absurd (let takes : Takes c.args.self.now = rw (← c.self.view_is) (sym c.is_due.ensures.due ∙ c.if-is_due.false, sym c.is_asked.ensures ∙ c.if-is_asked.false) in takes_not_rests c.args.self.now takes rests))

pub returns-in-Some-clause-still : goal.returns-in-Some-clause-still
returns-in-Some-clause-still g c = λ other. absurd (other refl)

pub returns-in-Some-clause-few : goal.returns-in-Some-clause-few
returns-in-Some-clause-few g c = c.hold.ensures.few
