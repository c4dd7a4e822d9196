use Rattle.std.proofs.Common.{◌≡◌, ◌+◌, ◌%◌, Some, [], ◌∷◌, length, refl, sym, ap, ◌∙◌, subst, rules, arith}
use Rattle.std.specs.declared.option.Option.{Option}
use mathlib.Core.Option.{none}
use Rattle.atomic_table.specs.Table.{Me, rest, step, Allows}
use Rattle.status_report.specs.declared.Reply.{Reply}
use Rattle.serial_ring.specs.declared.view.LinkSight.{LinkSight}
use Rattle.serial_ring.specs.Logs.{taken_in, answered_in}
use Rattle.serial_ring.specs.Rule.{Kept, reply_head_word, with_slot, gave}
use Rattle.shared_rings.proofs.Places.{next_place}
use Rattle.serial_ring.proofs.BoardSteps.{reaches, answers}
use Rattle.serial_ring.proofs.Turned.{reply_answered}
use Rattle.serial_ring.proofs.ends.BoardEnd.answer.Goals as goal

pub load-taken-requires : goal.load-taken-requires
load-taken-requires g c = (search rules, search rules, reaches _ _ _ _ _ c.args.self.now.mine.0 c.args.self.now.mine.1)

pub store-requires : goal.store-requires
store-requires g c =
    let o = c.args.self.now in
    let took = c.load-taken.ensures.2.2 (omega arith) in
    let wrote = c.exchange.ensures.3 in
    let bare = ap (λ m. rest m.1) took ∙ o.bare in
    let now : c.exchange.new.seat.me ≡ (with_slot o.seat.me.0 c.load-taken.result, (o.slot, Some c.args.r) ∷ []) =
    wrote ∙ (λ i. (ap (λ m. m.0) took i, (o.slot, Some c.args.r) ∷ bare i)) in
    let P : Me (Option Reply) LinkSight → Type 0 = λ m. Allows (Kept _) c.deref.result.now.shared.table_id.slots c.exchange.new.seat.id m reply_head_word (λ _. o.answered + 1) (λ _. gave (step c.deref.result.now.shared.table_id.slots reply_head_word (o.answered + 1) 0 none) m (o.answered + 1)) in
    (search rules, search rules, subst P (sym now) (answers _ _ _ _ _ _ c.args.r o.mine.0 refl (o.slotted ∙ ap (λ z. z % 16) o.replies) c.requires (ap (λ z. z + 1) o.replies)))

pub invariant_of-self : goal.invariant_of-self
invariant_of-self g c =
    let o = c.args.self.now in
    let at = c.load-taken.ensures.0 in
    let saw = c.load-taken.ensures.2.3 (omega arith) in
    record {
      seated = at ∙ o.seated;
      sized = (ap (λ t. t.words) at ∙ o.sized.0, ap (λ t. t.slots) at ∙ o.sized.1);
      roomy = o.roomy;
      bare = ap (λ m. m.1) saw ∙ o.bare;
      mine = (ap (λ m. m.0.may_take) saw ∙ o.mine.0, ap (λ m. m.0.filling) saw ∙ o.mine.1);
      bytes = o.bytes ∙ sym (ap (λ m. length (taken_in m.0.log)) saw);
      shown = (o.shown.0 ∙ sym (ap (λ m. m.0.head) saw), o.shown.1, o.shown.2, o.shown.3);
      ended = o.ended ∙ sym (ap (λ m. m.0.over) saw);
      celled = o.celled;
      replies = o.replies ∙ sym (ap (λ m. length (answered_in m.0.log)) saw);
      slotted = o.slotted;
    }

pub returns-then-self-taken-clause-load : goal.returns-then-self-taken-clause-load
returns-then-self-taken-clause-load g c = ap (λ m. m.0.reply_tail_loads) (c.load-taken.ensures.2.3 (omega arith))

pub returns-then-self-taken-clause-polls : goal.returns-then-self-taken-clause-polls
returns-then-self-taken-clause-polls g c = let full = c.load-taken.ensures.2.3 (omega arith) in (ap (λ m. m.0.head_loads) full, ap (λ m. m.0.head) full)

pub returns-then-self-taken-clause-link : goal.returns-then-self-taken-clause-link
returns-then-self-taken-clause-link g c = c.load-taken.ensures.0

pub invariant_of-self-2 : goal.invariant_of-self-2
invariant_of-self-2 g c =
    let o = c.args.self.now in
    let at = c.store.ensures.0 ∙ (c.exchange.ensures.0 ∙ c.load-taken.ensures.0) in
    let all = reply_answered c.args.self.now.seat.me c.load-taken.new.seat.me c.exchange.new.seat.me _ c.load-taken.result _ c.args.self.now.slot c.args.r c.args.self.now.bare (c.load-taken.ensures.2.2 (omega arith)) c.exchange.ensures.3 c.store.ensures.2 in
    let more : length (answered_in c.store.new.seat.me.0.log) ≡ length (c.args.r ∷ answered_in o.seat.me.0.log) = ap (λ m. length (answered_in m.0.log)) all in
    let was = o.replies in
    record {
      seated = at ∙ o.seated;
      sized = (ap (λ t. t.words) at ∙ o.sized.0, ap (λ t. t.slots) at ∙ o.sized.1);
      roomy = o.roomy;
      bare = ap (λ m. m.1) all;
      mine = (ap (λ m. m.0.may_take) all ∙ o.mine.0, ap (λ m. m.0.filling) all);
      bytes = o.bytes ∙ sym (ap (λ m. length (taken_in m.0.log)) all);
      shown = (o.shown.0 ∙ sym (ap (λ m. m.0.head) all), o.shown.1, o.shown.2, o.shown.3);
      ended = o.ended ∙ sym (ap (λ m. m.0.over) all);
      celled = o.celled;
      replies = omega arith;
      slotted = c.place_behind-self.ensures ∙ next_place o.slot o.answered 16 o.slotted;
    }

pub returns-clause-load : goal.returns-clause-load
returns-clause-load g c = ap (λ m. m.0.reply_tail_loads) (reply_answered c.args.self.now.seat.me c.load-taken.new.seat.me c.exchange.new.seat.me _ c.load-taken.result _ c.args.self.now.slot c.args.r c.args.self.now.bare (c.load-taken.ensures.2.2 (omega arith)) c.exchange.ensures.3 c.store.ensures.2)

pub returns-clause-ok : goal.returns-clause-ok
returns-clause-ok g c = ap (λ m. m.0.log) (reply_answered c.args.self.now.seat.me c.load-taken.new.seat.me c.exchange.new.seat.me _ c.load-taken.result _ c.args.self.now.slot c.args.r c.args.self.now.bare (c.load-taken.ensures.2.2 (omega arith)) c.exchange.ensures.3 c.store.ensures.2)

pub returns-clause-polls : goal.returns-clause-polls
returns-clause-polls g c =
    let all = reply_answered c.args.self.now.seat.me c.load-taken.new.seat.me c.exchange.new.seat.me _ c.load-taken.result _ c.args.self.now.slot c.args.r c.args.self.now.bare (c.load-taken.ensures.2.2 (omega arith)) c.exchange.ensures.3 c.store.ensures.2 in
    (ap (λ m. m.0.head_loads) all, ap (λ m. m.0.head) all)

pub returns-clause-link : goal.returns-clause-link
returns-clause-link g c = c.store.ensures.0 ∙ (c.exchange.ensures.0 ∙ c.load-taken.ensures.0)
