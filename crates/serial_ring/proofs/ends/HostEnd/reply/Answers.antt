use Rattle.std.proofs.Common.{◌≡◌, ◌+◌, ◌-◌, ◌%◌, Some, None, [], ◌∷◌, length, refl, sym, ap, ◌∙◌, subst, rules, arith}
use Rattle.std.specs.declared.option.Option.{Option}
use mathlib.Core.Option.{none}
use Rattle.atomic_table.specs.Table.{Me, rest, step, Allows}
use Rattle.status_report.specs.declared.Reply.{Reply}
use Rattle.serial_ring.specs.declared.view.LinkSight.{LinkSight}
use Rattle.serial_ring.specs.Rule.{Kept, reply_tail_word, with_got, gave_back}
use Rattle.shared_rings.proofs.Places.{next_place}
use Rattle.serial_ring.proofs.HostSteps.{grasps, gives_back}
use Rattle.serial_ring.proofs.Turned.{reply_got}
use Rattle.serial_ring.proofs.ends.HostEnd.reply.Goals as goal

pub load-shown-requires : goal.load-shown-requires
load-shown-requires g c = (search rules, search rules, grasps _ _ _ _ _ c.args.self.now.mine.0 c.args.self.now.mine.1)

pub exchange-requires : goal.exchange-requires
exchange-requires g c =
    let o = c.args.self.now in
    let found = c.load-shown.ensures.2.2 (omega arith) in
    let took = ap (λ m. m.1) found.2 in
    let at : length o.seat.me.0.got % 16 ≡ o.slot = sym (o.slotted ∙ ap (λ z. z % 16) o.replies) in
    (search rules, (Some found.0, took ∙ (λ i. (at i, Some found.0) ∷ sym (ap rest took) i)))

pub store-requires : goal.store-requires
store-requires g c =
    let o = c.args.self.now in
    let found = c.load-shown.ensures.2.2 (omega arith) in
    let wrote = c.exchange.ensures.3 in
    let bare = ap (λ m. rest m.1) found.2 ∙ o.bare in
    let now : c.exchange.new.seat.me ≡ (with_got o.seat.me.0 c.load-shown.result found.0 found.1, (o.slot, None) ∷ []) =
    wrote ∙ (λ i. (ap (λ m. m.0) found.2 i, (o.slot, None) ∷ bare i)) in
    let first : o.got ≡ length (with_got o.seat.me.0 c.load-shown.result found.0 found.1).got - 1 = let e = o.replies in omega arith in
    let P : Me (Option Reply) LinkSight → Type 0 = λ m. Allows (Kept _) c.deref.result.now.shared.table_id.slots c.exchange.new.seat.id m reply_tail_word (λ _. o.got + 1) (λ _. gave_back (step c.deref.result.now.shared.table_id.slots reply_tail_word (o.got + 1) 0 none) m (o.got + 1)) in
    (search rules, search rules, subst P (sym now) (gives_back _ _ _ _ _ _ o.mine.0 refl (o.slotted ∙ ap (λ z. z % 16) first) (let e = o.replies in omega arith)))

pub invariant_of-self : goal.invariant_of-self
invariant_of-self g c =
    let o = c.args.self.now in
    let at = c.load-shown.ensures.0 in
    let was = c.args.self.now.replies in let none = c.load-shown.ensures.2.3 (omega arith) in
    record {
      seated = at ∙ o.seated;
      sized = (ap (λ t. t.words) at ∙ o.sized.0, ap (λ t. t.slots) at ∙ o.sized.1);
      roomy = o.roomy;
      bare = ap (λ m. m.1) none ∙ o.bare;
      mine = (ap (λ m. m.0.may_store) none ∙ o.mine.0, ap (λ m. m.0.emptying) none ∙ o.mine.1);
      bytes = (o.bytes.0 ∙ sym (ap (λ m. length m.0.stored) none), o.bytes.1);
      shown = (o.shown.0 ∙ sym (ap (λ m. m.0.tail) none), o.shown.1, o.shown.2);
      celled = o.celled;
      marked = o.marked ∙ sym (ap (λ m. length m.0.marks) none);
      replies = o.replies ∙ sym (ap (λ m. length m.0.got) none);
      slotted = o.slotted;
    }

pub returns-then-shown-self-clause-load : goal.returns-then-shown-self-clause-load
returns-then-shown-self-clause-load g c = let was = c.args.self.now.replies in let none = c.load-shown.ensures.2.3 (omega arith) in ap (λ m. m.0.reply_head_loads) none

pub returns-then-shown-self-clause-none : goal.returns-then-shown-self-clause-none
returns-then-shown-self-clause-none g c =
    let was = c.args.self.now.replies in let none = c.load-shown.ensures.2.3 (omega arith) in
    let shown : c.load-shown.new.seat.me.0.reply_head ≡ c.load-shown.result = ap (λ m. m.0.reply_head) none in
    (ap (λ m. m.0.got) none, ap (λ m. m.0.greeted) none, omega arith)

pub returns-then-shown-self-clause-stored : goal.returns-then-shown-self-clause-stored
returns-then-shown-self-clause-stored g c = let was = c.args.self.now.replies in let none = c.load-shown.ensures.2.3 (omega arith) in (ap (λ m. m.0.stored) none, ap (λ m. m.0.closed) none, ap (λ m. m.0.marks) none)

pub returns-then-shown-self-clause-tail : goal.returns-then-shown-self-clause-tail
returns-then-shown-self-clause-tail g c = let was = c.args.self.now.replies in let none = c.load-shown.ensures.2.3 (omega arith) in (ap (λ m. m.0.tail_loads) none, ap (λ m. m.0.tail) none)

pub returns-then-shown-self-clause-link : goal.returns-then-shown-self-clause-link
returns-then-shown-self-clause-link g c = c.load-shown.ensures.0

pub invariant_of-self-2 : goal.invariant_of-self-2
invariant_of-self-2 g c =
    let o = c.args.self.now in
    let at = c.store.ensures.0 ∙ (c.exchange.ensures.0 ∙ c.load-shown.ensures.0) in
    let was = c.args.self.now.replies in let found = c.load-shown.ensures.2.2 (omega arith) in
    let all = reply_got c.args.self.now.seat.me c.load-shown.new.seat.me c.exchange.new.seat.me _ c.load-shown.result _ c.args.self.now.slot found.0 found.1 c.args.self.now.bare found.2 c.exchange.ensures.3 c.store.ensures.2 in
    let more : length c.store.new.seat.me.0.got ≡ length (found.0 ∷ o.seat.me.0.got) = ap (λ m. length m.0.got) all in
    record {
      seated = at ∙ o.seated;
      sized = (ap (λ t. t.words) at ∙ o.sized.0, ap (λ t. t.slots) at ∙ o.sized.1);
      roomy = o.roomy;
      bare = ap (λ m. m.1) all;
      mine = (ap (λ m. m.0.may_store) all ∙ o.mine.0, ap (λ m. m.0.emptying) all);
      bytes = (o.bytes.0 ∙ sym (ap (λ m. length m.0.stored) all), o.bytes.1);
      shown = (o.shown.0 ∙ sym (ap (λ m. m.0.tail) all), o.shown.1, o.shown.2);
      celled = o.celled;
      marked = o.marked ∙ sym (ap (λ m. length m.0.marks) all);
      replies = omega arith;
      slotted = c.place_behind-self.ensures ∙ next_place o.slot o.got 16 o.slotted;
    }

pub returns-clause-load : goal.returns-clause-load
returns-clause-load g c = let was = c.args.self.now.replies in let found = c.load-shown.ensures.2.2 (omega arith) in ap (λ m. m.0.reply_head_loads) (reply_got c.args.self.now.seat.me c.load-shown.new.seat.me c.exchange.new.seat.me _ c.load-shown.result _ c.args.self.now.slot found.0 found.1 c.args.self.now.bare found.2 c.exchange.ensures.3 c.store.ensures.2)

pub returns-clause-stored : goal.returns-clause-stored
returns-clause-stored g c =
    let was = c.args.self.now.replies in let found = c.load-shown.ensures.2.2 (omega arith) in
    let all = reply_got c.args.self.now.seat.me c.load-shown.new.seat.me c.exchange.new.seat.me _ c.load-shown.result _ c.args.self.now.slot found.0 found.1 c.args.self.now.bare found.2 c.exchange.ensures.3 c.store.ensures.2 in
    (ap (λ m. m.0.stored) all, ap (λ m. m.0.closed) all, ap (λ m. m.0.marks) all)

pub returns-clause-tail : goal.returns-clause-tail
returns-clause-tail g c =
    let was = c.args.self.now.replies in let found = c.load-shown.ensures.2.2 (omega arith) in
    let all = reply_got c.args.self.now.seat.me c.load-shown.new.seat.me c.exchange.new.seat.me _ c.load-shown.result _ c.args.self.now.slot found.0 found.1 c.args.self.now.bare found.2 c.exchange.ensures.3 c.store.ensures.2 in
    (ap (λ m. m.0.tail_loads) all, ap (λ m. m.0.tail) all)

pub returns-clause-link : goal.returns-clause-link
returns-clause-link g c = c.store.ensures.0 ∙ (c.exchange.ensures.0 ∙ c.load-shown.ensures.0)
