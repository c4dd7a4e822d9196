use Rattle.std.proofs.Common.{◌≡◌, ◌+◌, ◌∷◌, length, sym, ap, ◌∙◌, rules, arith}
use Rattle.serial_ring.specs.declared.ends.BoardEnd.{BoardEnd}
use Rattle.serial_ring.specs.Logs.{taken_in, answered_in}
use Rattle.serial_ring.specs.Rule.{first_cell, cell_of}
use Rattle.shared_rings.proofs.Shelf.{below_size}
use Rattle.shared_rings.proofs.Places.{next_place}
use Rattle.serial_ring.proofs.BoardSteps.{looks, takes_byte}
use Rattle.serial_ring.proofs.Turned.{byte_taken}
use Rattle.serial_ring.proofs.ends.BoardEnd.byte.Goals.{then-self, else-self}
use Rattle.serial_ring.proofs.ends.BoardEnd.byte.Goals as goal

pub load-byte-requires : goal.load-byte-requires
load-byte-requires g c =
    let o = c.if-self.self in
    let was = o.bytes in
    let shown = o.shown in
    let more = c.if-self-2.false in
    (search rules, search rules, looks _ _ _ _ _ _ o.mine.0 (ap (λ n. first_cell + n) o.celled.0 ∙ ap (cell_of _) o.bytes) (omega arith))

pub store-requires : goal.store-requires
store-requires g c =
    let o = c.if-self.self in
    let looked = c.load-byte.ensures.2.0 in
    let taken : length (taken_in c.load-byte.new.seat.me.0.log) ≡ o.taken = ap (λ m. length (taken_in m.0.log)) looked ∙ sym o.bytes in
    (search rules, search rules, takes_byte _ _ _ c.load-byte.result _ _ _ (ap (λ m. m.0.may_take) looked ∙ o.mine.0) (ap (λ m. m.0.read) looked) (omega arith))

pub invariant_of-self : goal.invariant_of-self
invariant_of-self g c =
    let o = c.if-self.self in
    let at = c.store.ensures.0 ∙ c.load-byte.ensures.0 in
    let all = byte_taken o.seat.me c.load-byte.new.seat.me _ _ c.load-byte.ensures.2.0 c.store.ensures.2 in
    let below = below_size (o.cell + 1) g.row.RX (let room = o.roomy.0 in omega arith) in
    let more : length (taken_in c.store.new.seat.me.0.log) ≡ length (c.load-byte.result ∷ taken_in o.seat.me.0.log) = ap (λ m. length (taken_in m.0.log)) all in
    let is = c.place_behind-self.ensures in
    let was = o.bytes in
    let shown = o.shown in
    let unlike = c.if-self-2.false in
    record {
      seated = at ∙ o.seated;
      sized = (ap (λ t. t.words) at ∙ o.sized.0, ap (λ t. t.slots) at ∙ o.sized.1);
      roomy = o.roomy;
      bare = ap (λ m. m.1) all ∙ o.bare;
      mine = (ap (λ m. m.0.may_take) all ∙ o.mine.0, ap (λ m. m.0.filling) all ∙ o.mine.1);
      bytes = omega arith;
      shown = (o.shown.0 ∙ sym (ap (λ m. m.0.head) all), omega arith, omega arith, o.shown.3);
      ended = o.ended ∙ sym (ap (λ m. m.0.over) all);
      celled = (is ∙ next_place o.cell o.taken g.row.RX o.celled.0, omega arith);
      replies = o.replies ∙ sym (ap (λ m. length (answered_in m.0.log)) all);
      slotted = o.slotted;
    }

pub returns-then-self-3-clause-marked : goal.returns-then-self-3-clause-marked
returns-then-self-3-clause-marked g c = λ past. absurd (elim c.if-self.branch [
  | then-self w ↦ let more = w.look.ensures.marked _ past in
      let log = ap (λ l. length (taken_in l)) w.look.ensures.log in
      let here = ap (λ (b : BoardEnd g.row.RX). b.taken) w.self-is in
      let there = ap (λ (b : BoardEnd g.row.RX). b.stored) w.self-is in
      let all = c.if-self-2.true in
      let taken = w.look.new.self.bytes in
      let shown = w.look.new.self.shown.0 in
      omega arith
  | else-self w ↦ w.if-self.false (sym (ap (λ (b : BoardEnd g.row.RX). b.taken) w.self-is) ∙ (c.if-self-2.true ∙ ap (λ (b : BoardEnd g.row.RX). b.stored) w.self-is))
])

pub returns-else-self-3-clause-marked : goal.returns-else-self-3-clause-marked
returns-else-self-3-clause-marked g c = λ past. absurd (elim c.if-self.branch [
  | then-self w ↦ let more = w.look.ensures.marked _ past in
      let log = ap (λ l. length (taken_in l)) w.look.ensures.log in
      let here = ap (λ (b : BoardEnd g.row.RX). b.taken) w.self-is in
      let there = ap (λ (b : BoardEnd g.row.RX). b.stored) w.self-is in
      let all = c.if-self-2.true in
      let taken = w.look.new.self.bytes in
      let shown = w.look.new.self.shown.0 in
      omega arith
  | else-self w ↦ w.if-self.false (sym (ap (λ (b : BoardEnd g.row.RX). b.taken) w.self-is) ∙ (c.if-self-2.true ∙ ap (λ (b : BoardEnd g.row.RX). b.stored) w.self-is))
])
