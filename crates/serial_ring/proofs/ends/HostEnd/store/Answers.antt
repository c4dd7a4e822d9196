use Rattle.std.proofs.Common.{◌≡◌, ◌+◌, ◌∷◌, length, false, sym, ap, ◌∙◌, rules, arith}
use Rattle.serial_ring.specs.Rule.{first_cell, cell_of}
use Rattle.shared_rings.proofs.Shelf.{below_size}
use Rattle.shared_rings.proofs.Places.{next_place}
use Rattle.serial_ring.proofs.HostSteps.{writes, stores}
use Rattle.serial_ring.proofs.Turned.{byte_stored}
use Rattle.serial_ring.proofs.ends.HostEnd.store.Goals as goal

pub store-requires : goal.store-requires
store-requires g c =
    let o = c.if-self.self in
    let was = o.bytes.0 in
    let shown = o.shown in
    let unlike = c.if-self-2.false in
    (search rules, search rules, writes _ _ _ _ _ _ _ o.mine.0 (ap (λ n. first_cell + n) o.celled.0 ∙ ap (cell_of _) o.bytes.0) (omega arith) (search rules))

pub store-requires-2 : goal.store-requires-2
store-requires-2 g c =
    let o = c.if-self.self in
    let wrote = c.store.ensures.2 in
    let sent : length c.store.new.seat.me.0.stored ≡ o.stored = ap (λ m. length m.0.stored) wrote ∙ sym o.bytes.0 in
    let room : c.store.new.seat.me.0.tail ≡ o.taken = ap (λ m. m.0.tail) wrote ∙ sym o.shown.0 in
    let still : o.seat.me.0.closed ≡ false = search rules in
    let kept : length o.seat.me.0.stored ≡ length c.args.self.now.seat.me.0.stored = search rules in
    let was = o.bytes.0 in
    let shown = o.shown in
    let unlike = c.if-self-2.false in
    let few = c.requires.few in (
      search rules,
      search rules,
      stores _ _ _ c.args.byte _ _ _ (ap (λ m. m.0.may_store) wrote ∙ o.mine.0) (ap (λ m. m.0.closed) wrote ∙ still) (ap (λ m. m.0.cell) wrote) (omega arith) (omega arith) (omega arith),
    )

pub invariant_of-self : goal.invariant_of-self
invariant_of-self g c =
    let o = c.if-self.self in
    let at = c.store-2.ensures.0 ∙ c.store.ensures.0 in
    let all = byte_stored o.seat.me c.store.new.seat.me _ _ c.store.ensures.2 c.store-2.ensures.2 in
    let is = c.place_behind-self.ensures in
    let below = below_size (o.cell + 1) g.row.RX (let room = o.roomy.0 in omega arith) in
    let more : length c.store-2.new.seat.me.0.stored ≡ length (c.args.byte ∷ o.seat.me.0.stored) = ap (λ m. length m.0.stored) all in
    let kept : length o.seat.me.0.stored ≡ length c.args.self.now.seat.me.0.stored = search rules in
    let few = c.requires.few in
    let was = o.bytes.0 in
    let shown = o.shown in
    let unlike = c.if-self-2.false in
    record {
      seated = at ∙ o.seated;
      sized = (ap (λ t. t.words) at ∙ o.sized.0, ap (λ t. t.slots) at ∙ o.sized.1);
      roomy = o.roomy;
      bare = ap (λ m. m.1) all ∙ o.bare;
      mine = (ap (λ m. m.0.may_store) all ∙ o.mine.0, ap (λ m. m.0.emptying) all ∙ o.mine.1);
      bytes = (omega arith, omega arith);
      shown = (o.shown.0 ∙ sym (ap (λ m. m.0.tail) all), omega arith, omega arith);
      celled = (is ∙ next_place o.cell o.stored g.row.RX o.celled.0, omega arith);
      marked = o.marked ∙ sym (ap (λ m. length m.0.marks) all);
      replies = o.replies ∙ sym (ap (λ m. length m.0.got) all);
      slotted = o.slotted;
    }
