use Rattle.std.proofs.Common.{[], length, false, refl, sym, ap, ◌∙◌}
use Rattle.link_ports.proofs.Hosting.{byte_stored, byte_dropped, looks_and_stores, looks_and_drops, may_store, seems_full}
use Rattle.link_ports.proofs.host.HostLinkHostPort.store.Goals as goal

pub returns-clause-stored : goal.returns-clause-stored
returns-clause-stored g c is rest h s t =
    let still = (may_store _ [] _ [] _ false _ [] _ [] _ [] _ [] h s.2 t).0 in (
      c.store.ensures.link ∙ s.0,
      s.1,
      byte_stored _ _ _ _ _ _ _ _ _ _ _ _ _ _ h s.2 c.args.byte (c.store.ensures.stored is) c.store.ensures.marks (c.store.ensures.open ∙ sym still) c.store.ensures.got refl c.store.ensures.moments,
      record {
        room_looks = looks_and_stores _ [] _ [] _ false _ [] _ [] _ [] _ [] h s.2 g.row.RX _ _ _ _ s.3.room_looks c.store.ensures.load c.args.byte c.store.ensures.kept (c.store.ensures.room is);
        reply_looks = c.store.ensures.polls ∙ s.3.reply_looks;
        saw = tt;
      },
    )

pub returns-clause-dropped : goal.returns-clause-dropped
returns-clause-dropped g c is rest h s t =
    let told = c.store.ensures.dropped is in
    let still = (may_store _ [] _ [] _ false _ [] _ [] _ [] _ [] h s.2 t).0 in
    let full = sym (ap length told.0) ∙ told.2 in (
      (
        c.store.ensures.link ∙ s.0,
        s.1,
        byte_dropped _ _ _ _ _ _ _ _ _ _ _ _ _ _ h s.2 c.args.byte told.0 c.store.ensures.marks (c.store.ensures.open ∙ sym still) c.store.ensures.got refl c.store.ensures.moments,
        record {
          room_looks = looks_and_drops _ [] _ [] _ false _ [] _ [] _ [] _ [] h s.2 g.row.RX _ _ _ _ s.3.room_looks c.store.ensures.load c.args.byte told.1 full;
          reply_looks = c.store.ensures.polls ∙ s.3.reply_looks;
          saw = tt;
        },
      ),
      seems_full _ [] _ [] _ false _ [] _ [] _ [] _ [] h s.2 g.row.RX _ full (c.store.ensures.unread told.1),
    )
