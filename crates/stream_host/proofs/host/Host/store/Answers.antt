use Rattle.host_journal.specs.Steps.{port_log}
use Rattle.stream_host.proofs.Storing.{may_store, takes_byte, not_dropped, stored_byte}
use Rattle.stream_host.proofs.host.Host.store.Goals as goal

pub store-requires : goal.store-requires
store-requires g c =
    let r = c.requires.stands in let s = c.args.self.now in let b = c.next_byte-byte.result in
    (r.0, port_log r.1, r.2, takes_byte s b r.1 r.3 (may_store s b r.1 r.3 c.requires.calm c.requires.epoch c.requires.storing c.requires.reported c.requires.room c.next_byte-byte.ensures))

pub unreachable-requires : goal.unreachable-requires
unreachable-requires g c =
    let r = c.requires.stands in let s = c.args.self.now in let b = c.next_byte-byte.result in
    let may = may_store s b r.1 r.3 c.requires.calm c.requires.epoch c.requires.storing c.requires.reported c.requires.room c.next_byte-byte.ensures in
    let d = c.store.ensures.dropped c.in-Dropped.is r.0 (port_log r.1) r.2 (takes_byte s b r.1 r.3 may) in
    not_dropped s b r.1 r.3 may d.1

pub returns-clause-stored : goal.returns-clause-stored
returns-clause-stored g c = λ rest h stands f.
    let s = c.args.self.now in let b = c.next_byte-byte.result in
    let may = may_store s b h f c.requires.calm c.requires.epoch c.requires.storing c.requires.reported c.requires.room c.next_byte-byte.ensures in (
      b,
      c.store.ensures.stored c.in-Stored.is rest (port_log h) stands (takes_byte s b h f may),
      stored_byte s _ b h f c.requires.storing may (record { more = c.advance.ensures.more; last = c.advance.ensures.last; due = c.advance.ensures.due }) c.next_byte-byte.ensures,
    )
