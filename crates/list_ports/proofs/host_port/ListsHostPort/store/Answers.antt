use Rattle.std.proofs.Common.{◌≤◌, length, sym, arith}
use Rattle.list_ports.proofs.Fronts.{handed_back, put_behind}
use Rattle.list_ports.proofs.Steps.{byte_dropped, byte_stored}
use Rattle.list_ports.proofs.host_port.ListsHostPort.store.Goals as goal

pub returns-then-is_err-clause-dropped : goal.returns-then-is_err-clause-dropped
returns-then-is_err-clause-dropped g c is far h joined may =
    let v = sym c.self.view_is in
    let b = handed_back _ c.args.byte _ _ _ _ c.if-is_err.ensures.negation c.try_push_back.ensures.variant.1 c.try_push_back.ensures.err in
    let full : g.row.RX ≤ length c.self.inside.bytes.items = (let le = b.1 in let e = c.self.invariant.bytes_are in omega arith) in
    rw b.0 (byte_dropped _ _ _ _ (rw v at joined) g.row.RX c.args.byte full)

pub returns-then-is_err-clause-cause : goal.returns-then-is_err-clause-cause
returns-then-is_err-clause-cause g c is =
    let v = sym c.self.view_is in
    let b = handed_back _ c.args.byte _ _ _ _ c.if-is_err.ensures.negation c.try_push_back.ensures.variant.1 c.try_push_back.ensures.err in
    let full : g.row.RX ≤ length c.self.inside.bytes.items = (let le = b.1 in let e = c.self.invariant.bytes_are in omega arith) in
    rw v full

pub returns-clause-stored : goal.returns-clause-stored
returns-clause-stored g c is far h joined may =
    let v = sym c.self.view_is in
    rw (put_behind c.try_push_back.result _ _ c.if-is_err.ensures.negation c.try_push_back.ensures.ok) (byte_stored _ _ _ _ (rw v at joined) c.args.byte may)
