use Rattle.std.proofs.Common.{◌≡◌, ◌+◌, [], ◌∷◌, refl, rules, arith, length-append}
use Rattle.host_journal.specs.Steps.{stored_in}
use Rattle.host_journal.specs.Steps.PortStep.{stored, dropped}
use Rattle.link_ports.proofs.tests.store.Goals as goal

pub store-requires : goal.store-requires
store-requires c = let q = c.requires.open in let n = c.requires.few in
    (search rules, ((_, _), q.log, (refl, refl, q.did, q.sees), record { going = q.going; few = (let f = q.few in omega arith) }))

pub returns-clause-stored : goal.returns-clause-stored
returns-clause-stored c is =
    let q = c.requires.open in let n = c.requires.few in
    let s = c.store.ensures.stored is (_, _) q.log (refl, refl, q.did, q.sees) (record { going = q.going; few = (let f = q.few in omega arith) }) in
    record { log = stored c.args.byte ∷ q.log; did = s.2; sees = s.3; going = q.going; few = (let f = q.few in let e = length-append (stored_in q.log) (c.args.byte ∷ []) in omega arith); unmarked = q.unmarked }

pub returns-clause-dropped : goal.returns-clause-dropped
returns-clause-dropped c is =
    let q = c.requires.open in let n = c.requires.few in
    let s = c.store.ensures.dropped is (_, _) q.log (refl, refl, q.did, q.sees) (record { going = q.going; few = (let f = q.few in omega arith) }) in
    record { log = dropped c.args.byte ∷ q.log; did = s.0.2; sees = s.0.3; going = q.going; few = q.few; unmarked = q.unmarked }
