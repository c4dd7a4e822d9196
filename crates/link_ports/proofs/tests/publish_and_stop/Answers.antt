use Rattle.std.proofs.Common.{◌+◌, ◌∷◌, inr, refl, arith}
use Rattle.step_line.specs.declared.Piece.TheVariants.{Mark}
use Rattle.step_line.specs.declared.Mark.TheVariants.{Dwell}
use Rattle.step_line.proofs.Finished.{together}
use Rattle.board_journal.specs.Ports.{sent_in}
use Rattle.board_journal.specs.Ports.PortStep.{published, stored_stop}
use Rattle.link_ports.proofs.tests.publish_and_stop.Goals as goal

pub publish-requires : goal.publish-requires
publish-requires c = let q = c.requires in let w = c.ranges.ticks.fits in
    (omega arith, ((_, _, _), q.log, (refl, refl, refl, q.did, q.sees), record { running = q.running; going = q.going; follows = omega arith; few = (let f = q.few in omega arith); room = (let m = q.many in omega arith) }))

pub stop-requires : goal.stop-requires
stop-requires c = let q = c.requires in let w = c.ranges.ticks.fits in
    let t = c.in-Ok.ensures.ok (_, _, _) q.log (refl, refl, refl, q.did, q.sees) (record { running = q.running; going = q.going; follows = omega arith; few = (let f = q.few in omega arith); room = (let m = q.many in omega arith) }) in
    (omega arith, ((_, _, _), published (Mark (Dwell 1)) ∷ q.log, t, record { running = q.running; since_last = inr (omega arith) }))

pub returns-in-Ok : goal.returns-in-Ok
returns-in-Ok c = λ is. let q = c.requires in let w = c.ranges.ticks.fits in
    let t = c.in-Ok.ensures.ok (_, _, _) q.log (refl, refl, refl, q.did, q.sees) (record { running = q.running; going = q.going; follows = omega arith; few = (let f = q.few in omega arith); room = (let m = q.many in omega arith) }) in
    let s = c.stop.ensures (_, _, _) (published (Mark (Dwell 1)) ∷ q.log) t (record { running = q.running; since_last = inr (omega arith) }) in record {
      log = stored_stop ∷ (published (Mark (Dwell 1)) ∷ q.log);
      did = s.3;
      sees = s.4;
      waits = refl;
      going = refl;
      few = (let f = q.few in let e = together (Mark (Dwell 1)) (sent_in q.log).since in omega arith);
      many = (let m = q.many in omega arith);
    }
