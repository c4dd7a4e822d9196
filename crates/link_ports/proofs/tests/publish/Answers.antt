use Rattle.std.proofs.Common.{◌≡◌, ◌+◌, [], ◌∷◌, refl, arith}
use Rattle.std.proofs.lemmas.Result.{on_ok_weaker, on_err_weaker}
use Rattle.step_line.specs.declared.Piece.TheVariants.{Mark}
use Rattle.step_line.specs.declared.Mark.TheVariants.{Dwell}
use Rattle.step_line.proofs.Finished.{together}
use Rattle.board_journal.specs.Ports.{sent_in}
use Rattle.board_journal.specs.Ports.PortStep.{published, no_piece_room}
use Rattle.link_ports.proofs.tests.publish.Goals as goal

pub publish-requires : goal.publish-requires
publish-requires c = let q = c.requires in let w = c.ranges.ticks.fits in
    (omega arith, ((_, _, _), q.log, (refl, refl, refl, q.did, q.sees), record { running = q.running; going = q.going; follows = omega arith; few = (let f = q.few in omega arith); room = (let m = q.many in omega arith) }))

pub returns-clause-ok : goal.returns-clause-ok
returns-clause-ok c = let q = c.requires in let w = c.ranges.ticks.fits in on_ok_weaker c.publish.result
    (λ s. let t = s (_, _, _) q.log (refl, refl, refl, q.did, q.sees) (record { running = q.running; going = q.going; follows = omega arith; few = (let f = q.few in omega arith); room = (let m = q.many in omega arith) }) in record {
      log = published (Mark (Dwell 1)) ∷ q.log;
      did = t.3;
      sees = t.4;
      running = q.running;
      going = refl;
      few = (let f = q.few in let e = together (Mark (Dwell 1)) (sent_in q.log).since in omega arith);
      many = (let m = q.many in omega arith);
    })
    c.publish.ensures.ok

pub returns-clause-full : goal.returns-clause-full
returns-clause-full c = let q = c.requires in on_err_weaker c.publish.result
    (λ s. let t = s (_, _, _) q.log (refl, refl, refl, q.did, q.sees) in record { log = no_piece_room t.0 ∷ q.log; did = t.1.3; sees = t.1.4; running = q.running; going = q.going; few = q.few; many = q.many })
    c.publish.ensures.full
