use Rattle.std.proofs.Common.{[], refl, arith}
use Rattle.serial_ring.specs.Ends.{link_of_board}
use Rattle.realtime_flags.specs.Ends.{taken_in}
use Rattle.motion_ring.specs.Ends.{ring_of_out}
use Rattle.board_epochs.specs.Epochs.Epochs.{goes}
use Rattle.controller.proofs.Greets.{greets_at_once}
use Rattle.thread_rig.proofs.board.begin_board.Goals as goal

pub turn-requires : goal.turn-requires
turn-requires g c =
    let port = c.args.side.now.link in
    (omega arith, ((link_of_board port.end, taken_in port.flags, ring_of_out port.pieces), goes [] [], (refl, refl, refl, c.requires.did, c.requires.sees), c.requires.fits, refl))

pub returns-clause-runs : goal.returns-clause-runs
returns-clause-runs g c =
    let port = c.args.side.now.link in
    let t = c.turn.ensures.goes_on (link_of_board port.end, taken_in port.flags, ring_of_out port.pieces) (goes [] []) (refl, refl, refl, c.requires.did, c.requires.sees) c.requires.fits refl in
    record { epochs = t.0; link = t.1.0; flags = t.1.1; pieces = t.1.2; did = t.1.3; sees = t.1.4; fits = t.2; between = t.3 }

pub returns-clause-turned : goal.returns-clause-turned
returns-clause-turned g c =
    let port = c.args.side.now.link in
    let t = c.turn.ensures.goes_on (link_of_board port.end, taken_in port.flags, ring_of_out port.pieces) (goes [] []) (refl, refl, refl, c.requires.did, c.requires.sees) c.requires.fits refl in
    record {
      runs = record { epochs = t.0; link = t.1.0; flags = t.1.1; pieces = t.1.2; did = t.1.3; sees = t.1.4; fits = t.2; between = t.3 };
      turn = c.turn.result;
      turned = t.4;
      greets = greets_at_once c.turn.result _ _ t.0 c.requires.fits t.2 t.4;
    }
