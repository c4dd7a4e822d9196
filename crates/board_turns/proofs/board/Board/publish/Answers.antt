use Rattle.std.proofs.Common.{arith, ◌∷◌, refl, ap, ◌∙◌, subst}
use Rattle.board_journal.specs.Steps.{published_of, plan_of, motion_of, given_of}
use Rattle.board_journal.specs.Ports.PortStep.{published, no_piece_room}
use Rattle.board_journal.specs.Steps.Step.{at_port}
use Rattle.board_machine.specs.Machines.{Runs}
use Rattle.board_turns.specs.declared.board.Board.{Board}
use Rattle.board_turns.proofs.Steps.{in_hand, some_in_hand, may_publish, may_publish_now}
use Rattle.board_turns.proofs.PortSteps.{sent, not_sent, reports_looked}
use Rattle.board_turns.proofs.Flying.{fits_next, begins_next}
use Rattle.board_turns.proofs.board.Board.publish.Goals as goal

pub publish-requires : goal.publish-requires
publish-requires g c =
    let r = c.requires.stands in let first = r.1 in let s = c.look_before.new.self in let p = c.in-Some.piece in
    let m = c.look_before.ensures.goes_on r.0 first r.2 r.3 r.4 r.5 in
    let hand = ap (λ (b : Board _). b.machine.hand) c.look_before.ensures.same ∙ c.in-Some.is in
    (r.0, first, m.0, m.1, may_publish_now first s m.0 p m.2 (in_hand first s m.0 p m.2 hand))

pub returns-in_default-publish-clause-goes_on : goal.returns-in_default-publish-clause-goes_on
returns-in_default-publish-clause-goes_on g c = λ rest first h stands k obeyed reported.
    let s = c.look_before.new.self in
    let m = c.look_before.ensures.goes_on rest first h stands k obeyed in
    let hand = ap (λ (b : Board _). b.machine.hand) c.look_before.ensures.same ∙ c.in-Some.is in
    let full = c.in_default-publish.ensures.full rest first m.0 m.1 m.2.conducted in
    (at_port (no_piece_room full.0) ∷ m.0, full.1, not_sent first s full.0 m.0 m.2 (some_in_hand first s m.0 c.in-Some.piece m.2 hand) (reports_looked h m.0 m.3 reported) full.2, (full.0, m.0, m.3, refl))

pub push-requires-clause-fits : goal.push-requires-clause-fits
push-requires-clause-fits g c =
    let r = c.requires.stands in let first = r.1 in let s = c.look_before.new.self in let p = c.in-Some.piece in
    let m = c.look_before.ensures.goes_on r.0 first r.2 r.3 r.4 r.5 in
    let hand = ap (λ (b : Board _). b.machine.hand) c.look_before.ensures.same ∙ c.in-Some.is in
    fits_next p m.0 (may_publish first s m.0 p m.2 (in_hand first s m.0 p m.2 hand))

pub returns-clause-goes_on : goal.returns-clause-goes_on
returns-clause-goes_on g c = λ rest first h stands k obeyed reported.
    let s = c.look_before.new.self in let p = c.in-Some.piece in
    let m = c.look_before.ensures.goes_on rest first h stands k obeyed in
    let hand = ap (λ (b : Board _). b.machine.hand) c.look_before.ensures.same ∙ c.in-Some.is in
    let is = in_hand first s m.0 p m.2 hand in
    let runs = c.drop_hand.ensures (plan_of m.0) (motion_of first m.0) p (given_of m.0) (subst (λ ps. Runs s.machine (plan_of m.0) (motion_of first m.0) ps (given_of m.0)) is m.2.machine) in (
      at_port (published p) ∷ m.0,
      c.in-Ok.ensures.ok rest first m.0 m.1 (may_publish_now first s m.0 p m.2 is),
      sent first s c.drop_hand.new.self c.push.new.self p m.0 m.2 is m.4 (reports_looked h m.0 m.3 reported) runs (λ known flies. c.push.ensures first.place (published_of m.0) known flies (begins_next first s m.0 p m.2 is)),
      (p, m.0, m.3, refl),
    )

pub look_before-requires : goal.look_before-requires
look_before-requires g c = (
  omega arith,
  (
    let r = c.requires.stands in (r.0, r.1, r.2, r.3, r.4, r.5),
    c.in-Some.is,
  ),
)

pub push-requires-clause-room : goal.push-requires-clause-room
push-requires-clause-room g c = c.look_before.ensures.room
