use Rattle.std.proofs.Common.{◌+◌, ◌∷◌, refl, arith}
use Rattle.std.proofs.lemmas.Result.{on_ok_weaker, on_err_weaker}
use Rattle.status_report.specs.declared.Reply.TheVariants.{Ok}
use Rattle.board_journal.specs.Ports.PortStep.{answered, no_reply_room}
use Rattle.board_journal.proofs.LinkSteps.{same_answered}
use Rattle.link_ports.proofs.Standing.{reply_more}
use Rattle.link_ports.proofs.tests.answer_line.Goals as goal

pub answer-requires : goal.answer-requires
answer-requires c = let q = c.requires in let w = c.ranges.answered.fits in
    (omega arith, ((_, _, _), q.log, (refl, refl, refl, q.did, q.sees), record { line = λ e. (let f = q.owes in omega arith); banner = λ e. absurd cc; text = tt; few = (let f = q.few in let m = same_answered q.log in omega arith) }))

pub returns-clause-ok : goal.returns-clause-ok
returns-clause-ok c = let q = c.requires in let w = c.ranges.answered.fits in on_ok_weaker c.answer.result
    (λ s. let t = s (_, _, _) q.log (refl, refl, refl, q.did, q.sees) (record { line = λ e. (let f = q.owes in omega arith); banner = λ e. absurd cc; text = tt; few = (let f = q.few in let m = same_answered q.log in omega arith) }) in record {
      log = answered Ok ∷ q.log;
      did = t.3;
      sees = t.4;
      owes = (let m = q.owes in omega arith);
      few = reply_more Ok q.log _ q.few;
    })
    c.answer.ensures.ok

pub returns-clause-full : goal.returns-clause-full
returns-clause-full c = let q = c.requires in on_err_weaker c.answer.result
    (λ s. let t = (s (_, _, _) q.log (refl, refl, refl, q.did, q.sees)).0 in (
      record { log = no_reply_room ∷ q.log; did = t.3; sees = t.4; owes = q.owes; few = q.few },
      record { log = no_reply_room ∷ q.log; did = t.3; sees = t.4; owes = (let f = q.owes in omega arith); few = q.few },
    ))
    c.answer.ensures.full
