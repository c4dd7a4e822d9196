use Rattle.std.proofs.Common.{◌+◌, ◌∷◌, refl, arith}
use Rattle.std.proofs.lemmas.Result.{on_ok_weaker, on_err_weaker}
use Rattle.board_journal.specs.Ports.{said}
use Rattle.board_journal.specs.Ports.PortStep.{no_reply_room}
use Rattle.board_journal.proofs.LinkSteps.{same_answered}
use Rattle.link_ports.proofs.Standing.{other_more, reply_more}
use Rattle.link_ports.proofs.tests.tell.Goals as goal

pub answer-requires : goal.answer-requires
answer-requires c = let q = c.requires.owes in let o = c.requires.other in let w = c.ranges.answered.fits in
    (omega arith, ((_, _, _), q.log, (refl, refl, refl, q.did, q.sees), record { line = λ e. absurd (let is = o.1 in cc); banner = λ e. absurd (let no = o.2 in cc); text = o.0; few = (let f = q.few in let m = same_answered q.log in omega arith) }))

pub returns-clause-ok : goal.returns-clause-ok
returns-clause-ok c = let q = c.requires.owes in let o = c.requires.other in let w = c.ranges.answered.fits in on_ok_weaker c.answer.result
    (λ s. let t = s (_, _, _) q.log (refl, refl, refl, q.did, q.sees) (record { line = λ e. absurd (let is = o.1 in cc); banner = λ e. absurd (let no = o.2 in cc); text = o.0; few = (let f = q.few in let m = same_answered q.log in omega arith) }) in record {
      log = said c.args.reply ∷ q.log;
      did = t.3;
      sees = t.4;
      owes = other_more c.args.reply q.log 0 o.1 o.2 q.owes;
      few = reply_more c.args.reply q.log _ q.few;
    })
    c.answer.ensures.ok

pub returns-clause-full : goal.returns-clause-full
returns-clause-full c = let q = c.requires.owes in on_err_weaker c.answer.result
    (λ s. let t = (s (_, _, _) q.log (refl, refl, refl, q.did, q.sees)).0 in record { log = no_reply_room ∷ q.log; did = t.3; sees = t.4; owes = q.owes; few = q.few })
    c.answer.ensures.full
